use Rattle.std.proofs.Common.{◌≡◌, ◌∙◌, eqb, length, false}
use Rattle.moc_text.proofs.JsonOrders.{name_order}
use Rattle.moc_text.proofs.depth.parse_order.Goals as goal

pub returns : goal.returns
returns c =
    let some : eqb (length c.args.digits.now) 0 ≡ false = cc in
    c.order_of_digits.ensures ∙ name_order c.args.digits.now some
