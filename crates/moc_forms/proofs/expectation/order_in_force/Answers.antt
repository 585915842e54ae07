use Rattle.std.proofs.Common.{◌≡◌, ◌∙◌, ap, arith, length, min, take}
use Rattle.std.specs.List.{after_last, before_last}
use Rattle.std.proofs.lemmas.List.{take_min}
use Rattle.moc_sphere.specs.Names.{is_slash}
use Rattle.moc_text.specs.JsonFormat.{order_of_name}
use Rattle.moc_forms.specs.Quotes.{is_not_digit}
use Rattle.moc_forms.proofs.expectation.order_in_force.Goals as goal

pub returns : goal.returns
returns c =
    let text = c.args.text.now in
    let least : c.min.result ≡ min c.args.at (length text) = omega arith in
    let front : take c.min.result text ≡ take c.args.at text = ap (λ n. take n text) least ∙ take_min c.args.at text in
    c.parse_order.ensures
    ∙ ap order_of_name (c.last_digits.ensures ∙ ap (after_last is_not_digit) (c.before_last_slash-before_slash.ensures ∙ ap (before_last is_slash) front))
