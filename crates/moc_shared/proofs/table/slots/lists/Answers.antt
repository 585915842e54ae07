use Rattle.std.proofs.Common.{◌≡◌, ◌<◌, List, Option, None, length, map, sym, subst, ◌∙◌, arith}
use Rattle.std.specs.Borrow.{Bor}
use Rattle.std.specs.Option.{option_copied}
use Rattle.std.proofs.lemmas.List.{ext_get_or, get_or-map, length-map}
use Rattle.moc_lists.specs.RangeList.{NumberSet}
use Rattle.moc_shared.specs.Seats.{Pointer}
use Rattle.moc_shared.specs.Private.Seats.{content}
use Rattle.moc_shared.proofs.table.slots.lists.Goals as goal

pub returns : goal.returns
returns c =
    let lists : List (Option (Bor NumberSet)) = c.loop-b.lists in
    let slots : List (Option Pointer) = c.args.slots.now in
    let long : length (map option_copied lists) ≡ 12 = length-map lists option_copied ∙ c.loop-b.invariant.long in
    let end = c.loop-b-test.false in
    ext_get_or None (map option_copied lists) (map content slots) (long ∙ sym (length-map slots content ∙ c.type_inv.slots)) (λ k l.
    let low : k < 12 = subst (λ n. k < n) long l in
    get_or-map option_copied lists k None None (subst (λ n. k < n) (sym c.loop-b.invariant.long) low)
    ∙ c.loop-b.invariant.so_far k (omega arith)
    ∙ sym (get_or-map content slots k None None (subst (λ n. k < n) (sym c.type_inv.slots) low)))
