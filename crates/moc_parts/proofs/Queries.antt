-- Batches without updates.
use Rattle.std.proofs.Common.{◌≡◌, Bool, true, false, ◌||◌, List, [], ◌∷◌, refl, ap, ◌∙◌}
use Rattle.std.specs.List.{list_any}
use Rattle.moc_lists.specs.RangeList.{NumberSet}
use Rattle.moc_parts.specs.declared.command.Command.{Command}
use Rattle.moc_parts.specs.declared.command.Command.TheVariants.{Add, Remove, Keep, Claim, Invert, Degrade, Count, Read, Near}
use Rattle.moc_parts.specs.Commands.{is_update, set_after}
use Rattle.moc_parts.specs.Batches.{set_after_all}

both_false : (x y : Bool) → (x || y) ≡ false → (x ≡ false) × (y ≡ false)
both_false true y e = absurd (cc)
both_false false y e = (refl, e)

leaves : (c : Command) (a : NumberSet) → is_update c ≡ false → set_after a c ≡ a
leaves (Add x) a e = absurd (cc)
leaves (Remove x) a e = absurd (cc)
leaves (Keep x) a e = absurd (cc)
leaves (Claim x) a e = absurd (cc)
leaves Invert a e = absurd (cc)
leaves (Degrade x) a e = absurd (cc)
leaves (Count x) a e = refl
leaves (Read x) a e = refl
leaves (Near x) a e = refl

pub leave_the_set : (cs : List Command) → list_any is_update cs ≡ false → (a : NumberSet) → set_after_all a cs ≡ a
leave_the_set [] e a = refl
leave_the_set (c ∷ cs) e a =
    let parts = both_false (is_update c) (list_any is_update cs) e in
    ap (λ s. set_after_all s cs) (leaves c a parts.0) ∙ leave_the_set cs parts.1 a
