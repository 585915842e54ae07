use Rattle.std.proofs.Common.{◌≡◌, Bool, true, false, not, nat_eq, refl, sym, ap, ◌∙◌, eqb-true}
use Rattle.std.specs.Ordering.{nat_cmp}
use Rattle.std.specs.FinSet as set
use Rattle.moc_steps.specs.Machine.{is_nonempty}
use Rattle.moc_steps.proofs.Invariant.{not_any_empty}
use Rattle.moc_steps.proofs.midway.ActiveOperation.is_committed.Goals as goal

-- a set is not empty if and only if it has a member
nonempty_iff_not : (b : Bool) (s : set.FinSet nat_cmp) → (b ≡ true → s ≡ set.empty) → (s ≡ set.empty → b ≡ true) → not b ≡ is_nonempty s
nonempty_iff_not true s empty is = sym (ap is_nonempty (empty refl) ∙ not_any_empty)
nonempty_iff_not false s empty is = tested (nat_eq (set.len s) 0) refl
  where
    tested : (t : Bool) → nat_eq (set.len s) 0 ≡ t → true ≡ not t
    tested true zero_long = absurd (let none = is (set.empty_of_len s (eqb-true (set.len s) 0 zero_long)) in cc)
    tested false some = refl

pub returns : goal.returns
returns c =
    let edited = c.self.inside.edited in
    nonempty_iff_not c.is_empty.result edited c.is_empty.ensures.0 c.is_empty.ensures.1 ∙ ap (λ s. is_nonempty s.running.edited) c.self.view_is
