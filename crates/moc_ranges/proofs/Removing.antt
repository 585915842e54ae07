-- Sets with one range removed.
use Rattle.std.proofs.Common.{◌≡◌, ℕ, ◌+◌, ◌≤◌, Bool, true, false, ◌&&◌, List, refl, sym, ap, ◌∙◌, arith}
use Rattle.std.specs.Prelude.{nat_le, nat_lt, not}
use Rattle.std.specs.FinSet as set
use Rattle.std.specs.Cmp.{nat_cmp_total}
use Rattle.std.specs.Ordering.{nat_cmp}
use Rattle.std.proofs.lemmas.Bool.{false≢true}
use Rattle.std.proofs.lemmas.Bool.Decides.{nat_tests}
use Rattle.moc_blocks.specs.RangeList.{IsNormal, set_of, NumberSet, numbers}
use Rattle.moc_blocks.specs.Lemmas.Members.{contains-numbers, same_members, and_false}
use Rattle.moc_blocks.specs.Lemmas.Ranges.{len-set_of}
use Rattle.moc_blocks.specs.Lemmas.Sizes.{len_parts}
use Rattle.moc_blocks.specs.Private.Blocks.{width_of}
use Rattle.moc_blocks.specs.Private.Edits.{RemovesRange}
use Rattle.moc_blocks.proofs.Editing.{shrunk_width}
use Rattle.moc_ranges.specs.Operations.{meets}

pub shrunk_count : (from to removed : ℕ) (old new : List (ℕ × ℕ)) → IsNormal old → IsNormal new → RemovesRange from to old new removed → removed ≡ set.len (set.intersection (set_of old) (numbers from to))
shrunk_count from to removed old new normal normal' r = omega (arith, shrunk_width from to old new normal normal' r.same, r.less)

kept : (here there : Bool) → (here && there) ≡ false → (here && not there) ≡ here
kept true true e = absurd (false≢true (sym e))
kept true false e = refl
kept false there e = refl

-- a set without the pixels of a set that it has no pixel in common with
pub none_removed : (a b : NumberSet) → set.len (set.intersection a b) ≡ 0 → a ≡ set.difference a b
none_removed a b none = same_members _ _ (λ q.
    let lacks : (set.contains a q && set.contains b q) ≡ false =
    sym (set.contains-intersection nat_cmp_total a b q) ∙ ap (λ s. set.contains s q) (set.empty_of_len (set.intersection a b) none) ∙ set.contains-empty nat_cmp q in
    sym (set.contains-difference nat_cmp_total a b q ∙ kept (set.contains a q) (set.contains b q) lacks))

not_above : (n : ℕ) → nat_lt 0 n ≡ false → n ≡ 0
not_above n is = grind (arith, nat_tests)

pub none_met : (a b : NumberSet) → meets a b ≡ false → set.len (set.intersection a b) ≡ 0
unfolding meets
none_met a b none = not_above (set.len (set.intersection a b)) none

backwards : (from to q : ℕ) → to ≤ from → (nat_le from q && nat_lt q to) ≡ false
backwards from to q le = grind (arith, nat_tests)

pub none_inside : (from to : ℕ) (a : NumberSet) → to ≤ from → set.len (set.intersection a (numbers from to)) ≡ 0
none_inside from to a le =
    let none : set.intersection a (numbers from to) ≡ set.empty = same_members _ _ (λ q.
    set.contains-intersection nat_cmp_total a (numbers from to) q ∙ ap (λ b. set.contains a q && b) (contains-numbers from to q ∙ backwards from to q le) ∙ and_false (set.contains a q) ∙ sym (set.contains-empty nat_cmp q)) in
    ap set.len none ∙ set.len-empty nat_cmp

pub difference_width : (old new : List (ℕ × ℕ)) (a b : NumberSet) → set_of old ≡ a → IsNormal old → IsNormal new → set_of new ≡ set.difference a b → width_of new + set.len (set.intersection a b) ≡ width_of old
difference_width old new a b is normal normal' made =
    omega (arith, len_parts a b, ap set.len made, ap set.len is, len-set_of old normal, len-set_of new normal')
