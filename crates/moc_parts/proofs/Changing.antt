-- A change iterates over the parts that it can alter; all other parts stay unchanged.
use Rattle.std.proofs.Common.{◌≡◌, ℕ, zero, suc, ◌+◌, ◌-◌, ◌<◌, ◌≤◌, false, List, [], ◌∷◌, refl, sym, ap, subst, ◌∙◌, arith}
use Rattle.std.specs.FinSet as set
use Rattle.moc_lists.specs.RangeList.{NumberSet}
use Rattle.moc_ranges.specs.Operations.{pixels, part_of, symmetric, IsWithin}
use Rattle.moc_parts.specs.Parts.{parts_from}
use Rattle.moc_parts.specs.Lemmas.{IsRemaining, all_remain, next_remaining, none_remaining}
use Rattle.moc_parts.specs.declared.change.Change.{Change}
use Rattle.moc_parts.specs.Private.Changes.{set_after_change, IsChange, LeavesOthers}
use Rattle.moc_parts.specs.Private.Drafts.{with_part}
use Rattle.moc_parts.proofs.PartTheorem.{part_theorem, changed_within}
use Rattle.moc_parts.proofs.Sums.{size_none, size-next}
use Rattle.moc_parts.proofs.ChangedPixels.{changed_in_part, changes_within, equal_unchanged}
use Rattle.moc_parts.proofs.Twelve.{first_parts, first_parts-all}
use Rattle.moc_parts.proofs.Drafting.{half_changed, half-none, half-all, part-half, with_next, with_unchanged_part, part_of_part_same}

-- ---- unchanged parts

-- the set with its first n parts changed is that with its first b parts changed, and as many pixels were changed
record IsSameBelow (new old : NumberSet) (n b : ℕ) : Type 0 where
  pub half : half_changed new old n ≡ half_changed new old b
  pub changed_pixels : set.len (first_parts (symmetric new old) n) ≡ set.len (first_parts (symmetric new old) b)

half-skip : (new old : NumberSet) (n : ℕ) → part_of new n ≡ part_of old n → half_changed new old n ≡ half_changed new old (n + 1)
half-skip new old n same =
    sym (with_unchanged_part (half_changed new old n) n) ∙ ap (λ p. with_part (half_changed new old n) n p) (part-half new old n ∙ sym same) ∙ with_next new old n

no_changes : (new old : NumberSet) (n : ℕ) → part_of new n ≡ part_of old n → 0 ≡ set.len (part_of (symmetric new old) n)
no_changes new old n same =
    equal_unchanged (part_of old n) (part_of old n) refl ∙ changed_in_part new old (part_of old n) (part_of old n) n refl (sym same)

same_below_if_parts_equal : (new old : NumberSet) (n d : ℕ) → ((k : ℕ) → n ≤ k → k < n + d → part_of new k ≡ part_of old k) → IsSameBelow new old n (n + d)
same_below_if_parts_equal new old n zero same =
    let e : n ≡ n + 0 = omega arith in
    record { half = ap (half_changed new old) e; changed_pixels = ap (λ m. set.len (first_parts (symmetric new old) m)) e }
same_below_if_parts_equal new old n (suc d) same =
    let e : (n + d) + 1 ≡ n + suc d = omega arith in
    let before = same_below_if_parts_equal new old n d (λ k l m. same k l (omega arith)) in
    let here = same (n + d) (omega arith) (omega arith) in
    let none = no_changes new old (n + d) here in
    let next = size-next (symmetric new old) (n + d) in
    record {
      half = before.half ∙ half-skip new old (n + d) here ∙ ap (half_changed new old) e;
      changed_pixels = omega (arith, before.changed_pixels, none, next, ap (λ m. set.len (first_parts (symmetric new old) m)) e);
    }

-- a change leaves the parts unchanged that it cannot alter
left : (change : Change) → IsChange change → (old parts : NumberSet) → LeavesOthers change parts → (n b : ℕ) → n ≤ b → b ≤ 12
    → ((k : ℕ) → n ≤ k → k < b → set.contains parts k ≡ false) → IsSameBelow (set_after_change change old) old n b
left change is old parts leaves n b le small out =
    let new : NumberSet = set_after_change change old in
    let e : n + (b - n) ≡ b = omega arith in
    let passes = same_below_if_parts_equal new old n (b - n) (λ k l m. part_theorem change is old k ∙ leaves k (omega arith) (out k l (omega arith)) (part_of old k) (part_of_part_same old k)) in
    record {
      half = passes.half ∙ ap (half_changed new old) e;
      changed_pixels = passes.changed_pixels ∙ ap (λ m. set.len (first_parts (symmetric new old) m)) e;
    }

-- ---- the iteration

-- loop state: the parts below n are changed, and those from n on that the change can alter remain
pub record IsHalfway (change : Change) (old now : NumberSet) (changed_pixels n : ℕ) (coming : List ℕ) : Type 0 where
  pub parts : NumberSet
  pub leaves : LeavesOthers change parts
  pub remains : IsRemaining (λ b. set.contains parts b) n coming
  pub half : now ≡ half_changed (set_after_change change old) old n
  pub count : changed_pixels ≡ set.len (first_parts (symmetric (set_after_change change old) old) n)

-- loop state: part b is next, and the others come after it
pub record IsTurn (change : Change) (old now : NumberSet) (changed_pixels b : ℕ) (others : List ℕ) : Type 0 where
  pub parts : NumberSet
  pub leaves : LeavesOthers change parts
  pub below : b < 12
  pub remains : IsRemaining (λ k. set.contains parts k) (b + 1) others
  pub half : now ≡ half_changed (set_after_change change old) old b
  pub count : changed_pixels ≡ set.len (first_parts (symmetric (set_after_change change old) old) b)

pub walk_begins : (change : Change) (old parts : NumberSet) (coming : List ℕ) → LeavesOthers change parts → coming ≡ parts_from parts 0
    → IsHalfway change old old 0 0 coming
walk_begins change old parts coming leaves is = record {
  parts = parts;
  leaves = leaves;
  remains = all_remain (λ b. set.contains parts b) parts coming (λ b l. refl) is;
  half = sym (half-none (set_after_change change old) old);
  count = size_none (symmetric (set_after_change change old) old);
}

pub next_part_to_change : (change : Change) → IsChange change → (old now : NumberSet) (changed_pixels n b : ℕ) (coming others : List ℕ) → coming ≡ b ∷ others
    → IsHalfway change old now changed_pixels n coming → IsTurn change old now changed_pixels b others
next_part_to_change change is old now changed_pixels n b coming others next h =
    let at = next_remaining (λ k. set.contains h.parts k) n b coming others h.remains next in
    let below = at.below in
    let stays = left change is old h.parts h.leaves n b at.after (omega arith) at.between in
    record {
      parts = h.parts;
      leaves = h.leaves;
      below = below;
      remains = at.remains;
      half = h.half ∙ stays.half;
      count = h.count ∙ stays.changed_pixels;
    }

pub turn_is_complete : (change : Change) (old now after : NumberSet) (changed_pixels more b : ℕ) (others : List ℕ) → IsTurn change old now changed_pixels b others
    → after ≡ half_changed (set_after_change change old) old (b + 1) → more ≡ set.len (part_of (symmetric (set_after_change change old) old) b)
    → IsHalfway change old after (changed_pixels + more) (b + 1) others
turn_is_complete change old now after changed_pixels more b others t half count = record {
  parts = t.parts;
  leaves = t.leaves;
  remains = t.remains;
  half = half;
  count = (λ i. t.count i + count i) ∙ size-next (symmetric (set_after_change change old) old) b;
}

-- part b stays unchanged
pub turn_parts_left : (change : Change) (old now : NumberSet) (changed_pixels b : ℕ) (others : List ℕ) → IsTurn change old now changed_pixels b others
    → part_of (set_after_change change old) b ≡ part_of old b → IsHalfway change old now changed_pixels (b + 1) others
turn_parts_left change old now changed_pixels b others t same =
    let none : changed_pixels + 0 ≡ changed_pixels = omega arith in
    subst (λ k. IsHalfway change old now k (b + 1) others) none
    (turn_is_complete change old now now changed_pixels 0 b others t (t.half ∙ half-skip (set_after_change change old) old b same) (no_changes (set_after_change change old) old b same))

-- at the end, the whole set is changed, and all changed pixels are counted
pub walk_ends : (change : Change) → IsChange change → (old now : NumberSet) (changed_pixels n : ℕ) (coming : List ℕ) → IsWithin old pixels → coming ≡ []
    → IsHalfway change old now changed_pixels n coming → (now ≡ set_after_change change old) × (changed_pixels ≡ set.len (symmetric (set_after_change change old) old))
walk_ends change is old now changed_pixels n coming within none h =
    let new : NumberSet = set_after_change change old in
    let after : IsWithin new pixels = changed_within change old is within in
    let low = h.remains.within in
    let stays = left change is old h.parts h.leaves n 12 low (omega arith) (none_remaining (λ k. set.contains h.parts k) n coming h.remains none) in (
      h.half ∙ stays.half ∙ half-all new old after within,
      h.count ∙ stays.changed_pixels ∙ ap set.len (first_parts-all (symmetric new old) (changes_within new old after within)),
    )
