-- The set of a list of ranges, as contracts state it.
use Rattle.std.proofs.Common.{List, [], arith, true, inl, inr, not, sym, ℕ, ◌&&◌, ◌||◌, ◌<◌, ◌∙◌, ◌∷◌, ◌≡◌}
use Rattle.std.specs.FinSet as set
use Rattle.std.specs.Cmp.{nat_cmp_total}
use Rattle.std.proofs.lemmas.Bool.{ltb-true, or_cases, and_parts}
use Rattle.moc_blocks.specs.RangeList.{pixel_count, IsNormal, set_of}
use Rattle.moc_blocks.specs.Lemmas.Members.{same_members, in_range, in_ranges, contains-set_of}

pub union_view : (xs ys zs : List (ℕ × ℕ)) → ((q : ℕ) → in_ranges zs q ≡ (in_ranges xs q || in_ranges ys q)) → set_of zs ≡ set.union (set_of xs) (set_of ys)
union_view xs ys zs each = same_members _ _ (λ q.
    contains-set_of zs q ∙ each q ∙ (λ i. sym (contains-set_of xs q) i || sym (contains-set_of ys q) i)
    ∙ sym (set.contains-union nat_cmp_total (set_of xs) (set_of ys) q))

pub common_view : (xs ys zs : List (ℕ × ℕ)) → ((q : ℕ) → in_ranges zs q ≡ (in_ranges xs q && in_ranges ys q)) → set_of zs ≡ set.intersection (set_of xs) (set_of ys)
common_view xs ys zs each = same_members _ _ (λ q.
    contains-set_of zs q ∙ each q ∙ (λ i. sym (contains-set_of xs q) i && sym (contains-set_of ys q) i)
    ∙ sym (set.contains-intersection nat_cmp_total (set_of xs) (set_of ys) q))

pub first_only_view : (xs ys zs : List (ℕ × ℕ)) → ((q : ℕ) → in_ranges zs q ≡ (in_ranges xs q && not (in_ranges ys q))) → set_of zs ≡ set.difference (set_of xs) (set_of ys)
first_only_view xs ys zs each = same_members _ _ (λ q.
    contains-set_of zs q ∙ each q ∙ (λ i. sym (contains-set_of xs q) i && not (sym (contains-set_of ys q) i))
    ∙ sym (set.contains-difference nat_cmp_total (set_of xs) (set_of ys) q))

-- no number of a normal range list is after the last pixel
pub normal_below : (rs : List (ℕ × ℕ)) (q : ℕ) → IsNormal rs → in_ranges rs q ≡ true → q < pixel_count
normal_below [] q normal e = absurd (cc)
normal_below (r ∷ rs) q normal e = elim (or_cases (in_range r q) (in_ranges rs q) e) [
  | inl here ↦ let parts = and_parts _ _ here in omega (arith, ltb-true q r.1 parts.1, normal.1)
  | inr later ↦ normal_below rs q normal.3 later
]
