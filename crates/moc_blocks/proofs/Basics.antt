-- Members of lists of ranges, their first ranges, and their lengths.
use Rattle.std.proofs.Common.{◌≡◌, ℕ, ◌≤◌, false, List, [], ◌∷◌, refl, arith, suc, ◌-◌, length, get_or, take, drop, sym, ap, ◌∙◌, ◌||◌, ◌++◌, ◌<◌, length-append}
use Rattle.std.proofs.lemmas.Bool.Decides.{nat_tests}
use Rattle.std.proofs.lemmas.List.{take_all}
use Rattle.moc_blocks.specs.Lemmas.Members.{in_ranges, in_range, in_ranges-append, or_false}
use Rattle.moc_blocks.specs.Private.Walks.{EndsBy}
use Rattle.std.specs.Prelude.{OnOk, Result, Ok, Err}

-- a consequence of a fact that holds if a call succeeded
pub from_ok : {T E P Q : Type 0} (r : Result T E) → OnOk r P → (P → Q) → OnOk r Q
from_ok (Ok x) p f = f p
from_ok (Err e) p f = tt

-- a consequence of two such facts, or of three
pub from_two_ok : {T E P Q R : Type 0} (r : Result T E) → OnOk r P → OnOk r Q → (P → Q → R) → OnOk r R
from_two_ok (Ok x) p q f = f p q
from_two_ok (Err e) p q f = tt

pub first_item : (xs : List (ℕ × ℕ)) (d : ℕ × ℕ) → 1 ≤ length xs → xs ≡ get_or xs 0 d ∷ take (length xs - 1) (drop 1 xs)
first_item [] d some = absurd (omega arith)
first_item (y ∷ ys) d some =
    let e : suc (length ys) - 1 ≡ length ys = omega arith in
    let whole : take (suc (length ys) - 1) ys ≡ ys = ap (λ n. take n ys) e ∙ take_all (length ys) ys (omega arith) in
    λ i. y ∷ sym whole i

pub none_after_limit : (limit q : ℕ) (rs : List (ℕ × ℕ)) → EndsBy limit rs → limit ≤ q → in_ranges rs q ≡ false
none_after_limit limit q [] e le = refl
none_after_limit limit q (r ∷ rs) e le = let rest = none_after_limit limit q rs e.1 le in let here = e.0 in grind (arith, nat_tests)

pub common_same : (kept kept' : List (ℕ × ℕ)) (from to from' to' q : ℕ) → kept' ≡ kept ++ (from', to') ∷ [] → from' ≡ from → to' ≡ to → in_ranges kept' q ≡ (in_ranges kept q || in_range (from, to) q)
common_same kept kept' from to from' to' q is ef et =
    ap (λ (l : List (ℕ × ℕ)). in_ranges l q) is ∙ in_ranges-append kept ((from', to') ∷ []) q ∙ ap (λ b. in_ranges kept q || b) (or_false (in_range (from', to') q))
    ∙ (λ i. in_ranges kept q || in_range (ef i, et i) q)

pub part_shorter : (xs part xs' : List (ℕ × ℕ)) → xs ≡ part ++ xs' → 0 < length part → length xs' < length xs
part_shorter xs part xs' parts some = omega (arith, ap length parts, length-append part xs')
