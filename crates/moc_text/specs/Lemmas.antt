-- A lemma about parsing, for the proofs of callers: the set that a text represents is within the sky.
pub mod Depths
use Rattle.std.proofs.Common.{◌≡◌, ℕ, ◌&&◌, ◌||◌, Bool, true, false, List, [], ◌∷◌, Option, None, Some, Result, Ok, Err}
use Rattle.std.proofs.Common.{refl, sym, ◌∙◌}
use Rattle.std.specs.Result.{IfOk}
use Rattle.std.specs.Ordering.{nat_cmp}
use Rattle.std.specs.Cmp.{nat_cmp_total}
use Rattle.std.specs.FinSet as set
use Rattle.moc_lists.specs.RangeList.{NumberSet}
use Rattle.moc_ranges.specs.Operations.{pixels, IsWithin}
use Rattle.moc_ranges.specs.Lemmas.Members.{contains-pixels, contains-spans}
use Rattle.moc_text.specs.declared.ascii.number.Item.{Item}
use Rattle.moc_text.specs.declared.ascii.number.WordNumbers.{WordNumbers}
use Rattle.moc_text.specs.declared.ascii.error.TextError.{TextError}
use Rattle.moc_text.specs.Ascii.{words, current_order, item_pixels, pixels_of_words, deepest_of}
use Rattle.moc_text.specs.Private.Scan.{◌>>=◌}
use Rattle.moc_text.specs.Private.Scanned.{numbers_of, reading_of}

-- the empty set is within the sky
pub empty_within : IsWithin set.empty pixels
empty_within = record { each = λ q here. absurd (let none = set.contains-empty nat_cmp q in cc (here, none)) }

either : (x y : Bool) (P : Type 0) → (x ≡ true → P) → (y ≡ true → P) → (x || y) ≡ true → P
either true y P f g e = f refl
either false y P f g e = g e

union_within : (a b : NumberSet) → IsWithin a pixels → IsWithin b pixels → IsWithin (set.union a b) pixels
union_within a b in_a in_b = record {
  each = λ q here. either (set.contains a q) (set.contains b q) (set.contains pixels q ≡ true) (in_a.each q)
      (in_b.each q) (sym (set.contains-union nat_cmp_total a b q) ∙ here);
}

first_holds : (a b : Bool) → (a && b) ≡ true → a ≡ true
first_holds true b e = refl
first_holds false b e = e

item_within : (k : Option ℕ) (i : Option Item) → IsWithin (item_pixels k i) pixels
item_within k None = empty_within
item_within None (Some i) = empty_within
item_within (Some k) (Some i) = record {
  each = λ q here. contains-pixels q ∙ first_holds _ _ (sym (contains-spans k _ _ q) ∙ here);
}

words_within : (before : Option ℕ) (ns : List WordNumbers) → IsWithin (pixels_of_words before ns) pixels
words_within before [] = empty_within
words_within before (n ∷ ns) =
    union_within _ _ (item_within (current_order before n.mark) n.item) (words_within (current_order before n.mark) ns)

of_numbers : (found : Result (List WordNumbers) TextError)
    → IfOk {T = NumberSet × Option ℕ} (found >>= (λ ns. Ok (pixels_of_words None ns, deepest_of ns)))
    (λ r. IsWithin r.0 pixels)
of_numbers (Ok ns) = words_within None ns
of_numbers (Err e) = tt

-- the set that is parsed from a text is within the sky
pub read_within : (text : List ℕ) → IfOk (reading_of text) (λ r. IsWithin r.0 pixels)
unfolding reading_of
read_within text = of_numbers (numbers_of None (words text))
