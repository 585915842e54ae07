-- The text of a cover.
use Rattle.std.proofs.Common.{◌≡◌, eqb, false, ◌++◌, codes, None, refl, ap, ◌∙◌}
use Rattle.std.specs.FinSet as set
use Rattle.std.specs.Ordering.{nat_cmp}
use Rattle.moc_lists.specs.RangeList.{NumberSet}
use Rattle.moc_text.specs.AsciiText.{ascii_text}
use Rattle.moc_lines.specs.Language.{cover_text}
use Rattle.moc_lines.proofs.LineLemmas.{not_true}
use Rattle.std.proofs.lemmas.Bool.{eqb-true}

pub cover_text-empty : (a : NumberSet) → a ≡ set.empty → cover_text a ≡ codes "cover"
cover_text-empty a none =
    let size : set.len a ≡ 0 = ap set.len none ∙ set.len-empty nat_cmp in
    rw size refl

pub cover_text-some : (a : NumberSet) → (a ≡ set.empty → ⊥) → cover_text a ≡ codes "cover " ++ ascii_text a None
cover_text-some a some =
    let size : eqb (set.len a) 0 ≡ false = not_true (eqb (set.len a) 0) (λ is. some (set.empty_of_len a (eqb-true _ _ is))) in
    rw size refl
