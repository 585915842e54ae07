-- The texts of a picture, by its first semicolon.
use Rattle.std.proofs.Common.{◌≡◌, ◌∙◌, ◌+◌, ℕ, true, false, List, ◌∷◌, ◌++◌, Option, None, Some, arith, length, take, drop, ap, length-append}
use Rattle.std.specs.Prelude.{if◌then◌else◌}
use Rattle.std.specs.List.{after_first, before_first, position_or_len}
use Rattle.std.proofs.Math.ListN.{get_or-append}
use Rattle.std.proofs.Math.Seq.{drop-append-add, get_or-append_seam, take-append_seam}
use Rattle.std.proofs.lemmas.List.{drop_all, take_all}
use Rattle.std.proofs.lemmas.List.Sums.{position_or_len_is}
use Rattle.moc_forms.specs.Combining.{are_blanks}
use Rattle.moc_text.specs.Lines.{is_semicolon}
use Rattle.moc_conversion.specs.Conversion.{second_text}
use Rattle.moc_conversion.specs.Private.Pieces.{HasNoSemicolon}

place_of : (first following : List ℕ) → HasNoSemicolon first → position_or_len is_semicolon (first ++ 59 ∷ following) ≡ length first
place_of first following no_semicolon =
    position_or_len_is is_semicolon (first ++ 59 ∷ following) (length first) 0 (omega (arith, length-append first (59 ∷ following)))
    (λ k below. ap is_semicolon (get_or-append first (59 ∷ following) 0 k below) ∙ no_semicolon k 0 below)
    (λ _. ap is_semicolon (get_or-append_seam first 59 following 0))

no_place : (bytes : List ℕ) → HasNoSemicolon bytes → position_or_len is_semicolon bytes ≡ length bytes
no_place bytes no_semicolon = position_or_len_is is_semicolon bytes (length bytes) 0 (omega arith) (λ k below. no_semicolon k 0 below) (λ below. absurd (omega (arith, below)))

-- the bytes after a semicolon, unless they are blank
abbrev text_after : List ℕ → Option (List ℕ)
text_after following = if are_blanks following then None else Some following

-- bytes without a semicolon are one text
pub first_text_without_semicolon : (bytes : List ℕ) → HasNoSemicolon bytes → before_first is_semicolon bytes ≡ bytes
first_text_without_semicolon bytes no_semicolon = ap (λ n. take n bytes) (no_place bytes no_semicolon) ∙ take_all (length bytes) bytes (omega arith)

pub second_text_without_semicolon : (bytes : List ℕ) → HasNoSemicolon bytes → second_text bytes ≡ None
second_text_without_semicolon bytes no_semicolon =
    ap text_after (ap (λ n. drop (n + 1) bytes) (no_place bytes no_semicolon) ∙ drop_all (length bytes + 1) bytes (omega arith))

-- and others are split at the first one
module _ (bytes first following : List ℕ) (no_semicolon : HasNoSemicolon first) (are : bytes ≡ first ++ 59 ∷ following) where
  place : position_or_len is_semicolon bytes ≡ length first
  place = ap (λ all. position_or_len is_semicolon all) are ∙ place_of first following no_semicolon

  pub split_first : before_first is_semicolon bytes ≡ first
  split_first = ap (λ n. take n bytes) place ∙ ap (λ all. take (length first) all) are ∙ take-append_seam first (59 ∷ following)

  split_after : after_first is_semicolon bytes ≡ following
  split_after = ap (λ n. drop (n + 1) bytes) place ∙ ap (λ all. drop (length first + 1) all) are ∙ drop-append-add first (59 ∷ following) 1

  pub split_none : are_blanks following ≡ true → second_text bytes ≡ None
  split_none blank = ap text_after split_after ∙ ap (λ b. if b then None else Some following) blank

  pub split_second : are_blanks following ≡ false → second_text bytes ≡ Some following
  split_second written = ap text_after split_after ∙ ap (λ b. if b then None else Some following) written
