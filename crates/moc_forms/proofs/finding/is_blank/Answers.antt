use Rattle.std.proofs.Common.{◌≡◌, ◌∙◌, ℕ, Bool, true, false, cond, List, [], ◌∷◌, Some, ap, not, ◌&&◌, refl, sym}
use Rattle.std.specs.Option.{is_some}
use Rattle.moc_forms.specs.Combining.{are_blanks}
use Rattle.moc_forms.specs.Finding.{first_nonblank_byte, is_blank_byte}
use Rattle.moc_forms.proofs.finding.is_blank.Goals as goal

-- a text without a byte that is not a blank consists of blanks
blank_iff_no_nonblank : (text : List ℕ) → not (is_some (first_nonblank_byte text)) ≡ are_blanks text
blank_iff_no_nonblank [] = refl
blank_iff_no_nonblank (b ∷ text) = elim (is_blank_byte b) as (λ v. not (is_some (cond (not v) (Some b) (first_nonblank_byte text))) ≡ (v && are_blanks text)) [
  | true ↦ blank_iff_no_nonblank text
  | false ↦ refl
]

not_not : (x y : Bool) → x ≡ not y → y ≡ not x
not_not x true e = sym (ap not e)
not_not x false e = sym (ap not e)

pub returns : goal.returns
returns c =
    not_not _ _ (ap is_some (sym c.first_nonblank_byte.ensures) ∙ c.is_none.ensures) ∙ blank_iff_no_nonblank c.args.text.now
