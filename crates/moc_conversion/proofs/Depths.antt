-- The coverages of texts, and what is made from them, have no cell that is deeper than the stated MOC order.
use Rattle.std.proofs.Common.{◌≡◌, ℕ, Bool, true, false, List, [], ◌∷◌, Option, None, Some, sym, ap, ap₂, subst}
use Rattle.std.specs.Prelude.{⊤, option_map, min, ◌==◌, if◌then◌else◌}
use Rattle.moc_devices.specs.Devices.{SourceState}
use Rattle.moc_lists.specs.RangeList.{NumberSet}
use Rattle.moc_text.specs.Ascii.{deeper}
use Rattle.moc_text.specs.AsciiText.{IsTooCoarse}
use Rattle.moc_text.specs.Lemmas.Depths.{HasMaxOrder, not_too_coarse, ascii_depth, json_depth, union_depth}
use Rattle.moc_text.specs.Lemmas.Depths.{intersection_depth}
use Rattle.moc_text.specs.Lemmas.Depths.{difference_depth, symmetric_depth, complement_depth, degrade_depth}
use Rattle.moc_forms.specs.Changing.{changed_order, changed_set}
use Rattle.moc_forms.specs.Combining.{Combines, CombinesTexts, TextRepresents, set_of_two, combine_next, texts_of}
use Rattle.moc_forms.specs.declared.combining.ParsedCoverage.{ParsedCoverage}
use Rattle.std.specs.Option.{option_map_or}
use Rattle.moc_forms.specs.Finding.{first_nonblank_byte}
use Rattle.moc_forms.specs.Formats.{FormatRepresents}
use Rattle.moc_forms.specs.declared.changing.Change.{Change}
use Rattle.moc_forms.specs.declared.changing.Change.TheVariants.{Complement, Degrade}
use Rattle.moc_forms.specs.declared.combining.Operation.{Operation}
use Rattle.moc_forms.specs.declared.combining.Operation.TheVariants.{Difference, Intersection, Symmetric, Union}
use Rattle.moc_forms.specs.declared.finding.FormatChoice.{FormatChoice}
use Rattle.moc_forms.specs.declared.finding.FormatChoice.TheVariants.{Auto, Named}
use Rattle.moc_forms.specs.declared.format.Format.{Format}
use Rattle.moc_forms.specs.declared.format.Format.TheVariants.{Ascii, Json, Uniq}
use Rattle.moc_conversion.specs.Combining.{IsInputCombination}

-- a set has its depth, or states no order, as a NUNIQ list
abbrev IsFit : Format → NumberSet → Option ℕ → Type 0
IsFit Ascii a k = HasMaxOrder a k
IsFit Json a k = HasMaxOrder a k
IsFit Uniq a k = k ≡ None

none_stated : (a : NumberSet) (k : Option ℕ) → k ≡ None → IsTooCoarse a k → ⊥
none_stated a k none coarse = subst (λ (x : Option ℕ). IsTooCoarse a x) none coarse

fit_written : (format : Format) (a : NumberSet) (k : Option ℕ) → IsFit format a k → IsTooCoarse a k → ⊥
fit_written Ascii a k fit coarse = not_too_coarse a k fit coarse
fit_written Json a k fit coarse = not_too_coarse a k fit coarse
fit_written Uniq a k fit coarse = none_stated a k fit coarse

text_fit : (format : Format) (text : List ℕ) (a : NumberSet) (k : Option ℕ) → FormatRepresents format text a k → IsFit format a k
text_fit Ascii text a k represents = ascii_depth text a k represents
text_fit Json text a k represents = json_depth text a k represents
text_fit Uniq text a k represents = represents.1

-- the coverage of a text can be written
pub text_written : (format : Format) (text : List ℕ) (a : NumberSet) (k : Option ℕ) → FormatRepresents format text a k
    → IsTooCoarse a k → ⊥
text_written format text a k represents = fit_written format a k (text_fit format text a k represents)

change_fit : (change : Change) (format : Format) (a : NumberSet) (k : Option ℕ) → IsFit format a k
    → IsFit format (changed_set change a) (changed_order change k)
change_fit (Degrade o) Ascii a k fit = degrade_depth a k o fit
change_fit (Degrade o) Json a k fit = degrade_depth a k o fit
change_fit (Degrade o) Uniq a k fit = ap (option_map (λ j. min j o)) fit
change_fit Complement Ascii a k fit = complement_depth a k fit
change_fit Complement Json a k fit = complement_depth a k fit
change_fit Complement Uniq a k fit = fit

-- and so can a change of it
pub change_written : (change : Change) (choice : FormatChoice) (text : List ℕ) (parsed : ParsedCoverage)
    → TextRepresents choice text parsed → IsTooCoarse (changed_set change parsed.set) (changed_order change parsed.moc_order) → ⊥
change_written change choice text parsed represents =
    fit_written parsed.format _ _ (change_fit change parsed.format parsed.set parsed.moc_order (text_fit parsed.format text parsed.set parsed.moc_order represents.0))

-- ---- texts together

-- the combination of texts in a chosen format: NUNIQ lists state no order; for the other formats, the only ones that
-- Auto selects, the set has its depth
abbrev AreFit : FormatChoice → ParsedCoverage → Type 0
AreFit Auto parsed = HasMaxOrder parsed.set parsed.moc_order
AreFit (Named format) parsed = IsFit format parsed.set parsed.moc_order

-- the format of a text that Auto selects by its first byte
abbrev format_by : Option ℕ → Format
format_by b = option_map_or (λ (c : ℕ). if c == 123 then Json else Ascii) b Ascii

-- such a text is not a list
auto_fit : (b : Option ℕ) (a : NumberSet) (k : Option ℕ) → IsFit (format_by b) a k → HasMaxOrder a k
auto_fit None a k fit = fit
auto_fit (Some b) a k fit = one (b == 123) fit
  where
    one : (is_json : Bool) → IsFit (if is_json then Json else Ascii) a k → HasMaxOrder a k
    one true fit = fit
    one false fit = fit

parsed_fit : (choice : FormatChoice) (text : List ℕ) (parsed : ParsedCoverage) → TextRepresents choice text parsed → AreFit choice parsed
parsed_fit Auto text parsed represents =
    auto_fit (first_nonblank_byte text) parsed.set parsed.moc_order
    (subst (λ (format : Format). IsFit format parsed.set parsed.moc_order) represents.1 (text_fit parsed.format text parsed.set parsed.moc_order represents.0))
parsed_fit (Named format) text parsed represents =
    subst (λ (f : Format). IsFit f parsed.set parsed.moc_order) represents.1 (text_fit parsed.format text parsed.set parsed.moc_order represents.0)

depth_combined : (operation : Operation) (a b : NumberSet) (x y : Option ℕ) → HasMaxOrder a x → HasMaxOrder b y
    → HasMaxOrder (set_of_two operation a b) (deeper x y)
depth_combined Union a b x y of_a of_b = union_depth a b x y of_a of_b
depth_combined Intersection a b x y of_a of_b = intersection_depth a b x y of_a of_b
depth_combined Difference a b x y of_a of_b = difference_depth a b x y of_a of_b
depth_combined Symmetric a b x y of_a of_b = symmetric_depth a b x y of_a of_b

combined_fit : (operation : Operation) (choice : FormatChoice) (before parsed : ParsedCoverage) → AreFit choice before → AreFit choice parsed
    → AreFit choice (combine_next operation (Some before) parsed)
combined_fit operation Auto before parsed old new = depth_combined operation before.set parsed.set before.moc_order parsed.moc_order old new
combined_fit operation (Named Ascii) before parsed old new =
    depth_combined operation before.set parsed.set before.moc_order parsed.moc_order old new
combined_fit operation (Named Json) before parsed old new =
    depth_combined operation before.set parsed.set before.moc_order parsed.moc_order old new
combined_fit operation (Named Uniq) before parsed old new = ap₂ deeper old new

abbrev AreAllFit : FormatChoice → Option ParsedCoverage → Type 0
AreAllFit choice None = ⊤
AreAllFit choice (Some parsed) = AreFit choice parsed

combined_after : (operation : Operation) (choice : FormatChoice) (before : Option ParsedCoverage) (parsed : ParsedCoverage) → AreAllFit choice before
    → AreFit choice parsed → AreFit choice (combine_next operation before parsed)
combined_after operation choice None parsed old new = new
combined_after operation choice (Some before) parsed old new = combined_fit operation choice before parsed old new

texts_fit : (operation : Operation) (choice : FormatChoice) (before : Option ParsedCoverage) (texts : List (List ℕ)) (after : Option ParsedCoverage)
    → AreAllFit choice before → CombinesTexts operation choice before texts after → AreAllFit choice after
texts_fit operation choice before [] after fit represents = subst (λ (x : Option ParsedCoverage). AreAllFit choice x) (sym represents) fit
texts_fit operation choice before (text ∷ texts) after fit (parsed, represents, later) =
    texts_fit operation choice (Some (combine_next operation before parsed)) texts after
    (combined_after operation choice before parsed fit (parsed_fit choice text parsed represents)) later

format_fits_set : (choice : FormatChoice) (parsed : ParsedCoverage) → AreFit choice parsed → IsTooCoarse parsed.set parsed.moc_order → ⊥
format_fits_set Auto parsed fit = not_too_coarse parsed.set parsed.moc_order fit
format_fits_set (Named format) parsed fit = fit_written format parsed.set parsed.moc_order fit

-- the combination of the texts of bytes can be written
pub combined_written : (operation : Operation) (choice : FormatChoice) (bytes : List ℕ) (parsed : ParsedCoverage)
    → Combines operation choice bytes parsed → IsTooCoarse parsed.set parsed.moc_order → ⊥
combined_written operation choice bytes parsed combines =
    format_fits_set choice parsed (texts_fit operation choice None (texts_of bytes) (Some parsed) tt combines)

-- and so can that of the texts of an input
pub together_written : (operation : Operation) (choice : FormatChoice) (source source' : SourceState) (parsed : ParsedCoverage)
    → IsInputCombination operation choice source source' parsed → IsTooCoarse parsed.set parsed.moc_order → ⊥
together_written operation choice source source' parsed (given, consumed, (at_end, within, combines)) =
    combined_written operation choice given parsed combines
