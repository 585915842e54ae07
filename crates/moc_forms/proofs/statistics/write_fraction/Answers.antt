use Rattle.std.proofs.Common.{◌≡◌, ◌%◌, ℕ, List, ◌∷◌, ◌++◌, [], decimal, ap, subst, sym, ◌∙◌}
use Rattle.std.specs.Prelude.{◌/◌}
use Rattle.std.specs.Fmt.{HasWritten, styled_decimal}
use Rattle.std.proofs.lemmas.List.{append_assoc}
use Rattle.moc_forms.specs.Describing.{decimal_fraction, digits_with_zeros}
use Rattle.moc_forms.proofs.LeadingZeros.{twelve_digits}
use Rattle.moc_forms.proofs.statistics.write_fraction.Goals as goal

pub returns : goal.returns
returns g c plain ok =
    let units = c.args.units in
    let word : List ℕ = c.args.word.now in
    let feed : List ℕ = 10 ∷ [] in
    let whole : List ℕ = decimal (units / 1000000000000) in
    let digits : List ℕ = digits_with_zeros 12 (units % 1000000000000) in
    let last : styled_decimal c.laid_out.result (units % 1000000000000) ≡ digits =
    ap (λ s. styled_decimal s (units % 1000000000000)) c.laid_out.ensures ∙ twelve_digits (units % 1000000000000) in
    let line : word ++ (whole ++ (46 ∷ (styled_decimal c.laid_out.result (units % 1000000000000) ++ feed))) ≡ (word ++ decimal_fraction 12 units) ++ feed =
    ap (λ (ds : List ℕ). word ++ (whole ++ (46 ∷ (ds ++ feed)))) last
    ∙ ap (λ (ds : List ℕ). word ++ ds) (sym (append_assoc whole (46 ∷ digits) feed))
    ∙ sym (append_assoc word (decimal_fraction 12 units) feed) in
    subst (λ (ds : List ℕ). HasWritten g.W.Write.write_str_gives c.args.f.now ds c.writeln.new.self) line (c.writeln.ensures.writes plain ok)
