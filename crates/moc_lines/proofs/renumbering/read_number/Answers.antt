-- A line with a number is one field.
use Rattle.std.proofs.Common.{◌≡◌, ℕ, List, cond, min, Some, Ok, Err, sym, ap, ◌∙◌}
use Rattle.std.specs.Option.{option_map, ok_or}
use Rattle.std.specs.Result.{result_map_both}
use Rattle.moc_lines.specs.Language.{is_blank_text, decimal_value, word_of}
use Rattle.moc_lines.specs.Numberings.{number_of_line}
use Rattle.moc_lines.specs.declared.numbering.NumberError.{NumberError}
use Rattle.moc_lines.specs.declared.numbering.NumberError.TheVariants.{WrongCount, BadNumber}
use Rattle.moc_lines.proofs.NumberLemmas.{word-alone}
use Rattle.moc_lines.proofs.renumbering.read_number.Goals as goal

alone : (line : List ℕ) (n top : ℕ) → Some n ≡ decimal_value line → Some n ≡ option_map (λ n. min n top) (decimal_value line)
    → Ok n ≡ result_map_both (λ n. min n top) (λ (error : NumberError). error) (number_of_line line)
alone line n top is held =
    let word = word-alone line n is in
    let written : number_of_line line ≡ Ok n =
    ap (λ rest. cond (is_blank_text rest) (ok_or (decimal_value (word_of line)) BadNumber) (Err WrongCount)) word.1
    ∙ ap (λ w. ok_or (decimal_value w) BadNumber) word.0 ∙ ap (λ m. ok_or m BadNumber) (sym is) in
    let same : Some n ≡ Some (min n top) = held ∙ ap (option_map (λ n. min n top)) (sym is) in
    let least : n ≡ min n top = cc in
    ap (λ (m : ℕ). Ok m) least ∙ ap (result_map_both (λ n. min n top) (λ (error : NumberError). error)) (sym written)

pub returns-in-Some : goal.returns-in-Some
returns-in-Some c = alone c.args.line.now c.in-Some.number 18446744073709551615 c.in-Some.ensures.number c.in-Some.ensures.held
