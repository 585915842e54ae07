-- One more number.
use Rattle.std.proofs.Common.{◌≡◌, ◌∙◌, ◌++◌, ◌∷◌, ℕ, List, take, get_or, sym, ap, append_assoc}
use Rattle.std.specs.Prelude.{decimal}
use Rattle.std.specs.String.{string_bytes}
use Rattle.moc_cli.proofs.NumberLines.{with_spaces, spaced_more}
use Rattle.moc_cli.proofs.number_lines.push_numbers.Goals as goal

pub loop-number-preserved : goal.loop-number-preserved
loop-number-preserved c =
    let others = c.in-Some.others.now in
    let i : ℕ = c.loop-number.number-index in
    let n : ℕ = get_or others i 0 in
    let before = string_bytes c.write.new.self in
    let one : string_bytes c.write-in-loop-number.new.self ≡ string_bytes c.loop-number.line ++ 32 ∷ decimal n = c.in_ok-write-2.ensures.bytes in
    one ∙ ap (λ (l : List ℕ). l ++ 32 ∷ decimal n) c.loop-number.invariant ∙ append_assoc before (with_spaces (take i others)) (32 ∷ decimal n)
    ∙ ap (λ (l : List ℕ). before ++ l) (sym (spaced_more others i 0 c.loop-number-test.true))
