-- The line with the given number is the first line of the rest.
use Rattle.std.proofs.Common.{◌≡◌, ◌<◌, ◌∙◌, ℕ, zero, suc, List, [], ◌∷◌, ap, arith, get_or, length, ltb-true, refl, sym}
use Rattle.std.specs.List.{before_first, slice_split}
use Rattle.moc_text.specs.Lines.{is_line_feed}
use Rattle.moc_forms.proofs.Ends.{first_line, same_line}
use Rattle.moc_forms.proofs.quoting.after_line_feeds.Goals as goal

pub returns-after-loop-left : goal.returns-after-loop-left
returns-after-loop-left c =
    let none : c.loop-left.left ≡ 0 = omega arith in
    sym (first_line c.loop-left.rest.now)
    ∙ ap (λ (n : ℕ). get_or (slice_split is_line_feed c.loop-left.rest.now) n []) (sym none) ∙ c.loop-left.invariant
    ∙ sym (same_line c.args.text.now c.args.feeds)

-- after the end of the bytes there is no further line
at_end : (rest : List ℕ) (left : ℕ) → length rest < 1 → 0 < left → before_first is_line_feed rest ≡ get_or (slice_split is_line_feed rest) left []
at_end [] zero short some = absurd (omega arith)
at_end [] (suc n) short some = refl
at_end (x ∷ rest) left short some = absurd (omega arith)

pub returns-then-rest-lt1 : goal.returns-then-rest-lt1
returns-then-rest-lt1 c =
    let short : length c.loop-left.rest.now < 1 = ltb-true _ _ c.if-rest-lt1-1.true in
    at_end c.loop-left.rest.now c.loop-left.left short (omega arith) ∙ c.loop-left.invariant
    ∙ sym (same_line c.args.text.now c.args.feeds)
