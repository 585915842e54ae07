use Rattle.std.proofs.Common.{rules, ◌≡◌, ℕ, List, None, true, false, sym, subst}
use Rattle.std.specs.List.{join_with_byte}
use Rattle.std.specs.String.{string_bytes}
use Rattle.moc_ranges.specs.Cells.{cells_of}
use Rattle.moc_text.specs.Ascii.{Represents}
use Rattle.moc_text.specs.AsciiText.{ascii_text, IsTooCoarse, deepest_written, runs_of, words_of}
use Rattle.moc_text.proofs.Written.{written_is_read}
use Rattle.moc_text.proofs.ascii.writing.write_ascii.Goals as goal

pub returns-clause-reads_back : goal.returns-clause-reads_back
unfolding ascii_text
returns-clause-reads_back c =
    let fine : IsTooCoarse c.args.set.now c.args.stated → ⊥ = λ deeper.
    let found : c.is_too_coarse.result ≡ true = (c.is_too_coarse.ensures c.args.set.now c.deepest_of.ensures).1 (rw c.depth_of-stated.ensures.same deeper) in
    let none : c.is_too_coarse.result ≡ false = c.if-is_too_coarse.false in
    absurd cc in
    let text : string_bytes c.in_ok-finish.field-0 ≡ join_with_byte 32 (words_of c.args.stated None (runs_of (cells_of c.args.set.now))) = search rules in
    subst (λ (t : List ℕ). Represents t c.args.set.now (deepest_written c.args.set.now c.args.stated)) (sym text)
    (written_is_read c.args.set.now c.args.stated c.cell_orders-orders.ensures.within (rw c.depth_of-stated.ensures.same at c.depth_of-stated.ensures.small) fine)
