-- The text of the empty set is `cover` alone.
use Rattle.std.proofs.Common.{◌++◌, None, sym, ap, ◌∙◌, append_assoc, codes}
use Rattle.std.proofs.lemmas.Bool.{false≢true}
use Rattle.std.proofs.lemmas.Result.{on_ok_weaker}
use Rattle.moc_text.specs.AsciiText.{ascii_text}
use Rattle.moc_lines.proofs.CoverLemmas.{cover_text-empty, cover_text-some}
use Rattle.moc_lines.proofs.reply_text.push_cover.Goals as goal

pub returns-then-is_empty : goal.returns-then-is_empty
returns-then-is_empty c =
    let alone = cover_text-empty c.args.set.now (c.is_empty.ensures.empty.0 c.if-is_empty.true) in
    c.in_ok-extend_from_slice.ensures.items ∙ ap (λ l. c.args.text.now.items ++ l) (sym alone)

pub returns : goal.returns
returns c =
    let shown = cover_text-some c.args.set.now (λ none. false≢true (sym c.if-is_empty.false ∙ c.is_empty.ensures.empty.1 none)) in
    on_ok_weaker c.push_ascii.result (λ e. e
    ∙ ap (λ l. l ++ ascii_text c.args.set.now None) c.in_ok-extend_from_slice-2.ensures.items
    ∙ append_assoc c.args.text.now.items (codes "cover ") (ascii_text c.args.set.now None)
    ∙ ap (λ l. c.args.text.now.items ++ l) (sym shown)) c.push_ascii.ensures
