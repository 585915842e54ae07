-- The rest of the chunk after the line feed.
use Rattle.std.proofs.Common.{◌≡◌, ℕ, ◌+◌, ◌-◌, ◌<◌, ◌≤◌, length, length-take, List, take, drop, arith, ap, ◌∙◌}
use Rattle.std.specs.List.{position_or_len, after_first}
use Rattle.moc_text.specs.Lines.{is_line_feed}
use Rattle.moc_lines.specs.Private.ReaderState.{ReaderState}
use Rattle.moc_lines.proofs.LineLemmas.{take-drop-part}
use Rattle.moc_lines.proofs.line_reader.LineReader.take_part.Goals as goal

part : (xs : List ℕ) (i j len : ℕ) → i + (len + 1) ≤ j → take (j - (i + (len + 1))) (drop (i + (len + 1)) xs) ≡ drop (len + 1) (take (j - i) (drop i xs))
part xs i j len within =
    let less : j - (i + (len + 1)) ≡ j - i - (len + 1) = omega arith in
    let fits : len + 1 ≤ j - i = omega arith in
    ap (λ n. take n (drop (i + (len + 1)) xs)) less ∙ take-drop-part xs i (j - i) (len + 1) fits

last : (at_hand unread : List ℕ) (len : ℕ) → len ≡ position_or_len is_line_feed at_hand → at_hand ≡ unread → drop (len + 1) at_hand ≡ after_first is_line_feed unread
last at_hand unread len is same = ap (λ n. drop (n + 1) at_hand) is ∙ ap (after_first is_line_feed) same

pub returns-then-len-unread-clause-unread : goal.returns-then-len-unread-clause-unread
returns-then-len-unread-clause-unread c =
    let inside = c.self.inside in
    let len = inside.feed_offset in
    let below : len < length (take (inside.end - inside.start) (drop inside.start inside.chunk.items)) = rw c.deref.ensures.value at c.if-len-unread.true in
    let within : inside.start + (len + 1) ≤ inside.end = omega (arith, length-take (inside.end - inside.start) (drop inside.start inside.chunk.items)) in
    part inside.chunk.items inside.start inside.end len within
    ∙ last _ c.args.self.now.unread len c.self.invariant.3 (ap (λ (h : ReaderState). h.unread) c.self.view_is)
