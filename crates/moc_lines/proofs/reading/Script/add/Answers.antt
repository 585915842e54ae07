-- The unfinished line is too long, continues, or ends.
use Rattle.std.proofs.Common.{◌≡◌, ◌∙◌, ◌+◌, ◌++◌, ℕ, List, length, sym, ap, subst, arith, length-drop}
use Rattle.std.specs.List.{count_by, position_or_len}
use Rattle.moc_text.specs.Lines.{is_line_feed}
use Rattle.moc_lines.specs.Private.Input.{IsScriptState}
use Rattle.moc_lines.proofs.WholeReading.{after_last_feed, script_unfinished, script_too_long, script_lines, script_more, no_line_feed_until_end}
use Rattle.moc_lines.proofs.reading.Script.add.Goals as goal

pub returns-then-first_or_len-before-clause-fails : goal.returns-then-first_or_len-before-clause-fails
returns-then-first_or_len-before-clause-fails c =
    let bytes = c.args.self.now.bytes in
    let start : ℕ = c.args.self.now.start in
    let place : c.first_or_len.result ≡ position_or_len is_line_feed c.args.chunk.now = c.first_or_len.ensures.value in
    script_too_long bytes.items c.args.chunk.now start c.requires.held
    (omega (arith, c.if-first_or_len-before.true, length-drop start bytes.items, c.len-before.ensures, bytes.ok, place, c.requires.held.inside)) (omega (arith, place, c.first_or_len.ensures.within))
    c.unfinished_line.result c.unfinished_line.ensures

pub returns-in_default-clause-fails : goal.returns-in_default-clause-fails
returns-in_default-clause-fails c =
    script_unfinished c.args.self.now.bytes.items c.args.chunk.now c.args.self.now.start c.requires.held c.requires.some c.unfinished_line-in_default.result
    (c.unfinished_line-in_default.ensures ∙ ap (λ (l : List ℕ). count_by is_line_feed l + 1) c.in_default.ensures.items)

pub returns-in-Some-clause-held : goal.returns-in-Some-clause-held
returns-in-Some-clause-held c =
    let bytes = c.args.self.now.bytes in
    let start : ℕ = c.args.self.now.start in
    let at : ℕ = c.in-Some.at in
    let place : c.first_or_len.result ≡ position_or_len is_line_feed c.args.chunk.now = c.first_or_len.ensures.value in
    let long : length bytes.items + (at + 1) ≡ c.len-before.result + at + 1 = omega (arith, c.len-before.ensures, bytes.ok) in
    let last = after_last_feed c.args.chunk.now at c.in-Some.ensures.0.high c.in-Some.ensures.1 c.in-Some.ensures.0.after in
    subst (λ (b : List ℕ). IsScriptState b (c.len-before.result + at + 1)) (sym c.in-Ok.ensures.items)
    (subst (λ (n : ℕ). IsScriptState (bytes.items ++ c.args.chunk.now) n) long (script_lines bytes.items c.args.chunk.now start c.requires.held (at + 1) last
    (omega (arith, c.if-first_or_len-before.false, length-drop start bytes.items, c.len-before.ensures, bytes.ok, place, c.requires.held.inside, c.requires.held.short)) c.requires.short))

pub returns-in_default-memrchr-clause-held : goal.returns-in_default-memrchr-clause-held
returns-in_default-memrchr-clause-held c =
    let bytes = c.args.self.now.bytes in
    let start : ℕ = c.args.self.now.start in
    let place : c.first_or_len.result ≡ position_or_len is_line_feed c.args.chunk.now = c.first_or_len.ensures.value in
    let none = no_line_feed_until_end c.args.chunk.now (λ k low is. c.in_default-memrchr.ensures k (omega arith) low is) in
    subst (λ (b : List ℕ). IsScriptState b start) (sym c.in-Ok.ensures.items)
    (script_more bytes.items c.args.chunk.now start c.requires.held none
    (omega (arith, c.if-first_or_len-before.false, length-drop start bytes.items, c.len-before.ensures, bytes.ok, place, c.requires.held.inside, c.requires.held.short)))
