use Rattle.std.proofs.Common.{◌≡◌, ◌++◌, ℕ, List, [], append_assoc, sym, ap, subst, ◌∙◌, inl, inr}
use Rattle.std.specs.FinSet as set
use Rattle.std.proofs.lemmas.Result.{err_from_is_err_and}
use Rattle.moc_text.specs.Parsers.{HasParsedUniq}
use Rattle.moc_text.specs.Private.UniqReading.{AreLinesRead}
use Rattle.moc_text.specs.Private.UniqSegments.{EndsBetweenLines}
use Rattle.moc_text.proofs.UniqLines.{lines_more}
use Rattle.moc_text.proofs.UniqSegments.{lines_pending, lines_longer, ends_append, first_error_lasts}
use Rattle.moc_text.proofs.uniq.parser.UniqParser.push_segment.Goals as goal
use Rattle.moc_text.proofs.uniq.parser.UniqParser.push_segment.Goals.{After-deref, After-split_after_last_line}

-- the lines before the first call of `read_lines`
first : (c : After-deref) (text : List ℕ) → HasParsedUniq text c.args.self.now
    → AreLinesRead 1 (text ++ c.in-Some.front.now) set.empty c.args.self.now.line c.deref.result.now c.args.self.now.cells
first c text before =
    let p = c.args.self.now in
    let items : c.deref.result.now ≡ p.pending.items ++ c.in-Some.front.now = c.deref.ensures.value ∙ c.in_ok-extend_from_slice-2.ensures.items in
    subst (λ (t : List ℕ). AreLinesRead 1 (text ++ c.in-Some.front.now) set.empty p.line t p.cells) (sym items) (lines_pending text c.in-Some.front.now p before)

-- the two parts of the segment
segment_parts : (c : After-deref) (text : List ℕ) → (text ++ c.in-Some.front.now) ++ c.in-Some.back.now ≡ text ++ c.args.bytes.now
segment_parts c text = append_assoc text c.in-Some.front.now c.in-Some.back.now ∙ ap (λ (t : List ℕ). text ++ t) (sym c.in-Some.ensures.0)

pub returns-in_err-line : goal.returns-in_err-line
returns-in_err-line c = λ text before.
    let p = err_from_is_err_and c.from_residual-in_err-line.result c.from_residual-in_err-line.ensures.1 in
    let at = (goal.at.returns-in_err-line c).After-deref in
    rw (p.1, p.2) (elim c.in_err-line.ensures [
      | inl memory ↦ inl memory
      | inr fault ↦ inr (first_error_lasts (text ++ c.in-Some.front.now) c.in-Some.back.now (text ++ c.args.bytes.now) c.args.self.now.line c.deref.result.now c.args.self.now.cells c.in_err-line.field-0.0 (segment_parts at text) (c.in-Some.ensures.1 text) (first at text before) fault)
    ])

-- the text up to the last line feed of the segment
abbrev read_text : After-split_after_last_line → List ℕ → List ℕ
read_text c text = (text ++ c.in-Some.front.now) ++ c.split_after_last_line.result.0.now

-- the lines before the second call of `read_lines`, and the parts of the text after it
record Second (c : After-split_after_last_line) (text : List ℕ) : Type 0 where
  read : AreLinesRead 1 (read_text c text) set.empty c.in_ok-line.line c.split_after_last_line.result.0.now c.read_lines.new.cells
  ends : EndsBetweenLines (read_text c text)
  parts : read_text c text ++ c.split_after_last_line.result.1.now ≡ text ++ c.args.bytes.now

second : (c : After-split_after_last_line) (text : List ℕ)
    → AreLinesRead 1 (text ++ c.in-Some.front.now) set.empty c.args.self.now.line c.deref.result.now c.args.self.now.cells
    → (text ++ c.in-Some.front.now) ++ c.in-Some.back.now ≡ text ++ c.args.bytes.now → Second c text
second c text first segment =
    let front = text ++ c.in-Some.front.now in
    let complete = c.split_after_last_line.result.0.now in
    let unfinished = c.split_after_last_line.result.1.now in
    let ends = c.in-Some.ensures.1 text in
    let lines = lines_more 1 c.args.self.now.line c.in_ok-line.line front c.deref.result.now [] set.empty c.args.self.now.cells c.read_lines.new.cells first c.in_ok-line.ensures in
    record {
      read = lines_longer 1 c.in_ok-line.line front complete set.empty c.read_lines.new.cells ends lines;
      ends = ends_append front complete ends c.split_after_last_line.ensures.ends;
      parts = append_assoc front complete unfinished ∙ ap (λ (t : List ℕ). front ++ t) (sym c.split_after_last_line.ensures.parts) ∙ segment;
    }

pub returns-in_err-self : goal.returns-in_err-self
returns-in_err-self c = λ text before.
    let p = err_from_is_err_and c.from_residual-in_err-self.result c.from_residual-in_err-self.ensures.1 in
    let at = (goal.at.returns-in_err-self c).After-deref in
    let second = second (goal.at.returns-in_err-self c).After-split_after_last_line text (first at text before) (segment_parts at text) in
    let complete = c.split_after_last_line.result.0.now in
    rw (p.1, p.2) (elim c.in_err-self.ensures [
      | inl memory ↦ inl memory
      | inr fault ↦ inr (first_error_lasts ((text ++ c.in-Some.front.now) ++ complete) c.split_after_last_line.result.1.now (text ++ c.args.bytes.now) c.in_ok-line.line complete c.read_lines.new.cells c.in_err-self.field-0.0 second.parts second.ends second.read fault)
    ])

pub returns : goal.returns
returns c = λ text before.
    let at = (goal.at.returns c).After-deref in
    let second = second (goal.at.returns c).After-split_after_last_line text (first at text before) (segment_parts at text) in
    let whole = (text ++ c.in-Some.front.now) ++ c.split_after_last_line.result.0.now in
    let unfinished = c.split_after_last_line.result.1.now in
    let pending : c.extend_from_slice-3.new.self.items ≡ unfinished = c.in_ok-extend_from_slice-3.ensures.items ∙ ap (λ (t : List ℕ). t ++ unfinished) c.clear.ensures.items in
    record {
      before = whole;
      parts = sym second.parts ∙ ap (λ (t : List ℕ). whole ++ t) (sym pending);
      ends = second.ends;
      read = lines_more 1 c.in_ok-line.line c.in_ok-self.field-0 whole c.split_after_last_line.result.0.now [] set.empty c.read_lines.new.cells c.read_lines-2.new.cells second.read c.in_ok-self.ensures;
      without_error = before.without_error;
    }
