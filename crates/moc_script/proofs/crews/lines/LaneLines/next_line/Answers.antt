-- A line of another lane is passed.
use Rattle.std.proofs.Common.{◌≡◌, ◌∙◌, ◌-◌, suc, true, false, arith, sym}
use Rattle.moc_lines.specs.Language.{is_blank_text}
use Rattle.moc_script.proofs.Passing.{blank_passed, counted_more, turn_passed}
use Rattle.moc_script.proofs.crews.lines.LaneLines.next_line.Goals as goal

pub loop-line-preserved-then-is_blank_text : goal.loop-line-preserved-then-is_blank_text
loop-line-preserved-then-is_blank_text c =
    let was = c.loop-line.invariant in
    let old = c.loop-line.self in
    let line = c.split_line.result.0.now in
    let rest = c.split_line.result.1.now in
    let blank : is_blank_text line ≡ true = sym c.is_blank_text.ensures ∙ c.if-is_blank_text.true in
    record {
      left = blank_passed old.others old.bytes.now line rest c.split_line.ensures.lines old.turn blank ∙ was.left;
      passed = counted_more old.others old.bytes.now line rest c.split_line.ensures.lines c.args.self.now.bytes.now c.args.self.now.passed old.passed was.passed;
    }

pub loop-line-preserved : goal.loop-line-preserved
loop-line-preserved c =
    let was = c.loop-line.invariant in
    let old = c.loop-line.self in
    let line = c.split_line.result.0.now in
    let rest = c.split_line.result.1.now in
    let nonblank : is_blank_text line ≡ false = sym c.is_blank_text.ensures ∙ c.if-is_blank_text.false in
    let turn : old.turn ≡ suc (old.turn - 1) = omega (arith, c.if-self-eq0.false) in
    record {
      left = turn_passed old.others old.bytes.now line rest c.split_line.ensures.lines old.turn (old.turn - 1) turn nonblank ∙ was.left;
      passed = counted_more old.others old.bytes.now line rest c.split_line.ensures.lines c.args.self.now.bytes.now c.args.self.now.passed old.passed was.passed;
    }
