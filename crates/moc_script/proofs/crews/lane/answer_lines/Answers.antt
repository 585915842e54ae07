-- One more line.
use Rattle.std.proofs.Common.{◌≡◌, ◌∙◌, refl, ℕ, ◌+◌, ◌-◌, [], ◌∷◌, ◌++◌, length, sym, ap, subst, arith, append_assoc}
use Rattle.std.proofs.Common.{length-append}
use Rattle.moc_text.specs.Lines.{lines_of}
use Rattle.moc_shared.specs.Batches.{batch_answer as object}
use Rattle.moc_lines.specs.Language.{batch_of, command_of}
use Rattle.moc_lines.specs.Runs.{script_rules}
use Rattle.moc_shared.specs.Clients.{number_of, record_of, IsClientOf}
use Rattle.moc_shared.specs.declared.map.SharedMap.{SharedMap}
use Rattle.moc_script.specs.Private.Input.{remaining_lines}
use Rattle.moc_script.specs.Private.LaneEnds.{IsLineAnswer}
use Rattle.moc_script.specs.Private.LaneWork.{Performs}
use Rattle.moc_script.specs.Private.Texts.{split_by_len, total}
use Rattle.moc_script.proofs.LaneLemmas.{Performs-push, line_keeps_map, line_keeps_number, line_made}
use Rattle.moc_script.proofs.TextLemmas.{split_by_len-push, total-push}
use Rattle.moc_script.proofs.Passing.{line_count_bounded, passed_more}
use Rattle.moc_script.proofs.crews.lane.answer_lines.Goals as goal

pub next_line-requires : goal.next_line-requires
next_line-requires g c =
    let was = c.loop-number.invariant.passed in
    let left = lines_of c.loop-number.left.bytes.now in
    let few = line_count_bounded c.args.job.input.now in
    record { bounded = omega (arith, few, c.new-left.type_inv, was.count_is, ap length was.lines, length-append was.passed left) }

pub loop-number-preserved : goal.loop-number-preserved
loop-number-preserved g c =
    let was = c.loop-number.invariant.done in
    let line = c.in-Some.line.now in
    let old = c.loop-number.lane_client in
    let new = c.answer_commands.new.executor in
    let lens = c.loop-number.lens.items in
    let bytes = c.loop-number.bytes.items in
    let after = c.answer_commands.new.text.items in
    let first : remaining_lines c.loop-number.left ≡ line ∷ remaining_lines c.next_line.new.self = c.in-Some.ensures.some in
    let answered = c.in-Ok.ensures.answer in
    let text = answered.0 in
    let parsed = batch_of command_of line in
    let made : IsLineAnswer c.number-lane.result line (record_of old.client) (record_of new.client) text =
    subst (λ (n : ℕ). IsLineAnswer n line (record_of old.client) (record_of new.client) text) c.loop-number.invariant.number
    (line_made old new (λ t. t.map.now) (λ t. t.client) line text parsed c.in-Some.ensures.nonblank refl answered.2) in
    let more : length after ≡ length bytes + length text = ap length answered.1 ∙ length-append bytes text in
    let len : c.len.result - c.len-before.result ≡ length text = omega (arith, more, c.len.ensures, c.len-before.ensures, c.loop-number.bytes.ok, c.answer_commands.new.text.ok) in
    let pushed : c.push.new.self.items ≡ lens ++ length text ∷ [] = c.in-Ok-push.ensures.items ∙ ap (λ (n : ℕ). lens ++ n ∷ []) len in
    let texts : split_by_len c.push.new.self.items after ≡ split_by_len lens bytes ++ text ∷ [] =
    ap (λ l. split_by_len l after) pushed ∙ ap (split_by_len (lens ++ length text ∷ [])) answered.1 ∙ split_by_len-push lens bytes text c.loop-number.invariant.sum in
    let map : new.map.now ≡ c.args.job.map.now = line_keeps_map old new (λ t. t.map.now) (λ t. t.client) parsed text answered.2 ∙ c.loop-number.invariant.map in
    record {
      ready = c.answer_commands.ensures.ready;
      of_map = subst (λ (m : SharedMap). IsClientOf m new.client) map c.answer_commands.ensures.ready;
      map = map;
      number = line_keeps_number old new (λ t. t.map.now) (λ t. t.client) parsed text answered.2 ∙ c.loop-number.invariant.number;
      sum = ap total pushed ∙ total-push lens (length text) ∙ ap (λ n. n + length text) c.loop-number.invariant.sum ∙ sym more;
      passed = passed_more c.args.job.input.now c.loop-number.left c.next_line.new.self c.in-Some.number line c.loop-number.invariant.passed c.in-Some.ensures.number;
      done = (
        was.0 ++ line ∷ [],
        was.1 ++ made.0,
        was.2 ∙ ap (λ l. was.0 ++ l) first ∙ sym (append_assoc was.0 (line ∷ []) (remaining_lines c.next_line.new.self)),
        made.2 was.1 was.3,
        subst (Performs object script_rules (was.0 ++ line ∷ []) (was.1 ++ made.0)) (sym texts) (Performs-push object script_rules was.0 line was.1 made.0 (split_by_len lens bytes) text was.4 made.1),
      );
    }
