-- One more answer is sent, the writer failed, or none is left.
use Rattle.std.proofs.Common.{◌≡◌, inl, inr, ℕ, ◌+◌, ◌<◌, ◌∷◌, [], length, get_or, sym, refl, subst, arith}
use Rattle.moc_devices.specs.Lemmas.{OnlyWrites-none, OnlyWrites-later}
use Rattle.moc_script.proofs.Joinings.{Turns, Turns-start, Turns-more, Turns-end, Turns-fail, next_has, next_none}
use Rattle.moc_script.proofs.crews.merging.AnswerMerger.write_turns.Goals as goal

pub loop-answer-init : goal.loop-answer-init
loop-answer-init g c = record {
  turns = subst (Turns c.args.self.now.walks.items c.args.self.now.walks.items 0 (g.W.Sink.writing c.args.writer.now) (g.W.Sink.writing c.args.writer.now)) (sym c.requires.none)
      (Turns-start c.args.self.now.walks.items (g.W.Sink.writing c.args.writer.now) c.requires.some);
  low = c.requires.some;
  writes = OnlyWrites-none c.args.writer.now;
}

pub returns-in_err-send-clause-sends : goal.returns-in_err-send-clause-sends
returns-in_err-send-clause-sends g c =
    let was = c.loop-answer.invariant in
    let walks = c.loop-answer.self.walks.items in
    let turn : ℕ = c.loop-answer.turn in
    let low : turn < length walks = omega (arith, was.low, was.turns.merge.wide) in
    let here : get_or walks turn [] ≡ c.in-Some.answer.now ∷ c.next_text.new.self = next_has walks turn c.index_mut.result.now c.next_text.new.self c.in-Some.answer.now low c.index_mut.ensures.value c.in-Some.ensures.some in
    Turns-fail c.args.self.now.walks.items walks turn _ _ _ c.loop-answer.self.pending.items was.turns c.send.new.pending.items c.send.new.pending.items c.in-Some.answer.now c.next_text.new.self c.send.result c.from_residual.result
    c.from_residual.ensures.0 was.low here c.send.ensures.sends

pub returns-in_err-send-clause-writes : goal.returns-in_err-send-clause-writes
returns-in_err-send-clause-writes g c = rw c.from_residual.ensures.0 (OnlyWrites-later c.loop-answer.invariant.writes c.in_err-send.ensures.writes)

pub loop-answer-preserved-then-turn-len : goal.loop-answer-preserved-then-turn-len
loop-answer-preserved-then-turn-len g c =
    let was = c.loop-answer.invariant in
    let walks = c.loop-answer.self.walks.items in
    let turn : ℕ = c.loop-answer.turn in
    let low : turn < length walks = omega (arith, was.low, was.turns.merge.wide) in
    let here : get_or walks turn [] ≡ c.in-Some.answer.now ∷ c.next_text.new.self = next_has walks turn c.index_mut.result.now c.next_text.new.self c.in-Some.answer.now low c.index_mut.ensures.value c.in-Some.ensures.some in
    record {
      turns = Turns-more c.args.self.now.walks.items walks turn _ _ _ c.loop-answer.self.pending.items was.turns 0 c.send.new.pending.items c.in-Some.answer.now c.next_text.new.self was.low here c.in_ok-send.ensures.sends
          (inr (omega (arith, c.if-turn-len.true, c.len.ensures, c.loop-answer.self.walks.ok, was.turns.merge.wide), refl));
      low = c.requires.some;
      writes = OnlyWrites-later was.writes c.in_ok-send.ensures.writes;
    }

pub loop-answer-preserved : goal.loop-answer-preserved
loop-answer-preserved g c =
    let was = c.loop-answer.invariant in
    let walks = c.loop-answer.self.walks.items in
    let turn : ℕ = c.loop-answer.turn in
    let low : turn < length walks = omega (arith, was.low, was.turns.merge.wide) in
    let here : get_or walks turn [] ≡ c.in-Some.answer.now ∷ c.next_text.new.self = next_has walks turn c.index_mut.result.now c.next_text.new.self c.in-Some.answer.now low c.index_mut.ensures.value c.in-Some.ensures.some in
    let more : turn + 1 < length c.args.self.now.walks.items = omega (arith, c.if-turn-len.false, c.len.ensures, c.loop-answer.self.walks.ok, was.turns.merge.wide, was.low) in
    record {
      turns = Turns-more c.args.self.now.walks.items walks turn _ _ _ c.loop-answer.self.pending.items was.turns (turn + 1) c.send.new.pending.items c.in-Some.answer.now c.next_text.new.self was.low here c.in_ok-send.ensures.sends
          (inl (more, refl));
      low = more;
      writes = OnlyWrites-later was.writes c.in_ok-send.ensures.writes;
    }

pub returns-clause-sends : goal.returns-clause-sends
returns-clause-sends g c =
    let was = c.loop-answer.invariant in
    let walks = c.loop-answer.self.walks.items in
    let turn : ℕ = c.loop-answer.turn in
    let low : turn < length walks = omega (arith, was.low, was.turns.merge.wide) in
    Turns-end c.args.self.now.walks.items walks turn (g.W.Sink.writing c.args.writer.now) (g.W.Sink.writing c.loop-answer.writer) (g.W.Sink.writing c.loop-answer.writer) c.loop-answer.self.pending.items was.turns c.requires.some
    (next_none walks turn c.index_mut.result.now low c.index_mut.ensures.value (c.in_default.ensures.none refl))
