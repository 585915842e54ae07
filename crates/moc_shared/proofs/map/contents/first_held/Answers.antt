use Rattle.std.proofs.Common.{ℕ, ◌<◌, sym, ap, ◌∙◌, subst}
use Rattle.std.specs.Prelude.{slice_index}
use Rattle.moc_shared.specs.Seats.{table_index}
use Rattle.std.specs.Slots.{slots_items}
use Rattle.moc_parts.specs.Lemmas.{all_parts}
use Rattle.moc_shared.proofs.Reading.{read_at, one_word_more}
use Rattle.moc_shared.proofs.map.contents.first_held.Goals as goal

pub loop-part-preserved : goal.loop-part-preserved
loop-part-preserved c =
    let is = all_parts c.loop-part.part-index c.part-item.result c.loop-part-test.true in
    one_word_more (slots_items c.args.closed.now.words) c.loop-part.part-index c.index.result c.word.result
    (c.index.ensures.place ∙ ap table_index is) c.loop-part.invariant c.word.ensures c.if-word-ne0.false

pub returns-then-word-ne0-clause-some : goal.returns-then-word-ne0-clause-some
returns-then-word-ne0-clause-some c =
    let words = slots_items c.args.closed.now.words in
    let is = all_parts c.loop-part.part-index c.part-item.result c.loop-part-test.true in (
      c.index.ensures.in_range,
      (λ z. c.if-word-ne0.true
          (sym (read_at words c.index.result c.word.result c.word.ensures)
          ∙ ap (slice_index words) c.index.ensures.place ∙ z)),
      λ k below. c.loop-part.invariant k (subst (λ (n : ℕ). k < n) is below),
    )
