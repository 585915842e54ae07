use Rattle.std.proofs.Common.{◌≡◌, ℕ, sym, ap, ◌∙◌, arith}
use Rattle.std.specs.List.{list_any}
use Rattle.moc_parts.specs.Batches.{batches}
use Rattle.moc_parts.specs.Lemmas.{all_parts}
use Rattle.moc_steps.specs.Machine.{holds, twelve}
use Rattle.moc_steps.proofs.Batches.{parts_below, any-next, any_twelve}
use Rattle.moc_steps.proofs.Permitted.{any_of}
use Rattle.moc_steps.proofs.TakingParts.{in_twelve}
use Rattle.moc_steps.proofs.midway.ActiveOperation.holds_some.Goals as goal

pub loop-part-preserved : goal.loop-part-preserved
loop-part-preserved c =
    let b : ℕ = c.loop-part.part-index in
    any-next (holds batches c.args.self.now.running) b c.loop-part.invariant
    (ap (holds batches c.args.self.now.running) (sym (all_parts b c.part-item.result c.loop-part-test.true)) ∙ sym c.holds.ensures ∙ c.if-holds.false)

pub returns-then-holds : goal.returns-then-holds
returns-then-holds c =
    let b : ℕ = c.loop-part.part-index in
    sym (any_of batches c.args.self.now.running b twelve (in_twelve b c.loop-part-test.true)
    (ap (holds batches c.args.self.now.running) (sym (all_parts b c.part-item.result c.loop-part-test.true)) ∙ sym c.holds.ensures ∙ c.if-holds.true))

pub returns : goal.returns
returns c =
    let twelve : c.loop-part.part-index ≡ 12 = (let low = c.loop-part-test.false in let high = c.loop-part.auto.part-index-end in omega arith) in
    sym (sym (any_twelve (holds batches c.args.self.now.running)) ∙ ap (λ n. list_any (holds batches c.args.self.now.running) (parts_below n)) (sym twelve) ∙ c.loop-part.invariant)
