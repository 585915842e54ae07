use Rattle.std.proofs.Common.{sym, subst}
use Rattle.moc_parts.specs.Batches.{batches}
use Rattle.moc_steps.specs.declared.step.Step.{Step}
use Rattle.moc_steps.specs.Theorems.{RepliesByEntry}
use Rattle.moc_steps.specs.Played.{step_of}
use Rattle.moc_steps.proofs.world.World.step.Goals as goal

pub returns-in-End-clause-entry : goal.returns-in-End-clause-entry
returns-in-End-clause-entry c = subst (λ (s : Step). RepliesByEntry batches c.args.self.now (step_of s)) (sym c.in-End.is) c.end.ensures.entry
