use Rattle.std.proofs.Common.{[], ◌∷◌, sym, subst}
use Rattle.moc_parts.specs.Batches.{batches}
use Rattle.moc_steps.specs.Machine.{AreLocal}
use Rattle.moc_steps.specs.Played.{step_of}
use Rattle.moc_steps.specs.declared.step.Step.{Step}
use Rattle.moc_steps.proofs.Batches.{batch_local}
use Rattle.moc_steps.proofs.step.Step.prove_local.Goals as goal

pub returns-in-Begin : goal.returns-in-Begin
returns-in-Begin c = subst (λ (s : Step). AreLocal batches (step_of s ∷ [])) (sym c.in-Begin.is) (batch_local c.batches_are_local.ensures c.in-Begin.batch c.commands.ensures.some c.commands.ensures.valid, tt)
