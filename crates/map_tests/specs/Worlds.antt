-- What a test concludes about a world that it is given.
use Rattle.std.specs.Prelude.{◌≡◌, List}
use Rattle.moc_lists.specs.RangeList.{NumberSet}
use Rattle.moc_parts.specs.Batches.{batches}
use Rattle.moc_parts.specs.declared.command.Command.{Command}
use Rattle.moc_steps.specs.Machine.{Step}
use Rattle.moc_steps.specs.Orders.{Explains, set_by_order}
use Rattle.moc_steps.specs.Theorems.{reached_world}
use Rattle.moc_steps.specs.Played.{BatchWorld}

-- Steps led to the world, its order explains them, and the set is the result of their operations, one by one in it.
pub record IsMadeInOrder (w : BatchWorld) (a : NumberSet) : Type 0 where
  pub start : NumberSet
  pub steps : List (Step (List Command))
  pub leads : reached_world batches start steps ≡ w
  pub explained : Explains batches w.order steps start
  pub made : a ≡ set_by_order batches w.order steps start
