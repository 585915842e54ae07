-- The effective set of an operand, in the program.
use Rattle.moc_lists.specs.RangeList.{NumberSet}
use Rattle.moc_parts.specs.declared.effective_set.EffectiveSet.{EffectiveSet}
use Rattle.moc_parts.specs.declared.effective_set.EffectiveSet.TheVariants.{Original, Degraded}

-- the operand's original set, or the degraded set
abbrev pub effective_pixels : EffectiveSet → NumberSet
effective_pixels (Original set) = set.now
effective_pixels (Degraded set) = set
