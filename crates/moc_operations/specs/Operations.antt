-- The symmetric difference of finite sets, which std's definitions of finite sets do not have.
use Rattle.std.specs.FinSet as set
use Rattle.moc_blocks.specs.RangeList.{NumberSet}

-- the numbers that are in exactly one of two sets
unfoldable pub symmetric : NumberSet → NumberSet → NumberSet
symmetric a b = set.union (set.difference a b) (set.difference b a)
