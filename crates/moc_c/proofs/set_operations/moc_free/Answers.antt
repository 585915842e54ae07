use Rattle.moc_c.proofs.Keys.{frees_set, not_freed}
use Rattle.moc_c.proofs.set_operations.moc_free.Goals as goal

pub returns-then-free : goal.returns-then-free
returns-then-free c =
    frees_set c.table.result.now c.args.store.now.contents c.free.new.self c.args.a c.free.result c.success.result c.table.ensures.value c.free.ensures.removed c.free.ensures.found c.if-free.true c.success.ensures

pub returns-else-free : goal.returns-else-free
returns-else-free c =
    not_freed c.table.result.now c.args.store.now.contents c.free.new.self c.args.a c.free.result c.of.result c.table.ensures.value c.free.ensures.removed c.free.ensures.found c.if-free.false c.of.ensures
