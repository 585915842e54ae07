use Rattle.std.proofs.Common.{leb, subst, ◌∙◌, rules}
use Rattle.std.proofs.lemmas.List.Sorted.{IsPartitionPoint-from_clause}
use Rattle.moc_blocks.specs.Private.Blocks.{IsCountStarted}
use Rattle.moc_blocks.proofs.Places.{starts_partitioned, count_started_at_partition_point}
use Rattle.moc_lists.proofs.nodes.Nodes.count_started.Goals as goal

pub returns : goal.returns
returns c =
    let is = c.deref.ensures.value ∙ c.self.invariant.placed in
    let parted = starts_partitioned c.self.inside.nodes.items c.deref.result.now c.args.place is in
    let point = IsPartitionPoint-from_clause (λ x. leb x c.args.place) c.deref.result.now c.partition_point.result c.partition_point.ensures.partitioned parted (λ a r q k. search rules) in
    subst (λ l. IsCountStarted l c.args.place c.partition_point.result) c.self.view_is
    (count_started_at_partition_point c.self.inside.nodes.items c.deref.result.now c.args.place c.partition_point.result is c.partition_point.ensures.bound point)
