use Rattle.std.proofs.Common.{rules}
use Rattle.std.proofs.lemmas.List.Sorted.{IsPartitionPoint-from_clause}
use Rattle.bins.specs.Entries.{entry_of}
use Rattle.bulk_walks.specs.Halves.{is_before}
use Rattle.bulk_walks.proofs.HalfLemmas.{parted_by, parts_from}
use Rattle.bulk_walks.proofs.rests.count_before.Goals as goal

-- the keys in order are parted at this one
pub returns-clause-parts : goal.returns-clause-parts
returns-clause-parts c =
    let es = c.args.items.now in
    let order = c.args.order.now in
    let key = c.args.key.now in
    parts_from key es order c.partition_point.result c.partition_point.ensures.bound
    (IsPartitionPoint-from_clause (λ p. is_before key (entry_of es p)) order c.partition_point.result c.partition_point.ensures.partitioned (parted_by key es order c.requires.order) (λ a r q k. search rules))
