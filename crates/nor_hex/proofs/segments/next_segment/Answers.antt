use Rattle.std.proofs.Common.{◌∙◌, nat_lt, sym, rules}
use Rattle.std.proofs.lemmas.List.Sorted.{IsPartitionPoint-from_clause}
use Rattle.nor_hex.proofs.NextLemmas.{parted, next_found, got}
use Rattle.nor_hex.proofs.segments.next_segment.Goals as goal

pub returns : goal.returns
returns c =
    let point = IsPartitionPoint-from_clause (λ s. nat_lt s.last c.args.from) _ _ c.partition_point.ensures.partitioned (parted c.args.list.now c.args.from c.requires) (λ a r q k. search rules) in
    next_found c.args.list.now c.args.from c.partition_point.result c.copied.result c.partition_point.ensures.bound point (got c.args.list.now c.partition_point.result c.get.result c.get.ensures.lookup.0 c.get.ensures.lookup.1 ∙ sym c.copied.ensures)
