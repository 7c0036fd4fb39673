use Rattle.std.proofs.Common.{rules}
use Rattle.std.proofs.lemmas.List.Sorted.{IsPartitionPoint-from_clause}
use Rattle.label_forwarding.specs.Hops.{is_before}
use Rattle.label_forwarding.proofs.branches.place_of.Goals as goal

pub returns-clause-point : goal.returns-clause-point
returns-clause-point c =
    λ part. IsPartitionPoint-from_clause (is_before c.args.branch) c.args.items.now c.partition_point.result c.partition_point.ensures.partitioned
    part (λ a r q k. search rules)
