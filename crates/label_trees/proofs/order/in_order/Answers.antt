use Rattle.std.proofs.Common.{rules}
use Rattle.std.proofs.lemmas.List.Filters.{dedup_is}
use Rattle.label_forwarding.specs.Slots.{is_fec}
use Rattle.label_trees.proofs.OrderLemmas.{ordered_are, sorted_by}
use Rattle.label_trees.proofs.order.in_order.Goals as goal

pub returns : goal.returns
returns c = ordered_are c.args.fecs.items c.sort_by.new.self.items c.dedup.new.self.items c.sort_by.ensures.permutation
    (sorted_by c.sort_by.new.self.items c.in_ok-sort_by.ensures.sorted (λ a r q k. search rules))
    (dedup_is is_fec c.sort_by.new.self.items c.dedup.new.self.items c.dedup.ensures.filtered)
