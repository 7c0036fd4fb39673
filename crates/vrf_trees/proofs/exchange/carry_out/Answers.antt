use Rattle.std.proofs.Common.{ap, ◌∙◌}
use Rattle.vrf_trees.specs.Wants.{is_stale}
use Rattle.vrf_trees.proofs.exchange.carry_out.Goals as goal

pub none_stale-requires : goal.none_stale-requires
none_stale-requires c = record {
  none = λ q. ap is_stale (c.in_ok-carry.ensures.each q) ∙ c.requires.fresh q;
}
