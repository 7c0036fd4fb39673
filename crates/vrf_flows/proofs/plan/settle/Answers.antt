use Rattle.vrf_flows.proofs.StaleLemmas.{settled-stale}
use Rattle.indexmap.specs.IndexMap.{get}
use Rattle.vrf_words.specs.tree_defs.Keys.{same_flow}
use Rattle.vrf_flows.specs.Sight.{needs}
use Rattle.vrf_flows.proofs.plan.settle.Goals as goal

pub none_stale-requires : goal.none_stale-requires
none_stale-requires c = record {
  none = λ q. settled-stale (get same_flow c.args.flows.now q) (get same_flow c.settle_each.new.flows q) (get same_flow c.args.plan q)
      (needs c.args.sight.now q) (c.requires.planned q) (c.in_ok-settle_each.ensures.each q);
}
