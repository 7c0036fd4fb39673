use Rattle.vrf_flows.specs.Held.{is_stale}
use Rattle.std.proofs.Common.{None, refl}
use Rattle.indexmap.specs.IndexMap.{get}
use Rattle.vrf_words.specs.tree_defs.Keys.{same_flow}
use Rattle.vrf_flows.proofs.StaleLemmas.{gone-lists}
use Rattle.vrf_flows.proofs.table.FlowTable.let_go.Goals as goal

pub invariant_of-self : goal.invariant_of-self
invariant_of-self c =
    gone-lists is_stale (get same_flow c.self.inside.held) (get same_flow c.swap_remove.new.self) c.args.flow.now None c.self.inside.stale
    c.self.invariant (λ q. c.swap_remove.ensures.updates.0 q) refl
