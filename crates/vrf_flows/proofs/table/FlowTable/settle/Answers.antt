use Rattle.std.proofs.Common.{Some, refl}
use Rattle.indexmap.specs.IndexMap.{get}
use Rattle.vrf_words.specs.tree_defs.Keys.{same_flow}
use Rattle.vrf_flows.specs.Held.{is_stale, settled_as}
use Rattle.vrf_flows.proofs.StaleLemmas.{gone-lists}
use Rattle.vrf_flows.proofs.table.FlowTable.settle.Goals as goal

pub invariant_of-self-2 : goal.invariant_of-self-2
invariant_of-self-2 c =
    gone-lists is_stale (get same_flow c.self.inside.held) (get same_flow c.insert.new.self) c.args.flow (Some (settled_as c.args.kept))
    c.self.inside.stale c.self.invariant (λ q. c.in_ok-insert.ensures.updates.0 q) refl
