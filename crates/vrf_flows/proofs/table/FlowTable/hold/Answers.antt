use Rattle.std.proofs.Common.{None, Some}
use Rattle.vrf_flows.specs.Held.{is_stale}
use Rattle.indexmap.specs.IndexMap.{get}
use Rattle.vrf_words.specs.tree_defs.Keys.{same_flow}
use Rattle.vrf_flows.proofs.StaleLemmas.{put-lists}
use Rattle.vrf_flows.proofs.table.FlowTable.hold.Goals as goal

pub invariant_of-self-2 : goal.invariant_of-self-2
invariant_of-self-2 c =
    put-lists is_stale (get same_flow c.self.inside.held) (get same_flow c.insert.new.self) c.args.flow (Some (record { stale = c.args.stale; kept = None })) c.self.inside.stale
    c.add_if.new.self c.self.invariant (λ q. c.in_ok-insert.ensures.updates.0 q)
    c.add_if.ensures.added c.add_if.ensures.kept
