use Rattle.std.proofs.Common.{◌≡◌, ◌<◌, length, subst, sym, false}
use Rattle.network_defs.specs.Nodes.{is_edge}
use Rattle.network_events.specs.WorldView.{WorldView}
use Rattle.network_events.proofs.LendingLemmas.{core_lent}
use Rattle.network_events.proofs.world.World.core_node.Goals as goal

pub core_node-requires-clause-within : goal.core_node-requires-clause-within
core_node-requires-clause-within c = subst (λ (w : WorldView). c.args.node.0 < length w.network.scenario.nodes) (sym c.self.view_is) c.requires.within

pub core_node-requires-clause-core : goal.core_node-requires-clause-core
core_node-requires-clause-core c = subst (λ (w : WorldView). is_edge w.network.scenario c.args.node ≡ false) (sym c.self.view_is) c.requires.core

pub returns : goal.returns
returns c =
    let inside = c.self.inside in
    let view : WorldView = record { network = inside.network; halt = inside.halt } in
    core_lent view c.args.self.now c.self.view_is c.args.node c.core_node.result.now c.core_node.ensures
