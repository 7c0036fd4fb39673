use Rattle.std.proofs.Common.{◌≡◌, subst, sym, true}
use Rattle.network_defs.specs.Nodes.{is_edge}
use Rattle.network_events.specs.WorldView.{WorldView}
use Rattle.network_events.proofs.LendingLemmas.{edge_lent}
use Rattle.network_events.proofs.world.World.edge.Goals as goal

pub edge-requires : goal.edge-requires
edge-requires c = record { edge = subst (λ (w : WorldView). is_edge w.network.scenario c.args.node ≡ true) (sym c.self.view_is) c.requires.edge }

pub returns : goal.returns
returns c =
    let inside = c.self.inside in
    let view : WorldView = record { network = inside.network; halt = inside.halt } in
    edge_lent view c.args.self.now c.self.view_is c.args.node c.edge.result.now c.edge.ensures
