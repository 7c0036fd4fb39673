use Rattle.std.proofs.Common.{◌≡◌, ◌∙◌, ap, sym, true, false}
use Rattle.network_defs.specs.Nodes.{is_edge}
use Rattle.network_acts.specs.Instant.{standing_of}
use Rattle.network_acts.specs.NetworkView.{NetworkView}
use Rattle.network_acts.proofs.PlaneActs.{own_is}
use Rattle.network_acts.proofs.network.Network.edge.Goals as goal

pub unreachable-requires : goal.unreachable-requires
unreachable-requires c =
    let none = c.edge.ensures.none c.in-None.is c.self.inside.scenario c.self.invariant in
    (let t : true ≡ false = sym c.requires.edge ∙ (ap (λ (network : NetworkView). is_edge network.scenario c.args.n) (sym c.self.view_is) ∙ none) in
    cc)

pub returns : goal.returns
returns c = λ at is. c.in-Some.ensures.is (standing_of at) (own_is _ c.args.self.now c.self.view_is at is).plane
