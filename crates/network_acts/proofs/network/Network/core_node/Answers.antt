use Rattle.std.proofs.Common.{◌≡◌, ◌<◌, ◌∙◌, ap, length, subst, sym, true, false}
use Rattle.network_defs.specs.Nodes.{is_edge}
use Rattle.network_acts.specs.Instant.{standing_of}
use Rattle.network_acts.specs.NetworkView.{NetworkView}
use Rattle.network_acts.proofs.PlaneActs.{own_is}
use Rattle.network_acts.proofs.network.Network.core_node.Goals as goal

pub unreachable-requires : goal.unreachable-requires
unreachable-requires c =
    let within = subst (λ (network : NetworkView). c.args.n.0 < length network.scenario.nodes) (sym c.self.view_is) c.requires.within in
    let edge = c.core_node.ensures.none c.in-None.is c.self.inside.scenario c.self.invariant within in
    (let t : true ≡ false = sym edge ∙ (ap (λ (network : NetworkView). is_edge network.scenario c.args.n) c.self.view_is ∙ c.requires.core) in cc)

pub returns : goal.returns
returns c = λ at is. c.in-Some.ensures.is (standing_of at) (own_is _ c.args.self.now c.self.view_is at is).plane
