use Rattle.std.specs.FinMap as maps
use Rattle.std.proofs.Common.{◌∙◌, ap, sym}
use Rattle.network_defs.specs.Nodes.{NodeState}
use Rattle.network_defs.specs.Refusals.{control_of}
use Rattle.network_acts.specs.control_plane.Customers.{IsVrfEdge}
use Rattle.network_acts.specs.Instant.{standing_of}
use Rattle.network_acts.proofs.PlaneActs.{own_is, some_plane}
use Rattle.network_acts.proofs.control_plane.CustomerLemmas.{own_vrf}
use Rattle.network_acts.proofs.network.Network.is_selected.Goals as goal

pub node-requires : goal.node-requires
node-requires c =
    let some = some_plane (IsVrfEdge c.args.n c.args.vrf) _ c.args.self.now c.self.view_is c.requires.network in
    (some.0, some.1.node.within, some.2)

pub is_selected-requires : goal.is_selected-requires
is_selected-requires c = record {
  own = own_vrf c.args.n c.args.vrf c.self.inside.plane c.node.result.now
      (some_plane (IsVrfEdge c.args.n c.args.vrf) _ c.args.self.now c.self.view_is c.requires.network) c.node.ensures;
}

pub returns : goal.returns
returns c = λ at own is.
    c.is_selected.ensures
    ∙ ap (λ (s : NodeState). maps.contains_key (control_of s).selections (record { vrf = c.args.vrf; pattern = c.args.pattern }))
    (sym (c.node.ensures (standing_of at) own.node.within (own_is _ c.args.self.now c.self.view_is at is).plane).keeps)
