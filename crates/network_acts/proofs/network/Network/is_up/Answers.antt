use Rattle.std.proofs.Common.{◌∙◌, ap, sym}
use Rattle.network_defs.specs.Counts.{is_end_up}
use Rattle.network_defs.specs.Nodes.{NodeState}
use Rattle.network_acts.specs.control_plane.Acted.{IsWithin}
use Rattle.network_acts.specs.Instant.{standing_of}
use Rattle.network_acts.proofs.PlaneActs.{own_is, some_plane}
use Rattle.network_acts.proofs.network.Network.is_up.Goals as goal

pub node-requires : goal.node-requires
node-requires c = some_plane (IsWithin c.args.n) _ c.args.self.now c.self.view_is c.requires.network

pub returns : goal.returns
returns c = λ at fits is.
    c.is_up.ensures
    ∙ ap (λ (s : NodeState). is_end_up c.args.kind s c.args.peer)
    (sym (c.node.ensures (standing_of at) fits (own_is _ c.args.self.now c.self.view_is at is).plane).keeps)
