use Rattle.std.proofs.Common.{◌∙◌, subst, sym}
use Rattle.network_defs.specs.Counts.{direction}
use Rattle.network_acts.specs.control_plane.Acted.{IsIn}
use Rattle.network_acts.specs.Instant.{standing_of}
use Rattle.network_acts.proofs.PlaneActs.{own_is}
use Rattle.network_acts.proofs.network.Network.is_joined.Goals as goal

pub returns : goal.returns
returns c = λ at is.
    c.is_joined.ensures
    ∙ sym ((subst (IsIn (standing_of at)) (sym c.plane.view_is) (own_is _ c.args.self.now c.self.view_is at is).plane).around.joined
    (direction c.args.kind c.args.a c.args.b))
