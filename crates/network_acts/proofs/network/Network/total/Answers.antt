use Rattle.std.proofs.Common.{◌∙◌, subst, sym}
use Rattle.network_acts.specs.control_plane.Acted.{IsIn}
use Rattle.network_acts.specs.Instant.{standing_of}
use Rattle.network_acts.proofs.PlaneActs.{own_is}
use Rattle.network_acts.proofs.control_plane.TotalLemmas.{in_transit}
use Rattle.network_acts.proofs.network.Network.total.Goals as goal

pub returns : goal.returns
returns c = λ at is.
    c.total.ensures
    ∙ in_transit (standing_of at) _ (subst (IsIn (standing_of at)) (sym c.plane.view_is) (own_is _ c.args.self.now c.self.view_is at is).plane)
