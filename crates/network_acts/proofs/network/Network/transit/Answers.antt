use Rattle.std.proofs.Common.{◌∙◌, ℕ, List, ap, length, subst, sym}
use Rattle.network_acts.specs.control_plane.Acted.{IsIn}
use Rattle.network_acts.specs.Instant.{standing_of}
use Rattle.network_acts.proofs.PlaneActs.{own_is}
use Rattle.network_acts.proofs.network.Network.transit.Goals as goal

pub returns : goal.returns
returns c = λ at is.
    c.waiting.ensures
    ∙ ap (λ (octets : List ℕ). length octets)
    (sym ((subst (IsIn (standing_of at)) (sym c.plane.view_is) (own_is _ c.args.self.now c.self.view_is at is).plane).transit c.args.over))
