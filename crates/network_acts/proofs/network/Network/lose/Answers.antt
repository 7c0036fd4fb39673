use Rattle.std.proofs.Common.{refl, subst, sym, [], ◌∷◌}
use Rattle.network_defs.specs.session_defs.Octets as octets
use Rattle.network_defs.specs.Acts as acts
use Rattle.network_acts.specs.control_plane.Acted.{IsIn}
use Rattle.network_acts.specs.control_plane.Plane.{ArePlaced}
use Rattle.network_acts.specs.control_plane.PlaneView.{PlaneView}
use Rattle.network_acts.specs.Instant.{standing_of}
use Rattle.network_acts.proofs.PlaneActs.{passes}
use Rattle.network_acts.proofs.control_plane.NetworkLemmas.{lost}
use Rattle.network_acts.proofs.network.Network.lose.Goals as goal

pub returns : goal.returns
returns c = λ at is.
    passes _ c.args.self.now c.self.view_is _ at at.moment (acts.Lose c.args.kind c.args.a c.args.b) c.args.a
    (octets.Lose (acts.is_of_session c.args.kind c.args.a c.args.b) ∷ []) refl is
    (λ own. lost (standing_of at) _ (subst (IsIn (standing_of at)) (sym c.plane.view_is) own) c.args.kind c.args.a c.args.b
    c.lose.new.self c.lose.ensures)

pub invariant_of-self : goal.invariant_of-self
invariant_of-self c = subst (λ (p : PlaneView). ArePlaced c.self.inside.scenario p.nodes) (sym c.plane.view_is) c.self.invariant
