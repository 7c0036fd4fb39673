use Rattle.std.proofs.Common.{refl, subst, sym, [], ◌∷◌}
use Rattle.std.proofs.lemmas.Result.{on_ok_weaker}
use Rattle.network_defs.specs.session_defs.Octets as octets
use Rattle.network_defs.specs.Acts as acts
use Rattle.network_defs.specs.System.{Price}
use Rattle.network_acts.specs.control_plane.Passing.{all_late}
use Rattle.network_acts.specs.control_plane.Plane.{ArePlaced}
use Rattle.network_acts.specs.control_plane.PlaneView.{PlaneView}
use Rattle.network_acts.specs.Instant.{Any, standing_of}
use Rattle.network_acts.proofs.PlaneActs.{passes_as}
use Rattle.network_acts.proofs.control_plane.NetworkLemmas.{sets_cost}
use Rattle.network_acts.proofs.network.Network.set_cost.Goals as goal

pub returns : goal.returns
returns c =
    passes_as _ c.args.self.now c.self.view_is _ Any all_late (acts.SetCost c.args.a c.args.b c.args.cost) c.args.a
    (octets.Call (Price c.args.a c.args.b c.args.cost) ∷ []) c.set_cost.result (λ at. refl)
    (on_ok_weaker c.set_cost.result (λ each at is. each (standing_of at))
    (sets_cost _ c.self.inside.plane c.plane.view_is c.args.a c.args.b c.args.cost c.set_cost.new.self c.set_cost.result c.requires.cost
    c.set_cost.ensures.set))

pub invariant_of-self : goal.invariant_of-self
invariant_of-self c = subst (λ (p : PlaneView). ArePlaced c.self.inside.scenario p.nodes) (sym c.plane.view_is) c.self.invariant
