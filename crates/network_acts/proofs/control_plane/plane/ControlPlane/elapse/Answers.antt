use Rattle.std.proofs.Common.{◌+◌, ◌<◌, subst, sym, refl}
use Rattle.network_acts.specs.control_plane.Acted.{IsIn}
use Rattle.network_acts.specs.control_plane.PlaneView.{PlaneView}
use Rattle.network_acts.proofs.control_plane.NetworkLemmas.{elapsed}
use Rattle.network_acts.proofs.control_plane.PlaceLemmas.{same_places}
use Rattle.network_acts.proofs.control_plane.plane.ControlPlane.elapse.Goals as goal

pub returns-clause-acts : goal.returns-clause-acts
returns-clause-acts c = λ at is.
    elapsed at _ (subst (IsIn at) (sym c.self.view_is) is) c.args.ticks
    (subst (λ (p : PlaneView). p.clock + c.args.ticks < 9223372036854775808) (sym c.self.view_is) c.requires.small)

pub returns-clause-places : goal.returns-clause-places
returns-clause-places c = same_places _ c.args.self.now c.self.view_is _ refl
