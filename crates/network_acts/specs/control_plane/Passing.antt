-- Acts by which nothing is put: time passes, a cost changes, a session is lost, a node begins anew.
use Rattle.std.specs.Prelude.{◌≡◌, List, [], Some, true}
use Rattle.network_defs.specs.session_defs.Octets.{OctetAct, OctetNetwork, octet_run}
use Rattle.network_defs.specs.Nodes.{Nodes}
use Rattle.network_defs.specs.System.{NodeCall, system}
use Rattle.network_acts.specs.control_plane.Acted.{Standing}
use Rattle.network_acts.specs.control_plane.Plane.{IsPlane, Moment}
use Rattle.network_acts.specs.control_plane.PlaneView.{PlaneView}

-- The acts of the definitions from the network put nothing, and lead to one that the plane is, at that moment.
pub record Passes (at : Standing) (acts : List (OctetAct NodeCall)) (moment : Moment) (plane : PlaneView) : Type 0 where
  pub network : OctetNetwork Nodes
  pub run : octet_run system at.network acts ≡ Some (record { network = network; puts = [] })
  pub is : IsPlane at.scenario at.cores moment network plane

-- no node has acted on the present costs yet
abbrev pub all_late : Moment → Moment
all_late moment = record moment { late = λ n. true }
