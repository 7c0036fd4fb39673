-- What a VRF chooses over all that its edge knows.
use Rattle.std.specs.Prelude.{◌≡◌, Some}
use Rattle.mv_base.specs.declared.addr.Addr.{Addr}
use Rattle.choice_defs.specs.Choice.{AreOfEdges, AreOfSites, IsChosen}
use Rattle.choice_defs.specs.declared.origin.Origin.{Origin}
use Rattle.edge_defs.specs.Edge.{Control, Upstream}
use Rattle.edge_defs.specs.Place.{EdgePlace, OwnVrf}
use Rattle.edge_defs.specs.Upstream.{known_routes, upstream_for}
use Rattle.edge_words.specs.Known.{Says}

-- Each edge that the routes name has an address of its own, and a prefix has one local site at most, so at most one origin is chosen by a
-- rule (`one_choice` of `choice_defs`); and the upstream of the VRF for a source and group says the one that is chosen by the VRF's rule
-- and the core that its edge knows.
pub record ChoosesByTheRule (place : EdgePlace) (control : Control) (own : OwnVrf) : Type 0 where
  pub edges : AreOfEdges (known_routes place control own)
  pub sites : AreOfSites (known_routes place control own)
  pub chosen : (source group : Addr) (upstream : Upstream) → upstream_for place control own source group ≡ Some upstream
      → (origin : Origin) × IsChosen own.vrf.rule (place.core.cost place.me) (known_routes place control own) source group origin
      × Says origin upstream
