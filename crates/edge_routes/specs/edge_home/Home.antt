-- An edge of a scenario, and its VRFs.
use Rattle.std.specs.Prelude.{◌≡◌, ℕ, ◌+◌, ◌==◌, ◌&&◌, not, List, [], ◌∷◌, map, refl, if◌then◌else◌}
use Rattle.std.specs.List.{AllByRecursion}
use Rattle.std.specs.Coded.{Coded, code_by, coded×}
use Rattle.mv_base.specs.declared.addr.Addr.TheVariants.{V4}
use Rattle.mv_base.specs.declared.ids.NodeId.{NodeId}
use Rattle.mv_base.specs.contracts.ids.NodeId as nodes
use Rattle.mv_base.specs.core_walks.Core.{Core}
use Rattle.scenario_defs.specs.declared.scenario.Node.{Node}
use Rattle.scenario_defs.specs.declared.scenario.Scenario.{Scenario}
use Rattle.scenario_defs.specs.declared.scenario.Vrf.{Vrf}
use Rattle.scenario_defs.specs.contracts.scenario.Scenario as scenarios
use Rattle.scenario_defs.specs.Rules.{Rules, IsEdge}
use Rattle.edge_defs.specs.Place as places
use Rattle.edge_defs.specs.Place.{EdgePlace, addr_of, own_vrfs}
use Rattle.edge_routes.specs.declared.edge_home.own_vrf.OwnVrf.{OwnVrf}

-- A scenario, and which of its nodes the edge is.
pub record Home : Type 0 where
  pub scenario : Scenario
  pub me : NodeId

abbrev pub home_of : Scenario → NodeId → Home
home_of scenario me = record { scenario = scenario; me = me }

abbrev pub home_code : Coded Home
home_code = code_by (Scenario × NodeId) (coded× scenarios.the_row.coded nodes.the_row.coded)
    (λ h. (h.scenario, h.me)) (λ p. record { scenario = p.0; me = p.1 }) (λ _. refl)

-- the scenario meets its rules, and the node is an edge of it
pub record IsHome (scenario : Scenario) (me : NodeId) : Type 0 where
  pub rules : Rules scenario
  pub edge : IsEdge scenario me

-- its place, by the core that it knows
abbrev pub place_of : Home → Core → EdgePlace
place_of home core = record { scenario = home.scenario; core = core; me = home.me }

-- ---- its VRFs

-- the VRF, in the words of the edge's definitions
abbrev pub as_own : OwnVrf → places.OwnVrf
as_own own = record { id = own.id; vrf = own.local.vrf }

-- of the VRFs, numbered from that one on, those of the edge, each with the edge's address and autonomous system
abbrev pub own_from : List ℕ → ℕ → NodeId → ℕ → List Vrf → List OwnVrf
own_from addr system me number [] = []
own_from addr system me number (vrf ∷ more) =
    if vrf.edge.0 == me.0
    then record { id = record { 0 = number }; local = record { vrf = vrf; addr = addr; system = system } }
    ∷ own_from addr system me (number + 1) more
    else own_from addr system me (number + 1) more

-- the VRF says that address of the edge and that autonomous system
pub record IsOf (address : List ℕ) (autonomous : ℕ) (own : OwnVrf) : Type 0 where
  pub addr : own.local.addr ≡ address
  pub system : own.local.system ≡ autonomous

-- they are the VRFs of the edge, in order, and each says the edge's address and autonomous system
pub record AreOwn (home : Home) (own : List OwnVrf) : Type 0 where
  pub addr : List ℕ
  pub own_addr : addr_of home.scenario home.me ≡ V4 addr
  pub vrfs : (core : Core) → map as_own own ≡ own_vrfs (place_of home core)
  pub say : AllByRecursion (IsOf addr home.scenario.system) own

-- ---- its peers

-- of the nodes, numbered from that one on, the edges besides this one
abbrev pub peers_from : NodeId → ℕ → List Node → List NodeId
peers_from me number [] = []
peers_from me number (node ∷ more) =
    if node.edge && not (number == me.0) then record { 0 = number } ∷ peers_from me (number + 1) more
    else peers_from me (number + 1) more

abbrev pub peers_of : Home → List NodeId
peers_of home = peers_from home.me 0 home.scenario.nodes
