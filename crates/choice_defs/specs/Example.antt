-- A VRF that knows a short local route to a source, and longer ones of two edges.
use Rattle.std.specs.Prelude.{◌≡◌, ℕ, List, [], ◌∷◌, Some}
use Rattle.scenario_defs.specs.mv_base.declared.addr.Addr.{Addr}
use Rattle.scenario_defs.specs.mv_base.declared.addr.Addr.TheVariants.{V4}
use Rattle.scenario_defs.specs.mv_base.declared.ids.NodeId.{NodeId}
use Rattle.scenario_defs.specs.mv_base.declared.prefix.Prefix.{Prefix}
use Rattle.scenario_defs.specs.mv_base.declared.rd.Rd.{Rd}
use Rattle.scenario_defs.specs.mv_base.declared.rd.Rule.TheVariants.{Highest, Nearest, Hash}
use Rattle.choice_defs.specs.declared.known_route.KnownRoute.{KnownRoute}
use Rattle.choice_defs.specs.declared.origin.Origin.{Origin}
use Rattle.choice_defs.specs.declared.origin.Origin.TheVariants.{Local, Remote}
use Rattle.choice_defs.specs.Choice.{hash_of, choose, AreOfEdges, AreOfSites}

abbrev pub source : Addr
source = V4 (10 ∷ 1 ∷ 0 ∷ 9 ∷ [])

-- 232.1.1.1 and 232.1.1.2
abbrev pub group : Addr
group = V4 (232 ∷ 1 ∷ 1 ∷ 1 ∷ [])

abbrev pub other_group : Addr
other_group = V4 (232 ∷ 1 ∷ 1 ∷ 2 ∷ [])

-- 10.0.0.0/8 and 10.1.0.0/16
abbrev pub short : Prefix
short = record { addr = V4 (10 ∷ 0 ∷ 0 ∷ 0 ∷ []); bits = 8 }

abbrev pub long : Prefix
long = record { addr = V4 (10 ∷ 1 ∷ 0 ∷ 0 ∷ []); bits = 16 }

abbrev pub near_address : Addr
near_address = V4 (192 ∷ 0 ∷ 2 ∷ 1 ∷ [])

abbrev pub far_address : Addr
far_address = V4 (192 ∷ 0 ∷ 2 ∷ 2 ∷ [])

abbrev pub own_rd : Rd
own_rd = record { 0 = 0 ∷ 0 ∷ 253 ∷ 232 ∷ 0 ∷ 0 ∷ 0 ∷ 1 ∷ [] }

abbrev pub here : Origin
here = Local (record { 0 = 0 })

abbrev pub near : Origin
near = Remote (record { 0 = 1 }) near_address own_rd

abbrev pub far : Origin
far = Remote (record { 0 = 2 }) far_address own_rd

-- the number of a node is its cost
abbrev pub cost : NodeId → ℕ
cost node = node.0

abbrev pub local_route : KnownRoute
local_route = record { prefix = short; origin = here }

abbrev pub near_route : KnownRoute
near_route = record { prefix = long; origin = near }

abbrev pub far_route : KnownRoute
far_route = record { prefix = long; origin = far }

abbrev pub routes : List KnownRoute
routes = local_route ∷ near_route ∷ far_route ∷ []

-- The routes are of edges and of sites. The edge of the higher address is chosen by Highest, and the nearer one by Nearest. By
-- Hash the edges are counted from 0 by rising address: the exclusive or of all octets of source and group is 235, which is 1
-- modulo 2, and with the other group 232, which is 0. A longer route of another edge counts before a shorter local one.
pub record Worked : Type 0 where
  pub edges : AreOfEdges routes
  pub sites : AreOfSites routes
  pub highest : choose Highest cost routes source group ≡ Some far
  pub nearest : choose Nearest cost routes source group ≡ Some near
  pub number : hash_of source group ≡ 235
  pub hashed : choose Hash cost routes source group ≡ Some far
  pub other_number : hash_of source other_group ≡ 232
  pub other_hashed : choose Hash cost routes source other_group ≡ Some near
  pub alone : choose Nearest cost (local_route ∷ []) source group ≡ Some here
