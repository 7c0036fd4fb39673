-- What a VRF keeps of its routes, and which of them it chooses.
use Rattle.std.specs.Prelude.{◌≡◌, ℕ, ◌<◌, ◌≤◌, ◌==◌, ◌&&◌, Bool, true, false, not, List, [], ◌∷◌}
use Rattle.std.specs.Prelude.{◌++◌, map, refl, Option, None, Some, if◌then◌else◌, slice_index_or}
use Rattle.std.specs.List.{filter}
use Rattle.std.specs.BTreeMap.{is_at}
use Rattle.std.specs.Coded.{Coded, code_by, coded×}
use Rattle.std.specs.FinMap as maps
use Rattle.std.specs.FinMap.{FinMap}
use Rattle.std.specs.Map.{lookup}
use Rattle.std.specs.Ordering.{nat_cmp, is_lt, ordering_then}
use Rattle.std.specs.declared.cmp.Ordering.{Ordering}
use Rattle.mv_base.specs.Prefix.{covers}
use Rattle.mv_base.specs.declared.addr.Addr.{Addr}
use Rattle.mv_base.specs.declared.ids.NodeId.{NodeId}
use Rattle.mv_base.specs.declared.ids.SiteId.{SiteId}
use Rattle.mv_base.specs.contracts.ids.SiteId as sites
use Rattle.mv_base.specs.declared.prefix.Prefix.{Prefix}
use Rattle.mv_base.specs.declared.rd.Rd.{Rd}
use Rattle.mv_base.specs.declared.rd.Rule.{Rule}
use Rattle.mv_base.specs.declared.rd.Rule.TheVariants.{Highest, Nearest, Hash}
use Rattle.mv_base.specs.contracts.rd.Rule as rules
use Rattle.mv_base.specs.core_walks.Topology.{Topology}
use Rattle.mv_base.specs.core_walks.Walks.{IsLeast}
use Rattle.choice_defs.specs.declared.known_route.KnownRoute.{KnownRoute}
use Rattle.choice_defs.specs.declared.origin.Origin.{Origin}
use Rattle.choice_defs.specs.declared.origin.Origin.TheVariants.{Local, Remote}
use Rattle.choice_defs.specs.Choice.{addr_cmp, rd_cmp, cost_unless}
use Rattle.umh_select.specs.declared.candidate.Candidate.{Candidate}
use Rattle.umh_select.specs.declared.key.Place.{Place}
use Rattle.umh_select.specs.declared.key.Place.TheVariants.{Here, From}
use Rattle.umh_select.specs.declared.key.RouteKey.{RouteKey}
use Rattle.umh_select.specs.declared.route.Choice.{Choice}
use Rattle.umh_select.specs.declared.route.Choice.TheVariants as choices
use Rattle.umh_select.specs.declared.route.Held.{Held}
use Rattle.umh_select.specs.declared.route.Learned.{Learned}
use Rattle.umh_select.specs.contracts.route.Held as helds
use Rattle.umh_select.specs.contracts.key.RouteKey as keys
use Rattle.umh_select.specs.Order.{key_cmp}

-- the routes that were learned, by prefix, peer and route distinguisher, and the prefixes that are attached, with their sites
pub record Routes : Type 0 where
  pub rule : Rule
  pub learned : FinMap key_cmp Held
  pub attached : FinMap key_cmp SiteId

abbrev pub routes_code : Coded Routes
routes_code =
    code_by (Rule × (FinMap key_cmp Held × FinMap key_cmp SiteId))
    (coded× rules.the_row.coded
    (coded× (maps.code keys.the_row.coded helds.the_row.coded) (maps.code keys.the_row.coded sites.the_row.coded)))
    (λ r. (r.rule, (r.learned, r.attached))) (λ p. record { rule = p.0; learned = p.1.0; attached = p.1.1 }) (λ _. refl)

-- the key of a route from a peer
abbrev pub key_from : NodeId → Rd → Prefix → RouteKey
key_from peer rd prefix = record { prefix = prefix; place = From peer rd }

-- the key of an attached prefix
abbrev pub key_here : Prefix → RouteKey
key_here prefix = record { prefix = prefix; place = Here }

-- what is kept of a learned route
abbrev pub held_of : Learned → Held
held_of route = record { import = route.import; source_as = route.source_as }

-- the peer of a route
abbrev pub peer_of : Place → NodeId
peer_of (From peer rd) = peer
peer_of other = record { 0 = 0 }

abbrev pub rd_of : Place → Rd
rd_of (From peer rd) = rd
rd_of other = record { 0 = 0 ∷ 0 ∷ 0 ∷ 0 ∷ 0 ∷ 0 ∷ 0 ∷ 0 ∷ [] }

abbrev pub is_from : NodeId → Place → Bool
is_from peer (From other rd) = other.0 == peer.0
is_from peer other = false

-- the routes of all other peers
abbrev pub without_peer : NodeId → FinMap key_cmp Held → FinMap key_cmp Held
without_peer peer learned = maps.from_sorted (filter (λ (entry : RouteKey × Held). not (is_from peer entry.0.place)) (maps.entries learned))

-- ---- the routes that a VRF knows

abbrev pub known_here : RouteKey × SiteId → KnownRoute
known_here entry = record { prefix = entry.0.prefix; origin = Local entry.1 }

abbrev pub known_from : RouteKey × Held → KnownRoute
known_from entry = record { prefix = entry.0.prefix; origin = Remote (peer_of entry.0.place) entry.1.import.0 (rd_of entry.0.place) }

-- its attached prefixes and the routes that it learned
abbrev pub known : Routes → List KnownRoute
known routes = map known_here (maps.entries routes.attached) ++ map known_from (maps.entries routes.learned)

-- ---- what is chosen

-- from an edge, with what the route says
abbrev pub remote_choice : NodeId → Rd → Option Held → Choice
remote_choice edge rd None = choices.None
remote_choice edge rd (Some held) = choices.Remote edge rd held.import held.source_as

-- the choice that a known route is, with what was learned with it
abbrev pub choice_by : FinMap key_cmp Held → Prefix → Origin → Choice
choice_by learned prefix (Local site) = choices.Local site
choice_by learned prefix (Remote edge address rd) = remote_choice edge rd (maps.get learned (key_from edge rd prefix))

abbrev pub chosen : FinMap key_cmp Held → Option KnownRoute → Choice
chosen learned None = choices.None
chosen learned (Some route) = choice_by learned route.prefix route.origin

-- the origin that the choice names
abbrev pub origin_of : Choice → Option Origin
origin_of choices.None = None
origin_of (choices.Local site) = Some (Local site)
origin_of (choices.Remote edge rd import source_as) = Some (Remote edge import.0 rd)

-- whether it is a choice
abbrev pub is_found : Choice → Bool
is_found choices.None = false
is_found (choices.Local site) = true
is_found (choices.Remote edge rd import source_as) = true

-- The costs are those of the least walks from a node.
abbrev pub AreCosts : Topology → NodeId → (NodeId → ℕ) → Type 0
AreCosts core me cost = (node : NodeId) → node.0 < core.nodes → IsLeast core.links me.0 node.0 (cost node)

-- Each learned route is from a node of the core.
abbrev pub AreOfCore : ℕ → FinMap key_cmp Held → Type 0
AreOfCore nodes learned = (key : RouteKey) (held : Held) → maps.get learned key ≡ Some held → (peer_of key.place).0 < nodes

-- the same of a list of routes
abbrev pub AreFromNodes : ℕ → List (RouteKey × Held) → Type 0
AreFromNodes nodes [] = Unit {0}
AreFromNodes nodes (entry ∷ more) = ((peer_of entry.0.place).0 < nodes) × AreFromNodes nodes more

-- ---- how it is found

-- the routes whose prefixes are of the length and cover the source
abbrev pub at_length : {X : Type 0} → Addr → ℕ → List (RouteKey × X) → List (RouteKey × X)
at_length {X = X} source bits entries =
    filter (λ (entry : RouteKey × X). covers entry.0.prefix source && entry.0.prefix.bits == bits) entries

-- no prefix of the length covers the source
abbrev pub IsNoneAt : Routes → Addr → ℕ → Type 0
IsNoneAt routes source bits = (at_length source bits (maps.entries routes.attached) ≡ [])
    × (at_length source bits (maps.entries routes.learned) ≡ [])

abbrev pub first_site : List (RouteKey × SiteId) → Option SiteId
first_site [] = None
first_site (entry ∷ more) = Some entry.1

-- what the rule compares first: nothing, the cost, or whether the edge is the one that is named
abbrev pub measure : Rule → (NodeId → ℕ) → Option NodeId → NodeId → ℕ
measure Highest cost named peer = 0
measure Nearest cost named peer = cost peer
measure Hash cost named peer = cost_unless named peer

-- the edge that is named, where the rule is the hash
abbrev pub named_by : Rule → Option NodeId → Option NodeId
named_by Highest named = None
named_by Nearest named = None
named_by Hash named = named

abbrev pub candidate_of : (NodeId → ℕ) → RouteKey × Held → Candidate
candidate_of cost entry = record { key = entry.0; held = entry.1; measure = cost (peer_of entry.0.place) }

-- the order of two candidates, the better first
abbrev pub candidate_cmp : Candidate → Candidate → Ordering
candidate_cmp one other =
    ordering_then (nat_cmp one.measure other.measure)
    (ordering_then (addr_cmp other.held.import.0 one.held.import.0) (rd_cmp (rd_of one.key.place) (rd_of other.key.place)))

-- the better one, and of two that are alike the first
abbrev pub better : Option Candidate → Candidate → Candidate
better None next = next
better (Some best) next = if is_lt (candidate_cmp next best) then next else best

abbrev pub best_of : Option Candidate → List Candidate → Option Candidate
best_of best [] = best
best_of best (next ∷ more) = best_of (Some (better best next)) more

abbrev pub choice_of : Option Candidate → Choice
choice_of None = choices.None
choice_of (Some best) = choices.Remote (peer_of best.key.place) (rd_of best.key.place) best.held.import best.held.source_as

-- the routes that the VRF knows of that length and that cover the source
abbrev pub known_at : Routes → Addr → ℕ → List KnownRoute
known_at routes source bits =
    map known_here (at_length source bits (maps.entries routes.attached))
    ++ map known_from (at_length source bits (maps.entries routes.learned))

-- ---- what is true of the tables

-- whether it is the place of a learned route, or of an attached prefix
abbrev pub is_learned_place : Place → Bool
is_learned_place (From peer rd) = true
is_learned_place other = false

abbrev pub is_attached_place : Place → Bool
is_attached_place Here = true
is_attached_place other = false

-- No key is there of another kind of place, or of a length that isn't marked.
pub record IsIndexed {X : Type 0} (is_place : Place → Bool) (lengths : List Bool) (entries : List (RouteKey × X)) : Type 0 where
  pub placed : (key : RouteKey) → is_place key.place ≡ false → lookup (is_at (key_cmp key)) entries ≡ None
  pub marked : (key : RouteKey) → slice_index_or lengths key.prefix.bits false ≡ false → lookup (is_at (key_cmp key)) entries ≡ None

-- No length from the bound on is marked, and the bound is one of 256 lengths at most.
pub record AreBelow (bound : ℕ) (lengths : List Bool) : Type 0 where
  pub small : bound ≤ 256
  pub none : (bits : ℕ) → bound ≤ bits → slice_index_or lengths bits false ≡ false
