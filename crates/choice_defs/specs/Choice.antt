-- The upstream choice of a VRF for a source and group, over all routes that it knows (RFC 6513 section 5.1).
use Rattle.std.specs.Prelude.{◌≡◌, ℕ, ◌<◌, ◌≤◌, ◌%◌, max, ◌==◌, ◌&&◌, ◌⊎◌, ◌↔◌, ⊤, Bool, true, false, List, [], ◌∷◌}
use Rattle.std.specs.Prelude.{◌++◌, length, fold, slice_get, bit_xor, Option, None, Some, option_map, if◌then◌else◌}
use Rattle.std.specs.Ordering.{nat_cmp, is_lt, ordering_then}
use Rattle.std.specs.declared.cmp.Ordering.{Ordering}
use Rattle.std.specs.declared.cmp.Ordering.TheVariants.{Less, Equal, Greater}
use Rattle.std.specs.Cmp.Lexicographic.{slice_cmp}
pub use Rattle.scenario_defs.specs.mv_base.Lists.{Among}
use Rattle.scenario_defs.specs.mv_base.Address.{addr_octets}
pub use Rattle.scenario_defs.specs.mv_base.Address.{addr_key}
use Rattle.scenario_defs.specs.mv_base.Prefix.{covers, same_front}
use Rattle.scenario_defs.specs.mv_base.declared.addr.Addr.{Addr}
use Rattle.scenario_defs.specs.mv_base.declared.addr.Addr.TheVariants.{V4, V6}
use Rattle.scenario_defs.specs.mv_base.declared.ids.NodeId.{NodeId}
use Rattle.scenario_defs.specs.mv_base.declared.ids.SiteId.{SiteId}
use Rattle.scenario_defs.specs.mv_base.declared.prefix.Prefix.{Prefix}
use Rattle.scenario_defs.specs.mv_base.declared.rd.Rd.{Rd}
use Rattle.scenario_defs.specs.mv_base.declared.rd.Rule.{Rule}
use Rattle.scenario_defs.specs.mv_base.declared.rd.Rule.TheVariants.{Highest, Nearest, Hash}
use Rattle.scenario_defs.specs.declared.scenario.Route.{Route}
use Rattle.choice_defs.specs.declared.known_route.KnownRoute.{KnownRoute}
use Rattle.choice_defs.specs.declared.origin.Origin.{Origin}
use Rattle.choice_defs.specs.declared.origin.Origin.TheVariants.{Local, Remote}

-- ---- addresses and route distinguishers

abbrev pub addr_cmp : Addr → Addr → Ordering
addr_cmp a b = slice_cmp nat_cmp (addr_key a) (addr_key b)

abbrev pub rd_cmp : Rd → Rd → Ordering
rd_cmp a b = slice_cmp nat_cmp a.0 b.0

-- the first address is lower
abbrev pub IsLower : Addr → Addr → Type 0
IsLower a b = addr_cmp a b ≡ Less

-- the first route distinguisher is less
abbrev pub IsLess : Rd → Rd → Type 0
IsLess a b = rd_cmp a b ≡ Less

-- ---- the edge that the hash names

-- the exclusive or of all octets of a source and a group
abbrev pub hash_of : Addr → Addr → ℕ
hash_of source group = fold bit_xor 0 (addr_octets source ++ addr_octets group)

-- the length of the longest of the routes that cover the source
abbrev pub longest_bits : List KnownRoute → Addr → ℕ
longest_bits [] source = 0
longest_bits (route ∷ more) source = max (if covers route.prefix source then route.prefix.bits else 0) (longest_bits more source)

-- whether the route covers the source and has that length
abbrev pub is_candidate : ℕ → Addr → KnownRoute → Bool
is_candidate bits source route = covers route.prefix source && route.prefix.bits == bits

-- an edge, the first one of others by rising address, how the address of the edge compares with that of the first one, and
-- what becomes of the others after it
abbrev pub put_by : Ordering → NodeId × Addr → NodeId × Addr → List (NodeId × Addr) → List (NodeId × Addr) → List (NodeId × Addr)
put_by Less edge first more put = edge ∷ first ∷ more
put_by Equal edge first more put = first ∷ more
put_by Greater edge first more put = first ∷ put

-- edges by rising address with one more, which is left out where one of its address is among them
abbrev pub put_edge : NodeId × Addr → List (NodeId × Addr) → List (NodeId × Addr)
put_edge edge [] = edge ∷ []
put_edge edge (first ∷ more) = put_by (addr_cmp edge.1 first.1) edge first more (put_edge edge more)

-- with the edge of an origin
abbrev pub put_origin : Origin → List (NodeId × Addr) → List (NodeId × Addr)
put_origin (Local site) edges = edges
put_origin (Remote edge address rd) edges = put_edge (edge, address) edges

-- the edges, by rising address and each once, of the routes that cover the source and have that length
abbrev pub edges_of : ℕ → List KnownRoute → Addr → List (NodeId × Addr)
edges_of bits [] source = []
edges_of bits (route ∷ more) source =
    let edges = edges_of bits more source in
    if is_candidate bits source route then put_origin route.origin edges else edges

-- the edges of the candidates, which are the longest routes that cover the source
abbrev pub candidate_edges : List KnownRoute → Addr → List (NodeId × Addr)
candidate_edges routes source = edges_of (longest_bits routes source) routes source

-- of edges that are counted from 0 on, the one whose number is the hash modulo how many they are
abbrev pub hashed_of : ℕ → List (NodeId × Addr) → Option NodeId
hashed_of hash edges = option_map (λ edge. edge.0) (slice_get edges (hash % length edges))

-- ---- the choice

-- nothing for the edge that is named, and 1 for each other one
abbrev pub cost_unless : Option NodeId → NodeId → ℕ
cost_unless None edge = 1
cost_unless (Some named) edge = if named.0 == edge.0 then 0 else 1

-- What a rule compares before addresses: nothing by Highest, the cost by Nearest, and by Hash whether the edge is the one
-- that source and group name.
abbrev pub cost_by : Rule → (NodeId → ℕ) → List KnownRoute → Addr → Addr → NodeId → ℕ
cost_by Highest cost routes source group edge = 0
cost_by Nearest cost routes source group edge = cost edge
cost_by Hash cost routes source group edge = cost_unless (hashed_of (hash_of source group) (candidate_edges routes source)) edge

-- the order of two edges and route distinguishers, the better first: by the least cost, by the highest address, and by the
-- least route distinguisher
abbrev pub remote_cmp : (NodeId → ℕ) → NodeId → Addr → Rd → NodeId → Addr → Rd → Ordering
remote_cmp cost edge address rd other_edge other_address other_rd =
    ordering_then (nat_cmp (cost edge) (cost other_edge)) (ordering_then (addr_cmp other_address address) (rd_cmp rd other_rd))

-- the order of two origins, the better first: local ones before remote ones
abbrev pub origin_cmp : (NodeId → ℕ) → Origin → Origin → Ordering
origin_cmp cost (Local site) (Local other_site) = Equal
origin_cmp cost (Local site) (Remote other_edge other_address other_rd) = Less
origin_cmp cost (Remote edge address rd) (Local other_site) = Greater
origin_cmp cost (Remote edge address rd) (Remote other_edge other_address other_rd) =
    remote_cmp cost edge address rd other_edge other_address other_rd

-- the order of two routes that cover a source, the better first: longer ones before shorter ones
abbrev pub route_cmp : (NodeId → ℕ) → KnownRoute → KnownRoute → Ordering
route_cmp cost route other = ordering_then (nat_cmp other.prefix.bits route.prefix.bits) (origin_cmp cost route.origin other.origin)

-- whether the first route is better than the second, the cost being that by the rule
abbrev pub is_better : (NodeId → ℕ) → KnownRoute → KnownRoute → Bool
is_better cost route other = is_lt (route_cmp cost route other)

-- the better one of a route, where it covers the source, and of what is best of the others
abbrev pub better_of : (NodeId → ℕ) → Bool → KnownRoute → Option KnownRoute → Option KnownRoute
better_of cost false route rest = rest
better_of cost true route None = Some route
better_of cost true route (Some other) = if is_better cost other route then Some other else Some route

-- the best one of the routes that cover the source
abbrev pub best_route : (NodeId → ℕ) → List KnownRoute → Addr → Option KnownRoute
best_route cost [] source = None
best_route cost (route ∷ more) source = better_of cost (covers route.prefix source) route (best_route cost more source)

-- The upstream choice of a VRF for a source and a group, over the routes that it knows. The cost is the least cost in the
-- core from this edge to each node.
abbrev pub choose : Rule → (NodeId → ℕ) → List KnownRoute → Addr → Addr → Option Origin
choose rule cost routes source group = option_map (λ route. route.origin) (best_route (cost_by rule cost routes source group) routes source)

-- ---- what it means

-- The route is a candidate: it covers the source, and no route that covers it is longer.
pub record IsCandidate (routes : List KnownRoute) (source : Addr) (route : KnownRoute) : Type 0 where
  pub among : Among route routes
  pub covering : covers route.prefix source ≡ true
  pub longest : (other : KnownRoute) → Among other routes → covers other.prefix source ≡ true → other.prefix.bits ≤ route.prefix.bits

-- An edge of that address is the origin of a candidate.
pub record IsEdgeOfCandidate (routes : List KnownRoute) (source address : Addr) : Type 0 where
  pub route : KnownRoute
  pub edge : NodeId
  pub rd : Rd
  pub candidate : IsCandidate routes source route
  pub of_edge : route.origin ≡ Remote edge address rd

-- Each address is lower than all after it.
abbrev pub AreRising : List Addr → Type 0
AreRising [] = ⊤
AreRising (address ∷ more) = ((other : Addr) → Among other more → IsLower address other) × AreRising more

-- The hash names the edge of that address: of the addresses of the edges of the candidates, counted from 0 by rising address,
-- it is the one whose number is the exclusive or of all octets of source and group modulo how many there are.
pub record IsHashed (routes : List KnownRoute) (source group address : Addr) : Type 0 where
  pub addresses : List Addr
  pub rising : AreRising addresses
  pub each : (other : Addr) → Among other addresses ↔ IsEdgeOfCandidate routes source other
  pub named : slice_get addresses (hash_of source group % length addresses) ≡ Some address

-- The first edge has the higher address, or both are one edge and the second route distinguisher is not less.
abbrev pub IsHigher : NodeId → Addr → Rd → NodeId → Addr → Rd → Type 0
IsHigher edge address rd other_edge other_address other_rd =
    IsLower other_address address ⊎ ((edge ≡ other_edge) × (IsLess other_rd rd → ⊥))

-- The second edge and route distinguisher are no better by the rule: the first edge has the higher address; or it is nearer,
-- or as near and has the higher address; or it is the one that the hash names. Of one edge, the second route distinguisher
-- is not less.
abbrev pub IsFirst : Rule → (NodeId → ℕ) → (Addr → Type 0) → NodeId → Addr → Rd → NodeId → Addr → Rd → Type 0
IsFirst Highest cost Named edge address rd other_edge other_address other_rd = IsHigher edge address rd other_edge other_address other_rd
IsFirst Nearest cost Named edge address rd other_edge other_address other_rd =
    (cost edge < cost other_edge) ⊎ ((cost edge ≡ cost other_edge) × IsHigher edge address rd other_edge other_address other_rd)
IsFirst Hash cost Named edge address rd other_edge other_address other_rd = Named address × (edge ≡ other_edge → IsLess other_rd rd → ⊥)

-- A local origin stands before all others, and a remote one before no local one.
abbrev pub Precedes : Rule → (NodeId → ℕ) → (Addr → Type 0) → Origin → Origin → Type 0
Precedes rule cost Named (Local site) other = ⊤
Precedes rule cost Named (Remote edge address rd) (Local other_site) = ⊥
Precedes rule cost Named (Remote edge address rd) (Remote other_edge other_address other_rd) =
    IsFirst rule cost Named edge address rd other_edge other_address other_rd

-- The VRF chooses the origin: it is that of a candidate. Where it is remote, no candidate is local, and it is the edge that
-- the rule names: by Highest that of the highest address, by Nearest that of the least cost and of those the highest
-- address, and by Hash the one that the hash of source and group names; of its routes, the least route distinguisher.
pub record IsChosen (rule : Rule) (cost : NodeId → ℕ) (routes : List KnownRoute) (source group : Addr) (origin : Origin) : Type 0 where
  pub route : KnownRoute
  pub candidate : IsCandidate routes source route
  pub of_origin : route.origin ≡ origin
  pub first : (other : KnownRoute) → IsCandidate routes source other
      → Precedes rule cost (IsHashed routes source group) route.origin other.origin

-- No route covers the source.
abbrev pub IsUncovered : List KnownRoute → Addr → Type 0
IsUncovered routes source = (route : KnownRoute) → Among route routes → covers route.prefix source ≡ false

-- ---- what a VRF knows

-- a local route, as one that the VRF knows
abbrev pub of_site : Route → KnownRoute
of_site route = record { prefix = route.prefix; origin = Local route.site }

-- Remote origins of one edge have one address, and those of two edges have different ones.
abbrev pub AreTold : Origin → Origin → Type 0
AreTold origin other = (edge other_edge : NodeId) (address other_address : Addr) (rd other_rd : Rd)
    → origin ≡ Remote edge address rd → other ≡ Remote other_edge other_address other_rd → (edge ≡ other_edge) ↔ (address ≡ other_address)

-- An edge has one address, and two edges have different ones.
abbrev pub AreOfEdges : List KnownRoute → Type 0
AreOfEdges routes = (route other : KnownRoute) → Among route routes → Among other routes → AreTold route.origin other.origin

-- Both are one prefix: of one length, and of the same first bits.
abbrev pub IsOnePrefix : Prefix → Prefix → Type 0
IsOnePrefix a b = (a.bits ≡ b.bits) × (same_front a.addr b.addr a.bits ≡ true)

-- Local routes of one prefix are of one site.
abbrev pub AreOfSites : List KnownRoute → Type 0
AreOfSites routes = (route other : KnownRoute) (site other_site : SiteId) → Among route routes → Among other routes
    → IsOnePrefix route.prefix other.prefix → route.origin ≡ Local site → other.origin ≡ Local other_site → site ≡ other_site

-- Each route is local.
abbrev pub AreLocal : List KnownRoute → Type 0
AreLocal routes = (route : KnownRoute) → Among route routes → (site : SiteId) × (route.origin ≡ Local site)

-- The origin is the site of a route that covers the source, and no route that covers it is longer.
pub record IsSiteOfLongest (routes : List KnownRoute) (source : Addr) (origin : Origin) : Type 0 where
  pub site : SiteId
  pub route : KnownRoute
  pub is_site : origin ≡ Local site
  pub among : Among route routes
  pub covering : covers route.prefix source ≡ true
  pub of_site : route.origin ≡ Local site
  pub longest : (other : KnownRoute) → Among other routes → covers other.prefix source ≡ true → other.prefix.bits ≤ route.prefix.bits
