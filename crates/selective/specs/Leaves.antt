-- What an egress keeps of the selective routes that it has learned.
use Rattle.std.specs.Prelude.{◌≡◌, ℕ, ◌≤◌, ◌==◌, ◌&&◌, ◌||◌, Bool, false, not, List, [], ◌∷◌, ◌++◌, map, refl, None, Some, if◌then◌else◌}
use Rattle.std.specs.List.{filter, list_any}
use Rattle.std.specs.Coded.{Coded, code_by, coded×, coded_ℕ}
use Rattle.std.specs.FinMap as maps
use Rattle.std.specs.FinMap.{FinMap}
use Rattle.std.specs.Ordering.{nat_cmp}
use Rattle.std.specs.Cmp.Lexicographic.{slice_cmp}
use Rattle.std.specs.declared.cmp.Ordering.TheVariants.{Less}
use Rattle.mv_base.specs.Pattern.{rank}
use Rattle.mv_base.specs.declared.addr.Addr.{Addr}
use Rattle.mv_base.specs.declared.ids.NodeId.{NodeId}
use Rattle.mv_base.specs.declared.pattern.Pattern.{Pattern}
use Rattle.mv_base.specs.declared.rd.Rd.{Rd}
use Rattle.selective_defs.specs.mldp.declared.mldp_fec.fec.Fec.{Fec}
use Rattle.selective_defs.specs.Selective.{Among}
use Rattle.selective_defs.specs.declared.learned_route.LearnedRoute.{LearnedRoute}
use Rattle.selective.specs.declared.route_key.Learned.{Learned}
use Rattle.selective.specs.contracts.route_key.Learned as learned
use Rattle.selective.specs.declared.route_key.Place.TheVariants.{Of}
use Rattle.selective.specs.declared.route_key.RouteKey.{RouteKey}
use Rattle.selective.specs.contracts.route_key.RouteKey as keys
use Rattle.selective.specs.Delays.{is_due}
use Rattle.selective.specs.Order.{route_cmp, place_part}
use Rattle.selective.specs.Patterns.{same_pattern}

-- the routes that were learned, by peer, pattern and route distinguisher
abbrev pub Routes : Type 0
Routes = FinMap route_cmp Learned

-- those of an egress, and their delay
pub record Leaf : Type 0 where
  pub delay : ℕ
  pub routes : Routes

abbrev pub leaf_code : Coded Leaf
leaf_code =
    code_by (ℕ × Routes) (coded× coded_ℕ (maps.code keys.the_row.coded learned.the_row.coded))
    (λ l. (l.delay, l.routes)) (λ p. record { delay = p.0; routes = p.1 }) (λ _. refl)

-- the key of a route
abbrev pub key_of : NodeId → Rd → Pattern → RouteKey
key_of peer rd pattern = record { peer = peer; pattern = pattern; place = Of rd }

-- a route that is learned at the clock
abbrev pub learned_now : Fec → ℕ → Learned
learned_now fec now = record { fec = fec; since = now; run = false }

abbrev pub is_of_peer : NodeId → RouteKey × Learned → Bool
is_of_peer peer entry = entry.0.peer.0 == peer.0

-- the routes of all other peers
abbrev pub without_peer : NodeId → Routes → Routes
without_peer peer routes = maps.from_sorted (filter (λ entry. not (is_of_peer peer entry)) (maps.entries routes))

-- whether the delay of the route is due, and was not run
abbrev pub is_waiting : ℕ → ℕ → Learned → Bool
is_waiting delay now learned = not learned.run && is_due delay now learned.since

-- the route, with its delay run where that is due
abbrev pub run_due : ℕ → ℕ → Learned → Learned
run_due delay now learned = record learned { run = learned.run || is_due delay now learned.since }

abbrev pub routes_run : ℕ → ℕ → Routes → Routes
routes_run delay now routes =
    maps.from_sorted (map (λ (entry : RouteKey × Learned). (entry.0, run_due delay now entry.1)) (maps.entries routes))

-- the routes of a peer, in their order
abbrev pub peer_entries : NodeId → Routes → List (RouteKey × Learned)
peer_entries peer routes = filter (is_of_peer peer) (maps.entries routes)

abbrev pub learned_route : RouteKey × Learned → LearnedRoute
learned_route entry = record { pattern = entry.0.pattern; fec = entry.1.fec; since = entry.1.since; run = entry.1.run }

abbrev pub peer_routes : NodeId → Routes → List LearnedRoute
peer_routes peer routes = map learned_route (peer_entries peer routes)

-- The one route stands before the other: it is not less specific, and of one pattern it has the lower route distinguisher.
pub record IsBefore (one other : RouteKey × Learned) : Type 0 where
  pub rank : rank other.0.pattern ≤ rank one.0.pattern
  pub rd : one.0.pattern ≡ other.0.pattern → slice_cmp nat_cmp (place_part one.0.place) (place_part other.0.place) ≡ Less

-- each route stands before those after it
abbrev pub InOrder : List (RouteKey × Learned) → Type 0
InOrder [] = Unit {0}
InOrder (entry ∷ more) = ((other : RouteKey × Learned) → Among other more → IsBefore entry other) × InOrder more

-- ---- look-ups

-- the patterns of which the flow is one, the most specific first
abbrev pub patterns_of : Addr → Addr → List Pattern
patterns_of source group =
    record { source = Some source; group = Some group } ∷ record { source = Some source; group = None }
    ∷ record { source = None; group = Some group } ∷ record { source = None; group = None } ∷ []

-- those of the entries that are the peer's routes of the pattern
abbrev pub routes_at : NodeId → Pattern → List (RouteKey × Learned) → List (RouteKey × Learned)
routes_at peer pattern entries =
    filter (λ (entry : RouteKey × Learned). is_of_peer peer entry && same_pattern entry.0.pattern pattern) entries

-- the tunnels of the entries
abbrev pub fecs_of : List (RouteKey × Learned) → List Fec
fecs_of entries = map (λ (entry : RouteKey × Learned). entry.1.fec) entries

-- the tunnels of the peer's routes of the patterns, up to the first pattern with a route whose delay was run
abbrev pub until_run : NodeId → List Pattern → List (RouteKey × Learned) → List Fec
until_run peer [] entries = []
until_run peer (pattern ∷ more) entries =
    fecs_of (routes_at peer pattern entries)
    ++ (if list_any (λ (entry : RouteKey × Learned). entry.1.run) (routes_at peer pattern entries) then [] else until_run peer more entries)
