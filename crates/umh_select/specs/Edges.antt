-- The edges that routes are from, by rising address.
use Rattle.std.specs.Prelude.{ℕ, Bool, true, List, [], ◌∷◌, Option, None, Some, if◌then◌else◌}
use Rattle.std.specs.Ordering.{is_lt}
use Rattle.mv_base.specs.declared.addr.Addr.{Addr}
use Rattle.mv_base.specs.declared.ids.NodeId.{NodeId}
use Rattle.std.specs.FinMap as maps
use Rattle.choice_defs.specs.Choice.{addr_cmp, put_edge, hash_of, hashed_of}
use Rattle.umh_select.specs.declared.key.RouteKey.{RouteKey}
use Rattle.umh_select.specs.declared.route.Held.{Held}
use Rattle.umh_select.specs.Routes.{Routes, peer_of, at_length, named_by, measure}

-- the edge that a route is from
abbrev pub edge_of : RouteKey × Held → NodeId × Addr
edge_of entry = (peer_of entry.0.place, entry.1.import.0)

-- the edges of the routes, by rising address and each once
abbrev pub edges_in : List (RouteKey × Held) → List (NodeId × Addr)
edges_in [] = []
edges_in (entry ∷ more) = put_edge (edge_of entry) (edges_in more)

-- whether the second address is above the first one, where there is one
abbrev pub is_above : Option Addr → Addr → Bool
is_above None address = true
is_above (Some after) address = is_lt (addr_cmp after address)

-- the first one of the edges above the address
abbrev pub first_above : Option Addr → List (NodeId × Addr) → Option (NodeId × Addr)
first_above after [] = None
first_above after (edge ∷ more) = if is_above after edge.1 then Some edge else first_above after more

-- the lower one of two edges, and of one address the second
abbrev pub lower : Option (NodeId × Addr) → NodeId × Addr → Option (NodeId × Addr)
lower None next = Some next
lower (Some best) next = if is_lt (addr_cmp best.1 next.1) then Some best else Some next

abbrev pub lowest : Option Addr → Option (NodeId × Addr) → NodeId × Addr → Option (NodeId × Addr)
lowest after best next = if is_above after next.1 then lower best next else best

-- the lowest one of edges above the address
abbrev pub lowest_of : Option Addr → Option (NodeId × Addr) → List (NodeId × Addr) → Option (NodeId × Addr)
lowest_of after best [] = best
lowest_of after best (next ∷ more) = lowest_of after (lowest after best next) more

-- what the rule compares first, among the routes of that length
abbrev pub cost_at : Routes → Addr → Addr → ℕ → (NodeId → ℕ) → NodeId → ℕ
cost_at routes source group bits cost =
    measure routes.rule cost
    (named_by routes.rule (hashed_of (hash_of source group) (edges_in (at_length source bits (maps.entries routes.learned)))))
