-- The Source Tree Joins that the trees of an edge's VRFs have towards other edges (RFC 6514 section 11.1.3).
use Rattle.std.specs.Prelude.{◌≡◌, ℕ, ◌==◌, ◌&&◌, Bool, nat_eq, List, [], ◌∷◌, Option, None, Some}
use Rattle.std.specs.Cmp.Lexicographic.{pointwise}
use Rattle.std.specs.FinMap as maps
use Rattle.mv_base.specs.Lists.{Among}
use Rattle.mv_base.specs.Number.{◌>>?◌, only_if}
use Rattle.mv_base.specs.declared.ids.NodeId.{NodeId}
use Rattle.mv_base.specs.declared.rd.Rd.{Rd}
use Rattle.edge_words.specs.bgp_messages.bgp_values.declared.mvpn_nlri.route.Afi.{Afi}
use Rattle.edge_words.specs.bgp_messages.bgp_values.declared.mvpn_nlri.route.Route.TheVariants as routes
use Rattle.edge_words.specs.bgp_messages.declared.bgp_attributes.key.Key.{Key}
use Rattle.edge_words.specs.bgp_messages.declared.bgp_attributes.key.Key.TheVariants.{Mcast}
use Rattle.vrf_words.specs.declared.tree_defs.flow.Flow.{Flow}
use Rattle.vrf_words.specs.declared.tree_defs.flow.Upstream.{Upstream}
use Rattle.vrf_words.specs.tree_defs.Flows.{upstream_of}
use Rattle.vrf_words.specs.tree_defs.Trees.{TreeData}
use Rattle.edge_words.specs.edge_defs.Edge as edges
use Rattle.edge_words.specs.edge_defs.Edge.{Control, VrfFlow}
use Rattle.edge_words.specs.edge_defs.Keys.{Value}
use Rattle.edge_words.specs.edge_defs.Originated.{import_target}
use Rattle.edge_words.specs.edge_defs.Place.{EdgePlace, OwnVrf, own_addr, own_vrfs}

-- the key of a join with that RD and Source AS
abbrev pub join_key : Afi → Rd → ℕ → Flow → Key
join_key afi rd source_as flow = Mcast afi (routes.SourceJoin rd source_as flow.source flow.group)

-- its value, which names the VRF of the upstream
abbrev pub join_value : EdgePlace → Upstream → Value
join_value place up =
    let import : edges.Import = record { addr = up.import.0; number = up.import.1 } in
    record { next_hop = own_addr place; comms = import_target import ∷ []; pmsi = None }

-- whether the join towards that upstream goes to the peer, with that RD and Source AS
abbrev pub is_join_to : NodeId → Rd → ℕ → Upstream → Bool
is_join_to peer rd source_as up = (up.edge.0 == peer.0) && (pointwise nat_eq up.rd.0 rd.0 && (up.source_as == source_as))

-- what a tree has of that join of a flow
abbrev pub join_of : EdgePlace → NodeId → Rd → ℕ → Flow → TreeData → Option Value
join_of place peer rd source_as flow tree =
    upstream_of (maps.get tree.vrf.flows flow) >>? λ up. only_if (is_join_to peer rd source_as up) (join_value place up)

-- what the first one tells that tells something
abbrev pub first_told : {X Y : Type 0} → (X → Option Y) → List X → Option Y
first_told tell [] = None
first_told tell (x ∷ more) = elim (tell x) [ None ↦ first_told tell more | Some y ↦ Some y ]

-- Each flow of the edge is one of a VRF of it.
abbrev pub AreOfVrfs : EdgePlace → Control → Type 0
AreOfVrfs place control = (flow : VrfFlow) (up : Option edges.Upstream) → maps.get control.flows flow ≡ Some up
    → (own : OwnVrf) × Among own (own_vrfs place) × (own.id ≡ flow.vrf)
