-- How far a message is from being answered for the last time.
use Rattle.std.specs.Prelude.{◌≡◌, ℕ, ◌+◌, ◌==◌, ◌&&◌, Bool, true, List, [], ◌∷◌, if◌then◌else◌}
use Rattle.mv_base.specs.declared.ids.NodeId.{NodeId}
use Rattle.mldp.specs.declared.mldp_fec.fec.Fec.{Fec}
use Rattle.bgp_values.specs.declared.mvpn_nlri.route.Route.{Route}
use Rattle.bgp_values.specs.declared.mvpn_nlri.route.Route.TheVariants as routes
use Rattle.bgp_messages.specs.declared.bgp_attributes.key.Key.{Key}
use Rattle.bgp_messages.specs.declared.bgp_attributes.key.Key.TheVariants.{Mcast, Unicast}
use Rattle.bgp_messages.specs.declared.bgp_attributes.update.Change.{Change}
use Rattle.bgp_messages.specs.bgp_update.Table.{key_of, changes_of}
use Rattle.label_laws.specs.Rounds as labels
use Rattle.mv_base.specs.table_defs.Changes as table_changes
use Rattle.mv_base.specs.declared.table_defs.change.Change as tables
use Rattle.network_defs.specs.session_defs.Message.{SessionMessage, Bgp, Label}
use Rattle.edge_defs.specs.Edge.{Control}
use Rattle.edge_defs.specs.Flows.{flows_at}
use Rattle.edge_defs.specs.Held.{put_to}
use Rattle.edge_defs.specs.Keys.{Value}
use Rattle.edge_defs.specs.Place.{EdgePlace}
use Rattle.edge_defs.specs.Tunnels.{leaves}

-- The flows of an edge are those that are asked for at the clock.
abbrev pub IsFresh : EdgePlace → ℕ → Control → Type 0
IsFresh place now control = control.flows ≡ flows_at place now control

-- the edge puts nothing to the peer, and its leaves stay
abbrev pub IsQuietAt : EdgePlace → Control → Control → NodeId → Type 0
IsQuietAt place old new to = (put_to place old new to ≡ []) × (leaves place old ≡ leaves place new)

-- the type of a multicast route, and 0 for a unicast one
abbrev pub route_kind : Route → ℕ
route_kind (routes.Intra rd originator) = 1
route_kind (routes.Inter rd source_as) = 2
route_kind (routes.Selective rd source group originator) = 3
route_kind (routes.Leaf key originator) = 4
route_kind (routes.Active rd source group) = 5
route_kind (routes.SharedJoin rd source_as source group) = 6
route_kind (routes.SourceJoin rd source_as source group) = 7
route_kind (routes.Other kind octets) = 8

abbrev pub kind_of : Key → ℕ
kind_of (Unicast rd prefix) = 0
kind_of (Mcast afi route) = route_kind route

-- whether each change is one of a Source Tree Join
abbrev pub joins_only : List Change → Bool
joins_only [] = true
joins_only (change ∷ more) = (kind_of (key_of change) == 7) && joins_only more

-- a change of a table that is one of a Source Tree Join
abbrev pub IsJoin : tables.Change Key Value → Type 0
IsJoin change = kind_of (table_changes.key_of change) ≡ 7

-- The rank of a message on its way to a node, by the depth of the node in each tree and a bound on all depths. A route is answered by
-- joins and label messages alone, and a join by nothing. A label message is answered by those of a lower rank.
abbrev pub rank : (NodeId → Fec → ℕ) → ℕ → NodeId → SessionMessage → ℕ
rank depth nodes b (Bgp message) = if joins_only (changes_of message) then 0 else nodes + 1
rank depth nodes b (Label message) = labels.rank depth b message
