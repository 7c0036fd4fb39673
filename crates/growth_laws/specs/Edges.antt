-- Edges that take nothing back: what they take of customers and of BGP stays, so they stay leaves of each tunnel.
use Rattle.std.specs.Prelude.{◌≡◌, ℕ, true, Some}
use Rattle.std.specs.FinMap as maps
use Rattle.std.specs.FinSet as sets
use Rattle.mv_base.specs.Lists.{Among}
use Rattle.mv_base.specs.Pattern.{rank_of}
use Rattle.mv_base.specs.Prefix.{covers}
use Rattle.mv_base.specs.declared.addr.Addr.{Addr}
use Rattle.mv_base.specs.declared.ids.NodeId.{NodeId}
use Rattle.mldp.specs.declared.mldp_fec.fec.Fec.{Fec}
use Rattle.bgp_values.specs.declared.mvpn_nlri.route.Route.TheVariants as routes
use Rattle.bgp_messages.specs.declared.bgp_attributes.key.Key.{Key}
use Rattle.bgp_messages.specs.declared.bgp_attributes.key.Key.TheVariants.{Mcast}
use Rattle.scenario_defs.specs.declared.event.IfaceEntry.{IfaceEntry}
use Rattle.scenario_defs.specs.declared.event.JoinEntry.{JoinEntry}
use Rattle.scenario_defs.specs.declared.event.JoinEntry.TheVariants as entries
use Rattle.choice_defs.specs.declared.known_route.KnownRoute.{KnownRoute}
use Rattle.pim_defs.specs.Expiry.{is_after}
use Rattle.pim_defs.specs.declared.expiry.Expiry.{Expiry}
use Rattle.edge_defs.specs.Edge.{VrfFlow, Upstream, TakenRoute, Control}
use Rattle.edge_defs.specs.Imported.{taken_from}
use Rattle.edge_defs.specs.Place.{EdgePlace, OwnVrf, own_vrfs}
use Rattle.edge_defs.specs.Tunnels.{leaves}
use Rattle.edge_defs.specs.Upstream.{known_routes}
use Rattle.edge_words.specs.held_laws.Held.{IsJoinKey}

-- ---- what stays

-- Each route that was taken from a peer is there again with the same value, Source Tree Joins aside.
abbrev pub TakenStays : Control → Control → Type 0
TakenStays old new = (peer : NodeId) (key : Key) (route : TakenRoute) → (IsJoinKey key → ⊥)
    → maps.get (taken_from old peer) key ≡ Some route
    → (next : TakenRoute) × (maps.get (taken_from new peer) key ≡ Some next) × (next.value ≡ route.value)

-- Each flow that has an upstream is there again with that upstream.
abbrev pub FlowsStay : Control → Control → Type 0
FlowsStay old new = (flow : VrfFlow) (up : Upstream) → maps.get old.flows flow ≡ Some (Some up) → maps.get new.flows flow ≡ Some (Some up)

-- Each entry of an interface is there again.
abbrev pub EntriesStay : Control → Control → Type 0
EntriesStay old new = (at : IfaceEntry) (expiry : Expiry) → maps.get old.entries at ≡ Some expiry
    → (later : Expiry) × (maps.get new.entries at ≡ Some later)

-- ---- what makes it stay

abbrev pub IsSourceEntry : JoinEntry → Type 0
IsSourceEntry (entries.Source source group) = Unit {0}
IsSourceEntry other = ⊥

-- Each entry is an (S,G) join, and does not end up to that moment.
abbrev pub AreLasting : ℕ → Control → Type 0
AreLasting moment control = (at : IfaceEntry) (expiry : Expiry) → maps.get control.entries at ≡ Some expiry
    → IsSourceEntry at.entry × (is_after expiry moment ≡ true)

-- a selective route is of one source and one group
abbrev pub IsNarrow : Key → Type 0
IsNarrow (Mcast afi (routes.Selective rd source group originator)) = rank_of source group ≡ 4
IsNarrow other = Unit {0}

-- No selective route that was taken has a wildcard.
abbrev pub AreNarrow : Control → Type 0
AreNarrow control = (peer : NodeId) (key : Key) (route : TakenRoute) → maps.get (taken_from control peer) key ≡ Some route → IsNarrow key

-- Of the routes that a VRF of the edge knows, all that cover a source are one.
abbrev pub KnowsOneOrigin : EdgePlace → Control → Type 0
KnowsOneOrigin place control = (own : OwnVrf) (route other : KnownRoute) (source : Addr) → Among own (own_vrfs place)
    → Among route (known_routes place control own) → Among other (known_routes place control own)
    → covers route.prefix source ≡ true → covers other.prefix source ≡ true → route ≡ other

-- A call's own effect keeps all that there was: routes, and entries, which are (S,G) joins that last. Selective routes have no wildcard,
-- and a source is known by one route.
pub record KeepsAll (place : EdgePlace) (now : ℕ) (old new : Control) : Type 0 where
  pub taken : TakenStays old new
  pub entries : EntriesStay old new
  pub lasting : AreLasting now new
  pub narrow : AreNarrow new
  pub one : KnowsOneOrigin place new

-- the edge is still to be a leaf of each tunnel
abbrev pub LeavesStay : EdgePlace → Control → Control → Type 0
LeavesStay place old new = (fec : Fec) → sets.contains (leaves place old) fec ≡ true → sets.contains (leaves place new) fec ≡ true
