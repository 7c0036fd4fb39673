-- The routes that an edge originates, one by one (RFC 6514 sections 9.1.1, 12.1 and 14.1; RFC 4364 section 4.3).
use Rattle.std.specs.Prelude.{◌≡◌, ◌≢◌, true, Some}
use Rattle.std.specs.FinMap as maps
use Rattle.std.specs.FinSet as sets
use Rattle.mv_base.specs.Lists.{Among}
use Rattle.mv_base.specs.declared.addr.Addr.{Addr}
use Rattle.mv_base.specs.declared.ids.IfaceId.{IfaceId}
use Rattle.mv_base.specs.declared.ids.SiteId.{SiteId}
use Rattle.mv_base.specs.declared.ids.VrfId.{VrfId}
use Rattle.mv_base.specs.declared.pattern.Pattern.{Pattern}
use Rattle.mv_base.specs.declared.prefix.Prefix.{Prefix}
use Rattle.bgp_messages.specs.bgp_values.declared.mvpn_nlri.route.Route.TheVariants as routes
use Rattle.bgp_messages.specs.declared.bgp_attributes.key.Key.{Key}
use Rattle.bgp_messages.specs.declared.bgp_attributes.key.Key.TheVariants as keys
use Rattle.scenario_defs.specs.Home.{local_routes}
use Rattle.edge_defs.specs.Edge.{Note, Selected, Control}
use Rattle.edge_defs.specs.Keys.{Value}
use Rattle.edge_defs.specs.Originated.{inclusive_key, selective_key, active_key, plain_value, unicast_value, tunnel_value}
use Rattle.edge_defs.specs.Originated.{is_iface_of}
use Rattle.edge_defs.specs.Place.{EdgePlace, OwnVrf, own_vrfs, tunnel_number}

-- the key is that of a Source Tree Join
abbrev pub IsJoinKey : Key → Type 0
IsJoinKey (keys.Mcast afi (routes.SourceJoin rd source_as source group)) = Unit {0}
IsJoinKey other = ⊥

-- The route is one that the VRF originates: its inclusive one; that of a prefix of a site attached at it; that of a selection; or that of a
-- source and a group which are noted at one of its interfaces.
pub data IsOriginated (place : EdgePlace) (control : Control) (own : OwnVrf) (key : Key) (value : Value) : Type 0 where
  Inclusive : key ≡ inclusive_key place own.vrf → value ≡ tunnel_value place own.vrf (tunnel_number own.vrf 0)
      → IsOriginated place control own key value
  Unicast : (prefix : Prefix) (site : SiteId) → Among (record { prefix = prefix; site = site }) (local_routes place.scenario own.id)
      → key ≡ keys.Unicast own.vrf.rd prefix → value ≡ unicast_value place own.vrf → IsOriginated place control own key value
  Selective : (pattern : Pattern) (selected : Selected)
      → maps.get control.selections (record { vrf = own.id; pattern = pattern }) ≡ Some selected
      → key ≡ selective_key place own.vrf pattern → value ≡ tunnel_value place own.vrf (tunnel_number own.vrf selected.number)
      → IsOriginated place control own key value
  Active : (iface : IfaceId) (source group : Addr) → is_iface_of place.scenario own.id iface ≡ true
      → sets.contains control.notes (record { iface = iface; source = source; group = group }) ≡ true
      → key ≡ active_key own.vrf source group → value ≡ plain_value place own.vrf → IsOriginated place control own key value

-- The route is one that some VRF of the edge originates.
pub record Originates (place : EdgePlace) (control : Control) (key : Key) (value : Value) : Type 0 where
  pub own : OwnVrf
  pub among : Among own (own_vrfs place)
  pub is : IsOriginated place control own key value

-- ---- what calls of customers and of operators change

abbrev pub note_of : IfaceId → Addr → Addr → Note
note_of iface source group = record { iface = iface; source = source; group = group }

abbrev pub with_note : Control → Note → Control
with_note control note = record control { notes = sets.insert control.notes note }

abbrev pub without_note : Control → Note → Control
without_note control note = record control { notes = sets.remove control.notes note }

abbrev pub with_selected : Control → VrfId → Pattern → Selected → Control
with_selected control vrf pattern selected =
    record control { selections = maps.insert control.selections (record { vrf = vrf; pattern = pattern }) selected }

abbrev pub without_selected : Control → VrfId → Pattern → Control
without_selected control vrf pattern =
    record control { selections = maps.remove control.selections (record { vrf = vrf; pattern = pattern }) }

-- The source and the group of the note are noted at an interface of the VRF besides.
pub record IsNotedBeside (place : EdgePlace) (control : Control) (own : OwnVrf) (note : Note) : Type 0 where
  pub iface : IfaceId
  pub of_vrf : is_iface_of place.scenario own.id iface ≡ true
  pub other : iface ≢ note.iface
  pub noted : sets.contains control.notes (record note { iface = iface }) ≡ true
