-- The tables that an edge took from its peers (RFC 4271 section 3.2).
use Rattle.std.specs.Prelude.{◌≡◌, ℕ, Bool, true, not, List, refl, Option, None, Some}
use Rattle.std.specs.Coded.{Coded, code_by, coded×, coded_bool, coded_list, coded_option, coded_ℕ}
use Rattle.std.specs.FinMap as maps
use Rattle.std.specs.FinMap.{FinMap}
use Rattle.mv_base.specs.Number.{◌>>?◌}
use Rattle.mv_base.specs.declared.addr.Addr.{Addr}
use Rattle.mv_base.specs.contracts.addr.Addr as addrs
use Rattle.mv_base.specs.declared.ids.NodeId.{NodeId}
use Rattle.mv_base.specs.contracts.ids.NodeId as nodes
use Rattle.bgp_values.specs.declared.pmsi_attr.pmsi.Pmsi.{Pmsi}
use Rattle.bgp_values.specs.contracts.pmsi_attr.pmsi.Pmsi as pmsis
use Rattle.mv_base.specs.declared.route_targets.communities.ExtComm.{ExtComm}
use Rattle.mv_base.specs.contracts.route_targets.communities.ExtComm as comms
use Rattle.bgp_messages.specs.declared.bgp_attributes.key.Key.{Key}
use Rattle.bgp_messages.specs.contracts.bgp_attributes.key.Key as keys
use Rattle.bgp_messages.specs.declared.bgp_attributes.update.Change.{Change}
use Rattle.bgp_messages.specs.declared.bgp_attributes.update.Change.TheVariants.{Reach}
use Rattle.bgp_messages.specs.bgp_update.Written.{HasOctets, IsWritableKey}
use Rattle.label_defs.specs.Keys.{node_cmp}
use Rattle.edge_defs.specs.Edge.{Taken, TakenRoute}
use Rattle.edge_defs.specs.Keys.{Value, same_value}

-- the peers whose session is up here, each with the table that was taken from it
abbrev pub Tables : Type 0
Tables = FinMap node_cmp Taken

-- ---- changes

-- the table of the peer becomes this one, where the peer's session is up
abbrev pub changed_at : NodeId → (Taken → Taken) → Tables → Tables
changed_at peer change tables = elim (maps.get tables peer) [ None ↦ tables | Some taken ↦ maps.insert tables peer (change taken) ]

-- the change that announces the route of that key and value
abbrev pub reach : Key → Value → Change
reach key value = Reach (record { key = key; next_hop = value.next_hop; comms = value.comms; pmsi = value.pmsi })

-- ---- routes

abbrev pub route_at : Tables → NodeId → Key → Option TakenRoute
route_at tables peer key = maps.get tables peer >>? λ taken. maps.get taken key

-- whether the value is another one than that of the route that was taken
abbrev pub is_news : Value → Option TakenRoute → Bool
is_news value None = true
is_news value (Some old) = not (same_value old.value value)

-- ---- keys

-- The key has a spelling, and its prefix is octets, as it is in any program.
pub data IsSpelledKey (key : Key) : Type 0 where
  Spelled : (writable : IsWritableKey key) → (octets : HasOctets key) → IsSpelledKey key

-- each key is such a one
abbrev pub IsSpelled : Taken → Type 0
IsSpelled taken = (key : Key) → maps.contains_key taken key ≡ true → IsSpelledKey key

abbrev pub AreSpelled : Tables → Type 0
AreSpelled tables = (peer : NodeId) (taken : Taken) → maps.get tables peer ≡ Some taken → IsSpelled taken

-- ---- codes

abbrev value_code : Coded Value
value_code =
    code_by (Addr × (List ExtComm × Option Pmsi))
    (coded× addrs.the_row.coded (coded× (coded_list comms.the_row.coded) (coded_option pmsis.the_row.coded)))
    (λ v. (v.next_hop, (v.comms, v.pmsi))) (λ p. record { next_hop = p.0; comms = p.1.0; pmsi = p.1.1 }) (λ _. refl)

abbrev pub route_code : Coded TakenRoute
route_code =
    code_by (Value × (ℕ × Bool)) (coded× value_code (coded× coded_ℕ coded_bool)) (λ r. (r.value, (r.since, r.run)))
    (λ p. record { value = p.0; since = p.1.0; run = p.1.1 }) (λ _. refl)

abbrev pub tables_code : Coded Tables
tables_code = maps.code nodes.the_row.coded (maps.code keys.the_row.coded route_code)
