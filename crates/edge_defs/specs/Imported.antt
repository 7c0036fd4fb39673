-- Which of the routes that were taken from a peer a VRF imports and uses (RFC 4364 section 4.3.1; RFC 6514 sections 7, 9.1.2, 11.3,
-- 12.3 and 14.2; the conditions on addresses are this project's profile).
use Rattle.std.specs.Prelude.{ℕ, ◌==◌, ◌&&◌, Bool, false, not, nat_eq, List, [], ◌∷◌, take, drop, is_none, Option, None}
use Rattle.std.specs.Prelude.{Some, if◌then◌else◌}
use Rattle.std.specs.Int.{w16, from_be_bytes}
use Rattle.std.specs.List.{list_any}
use Rattle.std.specs.Cmp.Lexicographic.{pointwise}
use Rattle.std.specs.FinMap as maps
use Rattle.mv_base.specs.Address.{same_addr}
use Rattle.mv_base.specs.Number.{◌>>?◌, only_if}
use Rattle.mv_base.specs.declared.addr.Addr.{Addr}
use Rattle.mv_base.specs.declared.addr.Addr.TheVariants.{V4}
use Rattle.mv_base.specs.declared.ids.NodeId.{NodeId}
use Rattle.mv_base.specs.declared.rd.Rd.{Rd}
use Rattle.label_defs.specs.mldp.declared.mldp_fec.fec.Fec.{Fec}
use Rattle.bgp_messages.specs.bgp_values.declared.pmsi_attr.pmsi.Pmsi.{Pmsi}
use Rattle.bgp_messages.specs.bgp_values.declared.pmsi_attr.pmsi.Tunnel.TheVariants as tunnels
use Rattle.bgp_messages.specs.bgp_values.declared.mvpn_nlri.route.Afi.{Afi}
use Rattle.bgp_messages.specs.bgp_values.declared.mvpn_nlri.route.Afi.TheVariants.{Ipv4, Ipv6}
use Rattle.bgp_messages.specs.bgp_values.declared.mvpn_nlri.route.Route.TheVariants as routes
use Rattle.mv_base.specs.route_targets.Targets.{has}
use Rattle.mv_base.specs.declared.route_targets.communities.ExtComm.{ExtComm}
use Rattle.bgp_messages.specs.declared.bgp_attributes.key.Key.{Key}
use Rattle.bgp_messages.specs.declared.bgp_attributes.key.Key.TheVariants.{Mcast}
use Rattle.choice_defs.specs.scenario_defs.declared.scenario.Vrf.{Vrf}
use Rattle.edge_defs.specs.Edge.{Import, TakenRoute, Taken, Control}
use Rattle.edge_defs.specs.Keys.{Value}
use Rattle.edge_defs.specs.Originated.{import_target, own_import}
use Rattle.label_defs.specs.Node.{is_p2mp}
use Rattle.edge_defs.specs.Place.{EdgePlace, is_lsp_opaque}

-- ---- communities

-- whether one of the communities is a Route Target of the VRF
abbrev pub is_admitted : Vrf → List ExtComm → Bool
is_admitted vrf comms = list_any (λ comm. has vrf.targets (record { 0 = comm })) comms

-- whether one of the communities is this one
abbrev pub has_comm : ExtComm → List ExtComm → Bool
has_comm wanted comms = list_any (λ comm. pointwise nat_eq wanted.0 comm.0) comms

-- the VRF Route Imports and the Source ASs among the communities
abbrev pub import_in : ExtComm → Option Import
import_in comm =
    if pointwise nat_eq (take 2 comm.0) (0x01 ∷ 0x0B ∷ [])
    then Some (record { addr = V4 (take 4 (drop 2 comm.0)); number = from_be_bytes w16 (drop 6 comm.0) })
    else None

abbrev pub source_as_in : ExtComm → Option ℕ
source_as_in comm =
    if pointwise nat_eq (take 2 comm.0) (0x00 ∷ 0x09 ∷ []) && pointwise nat_eq (drop 4 comm.0) (0 ∷ 0 ∷ 0 ∷ 0 ∷ [])
    then Some (from_be_bytes w16 (take 2 (drop 2 comm.0)))
    else None

-- what is found in a list, and the one thing of a list
abbrev pub found_in : {A B : Type 0} → (A → Option B) → List A → List B
found_in find [] = []
found_in find (x ∷ more) = elim (find x) [ None ↦ found_in find more | Some found ↦ found ∷ found_in find more ]

abbrev pub only_one : {A : Type 0} → List A → Option A
only_one (x ∷ []) = Some x
only_one other = None

-- ---- unicast routes

-- What a unicast route says for a Source Tree Join.
pub record JoinBy : Type 0 where
  pub import : Import
  pub source_as : ℕ

-- A unicast route is used only where it has exactly one VRF Route Import and exactly one Source AS, and the import's address, the
-- next hop and the peer are one address.
abbrev pub join_by : Addr → Value → Option JoinBy
join_by peer value =
    only_one (found_in import_in value.comms) >>? λ import.
    only_one (found_in source_as_in value.comms) >>? λ source_as.
    only_if (same_addr import.addr peer && same_addr value.next_hop peer) (record { import = import; source_as = source_as })

-- ---- tunnels

-- the FEC of an mLDP P2MP tunnel that is one Generic LSP Identifier
abbrev pub lsp_of : Option Pmsi → Option Fec
lsp_of None = None
lsp_of (Some pmsi) = elim pmsi.tunnel [
  | tunnels.Mldp fec ↦ only_if (is_p2mp fec.kind && is_lsp_opaque fec.opaque) fec
  | tunnels.None ↦ None
  | tunnels.Ingress addr ↦ None
  | tunnels.Other kind ident ↦ None
]

-- A route of a tunnel is used only where the tunnel is such a one, and its root, the originator and the peer are one address.
abbrev pub tunnel_by : Addr → Addr → Value → Option Fec
tunnel_by peer originator value = lsp_of value.pmsi >>? λ fec. only_if (same_addr fec.root peer && same_addr originator peer) fec

-- ---- routes by their types

-- The originator of an Intra-AS I-PMSI A-D route; under AFI 2 it is not used.
abbrev pub inclusive_of : Key → Option Addr
inclusive_of (Mcast Ipv4 (routes.Intra rd originator)) = Some originator
inclusive_of other = None

-- An S-PMSI A-D route: its RD, its pattern and its originator.
pub record SelectiveRoute : Type 0 where
  pub rd : Rd
  pub source : Option Addr
  pub group : Option Addr
  pub originator : Addr

-- with both wildcards it is not used under AFI 2
abbrev pub is_passed_over : Afi → Option Addr → Option Addr → Bool
is_passed_over Ipv4 source group = false
is_passed_over Ipv6 source group = is_none source && is_none group

abbrev pub selective_of : Key → Option SelectiveRoute
selective_of (Mcast afi (routes.Selective rd source group originator)) =
    only_if (not (is_passed_over afi source group)) (record { rd = rd; source = source; group = group; originator = originator })
selective_of other = None

-- A Source Active A-D route, or a Source Tree Join: its source and group.
pub record FlowRoute : Type 0 where
  pub source : Addr
  pub group : Addr

abbrev pub active_of : Key → Option FlowRoute
active_of (Mcast afi (routes.Active rd source group)) = Some (record { source = source; group = group })
active_of other = None

-- ---- what a VRF uses

-- the table that was taken from a peer; none where the session's end is down
abbrev pub taken_from : Control → NodeId → Taken
taken_from control peer = elim (maps.get control.peers peer) [ None ↦ maps.empty | Some taken ↦ taken ]

-- the tunnel of an inclusive route that the VRF imports from the peer of that address
abbrev pub imported_inclusive : Vrf → Addr → Key × TakenRoute → Option Fec
imported_inclusive vrf peer entry =
    inclusive_of entry.0 >>? λ originator.
    only_if (is_admitted vrf entry.1.value.comms) entry.1.value >>? λ value.
    tunnel_by peer originator value

-- A selective route that the VRF imports, with its tunnel.
pub record ImportedSelective : Type 0 where
  pub route : SelectiveRoute
  pub fec : Fec

abbrev pub imported_selective : Vrf → Addr → Key × TakenRoute → Option ImportedSelective
imported_selective vrf peer entry =
    selective_of entry.0 >>? λ route.
    only_if (is_admitted vrf entry.1.value.comms) entry.1.value >>? λ value.
    tunnel_by peer route.originator value >>? λ fec.
    Some (record { route = route; fec = fec })

-- the source and group of a Source Active route that the VRF imports
abbrev pub imported_active : Vrf → Key × TakenRoute → Option FlowRoute
imported_active vrf entry = active_of entry.0 >>? λ flow. only_if (is_admitted vrf entry.1.value.comms) flow

-- A Source Tree Join is used by the VRF that one of its Route Targets names, where RD and Source AS are the VRF's own.
abbrev pub imported_join : EdgePlace → Vrf → Key × TakenRoute → Option FlowRoute
imported_join place vrf (Mcast afi (routes.SourceJoin rd source_as source group), taken) =
    only_if
    (pointwise nat_eq rd.0 vrf.rd.0 && (source_as == place.scenario.system)
    && has_comm (import_target (own_import place vrf)) taken.value.comms)
    (record { source = source; group = group })
imported_join place vrf other = None
