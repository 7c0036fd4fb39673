-- The text of values: a line for each, and the line that tells the first fault.
use Rattle.std.specs.Prelude.{ℕ, ◌+◌, List, ◌++◌, take, drop, codes, slice_index, Bool, true, false, Option, None, Some}
use Rattle.std.specs.Fmt.{decimal}
use Rattle.hex.specs.Hex.{encode_lower}
use Rattle.mv_base.specs.declared.addr.Addr.{Addr}
use Rattle.mv_base.specs.declared.addr.Addr.TheVariants.{V4, V6}
use Rattle.mv_base.specs.declared.rd.Rd.{Rd}
use Rattle.scenario_defs.specs.Text.{hex_text}
use Rattle.bgp_values.specs.declared.pmsi_attr.fault.PmsiReason.{PmsiReason}
use Rattle.bgp_values.specs.declared.pmsi_attr.fault.PmsiReason.TheVariants as pmsi_reasons
use Rattle.bgp_values.specs.declared.pmsi_attr.pmsi.Pmsi.{Pmsi}
use Rattle.bgp_values.specs.declared.pmsi_attr.pmsi.Tunnel.{Tunnel}
use Rattle.bgp_values.specs.declared.pmsi_attr.pmsi.Tunnel.TheVariants as tunnels
use Rattle.bgp_values.specs.pmsi_attr.Spelling.{type_octet}
use Rattle.bgp_values.specs.declared.mvpn_nlri.fault.RouteReason.{RouteReason}
use Rattle.bgp_values.specs.declared.mvpn_nlri.fault.RouteReason.TheVariants as route_reasons
use Rattle.bgp_values.specs.declared.mvpn_nlri.route.LeafKey.{LeafKey}
use Rattle.bgp_values.specs.declared.mvpn_nlri.route.LeafKey.TheVariants as keys
use Rattle.bgp_values.specs.declared.mvpn_nlri.route.Route.{Route}
use Rattle.bgp_values.specs.declared.mvpn_nlri.route.Route.TheVariants.{Intra, Inter, Selective, Leaf, Active, SharedJoin, SourceJoin, Other}
use Rattle.mldp.specs.declared.mldp_fec.fault.FecReason.{FecReason}
use Rattle.mldp.specs.declared.mldp_fec.fault.FecReason.TheVariants as fec_reasons
use Rattle.mldp.specs.declared.mldp_fec.fec.Fec.{Fec}
use Rattle.mldp.specs.declared.mldp_fec.fec.FecKind.{FecKind}
use Rattle.mldp.specs.declared.mldp_fec.fec.FecKind.TheVariants.{P2mp, Up, Down}

-- two octets in four hexadecimal digits
abbrev pub group_text : List ℕ → ℕ → List ℕ
group_text octets place = encode_lower (take 2 (drop place octets))

-- four such groups with colons between them
abbrev pub groups_text : List ℕ → ℕ → List ℕ
groups_text octets place =
    group_text octets place ++ codes ":" ++ group_text octets (place + 2) ++ codes ":" ++
    group_text octets (place + 4) ++ codes ":" ++ group_text octets (place + 6)

-- an address: four decimal numbers with points between them, or eight groups with colons between them
abbrev pub addr_text : Addr → List ℕ
addr_text (V4 octets) =
    decimal (slice_index octets 0) ++ codes "." ++ decimal (slice_index octets 1) ++ codes "." ++
    decimal (slice_index octets 2) ++ codes "." ++ decimal (slice_index octets 3)
addr_text (V6 octets) = groups_text octets 0 ++ codes ":" ++ groups_text octets 8

-- the word of a kind
abbrev pub kind_text : FecKind → List ℕ
kind_text P2mp = codes "p2mp"
kind_text Up = codes "up"
kind_text Down = codes "down"

-- a FEC element: its kind, its root and its opaque value
abbrev pub fec_text : Fec → List ℕ
fec_text fec = kind_text fec.kind ++ codes " " ++ addr_text fec.root ++ codes " " ++ hex_text fec.opaque

-- the line of a FEC element
abbrev pub fec_line : Fec → List ℕ
fec_line fec = fec_text fec ++ codes "\n"

-- the word of a fault of a FEC element
abbrev pub fec_word : FecReason → List ℕ
fec_word fec_reasons.Short = codes "short"
fec_word fec_reasons.Kind = codes "kind"
fec_word fec_reasons.Family = codes "family"
fec_word fec_reasons.AddressLength = codes "address-length"
fec_word fec_reasons.OpaqueShape = codes "opaque-shape"
fec_word fec_reasons.OpaqueTooLong = codes "opaque-too-long"

-- the identifier of a tunnel
abbrev pub tunnel_text : Tunnel → List ℕ
tunnel_text tunnels.None = codes "-"
tunnel_text (tunnels.Mldp fec) = fec_text fec
tunnel_text (tunnels.Ingress addr) = addr_text addr
tunnel_text (tunnels.Other kind octets) = hex_text octets

-- a label, or `-` for none
abbrev pub label_text : Option ℕ → List ℕ
label_text None = codes "-"
label_text (Some label) = decimal label

-- 1 where leaf information is required, and else 0
abbrev pub flag_text : Bool → List ℕ
flag_text true = codes "1"
flag_text false = codes "0"

-- the line of a tunnel attribute: the flag, the tunnel type, the label and the identifier
abbrev pub pmsi_line : Pmsi → List ℕ
pmsi_line pmsi =
    codes "pmsi " ++ flag_text pmsi.leaf_info ++ codes " " ++ decimal (type_octet pmsi.tunnel) ++ codes " " ++
    label_text pmsi.label ++ codes " " ++ tunnel_text pmsi.tunnel ++ codes "\n"

-- the word of a fault of a tunnel attribute
abbrev pub pmsi_word : PmsiReason → List ℕ
pmsi_word pmsi_reasons.Short = codes "short"
pmsi_word pmsi_reasons.TunnelType = codes "tunnel-type"
pmsi_word pmsi_reasons.Identifier = codes "identifier"
pmsi_word (pmsi_reasons.Fec reason) = codes "fec." ++ fec_word reason

-- an address, or `*` for the wildcard
abbrev pub any_text : Option Addr → List ℕ
any_text None = codes "*"
any_text (Some addr) = addr_text addr

-- an Intra-AS I-PMSI route
abbrev pub intra_text : Rd → Addr → List ℕ
intra_text rd originator = codes "intra " ++ encode_lower rd.0 ++ codes " " ++ addr_text originator

-- an Inter-AS I-PMSI route
abbrev pub inter_text : Rd → ℕ → List ℕ
inter_text rd source_as = codes "inter " ++ encode_lower rd.0 ++ codes " " ++ decimal source_as

-- an S-PMSI route
abbrev pub selective_text : Rd → Option Addr → Option Addr → Addr → List ℕ
selective_text rd source group originator =
    codes "selective " ++ encode_lower rd.0 ++ codes " " ++ any_text source ++ codes " " ++ any_text group ++
    codes " " ++ addr_text originator

-- source and group
abbrev pub flow_text : Addr → Addr → List ℕ
flow_text source group = addr_text source ++ codes " " ++ addr_text group

-- a Source Active route
abbrev pub active_text : Rd → Addr → Addr → List ℕ
active_text rd source group = codes "active " ++ encode_lower rd.0 ++ codes " " ++ flow_text source group

-- Route Distinguisher, Source AS, source and group
abbrev pub join_text : Rd → ℕ → Addr → Addr → List ℕ
join_text rd source_as source group = encode_lower rd.0 ++ codes " " ++ decimal source_as ++ codes " " ++ flow_text source group

-- the key of a Leaf route, as the route that it is
abbrev pub key_text : LeafKey → List ℕ
key_text (keys.Inter rd source_as) = inter_text rd source_as
key_text (keys.Selective rd source group originator) = selective_text rd source group originator

-- a route
abbrev pub route_text : Route → List ℕ
route_text (Intra rd originator) = intra_text rd originator
route_text (Inter rd source_as) = inter_text rd source_as
route_text (Selective rd source group originator) = selective_text rd source group originator
route_text (Leaf key originator) = codes "leaf " ++ addr_text originator ++ codes " " ++ key_text key
route_text (Active rd source group) = active_text rd source group
route_text (SharedJoin rd source_as source group) = codes "shared " ++ join_text rd source_as source group
route_text (SourceJoin rd source_as source group) = codes "source " ++ join_text rd source_as source group
route_text (Other kind octets) = codes "other " ++ decimal kind ++ codes " " ++ hex_text octets

-- the line of a route
abbrev pub route_line : Route → List ℕ
route_line route = route_text route ++ codes "\n"

-- the word of a fault of a route
abbrev pub route_word : RouteReason → List ℕ
route_word route_reasons.Short = codes "short"
route_word route_reasons.LengthTooSmall = codes "length-too-small"
route_word route_reasons.LengthTooLarge = codes "length-too-large"
route_word route_reasons.SourceLength = codes "source-length"
route_word route_reasons.GroupLength = codes "group-length"
route_word route_reasons.Wildcard = codes "wildcard"
route_word route_reasons.OriginatorLength = codes "originator-length"
route_word route_reasons.KeyType = codes "key-type"
route_word route_reasons.GroupNotMulticast = codes "group-not-multicast"

-- the line that tells a fault and its place
abbrev pub refused_line : ℕ → List ℕ → List ℕ
refused_line place word = codes "refused " ++ decimal place ++ codes " " ++ word ++ codes "\n"
