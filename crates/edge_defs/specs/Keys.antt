-- The keys and values of routes, and the tables of them.
use Rattle.std.specs.Prelude.{ℕ, Bool, true, false, List, [], ◌∷◌, ◌++◌, map, Option, None, Some}
use Rattle.std.specs.Ordering.{nat_cmp, is_eq}
use Rattle.std.specs.declared.cmp.Ordering.{Ordering}
use Rattle.std.specs.Cmp.Lexicographic.{slice_cmp}
use Rattle.std.specs.FinMap.{FinMap}
use Rattle.mv_base.specs.declared.addr.Addr.{Addr}
use Rattle.label_defs.specs.mldp.declared.mldp_fec.fec.FecKind.{FecKind}
use Rattle.label_defs.specs.mldp.declared.mldp_fec.fec.FecKind.TheVariants.{P2mp, Up, Down}
use Rattle.bgp_messages.specs.bgp_values.declared.pmsi_attr.pmsi.Pmsi.{Pmsi}
use Rattle.bgp_messages.specs.bgp_values.declared.pmsi_attr.pmsi.Tunnel.{Tunnel}
use Rattle.bgp_messages.specs.bgp_values.declared.pmsi_attr.pmsi.Tunnel.TheVariants as tunnels
use Rattle.bgp_messages.specs.bgp_values.declared.mvpn_nlri.route.Afi.{Afi}
use Rattle.bgp_messages.specs.bgp_values.declared.mvpn_nlri.route.Afi.TheVariants.{Ipv4, Ipv6}
use Rattle.bgp_messages.specs.bgp_values.declared.mvpn_nlri.route.LeafKey.{LeafKey}
use Rattle.bgp_messages.specs.bgp_values.declared.mvpn_nlri.route.LeafKey.TheVariants as leaf_keys
use Rattle.bgp_messages.specs.bgp_values.declared.mvpn_nlri.route.Route.{Route}
use Rattle.bgp_messages.specs.bgp_values.declared.mvpn_nlri.route.Route.TheVariants as routes
use Rattle.bgp_messages.specs.bgp_values.mvpn_nlri.Spelling.{written}
use Rattle.mv_base.specs.declared.route_targets.communities.ExtComm.{ExtComm}
use Rattle.bgp_messages.specs.declared.bgp_attributes.key.Key.{Key}
use Rattle.bgp_messages.specs.declared.bgp_attributes.key.Key.TheVariants.{Mcast, Unicast}
use Rattle.bgp_messages.specs.bgp_update.Written.{vpn_text, afi_of}
pub use Rattle.selective_defs.specs.Parts.{addr_key, word_part}

-- ---- the order of keys

abbrev pub afi_number : Afi → ℕ
afi_number Ipv4 = 1
afi_number Ipv6 = 2

abbrev pub leaf_parts : LeafKey → List (List ℕ)
leaf_parts (leaf_keys.Inter rd source_as) = (2 ∷ source_as ∷ []) ∷ rd.0 ∷ []
leaf_parts (leaf_keys.Selective rd source group originator) =
    (3 ∷ []) ∷ rd.0 ∷ word_part source ∷ word_part group ∷ addr_key originator ∷ []

-- the parts of a route, which tell it from every other one
abbrev pub route_parts : Route → List (List ℕ)
route_parts (routes.Intra rd originator) = (1 ∷ []) ∷ rd.0 ∷ addr_key originator ∷ []
route_parts (routes.Inter rd source_as) = (2 ∷ source_as ∷ []) ∷ rd.0 ∷ []
route_parts (routes.Selective rd source group originator) =
    (3 ∷ []) ∷ rd.0 ∷ word_part source ∷ word_part group ∷ addr_key originator ∷ []
route_parts (routes.Leaf key originator) = (4 ∷ []) ∷ addr_key originator ∷ leaf_parts key
route_parts (routes.Active rd source group) = (5 ∷ []) ∷ rd.0 ∷ addr_key source ∷ addr_key group ∷ []
route_parts (routes.SharedJoin rd source_as source group) = (6 ∷ source_as ∷ []) ∷ rd.0 ∷ addr_key source ∷ addr_key group ∷ []
route_parts (routes.SourceJoin rd source_as source group) = (7 ∷ source_as ∷ []) ∷ rd.0 ∷ addr_key source ∷ addr_key group ∷ []
route_parts (routes.Other kind octets) = (8 ∷ kind ∷ []) ∷ octets ∷ []

-- What keys are ordered by: unicast keys before multicast keys, in each kind those of AFI 1 before those of AFI 2, and then the octets
-- that spell them, the label of a unicast route aside. The parts of the key stand after, so that no two keys tie.
abbrev pub key_parts : Key → List (List ℕ)
key_parts (Unicast rd prefix) =
    (0 ∷ afi_number (afi_of prefix.addr) ∷ []) ∷ vpn_text [] rd prefix ∷ rd.0 ∷ addr_key prefix.addr ∷ (prefix.bits ∷ []) ∷ []
key_parts (Mcast afi route) = (1 ∷ afi_number afi ∷ []) ∷ written route ∷ route_parts route

abbrev pub parts_cmp : List (List ℕ) → List (List ℕ) → Ordering
parts_cmp a b = slice_cmp (slice_cmp nat_cmp) a b

abbrev pub key_cmp : Key → Key → Ordering
key_cmp a b = parts_cmp (key_parts a) (key_parts b)

-- ---- values

-- What a route says besides its key: the next hop, the extended communities, and the tunnel.
pub record Value : Type 0 where
  pub next_hop : Addr
  pub comms : List ExtComm
  pub pmsi : Option Pmsi

abbrev pub flag_number : Bool → ℕ
flag_number false = 0
flag_number true = 1

abbrev pub label_part : Option ℕ → List ℕ
label_part None = []
label_part (Some label) = label ∷ []

abbrev pub kind_number : FecKind → ℕ
kind_number P2mp = 6
kind_number Up = 7
kind_number Down = 8

abbrev pub tunnel_parts : Tunnel → List (List ℕ)
tunnel_parts tunnels.None = (0 ∷ []) ∷ [] ∷ []
tunnel_parts (tunnels.Mldp fec) = (2 ∷ kind_number fec.kind ∷ addr_key fec.root) ∷ fec.opaque ∷ []
tunnel_parts (tunnels.Ingress addr) = (6 ∷ addr_key addr) ∷ [] ∷ []
tunnel_parts (tunnels.Other kind ident) = (8 ∷ kind ∷ []) ∷ ident ∷ []

abbrev pub pmsi_parts : Option Pmsi → List (List ℕ)
pmsi_parts None = [] ∷ [] ∷ [] ∷ []
pmsi_parts (Some pmsi) = (1 ∷ flag_number pmsi.leaf_info ∷ label_part pmsi.label) ∷ tunnel_parts pmsi.tunnel

abbrev pub value_parts : Value → List (List ℕ)
value_parts value = addr_key value.next_hop ∷ (pmsi_parts value.pmsi ++ map (λ comm. comm.0) value.comms)

-- whether both are one value
abbrev pub same_value : Value → Value → Bool
same_value a b = is_eq (parts_cmp (value_parts a) (value_parts b))

-- ---- tables

-- for each key of some routes its value
abbrev pub Table : Type 0
Table = FinMap key_cmp Value
