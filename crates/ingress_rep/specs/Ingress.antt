-- Ingress replication (RFC 7988; RFC 6514 sections 4.4 and 5): what a root asks of leaves, what a leaf answers, and which copies the
-- root sends.
use Rattle.std.specs.Prelude.{ℕ, Bool, true, false, ◌&&◌, ◌==◌, nat_eq, nat_le, List, [], ◌∷◌, ◌++◌, Option, None, Some, ⊤, find, filter_map}
use Rattle.std.specs.List.{list_any}
use Rattle.std.specs.Cmp.Lexicographic.{pointwise}
use Rattle.mv_base.specs.Address.{same_addr}
use Rattle.mv_base.specs.Number.{◌>>?◌, only_if}
use Rattle.mv_base.specs.declared.addr.Addr.{Addr}
use Rattle.mv_base.specs.declared.addr.Addr.TheVariants.{V4, V6}
use Rattle.mv_base.specs.declared.route_targets.communities.ExtComm.{ExtComm}
use Rattle.bgp_values.specs.declared.mvpn_nlri.route.Afi.{Afi}
use Rattle.bgp_values.specs.declared.mvpn_nlri.route.Afi.TheVariants.{Ipv4, Ipv6}
use Rattle.bgp_values.specs.declared.mvpn_nlri.route.LeafKey.{LeafKey}
use Rattle.bgp_values.specs.declared.mvpn_nlri.route.LeafKey.TheVariants as keys
use Rattle.bgp_values.specs.declared.mvpn_nlri.route.Route.TheVariants.{Selective, Leaf}
use Rattle.bgp_values.specs.mvpn_nlri.Spelling.{IsRoute}
use Rattle.bgp_values.specs.declared.pmsi_attr.pmsi.Pmsi.{Pmsi}
use Rattle.bgp_values.specs.declared.pmsi_attr.pmsi.Tunnel.{Tunnel}
use Rattle.bgp_values.specs.declared.pmsi_attr.pmsi.Tunnel.TheVariants.{Ingress}
use Rattle.bgp_messages.specs.declared.bgp_attributes.key.Key.{Key}
use Rattle.bgp_messages.specs.declared.bgp_attributes.key.Key.TheVariants.{Mcast}
use Rattle.bgp_messages.specs.declared.bgp_attributes.update.Advert.{Advert}
use Rattle.ingress_rep.specs.declared.request.Request.{Request}
use Rattle.ingress_rep.specs.declared.copying.TakenTable.{TakenTable}
use Rattle.ingress_rep.specs.declared.copying.LeafCopy.{LeafCopy}

-- ---- what is asked

abbrev pub is_ingress : Tunnel → Bool
is_ingress (Ingress addr) = true
is_ingress other = false

-- the tunnel is ingress replication, and leaf information is required (RFC 6514 section 5)
abbrev pub asks_leaves : Option Pmsi → Bool
asks_leaves None = false
asks_leaves (Some pmsi) = pmsi.leaf_info && is_ingress pmsi.tunnel

-- what the selective route of an originator of IPv4 asks
unfoldable pub selective_of : Key → Option Request
selective_of (Mcast afi (Selective rd source group (V4 root))) =
    Some (record { afi = afi; key = keys.Selective rd source group (V4 root); root = root })
selective_of other = None

-- a route asks where it is such a one with that tunnel, and its next hop is its originator
unfoldable pub request_of : Advert → Option Request
request_of advert = selective_of advert.key >>? λ request.
    only_if (asks_leaves advert.pmsi && same_addr advert.next_hop (V4 request.root)) request

-- a selective route has a spelling under its AFI
abbrev pub IsSpelledSelective : Key → Type 0
IsSpelledSelective (Mcast afi (Selective rd source group originator)) = IsRoute afi (Selective rd source group originator)
IsSpelledSelective other = ⊤

-- ---- what is answered

-- the key of a leaf's answer (RFC 6514 section 4.4)
abbrev pub answer_key : Request → Addr → Key
answer_key request leaf = Mcast request.afi (Leaf request.key leaf)

abbrev pub same_afi : Afi → Afi → Bool
same_afi Ipv4 Ipv4 = true
same_afi Ipv6 Ipv6 = true
same_afi Ipv4 Ipv6 = false
same_afi Ipv6 Ipv4 = false

abbrev pub same_any : Option Addr → Option Addr → Bool
same_any None None = true
same_any (Some addr) (Some other) = same_addr addr other
same_any None (Some other) = false
same_any (Some addr) None = false

abbrev pub same_leaf_key : LeafKey → LeafKey → Bool
same_leaf_key (keys.Inter rd source_as) (keys.Inter others number) = pointwise nat_eq rd.0 others.0 && source_as == number
same_leaf_key (keys.Selective rd source group originator) (keys.Selective others sources groups originators) =
    pointwise nat_eq rd.0 others.0 && (same_any source sources && same_any group groups) && same_addr originator originators
same_leaf_key (keys.Inter rd source_as) (keys.Selective others sources groups originators) = false
same_leaf_key (keys.Selective rd source group originator) (keys.Inter others number) = false

-- whether the key is that of the leaf's answer
abbrev pub is_answer : Request → Addr → Key → Bool
is_answer request leaf (Mcast afi (Leaf key originator)) =
    same_afi afi request.afi && same_leaf_key key request.key && same_addr originator leaf
is_answer request leaf other = false

-- the Route Target of the root's address, with number 0 (RFC 4360 section 4)
abbrev pub root_target : Request → ExtComm
root_target request = record { 0 = 0x01 ∷ 0x02 ∷ (request.root ++ (0 ∷ 0 ∷ [])) }

-- the tunnel to a leaf under its label
abbrev pub leaf_tunnel : Addr → ℕ → Pmsi
leaf_tunnel leaf label = record { leaf_info = false; tunnel = Ingress leaf; label = Some label }

-- a leaf's answer: a Leaf A-D route with the leaf as originator and next hop
abbrev pub answer_of : Request → Addr → ℕ → Advert
answer_of request leaf label = record {
  key = answer_key request leaf;
  next_hop = leaf;
  comms = root_target request ∷ [];
  pmsi = Some (leaf_tunnel leaf label);
}

-- ---- copies

abbrev pub same_comm : ExtComm → ExtComm → Bool
same_comm own other = pointwise nat_eq own.0 other.0

-- the label, where the tunnel is ingress replication that ends at that address
abbrev pub tunnel_label : Addr → Tunnel → Option ℕ → Option ℕ
tunnel_label leaf (Ingress addr) label = label >>? λ label. only_if (same_addr addr leaf) label
tunnel_label leaf other label = None

abbrev pub label_to : Addr → Option Pmsi → Option ℕ
label_to leaf None = None
label_to leaf (Some pmsi) = tunnel_label leaf pmsi.tunnel pmsi.label

-- The label that a route tells of a leaf: the leaf is its next hop, it has the root's target, and its tunnel is ingress replication that
-- ends at the leaf, under a label that is not reserved (RFC 3032 section 2.1).
unfoldable pub label_told : Request → Addr → Advert → Option ℕ
label_told request leaf advert = label_to leaf advert.pmsi >>? λ label.
    only_if (same_addr advert.next_hop leaf && (list_any (same_comm (root_target request)) advert.comms && nat_le 16 label)) label

-- the leaf's answer in a table
abbrev pub answer_in : Request → Addr → List Advert → Option Advert
answer_in request leaf table = find (λ advert. is_answer request leaf advert.key) table

-- the copy that goes to a peer, by the answer in its table
unfoldable pub copy_of : Request → TakenTable → Option LeafCopy
copy_of request taken = answer_in request taken.peer taken.table >>? λ advert.
    label_told request taken.peer advert >>? λ label. Some (record { leaf = taken.peer; label = label })

-- the copies of the root that asks so, in the order of the peers
unfoldable pub copies_of : Option Request → List TakenTable → List LeafCopy
copies_of None taken = []
copies_of (Some request) taken = filter_map (copy_of request) taken
