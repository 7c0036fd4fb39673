-- Keys and values are told apart by their parts: each is what is read back from them.
use Rattle.std.proofs.Common.{◌≡◌, ℕ, ◌==◌, Bool, true, false, cond, List, [], ◌∷◌, ◌++◌, Option, Some, None, refl, sym, ap, ◌∙◌}
use Rattle.std.specs.Prelude.{map}
use Rattle.mv_base.specs.declared.rd.Rd.{Rd}
use Rattle.label_defs.specs.mldp.declared.mldp_fec.fec.FecKind.{FecKind}
use Rattle.label_defs.specs.mldp.declared.mldp_fec.fec.FecKind.TheVariants.{P2mp, Up, Down}
use Rattle.bgp_messages.specs.bgp_values.declared.pmsi_attr.pmsi.Pmsi.{Pmsi}
use Rattle.bgp_messages.specs.bgp_values.declared.pmsi_attr.pmsi.Tunnel.{Tunnel}
use Rattle.bgp_messages.specs.bgp_values.declared.pmsi_attr.pmsi.Tunnel.TheVariants as tunnels
use Rattle.bgp_messages.specs.bgp_values.declared.mvpn_nlri.route.Afi.{Afi}
use Rattle.bgp_messages.specs.bgp_values.declared.mvpn_nlri.route.Afi.TheVariants.{Ipv4, Ipv6}
use Rattle.bgp_messages.specs.bgp_values.declared.mvpn_nlri.route.LeafKey.{LeafKey}
use Rattle.bgp_messages.specs.bgp_values.declared.mvpn_nlri.route.LeafKey.TheVariants as leaf_keys
use Rattle.bgp_messages.specs.bgp_values.declared.mvpn_nlri.route.Route.{Route}
use Rattle.bgp_messages.specs.bgp_values.declared.mvpn_nlri.route.Route.TheVariants as routes
use Rattle.mv_base.specs.declared.route_targets.communities.ExtComm.{ExtComm}
use Rattle.bgp_messages.specs.declared.bgp_attributes.key.Key.{Key}
use Rattle.bgp_messages.specs.declared.bgp_attributes.key.Key.TheVariants.{Mcast, Unicast}
use Rattle.selective_defs.proofs.PartLemmas.{first, thereafter, addr_back, addr_again, word_back, word_again}
use Rattle.edge_defs.specs.Keys.{Value, leaf_parts, route_parts, key_parts, flag_number, label_part, kind_number, tunnel_parts, pmsi_parts, value_parts}

-- ---- lists

abbrev front : List (List ℕ) → List ℕ
front [] = []
front (part ∷ rest) = part

abbrev more : List (List ℕ) → List (List ℕ)
more [] = []
more (part ∷ rest) = rest

-- ---- routes

abbrev leaf_back : List (List ℕ) → LeafKey
leaf_back parts =
    let kind = first (front parts) in
    let rd : Rd = record { 0 = front (more parts) } in
    let rest = more (more parts) in
    cond (kind == 2) (leaf_keys.Inter rd (first (thereafter (front parts))))
    (leaf_keys.Selective rd (word_back (front rest)) (word_back (front (more rest))) (addr_back (front (more (more rest)))))

leaf_again : (key : LeafKey) → leaf_back (leaf_parts key) ≡ key
leaf_again (leaf_keys.Inter rd source_as) = refl
leaf_again (leaf_keys.Selective rd source group originator) =
    λ i. leaf_keys.Selective rd (word_again source i) (word_again group i) (addr_again originator i)

abbrev route_back : List (List ℕ) → Route
route_back parts =
    let kind = first (front parts) in
    let number = first (thereafter (front parts)) in
    let rd : Rd = record { 0 = front (more parts) } in
    let one = front (more (more parts)) in
    let two = front (more (more (more parts))) in
    let three = front (more (more (more (more parts)))) in
    cond (kind == 1) (routes.Intra rd (addr_back one))
    (cond (kind == 2) (routes.Inter rd number)
    (cond (kind == 3) (routes.Selective rd (word_back one) (word_back two) (addr_back three))
    (cond (kind == 4) (routes.Leaf (leaf_back (more (more parts))) (addr_back (front (more parts))))
    (cond (kind == 5) (routes.Active rd (addr_back one) (addr_back two))
    (cond (kind == 6) (routes.SharedJoin rd number (addr_back one) (addr_back two))
    (cond (kind == 7) (routes.SourceJoin rd number (addr_back one) (addr_back two))
    (routes.Other number (front (more parts)))))))))

route_again : (route : Route) → route_back (route_parts route) ≡ route
route_again (routes.Intra rd originator) = λ i. routes.Intra rd (addr_again originator i)
route_again (routes.Inter rd source_as) = refl
route_again (routes.Selective rd source group originator) =
    λ i. routes.Selective rd (word_again source i) (word_again group i) (addr_again originator i)
route_again (routes.Leaf key originator) = λ i. routes.Leaf (leaf_again key i) (addr_again originator i)
route_again (routes.Active rd source group) = λ i. routes.Active rd (addr_again source i) (addr_again group i)
route_again (routes.SharedJoin rd source_as source group) = λ i. routes.SharedJoin rd source_as (addr_again source i) (addr_again group i)
route_again (routes.SourceJoin rd source_as source group) = λ i. routes.SourceJoin rd source_as (addr_again source i) (addr_again group i)
route_again (routes.Other kind octets) = refl

-- ---- keys

abbrev afi_back : ℕ → Afi
afi_back number = cond (number == 1) Ipv4 Ipv6

afi_again : (afi : Afi) (route : Route) → afi_back (first (thereafter (front (key_parts (Mcast afi route))))) ≡ afi
afi_again Ipv4 route = refl
afi_again Ipv6 route = refl

abbrev key_back : List (List ℕ) → Key
key_back parts =
    let rest = more (more parts) in
    cond (first (front parts) == 0) (Unicast (record { 0 = front rest })
    (record { addr = addr_back (front (more rest)); bits = first (front (more (more rest))) }))
    (Mcast (afi_back (first (thereafter (front parts)))) (route_back rest))

key_again : (key : Key) → key_back (key_parts key) ≡ key
key_again (Unicast rd prefix) = λ i. Unicast rd (record { addr = addr_again prefix.addr i; bits = prefix.bits })
key_again (Mcast afi route) = λ i. Mcast (afi_again afi route i) (route_again route i)

pub one_key : (a b : Key) → key_parts a ≡ key_parts b → a ≡ b
one_key a b e = sym (key_again a) ∙ ap key_back e ∙ key_again b

-- ---- values

flag_again : (flag : Bool) → (flag_number flag == 1) ≡ flag
flag_again true = refl
flag_again false = refl

abbrev label_back : List ℕ → Option ℕ
label_back [] = None
label_back (label ∷ rest) = Some label

label_again : (label : Option ℕ) → label_back (label_part label) ≡ label
label_again None = refl
label_again (Some label) = refl

abbrev kind_back : ℕ → FecKind
kind_back number = cond (number == 6) P2mp (cond (number == 7) Up Down)

kind_again : (kind : FecKind) → kind_back (kind_number kind) ≡ kind
kind_again P2mp = refl
kind_again Up = refl
kind_again Down = refl

abbrev tunnel_back : List ℕ → List ℕ → Tunnel
tunnel_back own other =
    let kind = first own in
    cond (kind == 0) tunnels.None
    (cond (kind == 2) (tunnels.Mldp (record { kind = kind_back (first (thereafter own)); root = addr_back (thereafter (thereafter own)); opaque = other }))
    (cond (kind == 6) (tunnels.Ingress (addr_back (thereafter own)))
    (tunnels.Other (first (thereafter own)) other)))

tunnel_again : (tunnel : Tunnel) → tunnel_back (front (tunnel_parts tunnel)) (front (more (tunnel_parts tunnel))) ≡ tunnel
tunnel_again tunnels.None = refl
tunnel_again (tunnels.Mldp fec) = λ i. tunnels.Mldp (record { kind = kind_again fec.kind i; root = addr_again fec.root i; opaque = fec.opaque })
tunnel_again (tunnels.Ingress addr) = λ i. tunnels.Ingress (addr_again addr i)
tunnel_again (tunnels.Other kind ident) = refl

abbrev pmsi_back : List ℕ → List ℕ → List ℕ → Option Pmsi
pmsi_back [] own other = None
pmsi_back (number ∷ rest) own other = Some (record { leaf_info = first rest == 1; tunnel = tunnel_back own other; label = label_back (thereafter rest) })

-- the three parts of a tunnel, whatever stands after them
abbrev pmsi_front : List (List ℕ) → Option Pmsi
pmsi_front parts = pmsi_back (front parts) (front (more parts)) (front (more (more parts)))

tunnel_front : (tunnel : Tunnel) (rest : List (List ℕ))
    → tunnel_back (front (tunnel_parts tunnel ++ rest)) (front (more (tunnel_parts tunnel ++ rest))) ≡ tunnel
tunnel_front tunnels.None rest = refl
tunnel_front (tunnels.Mldp fec) rest = tunnel_again (tunnels.Mldp fec)
tunnel_front (tunnels.Ingress addr) rest = tunnel_again (tunnels.Ingress addr)
tunnel_front (tunnels.Other kind ident) rest = refl

tunnel_after : (tunnel : Tunnel) (rest : List (List ℕ)) → more (more (tunnel_parts tunnel ++ rest)) ≡ rest
tunnel_after tunnels.None rest = refl
tunnel_after (tunnels.Mldp fec) rest = refl
tunnel_after (tunnels.Ingress addr) rest = refl
tunnel_after (tunnels.Other kind ident) rest = refl

pmsi_again : (pmsi : Option Pmsi) (rest : List (List ℕ)) → pmsi_front (pmsi_parts pmsi ++ rest) ≡ pmsi
pmsi_again None rest = refl
pmsi_again (Some pmsi) rest =
    λ i. Some (record { leaf_info = flag_again pmsi.leaf_info i; tunnel = tunnel_front pmsi.tunnel rest i; label = label_again pmsi.label i })

pmsi_after : (pmsi : Option Pmsi) (rest : List (List ℕ)) → more (more (more (pmsi_parts pmsi ++ rest))) ≡ rest
pmsi_after None rest = refl
pmsi_after (Some pmsi) rest = tunnel_after pmsi.tunnel rest

abbrev comm_of : List ℕ → ExtComm
comm_of octets = record { 0 = octets }

comms_again : (comms : List ExtComm) → map comm_of (map (λ (comm : ExtComm). comm.0) comms) ≡ comms
comms_again [] = refl
comms_again (comm ∷ comms) = λ i. comm ∷ comms_again comms i

abbrev value_back : List (List ℕ) → Value
value_back parts =
    record { next_hop = addr_back (front parts); comms = map comm_of (more (more (more (more parts)))); pmsi = pmsi_front (more parts) }

abbrev octets_of : Value → List (List ℕ)
octets_of value = map (λ (comm : ExtComm). comm.0) value.comms

value_again : (value : Value) → value_back (value_parts value) ≡ value
value_again value =
    let comms : map comm_of (more (more (more (pmsi_parts value.pmsi ++ octets_of value)))) ≡ value.comms =
    ap (map comm_of) (pmsi_after value.pmsi (octets_of value)) ∙ comms_again value.comms in
    λ i. record { next_hop = addr_again value.next_hop i; comms = comms i; pmsi = pmsi_again value.pmsi (octets_of value) i }

pub one_value : (a b : Value) → value_parts a ≡ value_parts b → a ≡ b
one_value a b e = sym (value_again a) ∙ ap value_back e ∙ value_again b
