-- The octets that spell keys, compared field by field.
use Rattle.std.proofs.Common.{◌≡◌, ℕ, ◌+◌, ◌<◌, List, [], ◌∷◌, ◌++◌, length, take, length-append, arith, refl, sym, ap, subst, ◌∙◌}
use Rattle.std.specs.declared.cmp.Ordering.{Ordering}
use Rattle.std.specs.declared.cmp.Ordering.TheVariants.{Less, Equal, Greater}
use Rattle.std.specs.Ordering.{nat_cmp, ordering_then, MatchOrdering}
use Rattle.std.specs.Cmp.{nat_cmp_is, nat_cmp_total, ranks, tied_itself}
use Rattle.std.specs.Cmp.Lexicographic.{slice_cmp}
use Rattle.std.specs.FinMap.{nat_cmp-IsAntisymmetric, slice_cmp-IsAntisymmetric}
use Rattle.std.proofs.lemmas.Cmp.{lists_total}
use Rattle.mv_base.specs.Address.{addr_octets}
use Rattle.mv_base.specs.declared.prefix.Prefix.{Prefix}
use Rattle.mv_base.specs.declared.rd.Rd.{Rd}
use Rattle.bgp_values.specs.declared.mvpn_nlri.route.Afi.{Afi}
use Rattle.bgp_values.specs.declared.mvpn_nlri.route.Afi.TheVariants.{Ipv4, Ipv6}
use Rattle.bgp_values.specs.declared.mvpn_nlri.route.Route.{Route}
use Rattle.bgp_values.specs.mvpn_nlri.Spelling.{Spells, written}
use Rattle.bgp_values.proofs.mvpn_nlri.CallLemmas.{one}
use Rattle.edge_defs.specs.selective_defs.Parts.{addr_key}
use Rattle.edge_defs.specs.bgp_messages.declared.bgp_attributes.key.Key.TheVariants.{Mcast, Unicast}
use Rattle.edge_defs.specs.bgp_messages.bgp_attributes.Spelling.{octets_for}
use Rattle.edge_defs.specs.bgp_messages.bgp_update.Written.{IsVpn, vpn_text, afi_of}
use Rattle.edge_defs.specs.Keys.{afi_number, key_cmp, parts_cmp, route_parts}
use Rattle.edge_routes.specs.route_order.Compared.{AreCompared}

-- ---- orderings

then_again : (a b c : Ordering) → ordering_then (ordering_then a b) c ≡ ordering_then a (ordering_then b c)
then_again Less b c = refl
then_again Equal b c = refl
then_again Greater b c = refl

-- what is told after is no more than a tie where the front ties
then_tied : (a b : Ordering) → (a ≡ Equal → b ≡ Equal) → a ≡ ordering_then a b
then_tied Less b h = refl
then_tied Equal b h = sym (h refl)
then_tied Greater b h = refl

-- ---- lists

-- Fronts of one length are compared first.
pub append_cmp : (a b x y : List ℕ) → length a ≡ length b
    → slice_cmp nat_cmp (a ++ x) (b ++ y) ≡ ordering_then (slice_cmp nat_cmp a b) (slice_cmp nat_cmp x y)
append_cmp [] [] x y h = refl
append_cmp [] (n ∷ b) x y h = absurd (omega (arith, h))
append_cmp (m ∷ a) [] x y h = absurd (omega (arith, h))
append_cmp (m ∷ a) (n ∷ b) x y h =
    ap (ordering_then (nat_cmp m n)) (append_cmp a b x y (omega (arith, h)))
    ∙ sym (then_again (nat_cmp m n) (slice_cmp nat_cmp a b) (slice_cmp nat_cmp x y))

moved : (k a b : ℕ) (o : Ordering) → MatchOrdering o (a < b) (a ≡ b) (b < a) → MatchOrdering o (k + a < k + b) (k + a ≡ k + b) (k + b < k + a)
moved k a b Less h = omega (arith, h)
moved k a b Equal h = omega (arith, h)
moved k a b Greater h = omega (arith, h)

plus_cmp : (k a b : ℕ) → nat_cmp a b ≡ nat_cmp (k + a) (k + b)
plus_cmp k a b = nat_cmp_is (k + a) (k + b) (nat_cmp a b) (moved k a b (nat_cmp a b) (ranks a b))

-- ---- unicast keys

pub vpn_cmp : (rd other_rd : Rd) (prefix other : Prefix) → IsVpn rd prefix → IsVpn other_rd other
    → ordering_then (ordering_then (nat_cmp prefix.bits other.bits) (slice_cmp nat_cmp rd.0 other_rd.0))
    (slice_cmp nat_cmp (take (octets_for prefix.bits) (addr_octets prefix.addr)) (take (octets_for other.bits) (addr_octets other.addr)))
    ≡ slice_cmp nat_cmp (vpn_text [] rd prefix) (vpn_text [] other_rd other)
vpn_cmp rd other_rd prefix other h k =
    let own : List ℕ = take (octets_for prefix.bits) (addr_octets prefix.addr) in
    let others : List ℕ = take (octets_for other.bits) (addr_octets other.addr) in
    then_again (nat_cmp prefix.bits other.bits) (slice_cmp nat_cmp rd.0 other_rd.0) (slice_cmp nat_cmp own others)
    ∙ ap (ordering_then (nat_cmp prefix.bits other.bits)) (sym (append_cmp rd.0 other_rd.0 own others (h.rd_len ∙ sym k.rd_len)))
    ∙ ap (λ (o : Ordering). ordering_then o (slice_cmp nat_cmp (rd.0 ++ own) (other_rd.0 ++ others))) (plus_cmp 88 prefix.bits other.bits)

-- the parts after the text of a unicast key: its Route Distinguisher and length tie where the text does
parts_tied : (family bits rd rest addr : Ordering)
    → ordering_then (ordering_then family (ordering_then (ordering_then bits rd) rest)) addr
    ≡ ordering_then (ordering_then family Equal)
    (ordering_then (ordering_then (ordering_then bits rd) rest)
    (ordering_then rd (ordering_then addr (ordering_then (ordering_then bits Equal) Equal))))
parts_tied Less bits rd rest addr = refl
parts_tied Greater bits rd rest addr = refl
parts_tied Equal Less rd rest addr = refl
parts_tied Equal Greater rd rest addr = refl
parts_tied Equal Equal Less rest addr = refl
parts_tied Equal Equal Greater rest addr = refl
parts_tied Equal Equal Equal Less addr = refl
parts_tied Equal Equal Equal Greater addr = refl
parts_tied Equal Equal Equal Equal Less = refl
parts_tied Equal Equal Equal Equal Equal = refl
parts_tied Equal Equal Equal Equal Greater = refl

pub unicast_cmp : (rd other_rd : Rd) (prefix other : Prefix) → IsVpn rd prefix → IsVpn other_rd other
    → ordering_then (ordering_then (nat_cmp (afi_number (afi_of prefix.addr)) (afi_number (afi_of other.addr)))
    (slice_cmp nat_cmp (vpn_text [] rd prefix) (vpn_text [] other_rd other)))
    (slice_cmp nat_cmp (addr_key prefix.addr) (addr_key other.addr))
    ≡ key_cmp (Unicast rd prefix) (Unicast other_rd other)
unicast_cmp rd other_rd prefix other h k =
    let family : Ordering = nat_cmp (afi_number (afi_of prefix.addr)) (afi_number (afi_of other.addr)) in
    let bits : Ordering = nat_cmp prefix.bits other.bits in
    let text : Ordering = slice_cmp nat_cmp (vpn_text [] rd prefix) (vpn_text [] other_rd other) in
    let rds : Ordering = slice_cmp nat_cmp rd.0 other_rd.0 in
    let addr : Ordering = slice_cmp nat_cmp (addr_key prefix.addr) (addr_key other.addr) in
    let own : List ℕ = take (octets_for prefix.bits) (addr_octets prefix.addr) in
    let others : List ℕ = take (octets_for other.bits) (addr_octets other.addr) in
    let e = vpn_cmp rd other_rd prefix other h k in
    subst (λ (o : Ordering). ordering_then (ordering_then family o) addr
    ≡ ordering_then (ordering_then family Equal)
    (ordering_then o (ordering_then rds (ordering_then addr (ordering_then (ordering_then bits Equal) Equal)))))
    e (parts_tied family bits rds (slice_cmp nat_cmp own others) addr)

-- ---- multicast keys

rest_tied : (afi : Afi) (own other : Route) → Spells afi own (written own) → Spells afi other (written other)
    → slice_cmp nat_cmp (written own) (written other) ≡ Equal → parts_cmp (route_parts own) (route_parts other) ≡ Equal
rest_tied afi own other h k tied =
    let text = slice_cmp-IsAntisymmetric nat_cmp-IsAntisymmetric (written own) (written other) tied in
    let same = (one afi own other (written own) (written other) [] [] h k (ap (λ (t : List ℕ). t ++ []) text)).0 in
    subst (λ (route : Route). parts_cmp (route_parts own) (route_parts route) ≡ Equal) same
    (tied_itself (lists_total (lists_total nat_cmp_total)) (route_parts own))

pub mcast_cmp : (afi other_afi : Afi) (own other : Route) → Spells afi own (written own) → Spells other_afi other (written other)
    → ordering_then (nat_cmp (afi_number afi) (afi_number other_afi)) (slice_cmp nat_cmp (written own) (written other))
    ≡ key_cmp (Mcast afi own) (Mcast other_afi other)
mcast_cmp Ipv4 Ipv4 own other h k =
    then_tied (slice_cmp nat_cmp (written own) (written other)) (parts_cmp (route_parts own) (route_parts other)) (rest_tied Ipv4 own other h k)
mcast_cmp Ipv6 Ipv6 own other h k =
    then_tied (slice_cmp nat_cmp (written own) (written other)) (parts_cmp (route_parts own) (route_parts other)) (rest_tied Ipv6 own other h k)
mcast_cmp Ipv4 Ipv6 own other h k = refl
mcast_cmp Ipv6 Ipv4 own other h k = refl

-- ---- what calls answer

pub two_told : (r a b x y : Ordering) → r ≡ ordering_then a b → a ≡ x → b ≡ y → r ≡ ordering_then x y
two_told r a b x y e h k = e ∙ λ i. ordering_then (h i) (k i)

pub three_told : (r t a b d x y z : Ordering) → r ≡ ordering_then t d → t ≡ ordering_then a b → a ≡ x → b ≡ y → d ≡ z
    → r ≡ ordering_then (ordering_then x y) z
three_told r t a b d x y z e f h k l = two_told r t d (ordering_then x y) z e (two_told t a b x y f h k) l

-- ---- octets of one length

-- What is made of two fields each is compared field by field, where the fields in front are of one length.
pub compared : (a b c d : List ℕ) (x y r : Ordering) → AreCompared a b x → AreCompared c d y → r ≡ ordering_then x y → AreCompared (a ++ c) (b ++ d) r
compared a b c d x y r h k e =
    record {
      lengths = length-append a c ∙ (λ i. h.lengths i + k.lengths i) ∙ sym (length-append b d);
      is = e ∙ (λ i. ordering_then (h.is i) (k.is i)) ∙ sym (append_cmp a b c d h.lengths);
    }
