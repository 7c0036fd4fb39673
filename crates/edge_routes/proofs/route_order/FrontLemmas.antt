-- What keys are compared by first agrees with their order.
use Rattle.std.proofs.Common.{◌≡◌, ℕ, ◌+◌, ◌*◌, ◌<◌, List, [], ◌∷◌, length, drop, arith, refl, sym, ap, ◌∙◌, suc, zero}
use Rattle.std.specs.Prelude.{false}
use Rattle.std.specs.declared.cmp.Ordering.{Ordering}
use Rattle.std.specs.declared.cmp.Ordering.TheVariants.{Less, Equal, Greater}
use Rattle.std.specs.Ordering.{nat_cmp, is_eq, ordering_then, ordering_reverse, MatchOrdering}
use Rattle.std.specs.Cmp.{nat_cmp_is, nat_cmp_total, ranks}
use Rattle.std.specs.Cmp.Lexicographic.{slice_cmp}
use Rattle.std.proofs.lemmas.Cmp.{lists_total}
use Rattle.mv_base.specs.Octets.{IsOctets}
use Rattle.mv_base.specs.declared.addr.Addr.{Addr}
use Rattle.mv_base.specs.declared.addr.Addr.TheVariants.{V4, V6}
use Rattle.mv_base.specs.declared.prefix.Prefix.{Prefix}
use Rattle.mv_base.specs.declared.rd.Rd.{Rd}
use Rattle.bgp_values.specs.declared.mvpn_nlri.route.Afi.{Afi}
use Rattle.bgp_values.specs.declared.mvpn_nlri.route.Afi.TheVariants.{Ipv4, Ipv6}
use Rattle.bgp_values.specs.declared.mvpn_nlri.route.Route.{Route}
use Rattle.bgp_values.specs.mvpn_nlri.Spelling.{written}
use Rattle.edge_defs.proofs.KeyLemmas.{key_total, unicast_first}
use Rattle.edge_defs.specs.bgp_messages.declared.bgp_attributes.key.Key.{Key}
use Rattle.edge_defs.specs.bgp_messages.declared.bgp_attributes.key.Key.TheVariants.{Mcast, Unicast}
use Rattle.edge_defs.specs.bgp_messages.bgp_update.Written.{IsVpn, IsWritableKey, afi_of}
use Rattle.edge_defs.specs.selective_defs.Parts.{addr_key}
use Rattle.edge_defs.specs.Keys.{afi_number, key_cmp, parts_cmp, route_parts}
use Rattle.edge_routes.specs.route_order.Front.{filled, spelled_after, number_of, numbers, prefix_text, front_of, AreOctets, IsFronted}
use Rattle.edge_routes.proofs.route_order.OrderLemmas.{unicast_cmp, vpn_cmp}

-- ---- orderings

-- What decides is Less, or it ties and the rest is Less.
parted : (a b : Ordering) {G : Type 0} → ordering_then a b ≡ Less → (a ≡ Less → G) → (a ≡ Equal → b ≡ Less → G) → G
parted Less b h f g = f refl
parted Equal b h f g = g refl h
parted Greater b h f g = absurd cc

then_less : (a b c : Ordering) → ordering_then a b ≡ Less → (b ≡ Less → c ≡ Less) → ordering_then a c ≡ Less
then_less Less b c h k = refl
then_less Equal b c h k = k h
then_less Greater b c h k = absurd cc

then_tied : (a b c : Ordering) → ordering_then a b ≡ Equal → (b ≡ Equal → c ≡ Less) → ordering_then a c ≡ Less
then_tied Less b c h k = absurd cc
then_tied Equal b c h k = k h
then_tied Greater b c h k = absurd cc

-- ---- octets and zeros

none_less : (xs : List ℕ) → slice_cmp nat_cmp xs [] ≡ Less → Less ≡ Equal
none_less [] h = sym h
none_less (x ∷ xs) h = absurd cc

zero_less : (x : ℕ) (b : Ordering) → ordering_then (nat_cmp x 0) b ≡ Less → b ≡ Less
zero_less zero b h = h
zero_less (suc x) b h =
    let more : 0 < suc x = omega arith in
    let over : Greater ≡ Less = ap (λ (o : Ordering). ordering_then o b) (nat_cmp_is (suc x) 0 Greater more) ∙ h in
    absurd cc

pub filled_less : (n : ℕ) (xs ys : List ℕ) → slice_cmp nat_cmp (filled n xs) (filled n ys) ≡ Less → slice_cmp nat_cmp xs ys ≡ Less
filled_less zero xs ys h = absurd cc
filled_less (suc n) [] [] h = filled_less n [] [] h
filled_less (suc n) [] (y ∷ ys) h = refl
filled_less (suc n) (x ∷ xs) [] h =
    let tied = none_less xs (filled_less n xs [] (zero_less x (slice_cmp nat_cmp (filled n xs) (filled n [])) h)) in
    absurd cc
filled_less (suc n) (x ∷ xs) (y ∷ ys) h =
    then_less (nat_cmp x y) (slice_cmp nat_cmp (filled n xs) (filled n ys)) (slice_cmp nat_cmp xs ys) h (filled_less n xs ys)

pub filled_tied : (n : ℕ) (xs ys : List ℕ) → slice_cmp nat_cmp (filled n xs) (filled n ys) ≡ Equal
    → slice_cmp nat_cmp (drop n xs) (drop n ys) ≡ Less → slice_cmp nat_cmp xs ys ≡ Less
filled_tied zero xs ys h k = k
filled_tied (suc n) [] [] h k = absurd cc
filled_tied (suc n) [] (y ∷ ys) h k = refl
filled_tied (suc n) (x ∷ xs) [] h k = let tied = none_less (drop n xs) k in absurd cc
filled_tied (suc n) (x ∷ xs) (y ∷ ys) h k =
    then_tied (nat_cmp x y) (slice_cmp nat_cmp (filled n xs) (filled n ys)) (slice_cmp nat_cmp xs ys) h (λ e. filled_tied n xs ys e k)

pub filled_len : (n : ℕ) (xs : List ℕ) → length (filled n xs) ≡ n
filled_len zero xs = refl
filled_len (suc n) [] = ap suc (filled_len n [])
filled_len (suc n) (x ∷ xs) = ap suc (filled_len n xs)

pub filled_octets : (n : ℕ) (xs : List ℕ) → IsOctets xs → IsOctets (filled n xs)
filled_octets zero xs h i = omega arith
filled_octets (suc n) [] h zero = omega arith
filled_octets (suc n) [] h (suc i) = filled_octets n [] h i
filled_octets (suc n) (x ∷ xs) h zero = h 0
filled_octets (suc n) (x ∷ xs) h (suc i) = filled_octets n xs (λ j. h (suc j)) i

pub drop_octets : (n : ℕ) (xs : List ℕ) → IsOctets xs → IsOctets (drop n xs)
drop_octets zero xs h = h
drop_octets (suc n) [] h = h
drop_octets (suc n) (x ∷ xs) h = drop_octets n xs (λ j. h (suc j))

-- ---- octets as numbers

rises : (a b : ℕ) (xs ys : List ℕ) → length xs ≡ length ys → IsOctets xs → a < b → spelled_after a xs < spelled_after b ys
rises a b [] [] e h l = l
rises a b [] (y ∷ ys) e h l = absurd (omega (arith, e))
rises a b (x ∷ xs) [] e h l = absurd (omega (arith, e))
rises a b (x ∷ xs) (y ∷ ys) e h l =
    let small : x < 256 = h 0 in
    rises (a * 256 + x) (b * 256 + y) xs ys (omega (arith, e)) (λ j. h (suc j)) (omega (arith, small, l))

pub spelled_cmp : (a : ℕ) (xs ys : List ℕ) → length xs ≡ length ys → IsOctets xs → IsOctets ys
    → slice_cmp nat_cmp xs ys ≡ nat_cmp (spelled_after a xs) (spelled_after a ys)
spelled_cmp a [] [] e g h = nat_cmp_is a a Equal refl
spelled_cmp a [] (y ∷ ys) e g h = absurd (omega (arith, e))
spelled_cmp a (x ∷ xs) [] e g h = absurd (omega (arith, e))
spelled_cmp a (x ∷ xs) (y ∷ ys) e g h =
    by (spelled_cmp (a * 256 + x) xs ys (omega (arith, e)) (λ j. g (suc j)) (λ j. h (suc j))) (nat_cmp x y) refl (ranks x y)
  where
    by : slice_cmp nat_cmp xs ys ≡ nat_cmp (spelled_after (a * 256 + x) xs) (spelled_after (a * 256 + x) ys)
        → (o : Ordering) → nat_cmp x y ≡ o → MatchOrdering o (x < y) (x ≡ y) (y < x)
        → ordering_then (nat_cmp x y) (slice_cmp nat_cmp xs ys) ≡ nat_cmp (spelled_after (a * 256 + x) xs) (spelled_after (a * 256 + y) ys)
    by rest Less t l =
        let less : x < y = l in
        let more = rises (a * 256 + x) (a * 256 + y) xs ys (omega (arith, e)) (λ j. g (suc j)) (omega (arith, less)) in
        ap (λ (o : Ordering). ordering_then o (slice_cmp nat_cmp xs ys)) t
        ∙ nat_cmp_is (spelled_after (a * 256 + x) xs) (spelled_after (a * 256 + y) ys) Less more
    by rest Equal t l =
        let same : x ≡ y = l in
        ap (λ (o : Ordering). ordering_then o (slice_cmp nat_cmp xs ys)) t
        ∙ rest
        ∙ ap (λ (z : ℕ). nat_cmp (spelled_after (a * 256 + x) xs) (spelled_after (a * 256 + z) ys)) same
    by rest Greater t l =
        let over : y < x = l in
        let more = rises (a * 256 + y) (a * 256 + x) ys xs (omega (arith, e)) (λ j. h (suc j)) (omega (arith, over)) in
        ap (λ (o : Ordering). ordering_then o (slice_cmp nat_cmp xs ys)) t
        ∙ nat_cmp_is (spelled_after (a * 256 + x) xs) (spelled_after (a * 256 + y) ys) Greater more

number_cmp : (xs ys : List ℕ) → IsOctets xs → IsOctets ys → slice_cmp nat_cmp (filled 8 xs) (filled 8 ys) ≡ nat_cmp (number_of xs) (number_of ys)
number_cmp xs ys g h =
    spelled_cmp 0 (filled 8 xs) (filled 8 ys) (filled_len 8 xs ∙ sym (filled_len 8 ys)) (filled_octets 8 xs g) (filled_octets 8 ys h)

pub numbers_less : (n : ℕ) (xs ys : List ℕ) → IsOctets xs → IsOctets ys
    → slice_cmp nat_cmp (numbers n xs) (numbers n ys) ≡ Less → slice_cmp nat_cmp xs ys ≡ Less
numbers_less zero xs ys g h less = absurd cc
numbers_less (suc n) xs ys g h less =
    let first = number_cmp xs ys g h in
    let rest = numbers_less n (drop 8 xs) (drop 8 ys) (drop_octets 8 xs g) (drop_octets 8 ys h) in
    parted (nat_cmp (number_of xs) (number_of ys)) (slice_cmp nat_cmp (numbers n (drop 8 xs)) (numbers n (drop 8 ys))) less
    (λ e. filled_less 8 xs ys (first ∙ e))
    (λ e l. filled_tied 8 xs ys (first ∙ e) (rest l))

-- ---- keys

mcast_less : (afi : Afi) (own other : Route) → slice_cmp nat_cmp (written own) (written other) ≡ Less → key_cmp (Mcast afi own) (Mcast afi other) ≡ Less
mcast_less Ipv4 own other h = ap (λ (o : Ordering). ordering_then o (parts_cmp (route_parts own) (route_parts other))) h
mcast_less Ipv6 own other h = ap (λ (o : Ordering). ordering_then o (parts_cmp (route_parts own) (route_parts other))) h

-- The length of a prefix, a Route Distinguisher and the first octets of the prefix are compared before the rest.
parts_less : (family bits rd first rest addr : Ordering)
    → ordering_then family (ordering_then bits (ordering_then rd (ordering_then first Equal))) ≡ Less → (first ≡ Less → rest ≡ Less)
    → ordering_then (ordering_then family (ordering_then (ordering_then bits rd) rest)) addr ≡ Less
parts_less Less bits rd first rest addr h g = refl
parts_less Equal Less rd first rest addr h g = refl
parts_less Equal Equal Less first rest addr h g = refl
parts_less Equal Equal Equal Less rest addr h g = ap (λ (o : Ordering). ordering_then o addr) (g refl)
parts_less Equal Equal Equal Equal rest addr h g = absurd cc
parts_less Equal Equal Equal Greater rest addr h g = absurd cc
parts_less Equal Equal Greater first rest addr h g = absurd cc
parts_less Equal Greater rd first rest addr h g = absurd cc
parts_less Greater bits rd first rest addr h g = absurd cc

unicast_less : (rd other_rd : Rd) (prefix next : Prefix) → IsVpn rd prefix → IsVpn other_rd next
    → AreOctets (Unicast rd prefix) → AreOctets (Unicast other_rd next)
    → slice_cmp nat_cmp (front_of (Unicast rd prefix)) (front_of (Unicast other_rd next)) ≡ Less
    → key_cmp (Unicast rd prefix) (Unicast other_rd next) ≡ Less
unicast_less rd other_rd prefix next u v g h less =
    let family : Ordering = nat_cmp (afi_number (afi_of prefix.addr)) (afi_number (afi_of next.addr)) in
    let bits : Ordering = nat_cmp prefix.bits next.bits in
    let rds : Ordering = slice_cmp nat_cmp rd.0 other_rd.0 in
    let first : Ordering = nat_cmp (number_of (prefix_text prefix)) (number_of (prefix_text next)) in
    let rest : Ordering = slice_cmp nat_cmp (prefix_text prefix) (prefix_text next) in
    let addr : Ordering = slice_cmp nat_cmp (addr_key prefix.addr) (addr_key next.addr) in
    let same = spelled_cmp 0 rd.0 other_rd.0 (u.rd_len ∙ sym v.rd_len) g.0 h.0 in
    sym (unicast_cmp rd other_rd prefix next u v)
    ∙ ap (λ (text : Ordering). ordering_then (ordering_then family text) addr) (sym (vpn_cmp rd other_rd prefix next u v))
    ∙ parts_less family bits rds first rest addr
    (ap (λ (o : Ordering). ordering_then family (ordering_then bits (ordering_then o (ordering_then first Equal)))) same ∙ less)
    (λ e. filled_less 8 (prefix_text prefix) (prefix_text next) (number_cmp (prefix_text prefix) (prefix_text next) g.1 h.1 ∙ e))

-- A multicast key is none that comes first of a unicast one.
mcast_later : (afi : Afi) (addr : Addr) (rest : Ordering) → ordering_then (nat_cmp (2 + afi_number afi) (afi_number (afi_of addr))) rest ≡ Less → ⊥
mcast_later Ipv4 (V4 octets) rest h = absurd cc
mcast_later Ipv4 (V6 octets) rest h = absurd cc
mcast_later Ipv6 (V4 octets) rest h = absurd cc
mcast_later Ipv6 (V6 octets) rest h = absurd cc

pub front_less : (own other : Key) → IsWritableKey own → IsWritableKey other → AreOctets own → AreOctets other
    → slice_cmp nat_cmp (front_of own) (front_of other) ≡ Less → key_cmp own other ≡ Less
front_less (Unicast rd prefix) (Unicast other_rd next) u v g h less = unicast_less rd other_rd prefix next u v g h less
front_less (Unicast rd prefix) (Mcast afi route) u v g h less = unicast_first rd prefix afi route
front_less (Mcast afi route) (Unicast rd prefix) u v g h less =
    absurd (mcast_later afi prefix.addr (slice_cmp nat_cmp (numbers 3 (written route))
    (prefix.bits ∷ spelled_after 0 rd.0 ∷ number_of (prefix_text prefix) ∷ [])) less)
front_less (Mcast Ipv4 own) (Mcast Ipv4 other) u v g h less = mcast_less Ipv4 own other (numbers_less 3 (written own) (written other) g h less)
front_less (Mcast Ipv6 own) (Mcast Ipv6 other) u v g h less = mcast_less Ipv6 own other (numbers_less 3 (written own) (written other) g h less)
front_less (Mcast Ipv4 own) (Mcast Ipv6 other) u v g h less = refl
front_less (Mcast Ipv6 own) (Mcast Ipv4 other) u v g h less = absurd cc

-- Where the fronts do not tie, their order is that of the keys.
pub front_decides : (own other : Key) (front next : List ℕ) (order : Ordering) → IsFronted own front → IsFronted other next
    → order ≡ slice_cmp nat_cmp front next → is_eq order ≡ false → order ≡ key_cmp own other
front_decides own other front next order g h told apart = by order refl apart
  where
    fronts : order ≡ slice_cmp nat_cmp (front_of own) (front_of other)
    fronts = told ∙ (λ i. slice_cmp nat_cmp (g.front i) (h.front i))

    by : (o : Ordering) → order ≡ o → is_eq o ≡ false → o ≡ key_cmp own other
    by Less e k = sym (front_less own other g.writable h.writable g.octets h.octets (sym fronts ∙ e))
    by Equal e k = absurd cc
    by Greater e k =
        let turned = (lists_total nat_cmp_total).antisymm (front_of other) (front_of own) in
        let back = front_less other own h.writable g.writable h.octets g.octets (turned ∙ ap ordering_reverse (sym fronts ∙ e)) in
        sym (key_total.antisymm own other ∙ ap ordering_reverse back)
