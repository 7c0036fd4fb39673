-- Keys that are spelled whole by the numbers by which they are compared first.
use Rattle.std.proofs.Common.{◌≡◌, ℕ, ◌+◌, ◌-◌, ◌/◌, ◌<◌, ◌≤◌, List, [], ◌∷◌, ◌++◌, length, drop, slice_index, arith, refl, sym, ap, ◌∙◌, suc, zero, subst}
use Rattle.std.specs.Prelude.{true, nat_eq}
use Rattle.std.specs.Cmp.{Equal-is}
use Rattle.std.specs.Cmp.Lexicographic.{slice_cmp}
use Rattle.std.specs.FinMap.{nat_cmp-IsAntisymmetric, slice_cmp-IsAntisymmetric}
use Rattle.std.specs.Ordering.{is_eq, nat_cmp}
use Rattle.std.specs.declared.cmp.Ordering.{Ordering}
use Rattle.std.specs.Int.{from_be_bytes, to_be_bytes, w64}
use Rattle.std.proofs.lemmas.Nat.{be_bytes_8}
use Rattle.mv_base.specs.Octets.{IsOctets}
use Rattle.mv_base.specs.declared.addr.Addr.{Addr}
use Rattle.mv_base.specs.declared.addr.Addr.TheVariants.{V4, V6}
use Rattle.bgp_values.specs.declared.mvpn_nlri.route.Afi.{Afi}
use Rattle.bgp_values.specs.declared.mvpn_nlri.route.Afi.TheVariants.{Ipv4, Ipv6}
use Rattle.bgp_values.specs.declared.mvpn_nlri.route.Route.{Route}
use Rattle.bgp_values.specs.mvpn_nlri.Reading.{route_at}
use Rattle.bgp_values.specs.mvpn_nlri.Spelling.{Spells, kind, written}
use Rattle.bgp_values.proofs.mvpn_nlri.CallLemmas.{spelled_is_read}
use Rattle.edge_defs.specs.bgp_messages.declared.bgp_attributes.key.Key.{Key}
use Rattle.edge_defs.specs.bgp_messages.declared.bgp_attributes.key.Key.TheVariants.{Mcast, Unicast}
use Rattle.edge_defs.specs.bgp_messages.bgp_update.Written.{IsWritableKey, afi_of}
use Rattle.edge_defs.specs.Keys.{afi_number}
use Rattle.edge_routes.specs.route_order.Front.{AreOctets, IsFronted, IsWhole, filled, front_of, number_of, numbers, spelled_after}
use Rattle.edge_routes.specs.declared.route_order.route_type.RouteType.{RouteType}
use Rattle.edge_routes.specs.route_order.Kept.{code_of, is_of_type, key_by, octets_by, read_route}
use Rattle.edge_routes.proofs.route_order.FrontLemmas.{drop_octets, filled_len, filled_octets}

-- ---- eight octets and their number

eight : (a b c d e f g h : ℕ) → spelled_after 0 (a ∷ b ∷ c ∷ d ∷ e ∷ f ∷ g ∷ h ∷ []) ≡ from_be_bytes w64 (a ∷ b ∷ c ∷ d ∷ e ∷ f ∷ g ∷ h ∷ [])
eight a b c d e f g h = omega arith

number_back : (xs : List ℕ) → length xs ≡ 8 → IsOctets xs → to_be_bytes w64 (spelled_after 0 xs) ≡ xs
number_back [] l o = absurd (omega (arith, l))
number_back (a ∷ []) l o = absurd (omega (arith, l))
number_back (a ∷ b ∷ []) l o = absurd (omega (arith, l))
number_back (a ∷ b ∷ c ∷ []) l o = absurd (omega (arith, l))
number_back (a ∷ b ∷ c ∷ d ∷ []) l o = absurd (omega (arith, l))
number_back (a ∷ b ∷ c ∷ d ∷ e ∷ []) l o = absurd (omega (arith, l))
number_back (a ∷ b ∷ c ∷ d ∷ e ∷ f ∷ []) l o = absurd (omega (arith, l))
number_back (a ∷ b ∷ c ∷ d ∷ e ∷ f ∷ g ∷ []) l o = absurd (omega (arith, l))
number_back (a ∷ b ∷ c ∷ d ∷ e ∷ f ∷ g ∷ h ∷ []) l o = be_bytes_8 _ _ l o (eight a b c d e f g h)
number_back (a ∷ b ∷ c ∷ d ∷ e ∷ f ∷ g ∷ h ∷ x ∷ xs) l o = absurd (omega (arith, l))

first_octet : (xs : List ℕ) → length xs ≡ 8 → IsOctets xs → spelled_after 0 xs / 72057594037927936 ≡ slice_index xs 0
first_octet [] l o = absurd (omega (arith, l))
first_octet (a ∷ []) l o = absurd (omega (arith, l))
first_octet (a ∷ b ∷ []) l o = absurd (omega (arith, l))
first_octet (a ∷ b ∷ c ∷ []) l o = absurd (omega (arith, l))
first_octet (a ∷ b ∷ c ∷ d ∷ []) l o = absurd (omega (arith, l))
first_octet (a ∷ b ∷ c ∷ d ∷ e ∷ []) l o = absurd (omega (arith, l))
first_octet (a ∷ b ∷ c ∷ d ∷ e ∷ f ∷ []) l o = absurd (omega (arith, l))
first_octet (a ∷ b ∷ c ∷ d ∷ e ∷ f ∷ g ∷ []) l o = absurd (omega (arith, l))
first_octet (a ∷ b ∷ c ∷ d ∷ e ∷ f ∷ g ∷ h ∷ []) l o = omega (arith, o 1, o 2, o 3, o 4, o 5, o 6, o 7)
first_octet (a ∷ b ∷ c ∷ d ∷ e ∷ f ∷ g ∷ h ∷ x ∷ xs) l o = absurd (omega (arith, l))

-- ---- octets with zeros after them

drop_none : (n : ℕ) → drop {A = ℕ} n [] ≡ []
drop_none zero = refl
drop_none (suc n) = refl

filled_parts : (n m : ℕ) (xs : List ℕ) → filled (n + m) xs ≡ filled n xs ++ filled m (drop n xs)
filled_parts zero m xs = let e : 0 + m ≡ m = omega arith in ap (λ (k : ℕ). filled k xs) e
filled_parts (suc n) m [] =
    let e : suc n + m ≡ suc (n + m) = omega arith in
    ap (λ (k : ℕ). filled k []) e
    ∙ ap (λ (ys : List ℕ). 0 ∷ ys) (filled_parts n m [] ∙ ap (λ (ys : List ℕ). filled n [] ++ filled m ys) (drop_none n))
filled_parts (suc n) m (x ∷ xs) =
    let e : suc n + m ≡ suc (n + m) = omega arith in
    ap (λ (k : ℕ). filled k (x ∷ xs)) e ∙ ap (λ (ys : List ℕ). x ∷ ys) (filled_parts n m xs)

filled_rest : (n : ℕ) (xs : List ℕ) → length xs ≤ n → filled n xs ≡ xs ++ filled (n - length xs) []
filled_rest n [] l = let e : n ≡ n - 0 = omega arith in ap (λ (k : ℕ). filled k []) e
filled_rest zero (x ∷ xs) l = absurd (omega (arith, l))
filled_rest (suc n) (x ∷ xs) l =
    let e : n - length xs ≡ suc n - suc (length xs) = omega arith in
    ap (λ (ys : List ℕ). x ∷ ys) (filled_rest n xs (omega (arith, l)) ∙ ap (λ (k : ℕ). xs ++ filled k []) e)

-- ---- a key and its numbers

number_octets : (xs : List ℕ) → IsOctets xs → to_be_bytes w64 (number_of xs) ≡ filled 8 xs
number_octets xs o = number_back (filled 8 xs) (filled_len 8 xs) (filled_octets 8 xs o)

octets_back : (family : ℕ) (text : List ℕ) → IsOctets text → octets_by (family ∷ numbers 3 text) ≡ filled 24 text
octets_back family text o =
    let second = drop_octets 8 text o in
    let third = drop_octets 8 (drop 8 text) second in
    (λ i. number_octets text o i ++ (number_octets (drop 8 text) second i ++ number_octets (drop 8 (drop 8 text)) third i))
    ∙ ap (λ (ys : List ℕ). filled 8 text ++ ys) (sym (filled_parts 8 8 (drop 8 text)))
    ∙ sym (filled_parts 8 16 text)

read_back : (afi : Afi) (family : ℕ) (route : Route) → Spells afi route (written route) → IsOctets (written route) → length (written route) ≤ 24
    → read_route (route_at afi (octets_by (family ∷ numbers 3 (written route)))) ≡ route
read_back afi family route spelled o l =
    let bytes = octets_by (family ∷ numbers 3 (written route)) in
    let parts = octets_back family (written route) o ∙ filled_rest 24 (written route) l in
    ap read_route (spelled_is_read (route_at afi bytes) afi bytes refl route (written route) (filled (24 - length (written route)) []) spelled parts)

-- A key that its numbers spell whole is read from them.
pub whole_back : (key : Key) → IsWritableKey key → AreOctets key → IsWhole key → key_by (front_of key) ≡ key
whole_back (Unicast rd prefix) spelled o l = absurd l
whole_back (Mcast Ipv4 route) spelled o l = ap (λ (read : Route). Mcast Ipv4 read) (read_back Ipv4 3 route spelled o l)
whole_back (Mcast Ipv6 route) spelled o l = ap (λ (read : Route). Mcast Ipv6 read) (read_back Ipv6 4 route spelled o l)

-- The first octet of a multicast key's second number is the type of its route.
first_is_kind : (route : Route) → IsOctets (written route) → number_of (written route) / 72057594037927936 ≡ kind route
first_is_kind route o = first_octet (filled 8 (written route)) (filled_len 8 (written route)) (filled_octets 8 (written route) o)

-- A unicast key's first number is at most 2.
unicast_below : (addr : Addr) → 2 < afi_number (afi_of addr) → ⊥
unicast_below (V4 octets) more = absurd (omega (arith, more))
unicast_below (V6 octets) more = absurd (omega (arith, more))

pub type_is : (key : Key) (front : List ℕ) (own : RouteType) → IsFronted key front → 2 < slice_index front 0
    → nat_eq (slice_index front 1 / 72057594037927936) (code_of own) ≡ is_of_type own key
type_is (Unicast rd prefix) front own fronted more =
    absurd (unicast_below prefix.addr (subst (λ (f : List ℕ). 2 < slice_index f 0) fronted.front more))
type_is (Mcast afi route) front own fronted more =
    ap (λ (f : List ℕ). nat_eq (slice_index f 1 / 72057594037927936) (code_of own)) fronted.front
    ∙ ap (λ (n : ℕ). nat_eq n (code_of own)) (first_is_kind route fronted.octets)

-- Keys that are compared by the same numbers have the same ones.
pub tied_are_one : (front other : List ℕ) (order : Ordering) → order ≡ slice_cmp nat_cmp front other → is_eq order ≡ true → front ≡ other
tied_are_one front other order told tied =
    slice_cmp-IsAntisymmetric nat_cmp-IsAntisymmetric front other (sym told ∙ (Equal-is order).0 tied)
