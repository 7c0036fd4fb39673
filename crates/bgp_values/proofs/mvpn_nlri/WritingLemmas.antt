-- Texts that are written end to end, and how many octets a route has.
use Rattle.std.proofs.Common.{◌≡◌, ℕ, suc, ◌+◌, ◌<◌, ◌≤◌, List, [], ◌∷◌, ◌++◌, length, take, drop, Option, Some, None, refl, ap, ◌∙◌, append_assoc, arith}
use Rattle.std.specs.Int.{w32, to_be_bytes}
use Rattle.std.proofs.lemmas.List.{take-append-le, take-take, drop_at, length-append, length-take-le}
use Rattle.mv_base.specs.Address.{addr_octets, IsAddr}
use Rattle.mv_base.specs.declared.addr.Addr.{Addr}
use Rattle.mv_base.specs.declared.addr.Addr.TheVariants.{V4, V6}
use Rattle.mv_base.specs.Writing.{put_at}
use Rattle.mv_base.proofs.Fields.{puts}
use Rattle.bgp_values.specs.declared.mvpn_nlri.route.Afi.{Afi}
use Rattle.bgp_values.specs.declared.mvpn_nlri.route.Afi.TheVariants.{Ipv4, Ipv6}
use Rattle.bgp_values.specs.declared.mvpn_nlri.route.LeafKey.{LeafKey}
use Rattle.bgp_values.specs.declared.mvpn_nlri.route.LeafKey.TheVariants as keys
use Rattle.bgp_values.specs.declared.mvpn_nlri.route.Route.{Route}
use Rattle.bgp_values.specs.declared.mvpn_nlri.route.Route.TheVariants.{Intra, Inter, Selective, Leaf, Active, SharedJoin, SourceJoin, Other}
use Rattle.bgp_values.specs.mvpn_nlri.Spelling.{IsSource, IsGroup, IsAnyOr, IsKey, IsRoute, sized, any_or_sized, key_fields, fields}

-- ---- writing

pub puts_two : (old a b : List ℕ) (p q : ℕ) → p + length (a ++ b) ≤ length old → q ≡ p + length a
    → put_at (put_at old p a) q b ≡ put_at old p (a ++ b)
puts_two old a b p q room at = puts old a b p q (omega (arith, room, length-append a b)) at

pub puts_three : (old a b c : List ℕ) (p q r : ℕ) → p + length (a ++ (b ++ c)) ≤ length old → q ≡ p + length a → r ≡ q + length b
    → put_at (put_at (put_at old p a) q b) r c ≡ put_at old p (a ++ (b ++ c))
puts_three old a b c p q r room at thereafter =
    let sizes : length (a ++ (b ++ c)) ≡ length a + (length b + length c) = length-append a (b ++ c) ∙ ap (λ n. length a + n) (length-append b c) in
    let both : put_at (put_at old p a) q b ≡ put_at old p (a ++ b) = puts old a b p q (omega (arith, room, sizes)) at in
    ap (λ xs. put_at xs r c) both ∙ puts old (a ++ b) c p r (omega (arith, room, sizes, length-append a b))
    (omega (arith, at, thereafter, length-append a b)) ∙ ap (λ xs. put_at old p xs) (append_assoc a b c)

pub puts_four : (old a b c d : List ℕ) (p q r s : ℕ) → p + length (a ++ (b ++ (c ++ d))) ≤ length old → q ≡ p + length a → r ≡ q + length b
    → s ≡ r + length c → put_at (put_at (put_at (put_at old p a) q b) r c) s d ≡ put_at old p (a ++ (b ++ (c ++ d)))
puts_four old a b c d p q r s room at thereafter last =
    let sizes : length (a ++ (b ++ (c ++ d))) ≡ length a + (length b + (length c + length d)) =
    length-append a (b ++ (c ++ d)) ∙ ap (λ n. length a + n) (length-append b (c ++ d) ∙ ap (λ n. length b + n) (length-append c d)) in
    let two : put_at (put_at old p a) q b ≡ put_at old p (a ++ b) = puts old a b p q (omega (arith, room, sizes)) at in
    ap (λ xs. put_at (put_at xs r c) s d) two
    ∙ puts_three old (a ++ b) c d p r s (omega (arith, room, sizes, length-append (a ++ b) (c ++ d), length-append a b, length-append c d))
    (omega (arith, at, thereafter, length-append a b)) last
    ∙ ap (λ xs. put_at old p xs) (append_assoc a b (c ++ d))

-- Two octets that are written before octets which stand already.
pub puts_before : (old body : List ℕ) (p m n : ℕ) → p + 2 + length body ≤ length old
    → put_at (put_at old (p + 2) body) p (m ∷ (n ∷ [])) ≡ put_at old p (m ∷ (n ∷ body))
unfolding put_at
puts_before old body p m n room =
    let tail = body ++ drop (p + 2 + length body) old in
    let len : length (take (p + 2) old) ≡ p + 2 = length-take-le (p + 2) old (omega (arith, room)) in
    let front : take p (take (p + 2) old ++ tail) ≡ take p old =
    take-append-le p (take (p + 2) old) tail (omega (arith, len)) ∙ take-take p (p + 2) old (omega arith) in
    let back : drop (p + 2) (take (p + 2) old ++ tail) ≡ tail = drop_at (take (p + 2) old) tail (p + 2) len in
    let place : p + 2 + length body ≡ p + suc (suc (length body)) = omega arith in
    rw (front, back, place) refl

-- ---- sizes

plain_room : (addr : Addr) → IsAddr addr → length (addr_octets addr) ≤ 16
plain_room (V4 octets) h = omega (arith, h)
plain_room (V6 octets) h = omega (arith, h)

sized_room : (afi : Afi) (addr : Addr) → IsSource afi addr → length (sized addr) ≤ 17
sized_room Ipv4 (V4 octets) h = omega (arith, h)
sized_room Ipv6 (V6 octets) h = omega (arith, h)
sized_room Ipv4 (V6 octets) h = absurd h
sized_room Ipv6 (V4 octets) h = absurd h

source_room : (afi : Afi) (addr : Option Addr) → IsAnyOr (IsSource afi) addr → length (any_or_sized addr) ≤ 17
source_room afi None h = omega arith
source_room afi (Some addr) h = sized_room afi addr h

group_room : (afi : Afi) (addr : Option Addr) → IsAnyOr (IsGroup afi) addr → length (any_or_sized addr) ≤ 17
group_room afi None h = omega arith
group_room afi (Some addr) h = sized_room afi addr h.0

four_room : (a b c d : List ℕ) → length a ≡ 8 → length b ≤ 17 → length c ≤ 17 → length d ≤ 16 → length (a ++ (b ++ (c ++ d))) ≤ 58
four_room a b c d e f g h = omega (arith, e, f, g, h, length-append a (b ++ (c ++ d)), length-append b (c ++ d), length-append c d)

pub key_room : (afi : Afi) (k : LeafKey) → IsKey afi k → length (key_fields k) ≤ 58
key_room afi (keys.Inter rd source_as) h = omega (arith, h.0, length-append rd.0 (to_be_bytes w32 source_as))
key_room afi (keys.Selective rd source group originator) h =
    four_room rd.0 (any_or_sized source) (any_or_sized group) (addr_octets originator) h.0 (source_room afi source h.1.0)
    (group_room afi group h.1.1.0) (plain_room originator h.1.1.1)

-- The fields of a route that is spelled have fewer than 256 octets.
pub fields_room : (afi : Afi) (r : Route) → IsRoute afi r → length (fields r) < 256
fields_room afi (Intra rd originator) h = omega (arith, h.0, plain_room originator h.1, length-append rd.0 (addr_octets originator))
fields_room afi (Inter rd source_as) h = omega (arith, h.0, length-append rd.0 (to_be_bytes w32 source_as))
fields_room afi (Selective rd source group originator) h =
    omega (
      arith,
      four_room rd.0 (any_or_sized source) (any_or_sized group) (addr_octets originator) h.0 (source_room afi source h.1.0)
          (group_room afi group h.1.1.0) (plain_room originator h.1.1.1),
    )
fields_room afi (Leaf k originator) h =
    omega (arith, key_room afi k h.0, plain_room originator h.1, length-append (key_fields k) (addr_octets originator))
fields_room afi (Active rd source group) h =
    omega (
      arith,
      h.0,
      sized_room afi source h.1.0,
      sized_room afi group h.1.1.0,
      length-append rd.0 (sized source ++ sized group),
      length-append (sized source) (sized group),
    )
fields_room afi (SharedJoin rd source_as source group) h =
    omega (
      arith,
      h.0,
      sized_room afi source h.1.1.0,
      sized_room afi group h.1.1.1.0,
      length-append rd.0 (to_be_bytes w32 source_as ++ (sized source ++ sized group)),
      length-append (sized source) (sized group),
    )
fields_room afi (SourceJoin rd source_as source group) h =
    omega (
      arith,
      h.0,
      sized_room afi source h.1.1.0,
      sized_room afi group h.1.1.1.0,
      length-append rd.0 (to_be_bytes w32 source_as ++ (sized source ++ sized group)),
      length-append (sized source) (sized group),
    )
fields_room afi (Other number octets) h = h.1
