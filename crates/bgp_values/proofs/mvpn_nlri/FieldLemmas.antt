-- The fields of routes: each is read exactly where it stands, and its faults.
use Rattle.std.proofs.Common.{◌≡◌, ◌≢◌, ℕ, ◌+◌, ◌<◌, ◌≤◌, Bool, true, false, eqb, ◌&&◌, ◌⊎◌, List, [], ◌∷◌, ◌++◌, length, get_or, take, drop, Option, Some, None, Ok, Err, refl, sym, ap, subst, ◌∙◌, arith, inl, inr}
use Rattle.std.specs.Int.{w32, to_be_bytes, from_be_bytes}
use Rattle.std.proofs.lemmas.Bool.{eqb-true, eq-eqb, ne_eqb, eqb-false, leb-true, le-leb}
use Rattle.std.proofs.lemmas.List.{take-append-drop, length-take-le}
use Rattle.mv_base.specs.Address.{addr_octets, IsAddr}
use Rattle.mv_base.specs.declared.addr.Addr.{Addr}
use Rattle.mv_base.specs.declared.addr.Addr.TheVariants.{V4, V6}
use Rattle.mv_base.specs.declared.rd.Rd.{Rd}
use Rattle.mv_base.specs.Octets.{IsOctets}
use Rattle.mv_base.proofs.Fields.{bind_ok, bind_err, ok_is, err_again, checked_ok, checked_err, wide32, chosen}
use Rattle.bgp_values.specs.declared.mvpn_nlri.fault.RouteFault.{RouteFault}
use Rattle.bgp_values.specs.declared.mvpn_nlri.fault.RouteReason.TheVariants.{Short, OriginatorLength, GroupNotMulticast, Wildcard}
use Rattle.bgp_values.specs.declared.mvpn_nlri.route.Afi.{Afi}
use Rattle.bgp_values.specs.declared.mvpn_nlri.route.Afi.TheVariants.{Ipv4, Ipv6}
use Rattle.bgp_values.specs.declared.mvpn_nlri.address.Role.{Role}
use Rattle.bgp_values.specs.declared.mvpn_nlri.address.Role.TheVariants.{Source, Group}
use Rattle.bgp_values.specs.mvpn_nlri.Bounds.{Bounded, Passes}
use Rattle.bgp_values.specs.mvpn_nlri.Spelling.{IsRd, IsAs, IsSource, IsMulticast, IsGroup, IsAnyOr, sized, any_or_sized}
use Rattle.bgp_values.specs.mvpn_nlri.FirstFault as faults
use Rattle.bgp_values.specs.mvpn_nlri.FirstFault.{Is, Lacks, bits, addr_len, wrong_len, IsPart, AnyOrFault, AddrFault, OriginatorFault, FlowFault}
use Rattle.bgp_values.specs.mvpn_nlri.Reading.{fault, octets_within, octet_at, rd_at, as_at, is_multicast, is_part, addr_of, plain_at, any_or_addr_at, no_wildcard, addr_at, originator_at, flow_at}
use Rattle.bgp_values.proofs.mvpn_nlri.FormatLemmas.{Format, Open, Ends, passes_then, passes_split, passes_is, passes_end, octets_taken, octets_again, octets_fail, fail_octets, lacks_near, is_near, octets_format, turned_format, turned_ok, turned_err, both_format, closed_format}

-- ---- octets and numbers

one_is : (xs : List ℕ) → length xs ≡ 1 → xs ≡ get_or xs 0 0 ∷ []
one_is [] h = absurd (omega (arith, h))
one_is (x ∷ []) h = refl
one_is (x ∷ y ∷ xs) h = absurd (omega (arith, h))

pub octet_format : Format octet_at (λ n. n ∷ []) (λ n. Unit {0}) Open (Lacks 1)
unfolding octet_at
octet_format =
    turned_format (λ xs. get_or xs 0 0) (λ n. n ∷ []) (λ n. Unit {0}) (λ xs fits len. (one_is xs len, tt)) (λ n h. (n ∷ [], refl, refl, refl))
    (octets_format 1)

pub rd_format : Format rd_at (λ rd. rd.0) IsRd Open (Lacks 8)
unfolding rd_at
rd_format =
    turned_format (λ xs. record { 0 = xs }) (λ (rd : Rd). rd.0) IsRd (λ xs fits len. (refl, len)) (λ rd h. (rd.0, refl, refl, h)) (octets_format 8)

pub as_format : Format as_at (λ n. to_be_bytes w32 n) IsAs Open (Lacks 4)
unfolding as_at
as_format =
    turned_format (λ xs. from_be_bytes w32 xs) (λ n. to_be_bytes w32 n) IsAs (λ xs fits len. (sym (wide32.back xs len fits), wide32.below xs fits))
    (λ n lt. (to_be_bytes w32 n, sym (wide32.again n lt), refl, refl)) (octets_format 4)

-- ---- addresses

is_source : (afi : Afi) (octets : List ℕ) → length octets ≡ addr_len afi → IsSource afi (addr_of afi octets)
is_source Ipv4 octets h = h
is_source Ipv6 octets h = h

plain_of : (afi : Afi) (octets : List ℕ) → octets ≡ addr_octets (addr_of afi octets)
plain_of Ipv4 octets = refl
plain_of Ipv6 octets = refl

source_len : (afi : Afi) (addr : Addr) → IsSource afi addr → length (addr_octets addr) ≡ addr_len afi
source_len Ipv4 (V4 octets) h = h
source_len Ipv6 (V6 octets) h = h
source_len Ipv4 (V6 octets) h = absurd h
source_len Ipv6 (V4 octets) h = absurd h

source_is : (afi : Afi) (addr : Addr) → IsSource afi addr → addr_of afi (addr_octets addr) ≡ addr
source_is Ipv4 (V4 octets) h = refl
source_is Ipv6 (V6 octets) h = refl
source_is Ipv4 (V6 octets) h = absurd h
source_is Ipv6 (V4 octets) h = absurd h

sized_is : (afi : Afi) (addr : Addr) → IsSource afi addr → bits afi ∷ addr_octets addr ≡ sized addr
sized_is Ipv4 (V4 octets) h = refl
sized_is Ipv6 (V6 octets) h = refl
sized_is Ipv4 (V6 octets) h = absurd h
sized_is Ipv6 (V4 octets) h = absurd h

and_true : (a b : Bool) → (a && b) ≡ true → (a ≡ true) × (b ≡ true)
and_true true true e = (refl, refl)
and_true true false e = absurd cc
and_true false b e = absurd cc

multicast_is : (addr : Addr) → is_multicast addr ≡ true → IsMulticast addr
multicast_is (V4 octets) e = let t = and_true _ _ e in (leb-true 224 (get_or octets 0 0) t.0, leb-true (get_or octets 0 0) 239 t.1)
multicast_is (V6 octets) e = eqb-true (get_or octets 0 0) 255 e

is_multicast_again : (addr : Addr) → IsMulticast addr → is_multicast addr ≡ true
is_multicast_again (V4 octets) h = rw (le-leb 224 (get_or octets 0 0) h.0, le-leb (get_or octets 0 0) 239 h.1) refl
is_multicast_again (V6 octets) h = eq-eqb (get_or octets 0 0) 255 h

true_or_false : (b : Bool) → ((b ≡ true) → ⊥) → b ≡ false
true_or_false true h = absurd (h refl)
true_or_false false h = refl

part_source : (role : Role) (afi : Afi) (addr : Addr) → IsPart role afi addr → IsSource afi addr
part_source Source afi addr h = h
part_source Group afi addr h = h.0

part_is : (role : Role) (afi : Afi) (addr : Addr) → IsSource afi addr → is_part role addr ≡ true → IsPart role afi addr
part_is Source afi addr h e = h
part_is Group afi addr h e = (h, multicast_is addr e)

is_part_again : (role : Role) (afi : Afi) (addr : Addr) → IsPart role afi addr → is_part role addr ≡ true
is_part_again Source afi addr h = refl
is_part_again Group afi addr h = is_multicast_again addr h.1

no_part : (role : Role) (addr : Addr) → is_part role addr ≡ false → (role ≡ Group) × ¬ (IsMulticast addr)
no_part Source addr e = absurd cc
no_part Group addr e = (refl, λ h. let t = is_multicast_again addr h in absurd cc)

no_part_again : (role : Role) (addr : Addr) → role ≡ Group → ¬ (IsMulticast addr) → is_part role addr ≡ false
no_part_again role addr e h = rw e (true_or_false (is_multicast addr) (λ t. h (multicast_is addr t)))

-- the octets of a source or group fail
abbrev PlainFault : Afi → Role → Bounded → RouteFault → Type 0
PlainFault afi role b f =
    Lacks (addr_len afi) b f ⊎ ((addr : Addr) × (e : Bounded) × (role ≡ Group) × IsSource afi addr × Passes b (addr_octets addr) e
    × ¬ (IsMulticast addr) × Is f b.place GroupNotMulticast)

plain_taken : (afi : Afi) (role : Role) (b : Bounded) (x : Addr × Bounded) → plain_at afi role b ≡ Ok x
    → Passes b (addr_octets x.0) x.1 × IsPart role afi x.0
unfolding plain_at
plain_taken afi role b x e =
    let o = bind_ok (octets_within (addr_len afi) b) _ x e in
    let t = octets_taken (addr_len afi) b o.0 o.1 in
    let k = checked_ok (is_part role (addr_of afi o.0.0)) (fault b.place GroupNotMulticast) (addr_of afi o.0.0, o.0.1) x o.2 in
    subst (λ (y : Addr × Bounded). Passes b (addr_octets y.0) y.1 × IsPart role afi y.0) (sym k.1) (
      passes_is b o.0.0 (addr_octets (addr_of afi o.0.0)) o.0.1 t.0 (plain_of afi o.0.0),
      part_is role afi (addr_of afi o.0.0) (is_source afi o.0.0 t.1) k.0,
    )

plain_again : (afi : Afi) (role : Role) (b : Bounded) (addr : Addr) (d : Bounded) → Passes b (addr_octets addr) d → IsPart role afi addr
    → plain_at afi role b ≡ Ok (addr, d)
unfolding plain_at
plain_again afi role b addr d p h =
    let source = part_source role afi addr h in
    rw (octets_again (addr_len afi) b (addr_octets addr) d p (source_len afi addr source), source_is afi addr source, is_part_again role afi addr h)
    refl

plain_fails : (afi : Afi) (role : Role) (b : Bounded) (f : RouteFault) → plain_at afi role b ≡ Err f → PlainFault afi role b f
unfolding plain_at
plain_fails afi role b f e =
    elim (bind_err (octets_within (addr_len afi) b) _ f e) [
      | inl lacks ↦ inl (octets_fail (addr_len afi) b f lacks)
      | inr o ↦
          let t = octets_taken (addr_len afi) b o.0 o.1 in
          let k = checked_err (is_part role (addr_of afi o.0.0)) (fault b.place GroupNotMulticast) (addr_of afi o.0.0, o.0.1) f o.2 in
          let n = no_part role (addr_of afi o.0.0) k.0 in
          inr (
            addr_of afi o.0.0,
            o.0.1,
            n.0,
            is_source afi o.0.0 t.1,
            passes_is b o.0.0 (addr_octets (addr_of afi o.0.0)) o.0.1 t.0 (plain_of afi o.0.0),
            n.1,
            k.1,
          )
    ]

plain_failing : (afi : Afi) (role : Role) (b : Bounded) (f : RouteFault) → PlainFault afi role b f → plain_at afi role b ≡ Err f
unfolding plain_at
plain_failing afi role b f (inl lacks) = rw (fail_octets (addr_len afi) b f lacks) refl
plain_failing afi role b f (inr (addr, e, group, source, p, not, is)) =
    rw (
      octets_again (addr_len afi) b (addr_octets addr) e p (source_len afi addr source),
      source_is afi addr source,
      no_part_again role addr group not,
    ) (err_again (sym is))

-- ---- a source or group, or the wildcard

bits_some : (afi : Afi) → bits afi ≢ 0
bits_some Ipv4 e = omega (arith, e)
bits_some Ipv6 e = omega (arith, e)

any_or_taken : (afi : Afi) (role : Role) (b : Bounded) (x : Option Addr × Bounded) → IsOctets b.left → any_or_addr_at afi role b ≡ Ok x
    → Passes b (any_or_sized x.0) x.1 × IsAnyOr (IsPart role afi) x.0
unfolding any_or_addr_at
any_or_taken afi role b x fits e =
    let l = bind_ok (octet_at b) _ x e in
    let p = (octet_format.taken b l.0 fits l.1).0 in
    elim (chosen (eqb l.0.0 0) _ _ _ l.2) [
      | inl any ↦
          let none : Option Addr × Bounded = (None, l.0.1) in
          subst (λ (y : Option Addr × Bounded). Passes b (any_or_sized y.0) y.1 × IsAnyOr (IsPart role afi) y.0) (ok_is none x any.1)
          (passes_is b (l.0.0 ∷ []) (0 ∷ []) l.0.1 p (ap (λ n. n ∷ []) (eqb-true l.0.0 0 any.0)), tt)
      | inr some ↦ elim (chosen (eqb l.0.0 (bits afi)) _ _ _ some.1) [
        | inl good ↦
            let t = turned_ok Some (plain_at afi role) l.0.1 x good.1 in
            let q = plain_taken afi role l.0.1 t.0 t.1 in
            let both = passes_then b (l.0.0 ∷ []) l.0.1 (addr_octets t.0.0) t.0.1 p q.0 in
            let text : l.0.0 ∷ addr_octets t.0.0 ≡ sized t.0.0 =
            ap (λ n. n ∷ addr_octets t.0.0) (eqb-true l.0.0 (bits afi) good.0) ∙ sized_is afi t.0.0 (part_source role afi t.0.0 q.1) in
            subst (λ (y : Option Addr × Bounded). Passes b (any_or_sized y.0) y.1 × IsAnyOr (IsPart role afi) y.0) t.2
            (passes_is b (l.0.0 ∷ addr_octets t.0.0) (sized t.0.0) t.0.1 both text, q.1)
        | inr bad ↦ absurd cc
      ]
    ]

any_or_again : (afi : Afi) (role : Role) (b : Bounded) (x : Option Addr) (d : Bounded) → Passes b (any_or_sized x) d → IsAnyOr (IsPart role afi) x
    → any_or_addr_at afi role b ≡ Ok (x, d)
unfolding any_or_addr_at
any_or_again afi role b None d p h = rw (octet_format.again b 0 d p tt tt) refl
any_or_again afi role b (Some addr) d p h =
    let text = sym (sized_is afi addr (part_source role afi addr h)) in
    let s = passes_split b (bits afi ∷ []) (addr_octets addr) d (passes_is b (sized addr) (bits afi ∷ addr_octets addr) d p text) in
    rw (
      octet_format.again b (bits afi) s.0 s.1 tt tt,
      ne_eqb (bits afi) 0 (bits_some afi),
      eq-eqb (bits afi) (bits afi) refl,
      plain_again afi role s.0 addr d s.2 h,
    ) refl

in_plain : (afi : Afi) (role : Role) (b d : Bounded) (f : RouteFault) → Passes b (bits afi ∷ []) d → PlainFault afi role d f → AnyOrFault afi role b f
in_plain afi role b d f p (inl lacks) = faults.addr_lacks d p lacks
in_plain afi role b d f p (inr (addr, e, group, source, q, not, is)) = faults.not_multicast addr d e group p source q not is

any_or_fails : (afi : Afi) (role : Role) (b : Bounded) (f : RouteFault) → IsOctets b.left → any_or_addr_at afi role b ≡ Err f
    → AnyOrFault afi role b f
unfolding any_or_addr_at
any_or_fails afi role b f fits e =
    elim (bind_err (octet_at b) _ f e) [
      | inl lacks ↦ faults.len_lacks (octet_format.fails b f fits lacks)
      | inr l ↦
          let p = (octet_format.taken b l.0 fits l.1).0 in
          elim (chosen (eqb l.0.0 0) _ _ _ l.2) [
            | inl any ↦ absurd cc
            | inr some ↦ elim (chosen (eqb l.0.0 (bits afi)) _ _ _ some.1) [
              | inl good ↦
                  in_plain afi role b l.0.1 f (passes_is b (l.0.0 ∷ []) (bits afi ∷ []) l.0.1 p (ap (λ n. n ∷ []) (eqb-true l.0.0 (bits afi) good.0)))
                  (plain_fails afi role l.0.1 f (turned_err Some (plain_at afi role) l.0.1 f good.1))
              | inr bad ↦
                  let is : f ≡ fault b.place (wrong_len role) = cc in
                  faults.len_wrong l.0.0 l.0.1 p (eqb-false l.0.0 0 some.0) (eqb-false l.0.0 (bits afi) bad.0) is
            ]
          ]
    ]

any_or_failing : (afi : Afi) (role : Role) (b : Bounded) (f : RouteFault) → AnyOrFault afi role b f → any_or_addr_at afi role b ≡ Err f
unfolding any_or_addr_at
any_or_failing afi role b f (faults.len_lacks h) = rw (octet_format.failing b f h) refl
any_or_failing afi role b f (faults.len_wrong octet d p zero other is) =
    rw (octet_format.again b octet d p tt tt, ne_eqb octet 0 zero, ne_eqb octet (bits afi) other) (err_again (sym is))
any_or_failing afi role b f (faults.addr_lacks d p h) =
    rw (
      octet_format.again b (bits afi) d p tt tt,
      ne_eqb (bits afi) 0 (bits_some afi),
      eq-eqb (bits afi) (bits afi) refl,
      plain_failing afi role d f (inl h),
    ) refl
any_or_failing afi role b f (faults.not_multicast addr d e group p source q not is) =
    rw (
      octet_format.again b (bits afi) d p tt tt,
      ne_eqb (bits afi) 0 (bits_some afi),
      eq-eqb (bits afi) (bits afi) refl,
      plain_failing afi role d f (inr (addr, e, group, source, q, not, is)),
    ) refl

any_or_near : (afi : Afi) (role : Role) (b : Bounded) (f : RouteFault) → AnyOrFault afi role b f → f.place ≤ b.place + length b.left
any_or_near afi role b f (faults.len_lacks h) = lacks_near 1 b f h
any_or_near afi role b f (faults.len_wrong octet d p zero other is) = is_near f b.place _ (ap (λ (g : RouteFault). g.place) is) (omega arith)
any_or_near afi role b f (faults.addr_lacks d p h) = omega (arith, lacks_near (addr_len afi) d f h, passes_end b (bits afi ∷ []) d p)
any_or_near afi role b f (faults.not_multicast addr d e group p source q not is) =
    is_near f d.place _ (ap (λ (g : RouteFault). g.place) is) (omega (arith, passes_end b (bits afi ∷ []) d p))

pub any_or_format : (afi : Afi) (role : Role) → Format (any_or_addr_at afi role) any_or_sized (IsAnyOr (IsPart role afi)) Open (AnyOrFault afi role)
any_or_format afi role = record {
  taken = λ b x fits e. let t = any_or_taken afi role b x fits e in (t.0, (t.1, tt));
  again = λ b x d p h end. any_or_again afi role b x d p h;
  fails = any_or_fails afi role;
  failing = any_or_failing afi role;
  near = any_or_near afi role;
}

-- ---- a source or group

named_ok : (place : ℕ) (o : Option Addr × Bounded) (x : Addr × Bounded) → no_wildcard place o ≡ Ok x → o ≡ (Some x.0, x.1)
named_ok place (Some addr, b) x e = let same : (addr, b) ≡ x = ok_is _ _ e in ap (λ (y : Addr × Bounded). (Some y.0, y.1)) same
named_ok place (None, b) x e = absurd cc

named_err : (place : ℕ) (o : Option Addr × Bounded) (f : RouteFault) → no_wildcard place o ≡ Err f → (o.0 ≡ None) × (f ≡ fault place Wildcard)
named_err place (Some addr, b) f e = absurd cc
named_err place (None, b) f e = (refl, cc)

addr_taken : (afi : Afi) (role : Role) (b : Bounded) (x : Addr × Bounded) → IsOctets b.left → addr_at afi role b ≡ Ok x
    → Passes b (sized x.0) x.1 × IsPart role afi x.0
unfolding addr_at
addr_taken afi role b x fits e =
    let o = bind_ok (any_or_addr_at afi role b) _ x e in
    let t = any_or_taken afi role b o.0 fits o.1 in
    subst (λ (y : Option Addr × Bounded). Passes b (any_or_sized y.0) y.1 × IsAnyOr (IsPart role afi) y.0) (named_ok b.place o.0 x o.2) t

addr_fails : (afi : Afi) (role : Role) (b : Bounded) (f : RouteFault) → IsOctets b.left → addr_at afi role b ≡ Err f → AddrFault afi role b f
unfolding addr_at
addr_fails afi role b f fits e =
    elim (bind_err (any_or_addr_at afi role b) _ f e) [
      | inl inside ↦ faults.in_field (any_or_fails afi role b f fits inside)
      | inr o ↦
          let n = named_err b.place o.0 f o.2 in
          let t = any_or_taken afi role b o.0 fits o.1 in
          faults.wildcard o.0.1 (passes_is b (any_or_sized o.0.0) (0 ∷ []) o.0.1 t.0 (ap any_or_sized n.0)) n.1
    ]

addr_failing : (afi : Afi) (role : Role) (b : Bounded) (f : RouteFault) → AddrFault afi role b f → addr_at afi role b ≡ Err f
unfolding addr_at
addr_failing afi role b f (faults.in_field h) = rw (any_or_failing afi role b f h) refl
addr_failing afi role b f (faults.wildcard d p is) = rw (any_or_again afi role b None d p tt) (err_again (sym is))

addr_again : (afi : Afi) (role : Role) (b : Bounded) (x : Addr) (d : Bounded) → Passes b (sized x) d → IsPart role afi x
    → addr_at afi role b ≡ Ok (x, d)
unfolding addr_at
addr_again afi role b x d p h = rw (any_or_again afi role b (Some x) d p h) refl

addr_near : (afi : Afi) (role : Role) (b : Bounded) (f : RouteFault) → AddrFault afi role b f → f.place ≤ b.place + length b.left
addr_near afi role b f (faults.in_field h) = any_or_near afi role b f h
addr_near afi role b f (faults.wildcard d p is) = is_near f b.place _ (ap (λ (g : RouteFault). g.place) is) (omega arith)

pub addr_format : (afi : Afi) (role : Role) → Format (addr_at afi role) sized (IsPart role afi) Open (AddrFault afi role)
addr_format afi role = record {
  taken = λ b x fits e. let t = addr_taken afi role b x fits e in (t.0, (t.1, tt));
  again = λ b x d p h end. addr_again afi role b x d p h;
  fails = addr_fails afi role;
  failing = addr_failing afi role;
  near = addr_near afi role;
}

-- Source and group, to the end.
pub flow_format : (afi : Afi) → Format (flow_at afi) (λ x. sized x.0 ++ sized x.1) (λ x. IsSource afi x.0 × IsGroup afi x.1) Ends (FlowFault afi)
unfolding flow_at
flow_format afi = both_format (addr_format afi Source) (closed_format (addr_format afi Group))

-- ---- the originator

originator_taken : (b : Bounded) (x : Addr × Bounded) → originator_at b ≡ Ok x → Passes b (addr_octets x.0) x.1 × (IsAddr x.0 × Ends x.1)
unfolding originator_at
originator_taken b x e =
    let o = bind_ok (octets_within b.within b) _ x e in
    let t = octets_taken b.within b o.0 o.1 in
    let ends : o.0.1.within ≡ 0 = omega (arith, t.0.within, t.1) in
    elim (chosen (eqb b.within 4) _ _ _ o.2) [
      | inl short ↦
          let made : Addr × Bounded = (V4 o.0.0, o.0.1) in
          subst (λ (y : Addr × Bounded). Passes b (addr_octets y.0) y.1 × (IsAddr y.0 × Ends y.1)) (ok_is made x short.1)
          (t.0, (t.1 ∙ eqb-true b.within 4 short.0, ends))
      | inr more ↦ elim (chosen (eqb b.within 16) _ _ _ more.1) [
        | inl long ↦
            let made : Addr × Bounded = (V6 o.0.0, o.0.1) in
            subst (λ (y : Addr × Bounded). Passes b (addr_octets y.0) y.1 × (IsAddr y.0 × Ends y.1)) (ok_is made x long.1)
            (t.0, (t.1 ∙ eqb-true b.within 16 long.0, ends))
        | inr bad ↦ absurd cc
      ]
    ]

originator_again : (b : Bounded) (x : Addr) (d : Bounded) → Passes b (addr_octets x) d → IsAddr x → Ends d → originator_at b ≡ Ok (x, d)
unfolding originator_at
originator_again b (V4 octets) d p len end =
    let size : length octets ≡ b.within = omega (arith, p.within, end) in
    rw (octets_again b.within b octets d p size, eq-eqb b.within 4 (sym size ∙ len)) refl
originator_again b (V6 octets) d p len end =
    let size : length octets ≡ b.within = omega (arith, p.within, end) in
    rw (octets_again b.within b octets d p size, ne_eqb b.within 4 (λ e. omega (arith, e, size, len)), eq-eqb b.within 16 (sym size ∙ len)) refl

lacks_all : (b : Bounded) (f : RouteFault) → Lacks b.within b f → (length b.left < b.within) × Is f b.place Short
lacks_all b f (faults.too_small lt is) = absurd (omega (arith, lt))
lacks_all b f (faults.short le lt is) = (lt, is)

-- All octets of a length are there, or it is the input that ends.
pub rest_fails : (b : Bounded) (f : RouteFault) → octets_within b.within b ≡ Err f → (length b.left < b.within) × Is f b.place Short
rest_fails b f e = lacks_all b f (octets_fail b.within b f e)

pub fail_rest : (b : Bounded) (f : RouteFault) → length b.left < b.within → Is f b.place Short → octets_within b.within b ≡ Err f
fail_rest b f lt is = fail_octets b.within b f (faults.short (omega arith) lt is)

all_there : (b : Bounded) (x : List ℕ × Bounded) → octets_within b.within b ≡ Ok x → b.within ≤ length b.left
all_there b x e = let t = octets_taken b.within b x e in omega (arith, t.1, passes_end b x.0 x.1 t.0, t.0.place)

originator_fails : (b : Bounded) (f : RouteFault) → originator_at b ≡ Err f → OriginatorFault b f
unfolding originator_at
originator_fails b f e =
    elim (bind_err (octets_within b.within b) _ f e) [
      | inl lacks ↦ let l = rest_fails b f lacks in faults.short l.0 l.1
      | inr o ↦ elim (chosen (eqb b.within 4) _ _ _ o.2) [
        | inl short ↦ absurd cc
        | inr more ↦ elim (chosen (eqb b.within 16) _ _ _ more.1) [
          | inl long ↦ absurd cc
          | inr bad ↦
              let is : f ≡ fault b.place OriginatorLength = cc in
              faults.wrong (all_there b o.0 o.1) (eqb-false b.within 4 more.0) (eqb-false b.within 16 bad.0) is
        ]
      ]
    ]

rest_again : (b : Bounded) → b.within ≤ length b.left → (x : List ℕ × Bounded) × (octets_within b.within b ≡ Ok x)
rest_again b le = (
  _,
  octets_again b.within b (take b.within b.left) (record { left = drop b.within b.left; place = b.place + b.within; within = 0 })
      (record {
        parts = sym (take-append-drop b.within b.left);
        place = ap (λ n. b.place + n) (sym (length-take-le b.within b.left le));
        within =
            omega (arith, length-take-le b.within b.left le);
      }) (length-take-le b.within b.left le),
)

originator_failing : (b : Bounded) (f : RouteFault) → OriginatorFault b f → originator_at b ≡ Err f
unfolding originator_at
originator_failing b f (faults.short lt is) = rw (fail_rest b f lt is) refl
originator_failing b f (faults.wrong le four sixteen is) =
    let r = rest_again b le in
    rw (r.1, ne_eqb b.within 4 four, ne_eqb b.within 16 sixteen) (err_again (sym is))

originator_near : (b : Bounded) (f : RouteFault) → OriginatorFault b f → f.place ≤ b.place + length b.left
originator_near b f (faults.short lt is) = is_near f b.place _ (ap (λ (g : RouteFault). g.place) is) (omega arith)
originator_near b f (faults.wrong le four sixteen is) = is_near f b.place _ (ap (λ (g : RouteFault). g.place) is) (omega arith)

pub originator_format : Format originator_at addr_octets IsAddr Ends OriginatorFault
originator_format = record {
  taken = λ b x fits e. originator_taken b x e;
  again = originator_again;
  fails = λ b f fits e. originator_fails b f e;
  failing = originator_failing;
  near = originator_near;
}
