-- Keys: what is read is spelled, what is spelled is read, and a fault is answered exactly where there is one.
use Rattle.std.proofs.Common.{◌≡◌, ℕ, ◌<◌, ◌≤◌, List, ◌∷◌, ◌++◌, length, take, Option, Some, None, Result, Ok, Err, refl, sym, ap, subst, ◌∙◌, arith}
use Rattle.std.specs.Prelude.{IfOk, IfErr}
use Rattle.std.proofs.lemmas.List.{length-take}
use Rattle.mv_base.specs.Octets.{IsOctets}
use Rattle.mv_base.proofs.Fields.{ok_is, err_is}
use Rattle.bgp_values.specs.declared.mvpn_nlri.fault.RouteFault.{RouteFault}
use Rattle.bgp_values.specs.declared.mvpn_nlri.route.Afi.{Afi}
use Rattle.bgp_values.specs.declared.mvpn_nlri.route.Route.{Route}
use Rattle.bgp_values.specs.mvpn_nlri.Reading.{route_at}
use Rattle.bgp_values.proofs.mvpn_nlri.CallLemmas.{read_is, spelled_is_read, fault_is_read}
use Rattle.bgp_messages.specs.declared.bgp_attributes.fault.StreamFault.{StreamFault}
use Rattle.bgp_messages.specs.declared.bgp_attributes.fault.StreamFault.TheVariants as faults
use Rattle.bgp_messages.specs.declared.bgp_attributes.nlri.BadKey.{BadKey}
use Rattle.bgp_messages.specs.declared.bgp_attributes.family.Family.{Family}
use Rattle.bgp_messages.specs.declared.bgp_attributes.family.Family.TheVariants.{Mcast, Vpn}
use Rattle.bgp_messages.specs.declared.bgp_attributes.key.Key.{Key}
use Rattle.bgp_messages.specs.declared.bgp_attributes.key.Key.TheVariants as keys
use Rattle.bgp_messages.specs.bgp_attributes.Spelling.{SpellsKey}
use Rattle.bgp_messages.specs.bgp_attributes.FirstFault.{KeyFault}
use Rattle.bgp_messages.specs.bgp_attributes.FirstFault as wrong
use Rattle.bgp_messages.specs.bgp_attributes.Reading.{mcast_key, vpn_at, or_bad, key_at}
use Rattle.bgp_messages.proofs.bgp_attributes.VpnLemmas.{vpn_taken, vpn_again, vpn_fails, fails_few, fails_many, fails_short}

-- a key was read at the front
abbrev pub IsKeyAt : Family → List ℕ → Key × ℕ → Type 0
IsKeyAt f xs x = (0 < x.1) × (x.1 ≤ length xs) × SpellsKey f x.0 (take x.1 xs)

-- ---- MCAST-VPN

mcast_taken : (afi : Afi) (xs : List ℕ) (x : Key × ℕ) (r : Result (Route × ℕ) RouteFault) → IsOctets xs → r ≡ route_at afi xs → mcast_key afi r ≡ Ok x
    → IsKeyAt (Mcast afi) xs x
mcast_taken afi xs x (Ok y) fits is e =
    let (spells, le) = (read_is (Ok y) afi xs fits is).0 in
    let pos : 0 < y.1 = omega (arith, ap (λ (ys : List ℕ). length ys) spells.octets, length-take y.1 xs) in
    let made : Key × ℕ = (keys.Mcast afi y.0, y.1) in
    subst (IsKeyAt (Mcast afi) xs) (ok_is made x e) (pos, le, (refl, spells))
mcast_taken afi xs x (Err fault) fits is e = absurd cc

mcast_fails : (afi : Afi) (xs : List ℕ) (b : BadKey) (r : Result (Route × ℕ) RouteFault) → IsOctets xs → r ≡ route_at afi xs → mcast_key afi r ≡ Err b
    → KeyFault (Mcast afi) xs b.offset b.fault × (b.offset ≤ length xs)
mcast_fails afi xs b (Ok y) fits is e = absurd cc
mcast_fails afi xs b (Err g) fits is e =
    let h = read_is (Err g) afi xs fits is in
    let made : BadKey = record { offset = g.place; fault = faults.Route g.reason } in
    subst (λ (c : BadKey). KeyFault (Mcast afi) xs c.offset c.fault × (c.offset ≤ length xs)) (err_is made b e)
    (wrong.in_route afi g refl h.1.0 refl refl, h.1.1)

-- ---- VPN

unicast_taken : (afi : Afi) (xs : List ℕ) (x : Key × ℕ) (o : Option (Key × ℕ)) → vpn_at afi xs ≡ o → or_bad o ≡ Ok x → IsKeyAt (Vpn afi) xs x
unicast_taken afi xs x None is e = absurd cc
unicast_taken afi xs x (Some (keys.Unicast rd prefix, n)) is e =
    let made : Key × ℕ = (keys.Unicast rd prefix, n) in
    subst (IsKeyAt (Vpn afi) xs) (ok_is made x e) (vpn_taken afi xs made is)
unicast_taken afi xs x (Some (keys.Mcast own route, n)) is e = absurd (vpn_taken afi xs (keys.Mcast own route, n) is).2

unicast_fails : (afi : Afi) (xs : List ℕ) (b : BadKey) (o : Option (Key × ℕ)) → 0 < length xs → vpn_at afi xs ≡ o → or_bad o ≡ Err b
    → KeyFault (Vpn afi) xs b.offset b.fault × (b.offset ≤ length xs)
unicast_fails afi xs b (Some x) more is e = absurd cc
unicast_fails afi xs b None more is e =
    let made : BadKey = record { offset = 0; fault = faults.Prefix } in
    subst (λ (c : BadKey). KeyFault (Vpn afi) xs c.offset c.fault × (c.offset ≤ length xs)) (err_is made b e) (vpn_fails afi xs more is, omega arith)

-- ---- both

-- What is read is spelled at the front.
pub key_taken : (f : Family) (xs : List ℕ) (x : Key × ℕ) → IsOctets xs → key_at f xs ≡ Ok x → IsKeyAt f xs x
key_taken (Mcast afi) xs x fits e = mcast_taken afi xs x (route_at afi xs) fits refl e
key_taken (Vpn afi) xs x fits e = unicast_taken afi xs x (vpn_at afi xs) refl e

-- What is spelled at the front is read.
pub key_again : (f : Family) (k : Key) (text after : List ℕ) → SpellsKey f k text → key_at f (text ++ after) ≡ Ok (k, length text)
key_again (Mcast afi) (keys.Mcast a route) text after (same, s) =
    ap (mcast_key afi) (spelled_is_read (route_at afi (text ++ after)) afi (text ++ after) refl route text after s refl)
    ∙ ap (λ (b : Afi). Ok (keys.Mcast b route, length text)) (sym same)
key_again (Vpn afi) (keys.Unicast rd prefix) text after s = ap or_bad (vpn_again afi rd prefix text after s)
key_again (Mcast afi) (keys.Unicast rd prefix) text after s = absurd s
key_again (Vpn afi) (keys.Mcast a route) text after s = absurd s

-- No spelling is empty.
pub key_filled : (f : Family) (k : Key) (text : List ℕ) → SpellsKey f k text → 0 < length text
key_filled (Mcast afi) (keys.Mcast a route) text (same, s) = omega (arith, ap (λ (xs : List ℕ). length xs) s.octets)
key_filled (Vpn afi) (keys.Unicast rd prefix) text s = omega (arith, ap (λ (xs : List ℕ). length xs) s.parts)
key_filled (Mcast afi) (keys.Unicast rd prefix) text s = absurd s
key_filled (Vpn afi) (keys.Mcast a route) text s = absurd s

-- A fault that is answered is there, within the octets or right after them.
pub key_fails : (f : Family) (xs : List ℕ) (b : BadKey) → IsOctets xs → 0 < length xs → key_at f xs ≡ Err b
    → KeyFault f xs b.offset b.fault × (b.offset ≤ length xs)
key_fails (Mcast afi) xs b fits more e = mcast_fails afi xs b (route_at afi xs) fits refl e
key_fails (Vpn afi) xs b fits more e = unicast_fails afi xs b (vpn_at afi xs) more refl e

abbrev bad_key : ℕ → StreamFault → BadKey
bad_key offset fault = record { offset = offset; fault = fault }

bad_is : (m n : ℕ) (d e : StreamFault) → n ≡ m → e ≡ d → bad_key m d ≡ bad_key n e
bad_is m n d e p q i = record { offset = sym p i; fault = sym q i }

no_vpn : (f : Family) (afi : Afi) (xs : List ℕ) (len : ℕ) (rest : List ℕ) (offset : ℕ) (e : StreamFault) → f ≡ Vpn afi → xs ≡ len ∷ rest → offset ≡ 0
    → e ≡ faults.Prefix → vpn_at afi (len ∷ rest) ≡ None → key_at f xs ≡ Err (record { offset = offset; fault = e })
no_vpn f afi xs len rest offset e family parts at is none =
    ap (λ (g : Family). key_at g xs) family ∙ ap (λ (ys : List ℕ). or_bad (vpn_at afi ys)) parts ∙ ap or_bad none
    ∙ ap (λ (b : BadKey). Err b) (bad_is 0 offset faults.Prefix e at is)

-- A fault that is there is answered.
pub fails_key : (f : Family) (xs : List ℕ) (offset : ℕ) (e : StreamFault) → KeyFault f xs offset e
    → key_at f xs ≡ Err (record { offset = offset; fault = e })
fails_key f xs offset e (wrong.in_route afi g family first at is) =
    ap (λ (h : Family). key_at h xs) family ∙ ap (mcast_key afi) (fault_is_read (route_at afi xs) afi xs refl g first)
    ∙ ap (λ (b : BadKey). Err b) (bad_is g.place offset (faults.Route g.reason) e at is)
fails_key f xs offset e (wrong.bits_few afi len rest family parts lt at is) =
    no_vpn f afi xs len rest offset e family parts at is (fails_few afi len rest lt)
fails_key f xs offset e (wrong.bits_many afi len rest family parts lt at is) =
    no_vpn f afi xs len rest offset e family parts at is (fails_many afi len rest lt)
fails_key f xs offset e (wrong.octets_few afi len rest family parts lt at is) =
    no_vpn f afi xs len rest offset e family parts at is (fails_short afi len rest lt)

-- ---- what reading one key promises

pub key_len : (f : Family) (xs : List ℕ) (r : Result (Key × ℕ) BadKey) → IsOctets xs → r ≡ key_at f xs → IfOk r (λ x. (0 < x.1) × (x.1 ≤ length xs))
key_len f xs (Ok x) fits e = let (pos, le, spells) = key_taken f xs x fits (sym e) in (pos, le)
key_len f xs (Err b) fits e = tt

pub mcast_near : (afi : Afi) (xs : List ℕ) (r : Result (Key × ℕ) BadKey) → IsOctets xs → r ≡ mcast_key afi (route_at afi xs)
    → IfErr r (λ b. b.offset ≤ length xs)
mcast_near afi xs (Ok x) fits e = tt
mcast_near afi xs (Err b) fits e = (mcast_fails afi xs b (route_at afi xs) fits refl (sym e)).1

pub vpn_len : (afi : Afi) (xs : List ℕ) (x : Key × ℕ) → vpn_at afi xs ≡ Some x → (0 < x.1) × (x.1 ≤ length xs)
vpn_len afi xs x e = let (pos, le, spells) = vpn_taken afi xs x e in (pos, le)
