-- VPN routes: what is read is spelled, what is spelled is read, and a fault is answered exactly where there is one.
use Rattle.std.proofs.Common.{◌≡◌, ℕ, suc, ◌+◌, ◌-◌, ◌<◌, ◌≤◌, Bool, true, false, cond, ltb, ◌⊎◌, inl, inr, List, [], ◌∷◌, ◌++◌, length, take, drop, Some, None, refl, sym, ap, subst, ◌∙◌, append_assoc, arith}
use Rattle.std.specs.Prelude.{◌||◌}
use Rattle.std.proofs.Math.Seq.{take-add}
use Rattle.std.proofs.lemmas.Bool.{ltb-true, ltb-false, le-ltb, lt-ltb, or_left, or_right, cond-true}
use Rattle.std.proofs.lemmas.List.{length-append, length-drop, length-take-le, take_at, drop_at, drop-drop}
use Rattle.mv_base.specs.declared.rd.Rd.{Rd}
use Rattle.mv_base.specs.declared.prefix.Prefix.{Prefix}
use Rattle.bgp_values.specs.declared.mvpn_nlri.route.Afi.{Afi}
use Rattle.bgp_values.specs.declared.mvpn_nlri.route.Afi.TheVariants.{Ipv4, Ipv6}
use Rattle.bgp_messages.specs.declared.bgp_attributes.fault.StreamFault.TheVariants as faults
use Rattle.bgp_messages.specs.declared.bgp_attributes.family.Family.TheVariants.{Vpn}
use Rattle.bgp_messages.specs.declared.bgp_attributes.key.Key.{Key}
use Rattle.bgp_messages.specs.declared.bgp_attributes.key.Key.TheVariants as keys
use Rattle.bgp_messages.specs.bgp_attributes.Spelling.{addr_bits, octets_for, address, SpellsVpn}
use Rattle.bgp_messages.specs.bgp_attributes.FirstFault.{KeyFault}
use Rattle.bgp_messages.specs.bgp_attributes.FirstFault as wrong
use Rattle.bgp_messages.specs.bgp_attributes.Reading.{vpn_of, vpn_at}

-- ---- three tests

tests_pass : {A : Type 0} (a b c : Bool) (x y : A) → cond ((a || b) || c) None (Some x) ≡ Some y → (a ≡ false) × (b ≡ false) × (c ≡ false) × (x ≡ y)
tests_pass true b c x y e = absurd cc
tests_pass false true c x y e = absurd cc
tests_pass false false true x y e = absurd cc
tests_pass false false false x y e = (refl, refl, refl, cc)

tests_stop : {A : Type 0} (a b c : Bool) (x : A) → cond ((a || b) || c) None (Some x) ≡ None → (a ≡ true) ⊎ ((b ≡ true) ⊎ (c ≡ true))
tests_stop true b c x e = inl refl
tests_stop false true c x e = inr (inl refl)
tests_stop false false true x e = inr (inr refl)
tests_stop false false false x e = absurd cc

none_by : {A : Type 0} (b : Bool) (x : A) → b ≡ true → cond b None (Some x) ≡ None
none_by b x e = cond-true b None (Some x) e

-- ---- routes

-- Label, Route Distinguisher and prefix are all that the length counts.
whole : (n : ℕ) (rest : List ℕ) → 11 ≤ n → take n rest ≡ take 3 rest ++ (take 8 (drop 3 rest) ++ take (n - 11) (drop 11 rest))
whole n rest le =
    let count : n ≡ 3 + (8 + (n - 11)) = omega arith in
    ap (λ (m : ℕ). take m rest) count
    ∙ take-add 3 (8 + (n - 11)) rest
    ∙ ap (λ (xs : List ℕ). take 3 rest ++ xs) (take-add 8 (n - 11) (drop 3 rest))
    ∙ ap (λ (xs : List ℕ). take 3 rest ++ (take 8 (drop 3 rest) ++ take (n - 11) xs)) (drop-drop 8 3 rest)

spelled_at : (afi : Afi) (len : ℕ) (rest : List ℕ) → 88 ≤ len → len ≤ 88 + addr_bits afi → octets_for len ≤ length rest
    → SpellsVpn afi (record { 0 = take 8 (drop 3 rest) })
    (record { addr = address afi (len - 88) (take (octets_for len - 11) (drop 11 rest)); bits = len - 88 })
    (take (1 + octets_for len) (len ∷ rest))
spelled_at afi len rest low high fits =
    let n : ℕ = octets_for len in
    let least : 11 ≤ n = omega arith in
    let one : 1 + n ≡ suc n = omega arith in
    let first : take (1 + n) (len ∷ rest) ≡ len ∷ take n rest = ap (λ (m : ℕ). take m (len ∷ rest)) one in
    let bits : len ≡ 88 + (len - 88) = omega arith in
    record {
      label = take 3 rest;
      octets = take (n - 11) (drop 11 rest);
      label_len = length-take-le 3 rest (omega arith);
      rd_len = length-take-le 8 (drop 3 rest) (omega (arith, length-drop 3 rest));
      bits = omega arith;
      octets_len = length-take-le (n - 11) (drop 11 rest) (omega (arith, length-drop 11 rest)) ∙ omega arith;
      parts = first ∙ ap (λ (m : ℕ). m ∷ take n rest) bits ∙ ap (λ (xs : List ℕ). (88 + (len - 88)) ∷ xs) (whole n rest least);
      addr = refl;
    }

abbrev SpellsUnicast : Afi → Key → List ℕ → Type 0
SpellsUnicast afi (keys.Unicast rd prefix) text = SpellsVpn afi rd prefix text
SpellsUnicast afi (keys.Mcast own route) text = ⊥

-- What is read is spelled at the front.
pub vpn_taken : (afi : Afi) (xs : List ℕ) (x : Key × ℕ) → vpn_at afi xs ≡ Some x → (0 < x.1) × (x.1 ≤ length xs) × SpellsUnicast afi x.0 (take x.1 xs)
unfolding vpn_at
vpn_taken afi [] x e = absurd cc
vpn_taken afi (len ∷ rest) x e =
    let (few, many, short, same) =
    tests_pass (ltb len 88) (ltb (88 + addr_bits afi) len) (ltb (length rest) (octets_for len)) (vpn_of afi len rest, 1 + octets_for len) x e in
    let fits : octets_for len ≤ length rest = ltb-false _ _ short in
    subst (λ (y : Key × ℕ). (0 < y.1) × (y.1 ≤ length (len ∷ rest)) × SpellsUnicast afi y.0 (take y.1 (len ∷ rest))) same
    (omega arith, omega arith, spelled_at afi len rest (ltb-false _ _ few) (ltb-false _ _ many) fits)

read_at : (afi : Afi) (len : ℕ) (rest rd octets : List ℕ) (bits n : ℕ) → 88 ≤ len → len ≤ 88 + addr_bits afi → octets_for len ≤ length rest
    → take 8 (drop 3 rest) ≡ rd → take (octets_for len - 11) (drop 11 rest) ≡ octets → len - 88 ≡ bits → 1 + octets_for len ≡ n
    → vpn_at afi (len ∷ rest) ≡ Some (keys.Unicast (record { 0 = rd }) (record { addr = address afi bits octets; bits = bits }), n)
unfolding vpn_at
read_at afi len rest rd octets bits n low high fits p q r s =
    rw (le-ltb len 88 low, le-ltb (88 + addr_bits afi) len high, le-ltb (length rest) (octets_for len) fits)
    (λ i. Some (keys.Unicast (record { 0 = p i }) (record { addr = address afi (r i) (q i); bits = r i }), s i))

-- What is spelled at the front is read.
pub vpn_again : (afi : Afi) (rd : Rd) (prefix : Prefix) (text after : List ℕ) → SpellsVpn afi rd prefix text
    → vpn_at afi (text ++ after) ≡ Some (keys.Unicast rd prefix, length text)
vpn_again afi rd prefix text after s =
    let len : ℕ = 88 + prefix.bits in
    let body : List ℕ = s.label ++ (rd.0 ++ s.octets) in
    let rest : List ℕ = body ++ after in
    let size : length body ≡ octets_for len =
    omega (arith, s.bits, s.label_len, s.rd_len, s.octets_len, length-append s.label (rd.0 ++ s.octets), length-append rd.0 s.octets) in
    let three : drop 3 rest ≡ (rd.0 ++ s.octets) ++ after =
    ap (λ (xs : List ℕ). drop 3 xs) (append_assoc s.label (rd.0 ++ s.octets) after) ∙ drop_at s.label ((rd.0 ++ s.octets) ++ after) 3 s.label_len in
    let there : drop 3 rest ≡ rd.0 ++ (s.octets ++ after) = three ∙ append_assoc rd.0 s.octets after in
    let distinguisher : take 8 (drop 3 rest) ≡ rd.0 = ap (λ (xs : List ℕ). take 8 xs) there ∙ take_at rd.0 (s.octets ++ after) 8 s.rd_len in
    let thereafter : drop 11 rest ≡ s.octets ++ after =
    sym (drop-drop 8 3 rest) ∙ ap (λ (xs : List ℕ). drop 8 xs) there ∙ drop_at rd.0 (s.octets ++ after) 8 s.rd_len in
    let count : length s.octets ≡ octets_for len - 11 = omega (arith, s.octets_len) in
    let octets : take (octets_for len - 11) (drop 11 rest) ≡ s.octets =
    ap (λ (xs : List ℕ). take (octets_for len - 11) xs) thereafter ∙ take_at s.octets after (octets_for len - 11) count in
    let all : 1 + octets_for len ≡ length text = omega (arith, size, ap (λ (xs : List ℕ). length xs) s.parts) in
    let made : record { addr = address afi prefix.bits s.octets; bits = prefix.bits } ≡ prefix =
    λ i. record { addr = sym s.addr i; bits = prefix.bits } in
    ap (λ (xs : List ℕ). vpn_at afi (xs ++ after)) s.parts
    ∙ read_at afi len rest rd.0 s.octets prefix.bits (length text) (omega arith) (omega (arith, s.bits))
    (omega (arith, size, length-append body after)) distinguisher octets (omega arith) all
    ∙ ap (λ (p : Prefix). Some (keys.Unicast rd p, length text)) made

-- Where no route is read, there is a fault.
pub vpn_fails : (afi : Afi) (xs : List ℕ) → 0 < length xs → vpn_at afi xs ≡ None → KeyFault (Vpn afi) xs 0 faults.Prefix
unfolding vpn_at
vpn_fails afi [] more e = absurd (omega arith)
vpn_fails afi (len ∷ rest) more e =
    elim (tests_stop (ltb len 88) (ltb (88 + addr_bits afi) len) (ltb (length rest) (octets_for len)) (vpn_of afi len rest, 1 + octets_for len) e) [
      | inl few ↦ wrong.bits_few afi len rest refl refl (ltb-true _ _ few) refl refl
      | inr (inl many) ↦ wrong.bits_many afi len rest refl refl (ltb-true _ _ many) refl refl
      | inr (inr short) ↦ wrong.octets_few afi len rest refl refl (ltb-true _ _ short) refl refl
    ]

-- Where there is one, no route is read.
pub fails_few : (afi : Afi) (len : ℕ) (rest : List ℕ) → len < 88 → vpn_at afi (len ∷ rest) ≡ None
unfolding vpn_at
fails_few afi len rest lt =
    none_by _ _ (or_left (ltb len 88 || ltb (88 + addr_bits afi) len) (ltb (length rest) (octets_for len))
    (or_left (ltb len 88) (ltb (88 + addr_bits afi) len) (lt-ltb len 88 lt)))

pub fails_many : (afi : Afi) (len : ℕ) (rest : List ℕ) → 88 + addr_bits afi < len → vpn_at afi (len ∷ rest) ≡ None
unfolding vpn_at
fails_many afi len rest lt =
    none_by _ _ (or_left (ltb len 88 || ltb (88 + addr_bits afi) len) (ltb (length rest) (octets_for len))
    (or_right (ltb len 88) (ltb (88 + addr_bits afi) len) (lt-ltb (88 + addr_bits afi) len lt)))

pub fails_short : (afi : Afi) (len : ℕ) (rest : List ℕ) → length rest < octets_for len → vpn_at afi (len ∷ rest) ≡ None
unfolding vpn_at
fails_short afi len rest lt =
    none_by _ _ (or_right (ltb len 88 || ltb (88 + addr_bits afi) len) (ltb (length rest) (octets_for len))
    (lt-ltb (length rest) (octets_for len) lt))
