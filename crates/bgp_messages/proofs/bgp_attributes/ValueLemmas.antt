-- The values of attributes: read exactly where they are spelled, with their first fault.
use Rattle.std.proofs.Common.{◌≡◌, ◌≢◌, ℕ, zero, suc, ◌+◌, ◌*◌, ◌/◌, ◌%◌, ◌≤◌, eqb, ◌⊎◌, inl, inr, List, [], ◌∷◌, ◌++◌, length, take, drop, Some, None, Result, Ok, Err, refl, sym, ap, subst, ◌∙◌, arith}
use Rattle.std.specs.Prelude.{map}
use Rattle.std.specs.List.{flat_map}
use Rattle.std.specs.Simd.{first_chunks}
use Rattle.std.proofs.Math.Seq.{take-add}
use Rattle.std.proofs.lemmas.Bool.{eqb-true, eqb-false, eq-eqb, ne_eqb}
use Rattle.std.proofs.lemmas.Bool.Decides.{eqb_tells}
use Rattle.std.proofs.lemmas.List.{length-append, length-take-le, take_at, drop_at, take_all, length-drop}
use Rattle.std.proofs.lemmas.List.Concat.{flat_map-cons}
use Rattle.mv_base.specs.Octets.{IsOctets}
use Rattle.mv_base.proofs.Fields.{ok_is, err_is, ok_or_err, checked_ok, checked_err}
use Rattle.mv_base.specs.declared.route_targets.communities.ExtComm.{ExtComm}
use Rattle.bgp_values.specs.declared.pmsi_attr.pmsi.Pmsi.{Pmsi}
use Rattle.bgp_values.specs.declared.pmsi_attr.fault.PmsiFault.{PmsiFault}
use Rattle.bgp_values.specs.pmsi_attr.Reading.{pmsi_of}
use Rattle.bgp_values.specs.pmsi_attr.Spelling as tunnels
use Rattle.bgp_values.proofs.pmsi_attr.PmsiLemmas.{pmsi_taken, pmsi_again, pmsi_fails, fails_pmsi}
use Rattle.bgp_messages.specs.declared.bgp_attributes.fault.StreamFault.{StreamFault}
use Rattle.bgp_messages.specs.declared.bgp_attributes.fault.StreamFault.TheVariants as faults
use Rattle.bgp_messages.specs.declared.bgp_attributes.attribute.Attribute.{Attribute}
use Rattle.bgp_messages.specs.declared.bgp_attributes.attribute.Attribute.TheVariants.{Reach, Unreach, Communities, Tunnel, Passed}
use Rattle.bgp_messages.specs.bgp_attributes.Spelling.{type_of, IsReadType, AreComms, SpellsValue}
use Rattle.bgp_messages.specs.bgp_attributes.FirstFault.{ValueFault}
use Rattle.bgp_messages.specs.bgp_attributes.FirstFault as wrong
use Rattle.bgp_messages.specs.bgp_attributes.Reading.{misfit, comm, comms_in, comms_at, tunnel_of, tunnel_at, reach_at, unreach_at, value_at}
use Rattle.bgp_messages.proofs.bgp_attributes.HopLemmas.{hop_short, hop_wrong, fails_hop}
use Rattle.bgp_messages.proofs.bgp_attributes.ReachLemmas.{Means, reach_taken, reach_again, unread_reach, reach_fails, unreach_taken, unreach_again, unread_unreach, unreach_fails, fails_no_family, fails_no_hop_len, fails_after, fails_unreach}

-- ---- communities

abbrev octets_in : List ExtComm → List ℕ
octets_in comms = flat_map (λ c. c.0) comms

abbrev chunks : ℕ → List ℕ → List ExtComm
chunks k xs = map comm (first_chunks 8 k xs)

-- Octets in chunks are communities.
chunks_are : (k : ℕ) (xs : List ℕ) → k * 8 ≤ length xs → AreComms (chunks k xs) × (octets_in (chunks k xs) ≡ take (k * 8) xs)
chunks_are zero xs le = (tt, refl)
chunks_are (suc k) xs le =
    let more : k * 8 ≤ length (drop 8 xs) = omega (arith, length-drop 8 xs) in
    let (are, same) = chunks_are k (drop 8 xs) more in
    let count : 8 + k * 8 ≡ suc k * 8 = omega arith in (
      (length-take-le 8 xs (omega arith), are),
      flat_map-cons (λ c. c.0) (comm (take 8 xs)) (chunks k (drop 8 xs)) ∙ ap (λ (ys : List ℕ). take 8 xs ++ ys) same ∙ sym (take-add 8 (k * 8) xs)
          ∙ ap (λ (n : ℕ). take n xs) count,
    )

-- Communities are the chunks of their octets.
chunks_again : (comms : List ExtComm) → AreComms comms → chunks (length comms) (octets_in comms) ≡ comms
chunks_again [] h = refl
chunks_again (c ∷ cs) (len, h) =
    let whole : octets_in (c ∷ cs) ≡ c.0 ++ octets_in cs = flat_map-cons (λ c. c.0) c cs in
    let first : take 8 (octets_in (c ∷ cs)) ≡ c.0 = ap (λ (xs : List ℕ). take 8 xs) whole ∙ take_at c.0 (octets_in cs) 8 len in
    let others : drop 8 (octets_in (c ∷ cs)) ≡ octets_in cs = ap (λ (xs : List ℕ). drop 8 xs) whole ∙ drop_at c.0 (octets_in cs) 8 len in
    let tail : chunks (length cs) (drop 8 (octets_in (c ∷ cs))) ≡ cs = ap (λ (xs : List ℕ). chunks (length cs) xs) others ∙ chunks_again cs h in
    λ i. comm (first i) ∷ tail i

octets_count : (comms : List ExtComm) → AreComms comms → length (octets_in comms) ≡ 8 * length comms
octets_count [] h = refl
octets_count (c ∷ cs) (len, h) =
    omega (arith, len, octets_count cs h, length-append c.0 (octets_in cs), ap (λ (xs : List ℕ). length xs) (flat_map-cons (λ c. c.0) c cs))

comms_taken : (value : List ℕ) (a : Attribute) → comms_at value ≡ Ok a → Means 16 value a
unfolding comms_at
comms_taken value a e =
    let (whole, same) = checked_ok (eqb (length value % 8) 0) misfit (Communities (comms_in value)) a e in
    let none : length value % 8 ≡ 0 = eqb-true (length value % 8) 0 whole in
    let all : length value / 8 * 8 ≡ length value = omega (arith, none) in
    let (are, octets) = chunks_are (length value / 8) value (omega (arith, all)) in
    subst (Means 16 value) (sym same) (refl, (are, sym (octets ∙ take_all (length value / 8 * 8) value (omega (arith, all)))))

comms_again : (value : List ℕ) (comms : List ExtComm) → AreComms comms → value ≡ octets_in comms → comms_at value ≡ Ok (Communities comms)
unfolding comms_at
comms_again value comms are parts =
    let size : length value ≡ 8 * length comms = ap (λ (xs : List ℕ). length xs) parts ∙ octets_count comms are in
    let whole : length value % 8 ≡ 0 = omega (arith, size) in
    let count : length value / 8 ≡ length comms = omega (arith, size) in
    let read : comms_in value ≡ comms =
    ap (λ (n : ℕ). chunks n value) count ∙ ap (λ (xs : List ℕ). chunks (length comms) xs) parts ∙ chunks_again comms are in
    rw (eq-eqb (length value % 8) 0 whole, read) refl

misfit_is : (at : ℕ) (e : StreamFault) → (at, e) ≡ misfit → (at ≡ 0) × (e ≡ faults.AttributeLength)
misfit_is at e same = (ap (λ (x : ℕ × StreamFault). x.0) same, ap (λ (x : ℕ × StreamFault). x.1) same)

comms_fail : (place : ℕ) (value : List ℕ) (at : ℕ) (e : StreamFault) → comms_at value ≡ Err (at, e) → ValueFault 16 value place at e
unfolding comms_at
comms_fail place value at e h =
    let (over, same) = checked_err (eqb (length value % 8) 0) misfit (Communities (comms_in value)) (at, e) h in
    let (p, q) = misfit_is at e same in
    wrong.communities refl (eqb-false (length value % 8) 0 over) p q

fail_comms : (value : List ℕ) → length value % 8 ≢ 0 → comms_at value ≡ Err misfit
unfolding comms_at
fail_comms value over = rw (ne_eqb (length value % 8) 0 over) refl

-- ---- tunnels

tunnel_taken_by : (place : ℕ) (value : List ℕ) (a : Attribute) (r : Result Pmsi PmsiFault) → IsOctets value → pmsi_of value ≡ r
    → tunnel_of place r ≡ Ok a → Means 22 value a
tunnel_taken_by place value a (Ok pmsi) fits is e = subst (Means 22 value) (ok_is (Tunnel pmsi) a e) (refl, pmsi_taken value pmsi fits is)
tunnel_taken_by place value a (Err g) fits is e = absurd cc

tunnel_taken : (place : ℕ) (value : List ℕ) (a : Attribute) → IsOctets value → tunnel_at place value ≡ Ok a → Means 22 value a
unfolding tunnel_at
tunnel_taken place value a fits e = tunnel_taken_by place value a (pmsi_of value) fits refl e

tunnel_again : (place : ℕ) (value : List ℕ) (pmsi : Pmsi) → tunnels.Spells pmsi value → tunnel_at place value ≡ Ok (Tunnel pmsi)
unfolding tunnel_at
tunnel_again place value pmsi s = ap (tunnel_of place) (pmsi_again pmsi value s)

tunnel_fails_by : (place : ℕ) (value : List ℕ) (at : ℕ) (e : StreamFault) (r : Result Pmsi PmsiFault) → IsOctets value → pmsi_of value ≡ r
    → tunnel_of place r ≡ Err (at, e) → ValueFault 22 value place at e
tunnel_fails_by place value at e (Ok pmsi) fits is h = absurd cc
tunnel_fails_by place value at e (Err g) fits is h =
    let made : ℕ × StreamFault = (place + g.place, faults.Pmsi g.reason) in
    let given : ℕ × StreamFault = (at, e) in
    let same : made ≡ given = err_is made given h in
    wrong.in_tunnel g refl (pmsi_fails value g fits is) (sym (ap (λ (x : ℕ × StreamFault). x.0) same)) (sym (ap (λ (x : ℕ × StreamFault). x.1) same))

tunnel_fails : (place : ℕ) (value : List ℕ) (at : ℕ) (e : StreamFault) → IsOctets value → tunnel_at place value ≡ Err (at, e)
    → ValueFault 22 value place at e
unfolding tunnel_at
tunnel_fails place value at e fits h = tunnel_fails_by place value at e (pmsi_of value) fits refl h

fails_tunnel : (place : ℕ) (value : List ℕ) (g : PmsiFault) → pmsi_of value ≡ Err g
    → tunnel_at place value ≡ Err (place + g.place, faults.Pmsi g.reason)
unfolding tunnel_at
fails_tunnel place value g e = ap (tunnel_of place) e

-- ---- by the type

at_reach : (place : ℕ) (value : List ℕ) → value_at 14 place value ≡ reach_at place value
unfolding value_at
at_reach place value = refl

at_unreach : (place : ℕ) (value : List ℕ) → value_at 15 place value ≡ unreach_at place value
unfolding value_at
at_unreach place value = refl

at_comms : (place : ℕ) (value : List ℕ) → value_at 16 place value ≡ comms_at value
unfolding value_at
at_comms place value = refl

at_tunnel : (place : ℕ) (value : List ℕ) → value_at 22 place value ≡ tunnel_at place value
unfolding value_at
at_tunnel place value = refl

at_other : (kind place : ℕ) (value : List ℕ) → ¬ (IsReadType kind) → value_at kind place value ≡ Ok (Passed kind)
unfolding value_at
at_other kind place value other =
    rw (
      ne_eqb kind 14 (λ e. other (inl e)),
      ne_eqb kind 15 (λ e. other (inr (inl e))),
      ne_eqb kind 16 (λ e. other (inr (inr (inl e)))),
      ne_eqb kind 22 (λ e. other (inr (inr (inr e)))),
    ) refl

-- A type is read or not.
pub read_type : (kind : ℕ) → IsReadType kind ⊎ ¬ (IsReadType kind)
read_type kind =
    elim (eqb_tells kind 14) [
      | inl a ↦ inl (inl a.1)
      | inr a ↦ elim (eqb_tells kind 15) [
        | inl b ↦ inl (inr (inl b.1))
        | inr b ↦ elim (eqb_tells kind 16) [
          | inl c ↦ inl (inr (inr (inl c.1)))
          | inr c ↦ elim (eqb_tells kind 22) [
            | inl d ↦ inl (inr (inr (inr d.1)))
            | inr d ↦ inr (none a.1 b.1 c.1 d.1)
          ]
        ]
      ]
    ]
  where
    none : kind ≢ 14 → kind ≢ 15 → kind ≢ 16 → kind ≢ 22 → IsReadType kind → ⊥
    none a b c d (inl e) = a e
    none a b c d (inr (inl e)) = b e
    none a b c d (inr (inr (inl e))) = c e
    none a b c d (inr (inr (inr e))) = d e

taken_by : (kind place : ℕ) (value : List ℕ) (a : Attribute) → IsOctets value → value_at kind place value ≡ Ok a
    → IsReadType kind ⊎ ¬ (IsReadType kind) → Means kind value a
taken_by kind place value a fits e (inl (inl is)) =
    subst (λ (n : ℕ). Means n value a) (sym is) (reach_taken place value a fits
    (sym (at_reach place value) ∙ ap (λ (n : ℕ). value_at n place value) (sym is) ∙ e))
taken_by kind place value a fits e (inl (inr (inl is))) =
    subst (λ (n : ℕ). Means n value a) (sym is) (unreach_taken place value a fits
    (sym (at_unreach place value) ∙ ap (λ (n : ℕ). value_at n place value) (sym is) ∙ e))
taken_by kind place value a fits e (inl (inr (inr (inl is)))) =
    subst (λ (n : ℕ). Means n value a) (sym is) (comms_taken value a
    (sym (at_comms place value) ∙ ap (λ (n : ℕ). value_at n place value) (sym is) ∙ e))
taken_by kind place value a fits e (inl (inr (inr (inr is)))) =
    subst (λ (n : ℕ). Means n value a) (sym is) (tunnel_taken place value a fits
    (sym (at_tunnel place value) ∙ ap (λ (n : ℕ). value_at n place value) (sym is) ∙ e))
taken_by kind place value a fits e (inr other) =
    subst (Means kind value) (ok_is (Passed kind) a (sym (at_other kind place value other) ∙ e)) (refl, other)

-- What is read is spelled.
pub value_taken : (kind place : ℕ) (value : List ℕ) (a : Attribute) → IsOctets value → value_at kind place value ≡ Ok a → Means kind value a
value_taken kind place value a fits e = taken_by kind place value a fits e (read_type kind)

-- What is spelled is read.
pub value_again : (a : Attribute) (place : ℕ) (value : List ℕ) → SpellsValue a value → value_at (type_of a) place value ≡ Ok a
value_again (Reach (Some r)) place value s = at_reach place value ∙ reach_again place value r s
value_again (Reach None) place value s = at_reach place value ∙ unread_reach place value s
value_again (Unreach (Some ks)) place value s = at_unreach place value ∙ unreach_again place value ks s
value_again (Unreach None) place value s = at_unreach place value ∙ unread_unreach place value s
value_again (Communities comms) place value (are, parts) = at_comms place value ∙ comms_again value comms are parts
value_again (Tunnel pmsi) place value s = at_tunnel place value ∙ tunnel_again place value pmsi s
value_again (Passed kind) place value s = at_other kind place value s

fails_by : (kind place : ℕ) (value : List ℕ) (at : ℕ) (e : StreamFault) → IsOctets value → value_at kind place value ≡ Err (at, e)
    → IsReadType kind ⊎ ¬ (IsReadType kind) → ValueFault kind value place at e
fails_by kind place value at e fits h (inl (inl is)) =
    subst (λ (n : ℕ). ValueFault n value place at e) (sym is)
    (reach_fails place value at e fits (sym (at_reach place value) ∙ ap (λ (n : ℕ). value_at n place value) (sym is) ∙ h))
fails_by kind place value at e fits h (inl (inr (inl is))) =
    subst (λ (n : ℕ). ValueFault n value place at e) (sym is)
    (unreach_fails place value at e fits (sym (at_unreach place value) ∙ ap (λ (n : ℕ). value_at n place value) (sym is) ∙ h))
fails_by kind place value at e fits h (inl (inr (inr (inl is)))) =
    subst (λ (n : ℕ). ValueFault n value place at e) (sym is)
    (comms_fail place value at e (sym (at_comms place value) ∙ ap (λ (n : ℕ). value_at n place value) (sym is) ∙ h))
fails_by kind place value at e fits h (inl (inr (inr (inr is)))) =
    subst (λ (n : ℕ). ValueFault n value place at e) (sym is)
    (tunnel_fails place value at e fits (sym (at_tunnel place value) ∙ ap (λ (n : ℕ). value_at n place value) (sym is) ∙ h))
fails_by kind place value at e fits h (inr other) = ok_or_err (Passed kind) (at, e) (sym (at_other kind place value other) ∙ h)

-- A fault that is answered is there.
pub value_fails : (kind place : ℕ) (value : List ℕ) (at : ℕ) (e : StreamFault) → IsOctets value → value_at kind place value ≡ Err (at, e)
    → ValueFault kind value place at e
value_fails kind place value at e fits h = fails_by kind place value at e fits h (read_type kind)

-- the fault at that place
fault_is : {A : Type 0} (m n : ℕ) (d e : StreamFault) → n ≡ m → e ≡ d → ◌≡◌ {A = Result A (ℕ × StreamFault)} (Err (m, d)) (Err (n, e))
fault_is m n d e p q i = Err (sym p i, sym q i)

answered : (kind number place : ℕ) (value : List ℕ) (x : Result Attribute (ℕ × StreamFault)) (at : ℕ) (e : StreamFault) → kind ≡ number
    → value_at number place value ≡ x → x ≡ Err (at, e) → value_at kind place value ≡ Err (at, e)
answered kind number place value x at e is by h = ap (λ (n : ℕ). value_at n place value) is ∙ by ∙ h

-- A fault that is there is answered.
pub fails_value : (kind place : ℕ) (value : List ℕ) (at : ℕ) (e : StreamFault) → IsOctets value → ValueFault kind value place at e
    → value_at kind place value ≡ Err (at, e)
fails_value kind place value at e fits (wrong.no_family (inl is) short p q) =
    answered kind 14 place value _ at e is (at_reach place value) ((fails_no_family place value short).0 ∙ fault_is 0 at faults.AttributeLength e p q)
fails_value kind place value at e fits (wrong.no_family (inr is) short p q) =
    answered kind 15 place value _ at e is (at_unreach place value)
    ((fails_no_family place value short).1 ∙ fault_is 0 at faults.AttributeLength e p q)
fails_value kind place value at e fits (wrong.no_hop_len f is parts p q) =
    answered kind 14 place value _ at e is (at_reach place value) (fails_no_hop_len place f value parts ∙ fault_is 0 at faults.AttributeLength e p q)
fails_value kind place value at e fits (wrong.hop_len f len rest is parts none p q) =
    answered kind 14 place value _ at e is (at_reach place value)
    (fails_after place f value len rest _ parts (hop_wrong f (place + 3) len rest none) ∙ fault_is (place + 3) at faults.NextHop e p q)
fails_value kind place value at e fits (wrong.hop_cut f len rest is parts is_len short p q) =
    answered kind 14 place value _ at e is (at_reach place value)
    (fails_after place f value len rest _ parts (hop_short f (place + 3) len rest is_len short) ∙ fault_is 0 at faults.AttributeLength e p q)
fails_value kind place value at e fits (wrong.in_reach f addr hop reserved nlri inner is s parts in_keys p) =
    let there : at ≡ place + 3 + length hop + 2 + inner = omega (arith, p) in
    answered kind 14 place value _ at e is (at_reach place value)
    (fails_after place f value (length hop) (hop ++ (reserved ∷ nlri)) _ parts (fails_hop f (place + 3) addr hop reserved nlri inner e s in_keys)
    ∙ fault_is (place + 3 + length hop + 2 + inner) at e e there refl)
fails_value kind place value at e fits (wrong.in_unreach f nlri inner is parts in_keys p) =
    answered kind 15 place value _ at e is (at_unreach place value)
    (fails_unreach place f value nlri inner e parts in_keys ∙ fault_is (place + 3 + inner) at e e p refl)
fails_value kind place value at e fits (wrong.communities is over p q) =
    answered kind 16 place value _ at e is (at_comms place value) (fail_comms value over ∙ fault_is 0 at faults.AttributeLength e p q)
fails_value kind place value at e fits (wrong.in_tunnel g is first p q) =
    answered kind 22 place value _ at e is (at_tunnel place value)
    (fails_tunnel place value g (fails_pmsi value g fits first) ∙ fault_is (place + g.place) at (faults.Pmsi g.reason) e p q)
