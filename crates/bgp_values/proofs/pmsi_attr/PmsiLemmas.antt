-- The whole value: it is read exactly where it is spelled, and its first fault.
use Rattle.std.proofs.Common.{◌≡◌, ℕ, zero, suc, ◌+◌, ◌*◌, ◌/◌, ◌%◌, ◌^◌, ◌<◌, ◌≤◌, Bool, true, false, eqb, ltb, List, [], ◌∷◌, ◌++◌, length, drop, Option, Some, None, Result, Ok, Err, refl, sym, ap, subst, ◌∙◌, arith, inl, inr, bit_and}
use Rattle.std.specs.Prelude.{IfOk, IfErr}
use Rattle.std.specs.Int.{w32, from_be_bytes, to_be_bytes}
use Rattle.std.proofs.lemmas.Bool.{ne_eqb, ltb-true, ltb-false, le-ltb, lt-ltb}
use Rattle.std.proofs.lemmas.Bool.Decides.{eqb_tells}
use Rattle.std.proofs.lemmas.List.{length-append}
use Rattle.mv_base.specs.Octets.{IsOctets}
use Rattle.mv_base.specs.Cursor.{start, three}
use Rattle.mv_base.proofs.Fields.{octets_after, wide32, bind_ok, bind_err, ok_is, err_is, err_again, chosen}
use Rattle.mldp.proofs.mldp_fec.CallLemmas.{read_within}
use Rattle.mldp.proofs.mldp_fec.FecLemmas.{fails_fec}
use Rattle.bgp_values.specs.declared.pmsi_attr.fault.PmsiFault.{PmsiFault}
use Rattle.bgp_values.specs.declared.pmsi_attr.fault.PmsiReason.{PmsiReason}
use Rattle.bgp_values.specs.declared.pmsi_attr.fault.PmsiReason.TheVariants as reasons
use Rattle.bgp_values.specs.declared.pmsi_attr.pmsi.Tunnel.{Tunnel}
use Rattle.bgp_values.specs.declared.pmsi_attr.pmsi.Pmsi.{Pmsi}
use Rattle.bgp_values.specs.pmsi_attr.Reading.{fault, tunnel_of, label_of, label_after, pmsi_of}
use Rattle.bgp_values.specs.pmsi_attr.Spelling.{IsLabel, label_bits, type_octet, identifier, leaf_bit, written, Spells}
use Rattle.bgp_values.specs.pmsi_attr.FirstFault as faults
use Rattle.bgp_values.specs.pmsi_attr.FirstFault.{Is, IdentifierFault, FirstFault}
use Rattle.bgp_values.proofs.pmsi_attr.TunnelLemmas.{tunnel_taken, tunnel_again, tunnel_fails, fails_tunnel, type_below, fault_below}

-- ---- the label

-- the number that three octets spell
abbrev number : ℕ → ℕ → ℕ → ℕ
number a b c = from_be_bytes w32 (0 ∷ a ∷ b ∷ c ∷ [])

four : (a b c : ℕ) → a < 256 → b < 256 → c < 256 → IsOctets (0 ∷ a ∷ b ∷ c ∷ [])
four a b c p q r zero = omega arith
four a b c p q r (suc zero) = p
four a b c p q r (suc (suc zero)) = q
four a b c p q r (suc (suc (suc zero))) = r
four a b c p q r (suc (suc (suc (suc i)))) = omega arith

three_is : (a b c : ℕ) → a < 256 → b < 256 → c < 256 → three (number a b c) ≡ a ∷ b ∷ c ∷ []
three_is a b c p q r = ap (λ (xs : List ℕ). drop 1 xs) (wide32.back (0 ∷ a ∷ b ∷ c ∷ []) refl (four a b c p q r))

three_again : (n : ℕ) → n < 2 ^ 24 → from_be_bytes w32 (0 ∷ three n) ≡ n
three_again n lt =
    let first : n / 16777216 % 256 ≡ 0 = omega arith in
    let whole : 0 ∷ three n ≡ to_be_bytes w32 n = ap (λ k. k ∷ three n) (sym first) in
    ap (from_be_bytes w32) whole ∙ wide32.again n (omega arith)

label_is : (n : ℕ) → n < 2 ^ 24 → IsLabel (label_of n) × (label_bits (label_of n) ≡ n / 16)
label_is n lt =
    elim (eqb_tells (n / 16) 0) [
      | inl none ↦ rw none.0 (tt, sym none.1)
      | inr some ↦ rw some.0 ((omega (arith, some.1), omega arith), refl)
    ]

label_again : (l : Option ℕ) (low : ℕ) → IsLabel l → low < 2 ^ 4 → label_of (16 * label_bits l + low) ≡ l
label_again None low h lt = let none : (16 * 0 + low) / 16 ≡ 0 = omega arith in rw none refl
label_again (Some label) low h lt =
    let whole : (16 * label + low) / 16 ≡ label = omega arith in
    rw (whole, ne_eqb label 0 (omega (arith, h.0))) refl

label_room : (l : Option ℕ) (low : ℕ) → IsLabel l → low < 2 ^ 4 → 16 * label_bits l + low < 2 ^ 24
label_room None low h lt = omega arith
label_room (Some label) low h lt = omega (arith, h.1)

-- ---- label and tunnel

after_is : (flags kind a b c : ℕ) (octets : List ℕ) (t : Tunnel) (l : Option ℕ) (n : ℕ) → tunnel_of kind octets ≡ Ok t → number a b c ≡ n
    → label_of n ≡ l
    → label_after flags kind (a ∷ b ∷ c ∷ octets) ≡ Ok (record { leaf_info = eqb (bit_and flags 1) 1; tunnel = t; label = l })
unfolding label_after
after_is flags kind a b c octets t l n tunnel is label = rw (tunnel, is, label) refl

made : (flags kind a b c : ℕ) (octets : List ℕ) (t : Tunnel) → IsOctets (flags ∷ kind ∷ a ∷ b ∷ c ∷ octets) → kind ≤ 7 → tunnel_of kind octets ≡ Ok t
    → Spells (record { leaf_info = eqb (bit_and flags 1) 1; tunnel = t; label = label_of (number a b c) }) (flags ∷ kind ∷ a ∷ b ∷ c ∷ octets)
made flags kind a b c octets t fits le read =
    let n = number a b c in
    let below : n < 2 ^ 24 = omega (arith, fits 2, fits 3, fits 4) in
    let l = label_is n below in
    let q = tunnel_taken kind octets t (octets_after 5 (flags ∷ kind ∷ a ∷ b ∷ c ∷ octets) fits) le read in
    let whole : 16 * label_bits (label_of n) + n % 16 ≡ n = omega (arith, l.1) in
    let text : three (16 * label_bits (label_of n) + n % 16) ≡ a ∷ b ∷ c ∷ [] = ap three whole ∙ three_is a b c (fits 2) (fits 3) (fits 4) in
    record {
      flags = flags;
      low = n % 16;
      octet = fits 0;
      leaf = refl;
      four_bits = omega arith;
      label = l.0;
      tunnel = q.2;
      octets = ap (λ (k : ℕ). flags ∷ k ∷ a ∷ b ∷ c ∷ octets) q.0 ∙ ap (λ (xs : List ℕ). flags ∷ type_octet t ∷ a ∷ b ∷ c ∷ xs) q.1
          ∙ ap (λ (xs : List ℕ). flags ∷ type_octet t ∷ (xs ++ identifier t)) (sym text);
    }

after_taken : (flags kind : ℕ) (rest : List ℕ) (p : Pmsi) → IsOctets (flags ∷ kind ∷ rest) → kind ≤ 7 → label_after flags kind rest ≡ Ok p
    → Spells p (flags ∷ kind ∷ rest)
unfolding label_after
after_taken flags kind [] p fits le e = absurd cc
after_taken flags kind (a ∷ []) p fits le e = absurd cc
after_taken flags kind (a ∷ b ∷ []) p fits le e = absurd cc
after_taken flags kind (a ∷ b ∷ c ∷ octets) p fits le e =
    let t = bind_ok (tunnel_of kind octets) _ p e in
    subst (λ (q : Pmsi). Spells q (flags ∷ kind ∷ a ∷ b ∷ c ∷ octets)) (ok_is _ p t.2) (made flags kind a b c octets t.0 fits le t.1)

after_fails : (flags kind : ℕ) (rest : List ℕ) (f : PmsiFault) → IsOctets (flags ∷ kind ∷ rest) → kind ≤ 7 → label_after flags kind rest ≡ Err f
    → FirstFault (flags ∷ kind ∷ rest) f
unfolding label_after
after_fails flags kind [] f fits le e = faults.label_short flags kind [] refl le (omega arith) (sym (err_is (fault 2 reasons.Short) f e))
after_fails flags kind (a ∷ []) f fits le e = faults.label_short flags kind (a ∷ []) refl le (omega arith) (sym (err_is (fault 2 reasons.Short) f e))
after_fails flags kind (a ∷ b ∷ []) f fits le e =
    faults.label_short flags kind (a ∷ b ∷ []) refl le (omega arith) (sym (err_is (fault 2 reasons.Short) f e))
after_fails flags kind (a ∷ b ∷ c ∷ octets) f fits le e =
    elim (bind_err (tunnel_of kind octets) _ f e) [
      | inl wrong ↦ faults.in_identifier flags kind (a ∷ b ∷ c ∷ []) octets refl refl
          (tunnel_fails kind octets f (octets_after 5 (flags ∷ kind ∷ a ∷ b ∷ c ∷ octets) fits) le wrong)
      | inr t ↦ absurd cc
    ]

fails_short : (flags kind : ℕ) (rest : List ℕ) (f : PmsiFault) → length rest < 3 → Is f 2 reasons.Short → label_after flags kind rest ≡ Err f
unfolding label_after
fails_short flags kind [] f few is = err_again (sym is)
fails_short flags kind (a ∷ []) f few is = err_again (sym is)
fails_short flags kind (a ∷ b ∷ []) f few is = err_again (sym is)
fails_short flags kind (a ∷ b ∷ c ∷ octets) f few is = absurd (omega (arith, few))

fails_after : (flags kind : ℕ) (label octets : List ℕ) (f : PmsiFault) → length label ≡ 3 → tunnel_of kind octets ≡ Err f
    → label_after flags kind (label ++ octets) ≡ Err f
unfolding label_after
fails_after flags kind [] octets f len e = absurd (omega (arith, len))
fails_after flags kind (a ∷ []) octets f len e = absurd (omega (arith, len))
fails_after flags kind (a ∷ b ∷ []) octets f len e = absurd (omega (arith, len))
fails_after flags kind (a ∷ b ∷ c ∷ []) octets f len e = rw e refl
fails_after flags kind (a ∷ b ∷ c ∷ d ∷ more) octets f len e = absurd (omega (arith, len))

-- ---- the whole value

typed : (flags kind : ℕ) (rest : List ℕ) → kind ≤ 7 → pmsi_of (flags ∷ kind ∷ rest) ≡ label_after flags kind rest
unfolding pmsi_of
typed flags kind rest le = rw (le-ltb 7 kind le) refl

-- What is read is spelled.
pub pmsi_taken : (bytes : List ℕ) (p : Pmsi) → IsOctets bytes → pmsi_of bytes ≡ Ok p → Spells p bytes
unfolding pmsi_of
pmsi_taken [] p fits e = absurd cc
pmsi_taken (flags ∷ []) p fits e = absurd cc
pmsi_taken (flags ∷ kind ∷ rest) p fits e =
    elim (chosen (ltb 7 kind) _ _ _ e) [
      | inl a ↦ absurd cc
      | inr b ↦ after_taken flags kind rest p fits (ltb-false 7 kind b.0) b.1
    ]

-- What is spelled is read.
pub pmsi_again : (p : Pmsi) (text : List ℕ) → Spells p text → pmsi_of text ≡ Ok p
pmsi_again p text s =
    let n = 16 * label_bits p.label + s.low in
    let kind = type_octet p.tunnel in
    let number_is = three_again n (label_room p.label s.low s.label s.four_bits) in
    let thereafter =
    after_is s.flags kind _ _ _ (identifier p.tunnel) p.tunnel p.label n (tunnel_again p.tunnel s.tunnel) number_is
    (label_again p.label s.low s.label s.four_bits) in
    let leaf : record { leaf_info = eqb (bit_and s.flags 1) 1; tunnel = p.tunnel; label = p.label } ≡ p = rw (← s.leaf) refl in
    ap pmsi_of s.octets ∙ typed s.flags kind (three n ++ identifier p.tunnel) (type_below p.tunnel s.tunnel) ∙ thereafter ∙ ap (λ (q : Pmsi). Ok q) leaf

-- A fault that is answered is the first one.
pub pmsi_fails : (bytes : List ℕ) (f : PmsiFault) → IsOctets bytes → pmsi_of bytes ≡ Err f → FirstFault bytes f
unfolding pmsi_of
pmsi_fails [] f fits e = faults.flags_short refl (sym (err_is (fault 0 reasons.Short) f e))
pmsi_fails (flags ∷ []) f fits e = faults.type_short flags refl (sym (err_is (fault 1 reasons.Short) f e))
pmsi_fails (flags ∷ kind ∷ rest) f fits e =
    elim (chosen (ltb 7 kind) _ _ _ e) [
      | inl a ↦ faults.type_wrong flags kind rest refl (ltb-true 7 kind a.0) (sym (err_is (fault 1 reasons.TunnelType) f a.1))
      | inr b ↦ after_fails flags kind rest f fits (ltb-false 7 kind b.0) b.1
    ]

after_label : (bytes label octets : List ℕ) (flags kind : ℕ) → bytes ≡ flags ∷ kind ∷ (label ++ octets) → length label ≡ 3 → IsOctets bytes
    → IsOctets octets
after_label bytes [] octets flags kind parts len fits = absurd (omega (arith, len))
after_label bytes (a ∷ []) octets flags kind parts len fits = absurd (omega (arith, len))
after_label bytes (a ∷ b ∷ []) octets flags kind parts len fits = absurd (omega (arith, len))
after_label bytes (a ∷ b ∷ c ∷ []) octets flags kind parts len fits = octets_after 5 (flags ∷ kind ∷ a ∷ b ∷ c ∷ octets) (subst IsOctets parts fits)
after_label bytes (a ∷ b ∷ c ∷ d ∷ more) octets flags kind parts len fits = absurd (omega (arith, len))

-- The first fault is answered.
pub fails_pmsi : (bytes : List ℕ) (f : PmsiFault) → IsOctets bytes → FirstFault bytes f → pmsi_of bytes ≡ Err f
unfolding pmsi_of
fails_pmsi bytes f fits (faults.flags_short parts is) = rw parts (err_again (sym is))
fails_pmsi bytes f fits (faults.type_short flags parts is) = rw parts (err_again (sym is))
fails_pmsi bytes f fits (faults.type_wrong flags kind rest parts above is) = rw (parts, lt-ltb 7 kind above) (err_again (sym is))
fails_pmsi bytes f fits (faults.label_short flags kind rest parts le few is) =
    ap pmsi_of parts ∙ typed flags kind rest le ∙ fails_short flags kind rest f few is
fails_pmsi bytes f fits (faults.in_identifier flags kind label octets parts len wrong) =
    ap pmsi_of parts ∙ typed flags kind (label ++ octets) (fault_below kind octets f wrong)
    ∙ fails_after flags kind label octets f len (fails_tunnel kind octets f (after_label bytes label octets flags kind parts len fits) wrong)

-- ---- where a fault stands

is_at : (f : PmsiFault) (place n : ℕ) (reason : PmsiReason) → Is f place reason → place ≤ n → f.place ≤ n
is_at f place n reason is le = omega (arith, ap (λ (g : PmsiFault). g.place) is)

identifier_within : (kind : ℕ) (octets : List ℕ) (f : PmsiFault) → IsOctets octets → IdentifierFault kind octets f → f.place ≤ 5 + length octets
identifier_within kind octets f fits (faults.not_empty type more is) = is_at f 5 _ reasons.Identifier is (omega arith)
identifier_within kind octets f fits (faults.in_element type g first is) =
    is_at f (5 + g.place) _ (reasons.Fec g.reason) is (omega (arith, read_within (Err g) octets fits (fails_fec (start octets) g fits first)))
identifier_within kind octets f fits (faults.not_p2mp type x text rest spelled parts other is) = is_at f 5 _ reasons.Identifier is (omega arith)
identifier_within kind octets f fits (faults.more_after type x text rest spelled parts more is) = is_at f 5 _ reasons.Identifier is (omega arith)
identifier_within kind octets f fits (faults.no_address type four sixteen is) = is_at f 5 _ reasons.Identifier is (omega arith)
identifier_within kind octets f fits (faults.too_long type long is) = is_at f 5 _ reasons.Identifier is (omega arith)

fault_within : (bytes : List ℕ) (f : PmsiFault) → IsOctets bytes → FirstFault bytes f → f.place ≤ length bytes
fault_within bytes f fits (faults.flags_short parts is) = is_at f 0 _ reasons.Short is (omega arith)
fault_within bytes f fits (faults.type_short flags parts is) = is_at f 1 _ reasons.Short is (omega (arith, ap (λ (xs : List ℕ). length xs) parts))
fault_within bytes f fits (faults.type_wrong flags kind rest parts above is) =
    is_at f 1 _ reasons.TunnelType is (omega (arith, ap (λ (xs : List ℕ). length xs) parts))
fault_within bytes f fits (faults.label_short flags kind rest parts le few is) =
    is_at f 2 _ reasons.Short is (omega (arith, ap (λ (xs : List ℕ). length xs) parts))
fault_within bytes f fits (faults.in_identifier flags kind label octets parts len wrong) =
    omega (
      arith,
      identifier_within kind octets f (after_label bytes label octets flags kind parts len fits) wrong,
      ap (λ (xs : List ℕ). length xs) parts,
      len,
      length-append label octets,
    )

-- ---- what decoding promises

-- A text spells one value.
pub one_value : (v w : Pmsi) (text : List ℕ) → Spells v text → Spells w text → v ≡ w
one_value v w text a b = ok_is v w (sym (pmsi_again v text a) ∙ pmsi_again w text b)

flag_is : (leaf : Bool) → (leaf_bit leaf < 2 ^ 8) × (leaf ≡ eqb (bit_and (leaf_bit leaf) 1) 1)
flag_is true = (omega arith, refl)
flag_is false = (omega arith, refl)

-- A value that has a spelling is spelled by what is written.
pub written_spells : (p : Pmsi) (text : List ℕ) → Spells p text → Spells p (written p)
written_spells p text s = record {
  flags = leaf_bit p.leaf_info;
  low = 0;
  octet = (flag_is p.leaf_info).0;
  leaf = (flag_is p.leaf_info).1;
  four_bits = omega arith;
  label = s.label;
  tunnel = s.tunnel;
  octets = refl;
}

-- What was answered is spelled, or is the first fault, within the octets or right after them.
pub answer_is : (r : Result Pmsi PmsiFault) (bytes : List ℕ) → IsOctets bytes → r ≡ pmsi_of bytes
    → IfOk r (λ p. Spells p bytes) × IfErr r (λ f. FirstFault bytes f) × IfErr r (λ f. f.place ≤ length bytes)
answer_is (Ok p) bytes fits e = (pmsi_taken bytes p fits (sym e), tt, tt)
answer_is (Err f) bytes fits e =
    let first = pmsi_fails bytes f fits (sym e) in
    (tt, first, fault_within bytes f fits first)
