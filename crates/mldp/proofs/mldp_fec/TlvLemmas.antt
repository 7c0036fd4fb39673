-- The TLV at the front: its length is found exactly where one stands there.
use Rattle.std.proofs.Common.{◌≡◌, ◌≢◌, ℕ, zero, suc, ◌+◌, ◌-◌, ◌^◌, ◌<◌, ◌≤◌, Bool, true, false, cond, eqb, ltb, not, List, [], ◌∷◌, ◌++◌, length, get_or, take, drop, Option, Some, None, refl, sym, ap, subst, ◌∙◌, arith, inl, inr, ◌||◌, ◌&&◌}
use Rattle.std.specs.Int.{w16, to_be_bytes, from_be_bytes}
use Rattle.std.proofs.lemmas.Bool.{ltb-false, le-ltb, eqb-true, eq-eqb, ne_eqb, false≢true}
use Rattle.std.proofs.lemmas.Bool.Decides.{eqb_tells}
use Rattle.std.proofs.lemmas.List.{length-append, length-take-le, take-append-drop}
use Rattle.mv_base.specs.framing.Walk.{Front, IsLen}
use Rattle.mv_base.specs.Octets.{IsOctets}
use Rattle.mv_base.proofs.Fields.{wide16}
use Rattle.mldp.specs.mldp_fec.Shape.{tlv_len}
use Rattle.mldp.specs.mldp_fec.Spelling.{Tlv, plain, extended, tlv, IsTlv}

-- the length field in the last two octets of the header
abbrev value_len : ℕ → List ℕ → ℕ
value_len header octets = from_be_bytes w16 (take 2 (drop (header - 2) octets))

-- the number of octets, where the header has so many
abbrev sized : ℕ → List ℕ → Option ℕ
sized header octets =
    cond (ltb (length octets) header) None (cond
    (ltb (length octets) (header + value_len header octets) || (eqb (get_or octets 0 0) 1 && not (eqb (value_len header octets) 4))) None
    (Some (header + value_len header octets)))

some_from : (b : Bool) (o : Option ℕ) (n : ℕ) → cond b None o ≡ Some n → (b ≡ false) × (o ≡ Some n)
some_from true o n e = absurd cc
some_from false o n e = (refl, e)

or_false : (a b : Bool) → (a || b) ≡ false → (a ≡ false) × (b ≡ false)
or_false true b e = absurd cc
or_false false b e = (refl, e)

implied : (a b : Bool) → (a && not b) ≡ false → a ≡ true → b ≡ true
implied true true e h = refl
implied true false e h = absurd cc
implied false b e h = absurd cc

implies : (a b : Bool) → (a ≡ true → b ≡ true) → (a && not b) ≡ false
implies true b h = rw (h refl) refl
implies false b h = refl

-- the header and the value are there, and type 1 has four octets
record Sizes (header : ℕ) (octets : List ℕ) : Type 0 where
  within : header + value_len header octets ≤ length octets
  lsp : get_or octets 0 0 ≡ 1 → value_len header octets ≡ 4

sized_some : (header : ℕ) (octets : List ℕ) (n : ℕ) → sized header octets ≡ Some n → Sizes header octets × (n ≡ header + value_len header octets)
sized_some header octets n e =
    let v = value_len header octets in
    let first = some_from (ltb (length octets) header) _ n e in
    let second = some_from (ltb (length octets) (header + v) || (eqb (get_or octets 0 0) 1 && not (eqb v 4))) (Some (header + v)) n first.1 in
    let both = or_false (ltb (length octets) (header + v)) (eqb (get_or octets 0 0) 1 && not (eqb v 4)) second.0 in (
      record {
        within = ltb-false _ _ both.0;
        lsp = λ one. eqb-true _ _ (implied (eqb (get_or octets 0 0) 1) (eqb v 4) both.1 (eq-eqb _ _ one));
      },
      cc,
    )

some_sized : (header : ℕ) (octets : List ℕ) → Sizes header octets → sized header octets ≡ Some (header + value_len header octets)
some_sized header octets s =
    let v = value_len header octets in
    let a : ltb (length octets) header ≡ false = le-ltb _ _ (omega (arith, s.within)) in
    let b : ltb (length octets) (header + v) ≡ false = le-ltb _ _ s.within in
    let d : (eqb (get_or octets 0 0) 1 && not (eqb v 4)) ≡ false = implies _ _ (λ h. eq-eqb _ _ (s.lsp (eqb-true _ _ h))) in
    rw (a, b, d) refl

-- at another type than 255 the header has three octets, and at that one five
plain_sized : (octets : List ℕ) → eqb (get_or octets 0 0) 255 ≡ false → tlv_len octets ≡ sized 3 octets
unfolding tlv_len
plain_sized octets h = rw h refl

extended_sized : (octets : List ℕ) → eqb (get_or octets 0 0) 255 ≡ true → tlv_len octets ≡ sized 5 octets
unfolding tlv_len
extended_sized octets h = rw h refl

two : (high low : ℕ) → high < 256 → low < 256 → IsOctets (high ∷ low ∷ [])
two high low h l zero = h
two high low h l (suc zero) = l
two high low h l (suc (suc i)) = omega arith

-- two octets are the number that they spell
number_is : (high low : ℕ) → high < 256 → low < 256 → to_be_bytes w16 (from_be_bytes w16 (high ∷ low ∷ [])) ≡ high ∷ low ∷ []
number_is high low h l = wide16.back (high ∷ low ∷ []) refl (two high low h l)

-- the length field and the value, of which the field is these cells
regroup : (cells value after xs : List ℕ) (v : ℕ) → length value ≡ v → to_be_bytes w16 v ≡ cells → value ++ after ≡ xs
    → to_be_bytes w16 (length value) ++ (value ++ after) ≡ cells ++ xs
regroup cells value after xs v len number whole =
    ap (λ (k : ℕ). to_be_bytes w16 k ++ (value ++ after)) len ∙ ap (λ (ks : List ℕ). ks ++ (value ++ after)) number
    ∙ ap (λ (ys : List ℕ). cells ++ ys) whole

plain_front : (kind high low : ℕ) (xs : List ℕ) (n : ℕ) → IsOctets (kind ∷ high ∷ low ∷ xs) → kind ≢ 255 → sized 3 (kind ∷ high ∷ low ∷ xs) ≡ Some n
    → Front tlv IsTlv (kind ∷ high ∷ low ∷ xs) n
plain_front kind high low xs n fits other e =
    let v = from_be_bytes w16 (high ∷ low ∷ []) in
    let s = sized_some 3 (kind ∷ high ∷ low ∷ xs) n e in
    let room : v ≤ length xs = omega (arith, s.0.within) in
    let len : length (take v xs) ≡ v = length-take-le v xs room in
    let below : v < 2 ^ 16 = omega (arith, fits 1, fits 2) in
    let number : to_be_bytes w16 v ≡ high ∷ low ∷ [] = number_is high low (fits 1) (fits 2) in
    record {
      element = plain kind (take v xs);
      after = drop v xs;
      shape = (other, rw len below, λ one. len ∙ s.0.lsp one);
      parts = ap (λ (ys : List ℕ). kind ∷ ys) (sym (regroup (high ∷ low ∷ []) (take v xs) (drop v xs) xs v len number (take-append-drop v xs)));
      size = omega (arith, s.1, len);
    }

extended_front : (a b high low : ℕ) (xs : List ℕ) (n : ℕ) → IsOctets (255 ∷ a ∷ b ∷ high ∷ low ∷ xs)
    → sized 5 (255 ∷ a ∷ b ∷ high ∷ low ∷ xs) ≡ Some n → Front tlv IsTlv (255 ∷ a ∷ b ∷ high ∷ low ∷ xs) n
extended_front a b high low xs n fits e =
    let v = from_be_bytes w16 (high ∷ low ∷ []) in
    let kind = from_be_bytes w16 (a ∷ b ∷ []) in
    let s = sized_some 5 (255 ∷ a ∷ b ∷ high ∷ low ∷ xs) n e in
    let room : v ≤ length xs = omega (arith, s.0.within) in
    let len : length (take v xs) ≡ v = length-take-le v xs room in
    let below : v < 2 ^ 16 = omega (arith, fits 3, fits 4) in
    let kind_below : kind < 2 ^ 16 = omega (arith, fits 1, fits 2) in
    let number : to_be_bytes w16 v ≡ high ∷ low ∷ [] = number_is high low (fits 3) (fits 4) in
    let kind_number : to_be_bytes w16 kind ≡ a ∷ b ∷ [] = number_is a b (fits 1) (fits 2) in
    record {
      element = extended kind (take v xs);
      after = drop v xs;
      shape = (kind_below, rw len below);
      parts = ap (λ (ys : List ℕ). 255 ∷ ((a ∷ b ∷ []) ++ ys))
          (sym (regroup (high ∷ low ∷ []) (take v xs) (drop v xs) xs v len number (take-append-drop v xs)))
          ∙ ap (λ (ks : List ℕ). 255 ∷ (ks ++ (to_be_bytes w16 (length (take v xs)) ++ (take v xs ++ drop v xs)))) (sym kind_number);
      size = omega (arith, s.1, len);
    }

plain_cases : (octets : List ℕ) (n : ℕ) → IsOctets octets → eqb (get_or octets 0 0) 255 ≡ false → sized 3 octets ≡ Some n → Front tlv IsTlv octets n
plain_cases [] n fits h e = absurd (omega (arith, (sized_some 3 [] n e).0.within))
plain_cases (a ∷ []) n fits h e = absurd (omega (arith, (sized_some 3 (a ∷ []) n e).0.within))
plain_cases (a ∷ b ∷ []) n fits h e = absurd (omega (arith, (sized_some 3 (a ∷ b ∷ []) n e).0.within))
plain_cases (a ∷ b ∷ c ∷ xs) n fits h e = plain_front a b c xs n fits (λ same. false≢true (sym h ∙ eq-eqb a 255 same)) e

extended_cases : (octets : List ℕ) (n : ℕ) → IsOctets octets → get_or octets 0 0 ≡ 255 → sized 5 octets ≡ Some n → Front tlv IsTlv octets n
extended_cases [] n fits h e = absurd (omega (arith, (sized_some 5 [] n e).0.within))
extended_cases (k ∷ []) n fits h e = absurd (omega (arith, (sized_some 5 (k ∷ []) n e).0.within))
extended_cases (k ∷ a ∷ []) n fits h e = absurd (omega (arith, (sized_some 5 (k ∷ a ∷ []) n e).0.within))
extended_cases (k ∷ a ∷ b ∷ []) n fits h e = absurd (omega (arith, (sized_some 5 (k ∷ a ∷ b ∷ []) n e).0.within))
extended_cases (k ∷ a ∷ b ∷ c ∷ []) n fits h e = absurd (omega (arith, (sized_some 5 (k ∷ a ∷ b ∷ c ∷ []) n e).0.within))
extended_cases (k ∷ a ∷ b ∷ c ∷ d ∷ xs) n fits h e =
    let P : ℕ → Type 0 =
    λ k. IsOctets (k ∷ a ∷ b ∷ c ∷ d ∷ xs) → sized 5 (k ∷ a ∷ b ∷ c ∷ d ∷ xs) ≡ Some n → Front tlv IsTlv (k ∷ a ∷ b ∷ c ∷ d ∷ xs) n in
    subst P (sym h) (extended_front a b c d xs n) fits e

tlv_taken : (octets : List ℕ) (n : ℕ) → IsOctets octets → tlv_len octets ≡ Some n → Front tlv IsTlv octets n
tlv_taken octets n fits e =
    elim (eqb_tells (get_or octets 0 0) 255) [
      | inl same ↦ extended_cases octets n fits same.1 (sym (extended_sized octets same.0) ∙ e)
      | inr other ↦ plain_cases octets n fits other.0 (sym (plain_sized octets other.0) ∙ e)
    ]

tlv_again : (t : Tlv) (after : List ℕ) → IsTlv t → tlv_len (tlv t ++ after) ≡ Some (length (tlv t))
tlv_again (plain kind value) after h =
    let octets = tlv (plain kind value) ++ after in
    let number : value_len 3 octets ≡ length value = wide16.again (length value) h.1 in
    let sizes : Sizes 3 octets = record { within = omega (arith, number, length-append value after); lsp = λ one. number ∙ h.2 one } in
    plain_sized octets (ne_eqb kind 255 h.0) ∙ some_sized 3 octets sizes ∙ ap (λ (k : ℕ). Some k) (omega (arith, number))
tlv_again (extended kind value) after h =
    let octets = tlv (extended kind value) ++ after in
    let number : value_len 5 octets ≡ length value = wide16.again (length value) h.1 in
    let sizes : Sizes 5 octets = record { within = omega (arith, number, length-append value after); lsp = λ one. absurd (omega (arith, one)) } in
    extended_sized octets refl ∙ some_sized 5 octets sizes ∙ ap (λ (k : ℕ). Some k) (omega (arith, number))

tlv_more : (t : Tlv) → 0 < length (tlv t)
tlv_more (plain kind value) = omega arith
tlv_more (extended kind value) = omega arith

-- A TLV's length is found exactly where one stands at the front.
pub tlvs : IsLen tlv_len tlv IsTlv
tlvs = record { taken = tlv_taken; again = tlv_again; more = tlv_more }
