-- Attributes end to end: each is read exactly where it is spelled and may stand, with its first fault.
use Rattle.std.proofs.Common.{◌≡◌, ℕ, ◌+◌, ◌-◌, ◌^◌, ◌<◌, ◌≤◌, Bool, true, false, cond, ltb, inl, inr, List, [], ◌∷◌, ◌++◌, length, take, drop, Option, Some, None, Result, Ok, Err, refl, sym, ap, subst, ◌∙◌, append_assoc, arith}
use Rattle.std.specs.Int.{w16, to_be_bytes, from_be_bytes}
use Rattle.std.proofs.lemmas.Bool.{ltb-false, le-ltb, cond-true, cond-false}
use Rattle.std.proofs.lemmas.List.{length-append, length-take-le, take_at, take-append-drop}
use Rattle.mv_base.specs.Octets.{IsOctets}
use Rattle.mv_base.specs.Cursor.{◌>>=◌}
use Rattle.mv_base.proofs.Fields.{octets_before, octets_after, wide16, bind_ok, bind_err, ok_is, err_is, chosen}
use Rattle.mv_base.proofs.framing.Cuts.{IsOctets-before, IsOctets-after}
use Rattle.mv_base.proofs.framing.PartsLemmas.{IsPartReader, OnParts, tail_of, on_parts_start, on_parts_more, on_parts_fault, on_parts_end}
use Rattle.bgp_messages.specs.declared.bgp_attributes.fault.StreamFault.{StreamFault}
use Rattle.bgp_messages.specs.declared.bgp_attributes.fault.StreamFault.TheVariants as faults
use Rattle.bgp_messages.specs.declared.bgp_attributes.fault.AttributesFault.{AttributesFault}
use Rattle.bgp_messages.specs.declared.bgp_attributes.fault.AttributesFault.TheVariants.{Bad, NoMemory}
use Rattle.bgp_messages.specs.declared.bgp_attributes.attribute.Attribute.{Attribute}
use Rattle.bgp_messages.specs.declared.bgp_attributes.attribute.Attribute.TheVariants.{Reach, Unreach, Communities, Tunnel, Passed}
use Rattle.bgp_messages.specs.declared.bgp_attributes.found.Found.{Found}
use Rattle.bgp_messages.specs.bgp_attributes.Spelling.{type_of, is_extended, len_field, FitsLen, SpellsValue, SpellsAttribute, IsNewType, IsNew}
use Rattle.bgp_messages.specs.bgp_attributes.FirstFault.{ValueFault, IsCut, AttributeFault}
use Rattle.bgp_messages.specs.bgp_attributes.FirstFault as wrong
use Rattle.bgp_messages.specs.bgp_attributes.Answers.{Fails, IsNear, IsPart, thereafter}
use Rattle.bgp_messages.specs.bgp_attributes.Reading.{misfit, front_of, wide_value, narrow_value, value_of, value_place, value_at, valued, new_at, attribute_unless, has, has_type, with_attribute, nothing, found_of, attribute_at, found_at}
use Rattle.bgp_messages.proofs.bgp_attributes.ReachLemmas.{Means}
use Rattle.bgp_messages.proofs.bgp_attributes.ValueLemmas.{value_taken, value_again, value_fails, fails_value}
use Rattle.bgp_messages.proofs.bgp_attributes.FoundLemmas.{found_more, new_is, is_new, again_is, is_again, IsProper, AreTested, tested_none, tested_more}

-- ---- a value after its length

-- a length and a value of that length stand first
pub record Stands (flags : ℕ) (rest value : List ℕ) : Type 0 where
  pub after : List ℕ
  pub fits : FitsLen flags (length value)
  pub parts : rest ≡ len_field flags (length value) ++ (value ++ after)

some_is : (x y : List ℕ) → Some x ≡ Some y → x ≡ y
some_is x y e = cc

front_taken : (len : ℕ) (octets value : List ℕ) → front_of len octets ≡ Some value → (length value ≡ len) × (octets ≡ value ++ drop len octets)
front_taken len octets value e =
    elim (chosen (ltb (length octets) len) None (Some (take len octets)) (Some value) e) [
      | inl short ↦ absurd cc
      | inr fits ↦ subst (λ (xs : List ℕ). (length xs ≡ len) × (octets ≡ xs ++ drop len octets)) (some_is (take len octets) value fits.1)
          (length-take-le len octets (ltb-false _ _ fits.0), sym (take-append-drop len octets))
    ]

front_again : (value after : List ℕ) → front_of (length value) (value ++ after) ≡ Some value
front_again value after =
    let fits : length value ≤ length (value ++ after) = omega (arith, length-append value after) in
    rw (le-ltb (length (value ++ after)) (length value) fits, take_at value after (length value) refl) refl

wide_taken : (flags : ℕ) (rest value : List ℕ) → IsOctets rest → is_extended flags ≡ true → wide_value rest ≡ Some value → Stands flags rest value
unfolding wide_value
wide_taken flags [] value fits wide e = absurd cc
wide_taken flags (high ∷ []) value fits wide e = absurd cc
wide_taken flags (high ∷ low ∷ octets) value fits wide e =
    let two : IsOctets (high ∷ low ∷ []) = octets_before 2 (high ∷ low ∷ octets) fits in
    let n : ℕ = from_be_bytes w16 (high ∷ low ∷ []) in
    let (len, parts) = front_taken n octets value e in
    let below : length value < 2 ^ 16 = omega (arith, len, wide16.below (high ∷ low ∷ []) two) in
    let field : to_be_bytes w16 (length value) ≡ high ∷ low ∷ [] = ap (to_be_bytes w16) len ∙ wide16.back (high ∷ low ∷ []) refl two in
    record {
      after = drop n octets;
      fits = rw wide below;
      parts = rw wide (ap (λ (xs : List ℕ). high ∷ low ∷ xs) parts ∙ ap (λ (xs : List ℕ). xs ++ (value ++ drop n octets)) (sym field));
    }

narrow_taken : (flags : ℕ) (rest value : List ℕ) → IsOctets rest → is_extended flags ≡ false → narrow_value rest ≡ Some value
    → Stands flags rest value
unfolding narrow_value
narrow_taken flags [] value fits narrow e = absurd cc
narrow_taken flags (len ∷ octets) value fits narrow e =
    let (size, parts) = front_taken len octets value e in
    let below : length value < 2 ^ 8 = omega (arith, size, fits 0) in
    record {
      after = drop len octets;
      fits = rw narrow below;
      parts = rw narrow (ap (λ (xs : List ℕ). len ∷ xs) parts ∙ ap (λ (n : ℕ). n ∷ (value ++ drop len octets)) (sym size));
    }

-- What is read after a length stands there.
value_stands : (flags : ℕ) (rest value : List ℕ) → IsOctets rest → value_of flags rest ≡ Some value → Stands flags rest value
unfolding value_of
value_stands flags rest value fits e =
    elim (chosen (is_extended flags) (wide_value rest) (narrow_value rest) (Some value) e) [
      | inl wide ↦ wide_taken flags rest value fits wide.0 wide.1
      | inr narrow ↦ narrow_taken flags rest value fits narrow.0 narrow.1
    ]

stands_by : (flags : ℕ) (value after : List ℕ) (b : Bool) → is_extended flags ≡ b → FitsLen flags (length value)
    → value_of flags (len_field flags (length value) ++ (value ++ after)) ≡ Some value
unfolding value_of wide_value narrow_value
stands_by flags value after true wide fits =
    let below : length value < 2 ^ 16 = subst (λ (b : Bool). length value < cond b (2 ^ 16) (2 ^ 8)) wide fits in
    rw wide (ap (λ (n : ℕ). front_of n (value ++ after)) (wide16.again (length value) below) ∙ front_again value after)
stands_by flags value after false narrow fits = rw narrow (front_again value after)

-- What stands there is read.
stands_value : (flags : ℕ) (value after : List ℕ) → FitsLen flags (length value)
    → value_of flags (len_field flags (length value) ++ (value ++ after)) ≡ Some value
stands_value flags value after fits = stands_by flags value after (is_extended flags) refl fits

place_by : (flags n : ℕ) (b : Bool) → is_extended flags ≡ b → value_place flags ≡ 2 + length (len_field flags n)
place_by flags n true wide = rw wide refl
place_by flags n false narrow = rw narrow refl

place_is : (flags n : ℕ) → value_place flags ≡ 2 + length (len_field flags n)
place_is flags n = place_by flags n (is_extended flags) refl

-- A value ends within the octets.
pub value_within : (flags : ℕ) (rest value : List ℕ) → IsOctets rest → value_of flags rest ≡ Some value
    → (0 < value_place flags) × (value_place flags + length value ≤ 2 + length rest)
value_within flags rest value fits e =
    let s = value_stands flags rest value fits e in
    let n : ℕ = length (len_field flags (length value)) in
    let size : length rest ≡ n + (length value + length s.after) =
    omega (
      arith,
      ap (λ (xs : List ℕ). length xs) s.parts,
      length-append (len_field flags (length value)) (value ++ s.after),
      length-append value s.after,
    ) in
    (omega (arith, place_is flags (length value)), omega (arith, place_is flags (length value), size))

near_by : (e : AttributesFault) (m n : ℕ) → IsNear e m → m ≤ n → IsNear e n
near_by NoMemory m n h le = tt
near_by (Bad at e) m n h le = omega (arith, h, le)

-- A fault that is near is within more octets.
pub near_part : {Y : Type 0} (r : Result (Y × ℕ) AttributesFault) (e : AttributesFault) (m n : ℕ) → r ≡ Err e → IsNear e m → m ≤ n → IsPart r n
near_part r e m n is h le = subst (λ (x : Result _ AttributesFault). IsPart x n) (sym is) (near_by e m n h le)

-- ---- one attribute

abbrev text_of : ℕ → ℕ → List ℕ → List ℕ
text_of flags kind value = flags ∷ (kind ∷ (len_field flags (length value) ++ value))

whole : (flags kind : ℕ) (rest value : List ℕ) (s : Stands flags rest value) → flags ∷ (kind ∷ rest) ≡ text_of flags kind value ++ s.after
whole flags kind rest value s =
    ap (λ (xs : List ℕ). flags ∷ (kind ∷ xs)) (s.parts ∙ sym (append_assoc (len_field flags (length value)) value s.after))

count : (flags kind : ℕ) (value : List ℕ) → value_place flags + length value ≡ length (text_of flags kind value)
count flags kind value = omega (arith, place_is flags (length value), length-append (len_field flags (length value)) value)

-- the value is of octets
value_octets : (flags : ℕ) (rest value : List ℕ) → IsOctets rest → Stands flags rest value → IsOctets value
value_octets flags rest value fits s =
    IsOctets-before value s.after (IsOctets-after (len_field flags (length value)) (value ++ s.after) (subst IsOctets s.parts fits))

-- an attribute of a type that may stand was read
record IsOne (flags kind : ℕ) (rest : List ℕ) (x : Attribute × ℕ) : Type 0 where
  value : List ℕ
  stands : Stands flags rest value
  means : Means kind value x.0
  size : x.1 ≡ value_place flags + length value

new_taken_by : (flags kind : ℕ) (rest : List ℕ) (x : Attribute × ℕ) (o : Option (List ℕ)) → IsOctets rest → value_of flags rest ≡ o
    → valued kind (value_place flags) o ≡ Ok x → IsOne flags kind rest x
new_taken_by flags kind rest x None fits is e = absurd cc
new_taken_by flags kind rest x (Some value) fits is e =
    let s = value_stands flags rest value fits is in
    let (a, read, made) = bind_ok (value_at kind (value_place flags) value) _ x e in
    let one : Attribute × ℕ = (a, value_place flags + length value) in
    subst (IsOne flags kind rest) (ok_is one x made)
    (record {
      value = value;
      stands = s;
      means = value_taken kind (value_place flags) value a (value_octets flags rest value fits s) read;
      size =
          refl;
    })

new_taken : (flags kind : ℕ) (rest : List ℕ) (x : Attribute × ℕ) → IsOctets rest → new_at flags kind rest ≡ Ok x → IsOne flags kind rest x
unfolding new_at
new_taken flags kind rest x fits e = new_taken_by flags kind rest x (value_of flags rest) fits refl e

-- the text that an attribute has
spelled_by : (flags kind : ℕ) (rest : List ℕ) (x : Attribute × ℕ) → IsOne flags kind rest x
    → (0 < x.1) × (x.1 ≤ length (flags ∷ (kind ∷ rest))) × SpellsAttribute x.0 (take x.1 (flags ∷ (kind ∷ rest)))
spelled_by flags kind rest x one =
    let value : List ℕ = one.value in
    let s = one.stands in
    let len : x.1 ≡ length (text_of flags kind value) = one.size ∙ count flags kind value in
    let all = whole flags kind rest value s in
    let front : take x.1 (flags ∷ (kind ∷ rest)) ≡ text_of flags kind value =
    ap (λ (xs : List ℕ). take x.1 xs) all ∙ take_at (text_of flags kind value) s.after x.1 (sym len) in (
      omega (arith, len),
      omega (arith, len, ap (λ (xs : List ℕ). length xs) all, length-append (text_of flags kind value) s.after),
      record {
        flags = flags;
        value = value;
        fits = s.fits;
        parts = front ∙ ap (λ (n : ℕ). text_of flags n value) (sym one.means.0);
        means = one.means.1;
      },
    )

taken : (before : List Attribute) (xs : List ℕ) (m : Attribute) (n : ℕ) → IsOctets xs → 0 < length xs → attribute_at before xs ≡ Ok (m, n)
    → (0 < n) × (n ≤ length xs) × SpellsAttribute m (take n xs) × IsNew before m
unfolding attribute_unless
taken before [] m n fits pos e = absurd cc
taken before (flags ∷ []) m n fits pos e = absurd cc
taken before (flags ∷ kind ∷ rest) m n fits pos e =
    elim (chosen (has_type before kind) _ (new_at flags kind rest) _ e) [
      | inl again ↦ absurd cc
      | inr new ↦
          let one = new_taken flags kind rest (m, n) (octets_after 2 (flags ∷ kind ∷ rest) fits) new.1 in
          let (some, le, spells) = spelled_by flags kind rest (m, n) one in
          (some, le, spells, subst (IsNewType before) (sym one.means.0) (new_is before kind new.0))
    ]

-- ---- what is spelled is read

new_read : (flags kind : ℕ) (value after : List ℕ) → FitsLen flags (length value)
    → new_at flags kind (len_field flags (length value) ++ (value ++ after)) ≡ valued kind (value_place flags) (Some value)
unfolding new_at
new_read flags kind value after fits = ap (valued kind (value_place flags)) (stands_value flags value after fits)

unless_new : (before : List Attribute) (flags kind : ℕ) (rest : List ℕ) → IsNewType before kind
    → attribute_at before (flags ∷ (kind ∷ rest)) ≡ new_at flags kind rest
unfolding attribute_unless
unless_new before flags kind rest new = cond-false (has_type before kind) _ (new_at flags kind rest) (is_new before kind new)

again : (before : List Attribute) (m : Attribute) (text after : List ℕ) → SpellsAttribute m text → IsNew before m
    → attribute_at before (text ++ after) ≡ Ok (m, length text)
again before m text after s new =
    let kind : ℕ = type_of m in
    let place : ℕ = value_place s.flags in
    let all : text ++ after ≡ s.flags ∷ (kind ∷ (len_field s.flags (length s.value) ++ (s.value ++ after))) =
    ap (λ (xs : List ℕ). xs ++ after) s.parts ∙ ap (λ (xs : List ℕ). s.flags ∷ (kind ∷ xs))
    (append_assoc (len_field s.flags (length s.value)) s.value after) in
    let size : place + length s.value ≡ length text = count s.flags kind s.value ∙ ap (λ (xs : List ℕ). length xs) (sym s.parts) in
    ap (attribute_at before) all
    ∙ unless_new before s.flags kind (len_field s.flags (length s.value) ++ (s.value ++ after)) new
    ∙ new_read s.flags kind s.value after s.fits
    ∙ ap (λ (x : Result Attribute (ℕ × StreamFault)). x >>= λ a. Ok (a, place + length s.value)) (value_again m place s.value s.means)
    ∙ ap (λ (n : ℕ). Ok (m, n)) size

filled : (m : Attribute) (text : List ℕ) → SpellsAttribute m text → 0 < length text
filled m text s = omega (arith, ap (λ (xs : List ℕ). length xs) s.parts)

-- ---- faults

misfit_is : (offset : ℕ) (e : StreamFault) → misfit ≡ (offset, e) → (offset ≡ 0) × (e ≡ faults.AttributeLength)
misfit_is offset e same = (sym (ap (λ (x : ℕ × StreamFault). x.0) same), sym (ap (λ (x : ℕ × StreamFault). x.1) same))

abbrev second_one : ℕ × StreamFault
second_one = (0, faults.AttributeList)

list_is : (offset : ℕ) (e : StreamFault) → second_one ≡ (offset, e) → (offset ≡ 0) × (e ≡ faults.AttributeList)
list_is offset e same = (sym (ap (λ (x : ℕ × StreamFault). x.0) same), sym (ap (λ (x : ℕ × StreamFault). x.1) same))

new_fails : (before : List Attribute) (flags kind : ℕ) (rest : List ℕ) (offset : ℕ) (e : StreamFault) (o : Option (List ℕ)) → IsOctets rest
    → IsNewType before kind → value_of flags rest ≡ o → valued kind (value_place flags) o ≡ Err (offset, e)
    → AttributeFault before (flags ∷ (kind ∷ rest)) offset e
new_fails before flags kind rest offset e None fits new is h =
    let (p, q) = misfit_is offset e (err_is misfit (offset, e) h) in
    wrong.cut flags kind rest refl new none p q
  where
    none : IsCut flags rest
    none value after fit same = let clash : Some value ≡ None = sym (stands_value flags value after fit) ∙ ap (value_of flags) (sym same) ∙ is in
        absurd cc
new_fails before flags kind rest offset e (Some value) fits new is h =
    let s = value_stands flags rest value fits is in
    elim (bind_err (value_at kind (value_place flags) value) _ (offset, e) h) [
      | inl fault ↦
          let inside : ValueFault kind value (value_place flags) offset e =
          value_fails kind (value_place flags) value offset e (value_octets flags rest value fits s) fault in
          wrong.in_value flags kind value s.after (ap (λ (xs : List ℕ). flags ∷ (kind ∷ xs)) s.parts) new s.fits
          (subst (λ (n : ℕ). ValueFault kind value n offset e) (place_is flags (length value)) inside)
      | inr x ↦ absurd cc
    ]

new_fails_at : (before : List Attribute) (flags kind : ℕ) (rest : List ℕ) (offset : ℕ) (e : StreamFault) → IsOctets rest → IsNewType before kind
    → new_at flags kind rest ≡ Err (offset, e) → AttributeFault before (flags ∷ (kind ∷ rest)) offset e
unfolding new_at
new_fails_at before flags kind rest offset e fits new h = new_fails before flags kind rest offset e (value_of flags rest) fits new refl h

fails : (before : List Attribute) (xs : List ℕ) (offset : ℕ) (e : StreamFault) → IsOctets xs → 0 < length xs
    → attribute_at before xs ≡ Err (offset, e) → AttributeFault before xs offset e
unfolding attribute_unless
fails before [] offset e fits pos h = absurd (omega arith)
fails before (flags ∷ []) offset e fits pos h = let (p, q) = misfit_is offset e (err_is misfit (offset, e) h) in wrong.type_cut flags refl p q
fails before (flags ∷ kind ∷ rest) offset e fits pos h =
    elim (chosen (has_type before kind) _ (new_at flags kind rest) _ h) [
      | inl second ↦ let (p, q) = list_is offset e (err_is second_one (offset, e) second.1) in
          wrong.again flags kind rest refl (again_is before kind second.0) p q
      | inr new ↦ new_fails_at before flags kind rest offset e (octets_after 2 (flags ∷ kind ∷ rest) fits) (new_is before kind new.0) new.1
    ]

none_by : (flags : ℕ) (rest : List ℕ) (o : Option (List ℕ)) → IsOctets rest → IsCut flags rest → value_of flags rest ≡ o → value_of flags rest ≡ None
none_by flags rest None fits none is = is
none_by flags rest (Some value) fits none is = let s = value_stands flags rest value fits is in absurd (none value s.after s.fits s.parts)

new_cut : (flags kind : ℕ) (rest : List ℕ) → IsOctets rest → IsCut flags rest → new_at flags kind rest ≡ Err misfit
unfolding new_at
new_cut flags kind rest fits none = ap (valued kind (value_place flags)) (none_by flags rest (value_of flags rest) fits none refl)

fault_is : (m n : ℕ) (d e : StreamFault) → n ≡ m → e ≡ d → ◌≡◌ {A = Result (Attribute × ℕ) (ℕ × StreamFault)} (Err (m, d)) (Err (n, e))
fault_is m n d e p q i = Err (sym p i, sym q i)

cut_type : (before : List Attribute) (flags : ℕ) → attribute_at before (flags ∷ []) ≡ Err misfit
unfolding attribute_unless
cut_type before flags = refl

second_type : (before : List Attribute) (flags kind : ℕ) (rest : List ℕ) → ¬ (IsNewType before kind)
    → attribute_at before (flags ∷ (kind ∷ rest)) ≡ Err (0, faults.AttributeList)
unfolding attribute_unless
second_type before flags kind rest old = cond-true (has_type before kind) _ (new_at flags kind rest) (is_again before kind old)

faulty : (before : List Attribute) (xs : List ℕ) (offset : ℕ) (e : StreamFault) → IsOctets xs → 0 < length xs → AttributeFault before xs offset e
    → attribute_at before xs ≡ Err (offset, e)
faulty before xs offset e fits pos (wrong.type_cut flags parts p q) =
    ap (attribute_at before) parts ∙ cut_type before flags ∙ fault_is 0 offset faults.AttributeLength e p q
faulty before xs offset e fits pos (wrong.again flags kind rest parts old p q) =
    ap (attribute_at before) parts ∙ second_type before flags kind rest old ∙ fault_is 0 offset faults.AttributeList e p q
faulty before xs offset e fits pos (wrong.cut flags kind rest parts new none p q) =
    ap (attribute_at before) parts ∙ unless_new before flags kind rest new
    ∙ new_cut flags kind rest (octets_after 2 (flags ∷ kind ∷ rest) (subst IsOctets parts fits)) none
    ∙ fault_is 0 offset faults.AttributeLength e p q
faulty before xs offset e fits pos (wrong.in_value flags kind value after parts new fit h) =
    let rest : List ℕ = len_field flags (length value) ++ (value ++ after) in
    let octets : IsOctets value =
    value_octets flags rest value (octets_after 2 (flags ∷ kind ∷ rest) (subst IsOctets parts fits))
    (record { after = after; fits = fit; parts = refl }) in
    let inside : ValueFault kind value (value_place flags) offset e =
    subst (λ (n : ℕ). ValueFault kind value n offset e) (sym (place_is flags (length value))) h in
    ap (attribute_at before) parts
    ∙ unless_new before flags kind rest new
    ∙ new_read flags kind value after fit
    ∙ ap (λ (x : Result Attribute (ℕ × StreamFault)). x >>= λ a. Ok (a, value_place flags + length value))
    (fails_value kind (value_place flags) value offset e octets inside)

-- Each attribute is read exactly where it is spelled and may stand.
pub reader : IsPartReader attribute_at SpellsAttribute IsNew AttributeFault
reader = record { taken = taken; again = again; filled = filled; fails = fails; faulty = faulty }

-- ---- the loop that reads attributes

-- so far these were read, and are found
pub record IsRead (octets : List ℕ) (place : ℕ) (before : List Attribute) (found : Found) : Type 0 where
  pub on : OnParts attribute_at octets place before
  pub same : found ≡ found_of before
  pub tested : AreTested found before

pub read_none : (octets : List ℕ) → IsRead octets 0 [] nothing
read_none octets = record { on = on_parts_start attribute_at octets; same = refl; tested = tested_none }

-- the tests of what was found are those of the attributes
same_test : (found : Found) (before : List Attribute) (xs : List ℕ) → AreTested found before
    → attribute_unless (has found) xs ≡ attribute_at before xs
same_test found before xs h = ap (λ (again : ℕ → Bool). attribute_unless again xs) (λ i kind. h kind i)

proper : (a : Attribute) (value : List ℕ) → SpellsValue a value → IsProper a
proper (Reach r) value s = tt
proper (Unreach ks) value s = tt
proper (Communities cs) value s = tt
proper (Tunnel pmsi) value s = tt
proper (Passed kind) value s = s

-- An attribute was read.
pub read_more : (octets : List ℕ) (place n : ℕ) (before : List Attribute) (found : Found) (a : Attribute) → IsOctets octets
    → IsRead octets place before found → 0 < n → n ≤ length (tail_of octets place)
    → attribute_unless (has found) (tail_of octets place) ≡ Ok (a, n) → IsRead octets (place + n) (before ++ a ∷ []) (with_attribute found a)
read_more octets place n before found a fits r some le e =
    let tail : List ℕ = tail_of octets place in
    let read : attribute_at before tail ≡ Ok (a, n) = sym (same_test found before tail r.tested) ∙ e in
    let (pos, within, spells, new) =
    taken before tail a n (octets_before (length octets - place) (drop place octets) (octets_after place octets fits)) (omega arith) read in
    record {
      on = on_parts_more attribute_at octets place n before a r.on some le read;
      same = ap (λ (f : Found). with_attribute f a) r.same ∙ sym (found_more before a);
      tested = tested_more found before a (proper a spells.value spells.means) r.tested;
    }

-- A fault was met.
pub read_fault : (octets : List ℕ) (place offset : ℕ) (before : List Attribute) (found : Found) (e : StreamFault) → IsRead octets place before found
    → place < length octets → attribute_unless (has found) (tail_of octets place) ≡ Err (offset, e)
    → found_at octets ≡ Err (place + offset, e)
read_fault octets place offset before found e r lt h =
    ap (λ (x : Result (List Attribute) (ℕ × StreamFault)). x >>= λ all. Ok (found_of all))
    (on_parts_fault attribute_at octets place offset before e r.on lt (sym (same_test found before (tail_of octets place) r.tested) ∙ h))

-- All were read.
pub read_all : (octets : List ℕ) (place : ℕ) (before : List Attribute) (found : Found) → IsRead octets place before found → length octets ≤ place
    → found_at octets ≡ Ok found
read_all octets place before found r le =
    ap (λ (x : Result (List Attribute) (ℕ × StreamFault)). x >>= λ all. Ok (found_of all)) (on_parts_end attribute_at octets place before r.on le)
    ∙ ap (λ (f : Found). Ok f) (sym r.same)

-- A fault of the part is one of the whole, further on.
pub fails_further : (octets : List ℕ) (place : ℕ) (before : List Attribute) (found : Found) (fault : AttributesFault)
    → IsRead octets place before found → place < length octets → Fails fault (attribute_unless (has found) (tail_of octets place))
    → Fails (thereafter place fault) (found_at octets)
fails_further octets place before found NoMemory r lt h = tt
fails_further octets place before found (Bad offset e) r lt h = read_fault octets place offset before found e r lt h
