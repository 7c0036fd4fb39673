-- Values that are told one after another.
use Rattle.std.proofs.Common.{◌≡◌, ℕ, ◌+◌, ◌<◌, ◌≤◌, List, [], ◌∷◌, ◌++◌, length, drop, Bool, true, false, refl, sym, ap, subst, ◌∙◌, append_assoc, arith}
use Rattle.std.specs.List.{flat_map, AllByRecursion}
use Rattle.std.proofs.lemmas.List.{append-nil, append_cancel_left, drop_at, drop-drop, drop_all, length-append, length-drop, length-take-le, take-append-drop}
use Rattle.std.proofs.lemmas.List.Concat.{flat_map-cons}
use Rattle.std.proofs.lemmas.Grind.{flat_map-append}
use Rattle.mv_base.specs.Octets.{IsOctets}
use Rattle.mv_base.proofs.Fields.{octets_after}
use Rattle.decode_text.specs.Values.{Telling, Stands, Whole, Stop, TellsWhole, TellsStop, TellsEach}

-- No text of a value begins another's, and no value stands where octets have a first fault.
pub record IsApart {T F : Type 0} (t : Telling T F) : Type 0 where
  pub one : (v w : T) (x y : List ℕ) → t.Is v → t.Is w → t.text v ++ x ≡ t.text w ++ y → t.text v ≡ t.text w
  pub not_both : (octets after : List ℕ) (v : T) (fault : F) → IsOctets octets → t.Is v → octets ≡ t.text v ++ after → t.First octets fault → ⊥

-- The values stand before the place, and the text has their lines.
pub record Passed {T F : Type 0} (t : Telling T F) (octets told : List ℕ) (place : ℕ) : Type 0 where
  pub values : List T
  pub spelled : AllByRecursion t.Is values
  pub front : octets ≡ flat_map t.text values ++ drop place octets
  pub passed : place ≡ length (flat_map t.text values)
  pub lines : told ≡ flat_map t.line values

-- Nothing is passed at first.
pub none_passed : {T F : Type 0} (t : Telling T F) (octets : List ℕ) → Passed t octets [] 0
none_passed t octets = record { values = []; spelled = tt; front = refl; passed = refl; lines = refl }

-- What elements of two lists meet, those of both end to end meet.
pub all_append : {T : Type 0} (P : T → Type 0) (xs ys : List T) → AllByRecursion P xs → AllByRecursion P ys → AllByRecursion P (xs ++ ys)
all_append P [] ys h k = k
all_append P (x ∷ xs) ys h k = (h.0, all_append P xs ys h.1 k)

-- the text of one more value
one_more : {T : Type 0} (f : T → List ℕ) (xs : List T) (x : T) → flat_map f (xs ++ x ∷ []) ≡ flat_map f xs ++ f x
one_more f xs x =
    flat_map-append f xs (x ∷ []) ∙ ap (λ (ys : List ℕ). flat_map f xs ++ ys) (flat_map-cons f x [] ∙ append-nil (f x))

-- A value that stands after what is passed is passed too.
pub one_passed : {T F : Type 0} (t : Telling T F) (octets told : List ℕ) (place : ℕ) (value : T) (len : ℕ) → Passed t octets told place
    → Stands t (drop place octets) value len → Passed t octets (told ++ t.line value) (place + len)
one_passed t octets told place value len p s =
    let rest = drop place octets in
    let thereafter : drop len rest ≡ drop (place + len) octets = drop-drop len place octets in
    let parts : rest ≡ t.text value ++ drop (place + len) octets =
    sym (take-append-drop len rest) ∙ ap (λ (xs : List ℕ). xs ++ drop len rest) s.text ∙ ap (λ (xs : List ℕ). t.text value ++ xs) thereafter in
    let whole : octets ≡ flat_map t.text (p.values ++ value ∷ []) ++ drop (place + len) octets =
    p.front ∙ ap (λ (xs : List ℕ). flat_map t.text p.values ++ xs) parts
    ∙ sym (append_assoc (flat_map t.text p.values) (t.text value) (drop (place + len) octets))
    ∙ ap (λ (xs : List ℕ). xs ++ drop (place + len) octets) (sym (one_more t.text p.values value)) in
    let size : length (flat_map t.text (p.values ++ value ∷ [])) ≡ length (flat_map t.text p.values) + length (t.text value) =
    ap (λ (xs : List ℕ). length xs) (one_more t.text p.values value) ∙ length-append (flat_map t.text p.values) (t.text value) in
    let len_is : length (t.text value) ≡ len = ap (λ (xs : List ℕ). length xs) (sym s.text) ∙ length-take-le len rest s.within in
    record {
      values = p.values ++ value ∷ [];
      spelled = all_append t.Is p.values (value ∷ []) p.spelled (s.is, tt);
      front = whole;
      passed = omega (arith, size, len_is, p.passed);
      lines = ap (λ (xs : List ℕ). xs ++ t.line value) p.lines ∙ sym (one_more t.line p.values value);
    }

-- Where all is passed, the octets are the values.
pub all_passed : {T F : Type 0} (t : Telling T F) (octets told : List ℕ) (place : ℕ) → Passed t octets told place → length octets ≤ place
    → TellsWhole t octets told
all_passed t octets told place p ends = record {
  values = p.values;
  whole = record {
    spelled = p.spelled;
    whole =
        p.front ∙ ap (λ (xs : List ℕ). flat_map t.text p.values ++ xs) (drop_all place octets ends) ∙ append-nil (flat_map t.text p.values);
  };
  lines = p.lines;
}

-- Where a fault stands after what is passed, the octets stop there.
pub fault_passed : {T F : Type 0} (t : Telling T F) (octets told : List ℕ) (place : ℕ) (fault : F) → Passed t octets told place
    → place < length octets
    → t.First (drop place octets) fault → TellsStop t octets (told ++ t.refusal place fault)
fault_passed t octets told place fault p more first = record {
  values = p.values;
  fault = fault;
  stop = record {
    spelled = p.spelled;
    rest = drop place octets;
    whole = p.front;
    more = omega (arith, more, length-drop place octets);
    first =
        first;
  };
  lines = ap (λ (xs : List ℕ). xs ++ t.refusal place fault) p.lines ∙ ap (λ (n : ℕ). flat_map t.line p.values ++ t.refusal n fault) p.passed;
}

-- Octets that are values end to end have no fault after some.
pub apart : {T F : Type 0} (t : Telling T F) → IsApart t → (octets : List ℕ) (values others : List T) (fault : F) → IsOctets octets
    → Whole t octets values → Stop t octets others fault → ⊥
apart t laws octets [] others fault fits are stop =
    absurd (omega (arith, stop.more, ap (λ (xs : List ℕ). length xs) (sym are.whole ∙ stop.whole), length-append (flat_map t.text others) stop.rest))
apart t laws octets (v ∷ vs) [] fault fits are stop =
    laws.not_both octets (flat_map t.text vs) v fault fits are.spelled.0 (are.whole ∙ flat_map-cons t.text v vs)
    (subst (λ (xs : List ℕ). t.First xs fault) (sym stop.whole) stop.first)
apart t laws octets (v ∷ vs) (w ∷ ws) fault fits are stop =
    let after : List ℕ = flat_map t.text ws ++ stop.rest in
    let left : octets ≡ t.text v ++ flat_map t.text vs = are.whole ∙ flat_map-cons t.text v vs in
    let right : octets ≡ t.text w ++ after =
    stop.whole ∙ ap (λ (xs : List ℕ). xs ++ stop.rest) (flat_map-cons t.text w ws) ∙ append_assoc (t.text w) (flat_map t.text ws) stop.rest in
    let same : t.text v ≡ t.text w = laws.one v w (flat_map t.text vs) after are.spelled.0 stop.spelled.0 (sym left ∙ right) in
    let rest : flat_map t.text vs ≡ after =
    append_cancel_left (t.text v) (flat_map t.text vs) after (sym left ∙ right ∙ ap (λ (xs : List ℕ). xs ++ after) (sym same)) in
    let thereafter : drop (length (t.text v)) octets ≡ flat_map t.text vs =
    ap (λ (xs : List ℕ). drop (length (t.text v)) xs) left ∙ drop_at (t.text v) (flat_map t.text vs) (length (t.text v)) refl in
    let rest_fits : IsOctets (flat_map t.text vs) = subst IsOctets thereafter (octets_after (length (t.text v)) octets fits) in
    apart t laws (flat_map t.text vs) vs ws fault rest_fits (record { spelled = are.spelled.1; whole = refl })
    (record { spelled = stop.spelled.1; rest = stop.rest; whole = rest; more = stop.more; first = stop.first })

-- Octets that are values end to end have no line of a fault.
pub whole_told : {T F : Type 0} (t : Telling T F) → IsApart t → (refused : Bool) (octets told : List ℕ) → IsOctets octets
    → TellsEach t refused octets told → (values : List T) → Whole t octets values → refused ≡ false
whole_told t laws false octets told fits tells values are = refl
whole_told t laws true octets told fits tells values are = absurd (apart t laws octets values tells.values tells.fault fits are tells.stop)

-- Octets with a first fault have its line.
pub fault_told : {T F : Type 0} (t : Telling T F) → IsApart t → (refused : Bool) (octets told : List ℕ) → IsOctets octets
    → TellsEach t refused octets told → (values : List T) (fault : F) → Stop t octets values fault → refused ≡ true
fault_told t laws true octets told fits tells values fault stop = refl
fault_told t laws false octets told fits tells values fault stop = absurd (apart t laws octets tells.values values fault fits tells.whole stop)
