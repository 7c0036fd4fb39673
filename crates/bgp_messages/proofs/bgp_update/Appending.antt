-- Texts that are appended one after another, and what is written as octets.
use Rattle.std.proofs.Common.{◌≡◌, ℕ, zero, suc, ◌+◌, ◌-◌, ◌*◌, ◌/◌, ◌%◌, ◌<◌, inl, inr, replicate, true, List, [], ◌∷◌, ◌++◌, length, take, Result, Ok, Err, refl, ap, ◌∙◌, append_assoc, arith}
use Rattle.std.specs.Int.{w16, to_be_bytes}
use Rattle.std.proofs.lemmas.Bool.{ltb-true, cases_lt}
use Rattle.std.proofs.lemmas.List.{length-append, get_or_append_left, get_or-append_right}
use Rattle.std.specs.Result.{OnOk}
use Rattle.mv_base.specs.Octets.{IsOctets}
use Rattle.mv_base.specs.Writing.{put_at}
use Rattle.bgp_messages.specs.bgp_update.Spelling.{marker}
use Rattle.mv_base.specs.declared.route_targets.communities.ExtComm.{ExtComm}
use Rattle.bgp_messages.specs.declared.bgp_attributes.update.Change.{Change}
use Rattle.bgp_messages.specs.declared.bgp_attributes.update.Change.TheVariants.{Reach, Unreach}
use Rattle.bgp_messages.specs.bgp_attributes.Spelling.{AreComms}
use Rattle.bgp_messages.specs.bgp_update.Written.{attribute_head, attribute, path_text, comms_octets, reach_value, tunnel_text, message_text, written, has_many, IsWritable}
use Rattle.bgp_values.proofs.pmsi_attr.WritingLemmas.{front_put}

on_ok : {X E : Type 0} (r : Result X E) (P Q : Type 0) → (P → Q) → OnOk r P → OnOk r Q
on_ok (Ok x) P Q f p = f p
on_ok (Err e) P Q f p = tt

-- An equal text.
pub put_same : {X E : Type 0} (r : Result X E) (old new x y : List ℕ) → x ≡ y → OnOk r (new ≡ old ++ x) → OnOk r (new ≡ old ++ y)
put_same r old new x y same h = on_ok r (new ≡ old ++ x) (new ≡ old ++ y) (λ p. p ∙ ap (λ (t : List ℕ). old ++ t) same) h

pub put_two : {X E : Type 0} (r : Result X E) (old a new x y : List ℕ) → a ≡ old ++ x → OnOk r (new ≡ a ++ y) → OnOk r (new ≡ old ++ (x ++ y))
put_two r old a new x y first h = on_ok r (new ≡ a ++ y) (new ≡ old ++ (x ++ y)) (λ p. p ∙ ap (λ (t : List ℕ). t ++ y) first ∙ append_assoc old x y) h

pub put_three : {X E : Type 0} (r : Result X E) (old a b new x y z : List ℕ) → a ≡ old ++ x → b ≡ a ++ y → OnOk r (new ≡ b ++ z)
    → OnOk r (new ≡ old ++ (x ++ (y ++ z)))
put_three r old a b new x y z first second h = put_two r old a new x (y ++ z) first (put_two r a b new y z second h)

pub put_four : {X E : Type 0} (r : Result X E) (old a b d new x y z w : List ℕ) → a ≡ old ++ x → b ≡ a ++ y → d ≡ b ++ z → OnOk r (new ≡ d ++ w)
    → OnOk r (new ≡ old ++ (x ++ (y ++ (z ++ w))))
put_four r old a b d new x y z w first second third h = put_two r old a new x (y ++ (z ++ w)) first (put_three r a b d new y z w second third h)

-- What was written to the front of octets.
pub front_is : (old new text : List ℕ) (len : ℕ) → len ≡ length text → new ≡ put_at old 0 text → take len new ≡ text
front_is old new text len size is = ap (λ (n : ℕ). take n new) size ∙ ap (take (length text)) is ∙ front_put old text

-- Communities have 8 octets each.
pub comms_len : (comms : List ExtComm) → AreComms comms → length (comms_octets comms) ≡ 8 * length comms
comms_len [] h = refl
comms_len (comm ∷ comms) h = omega (arith, length-append comm.0 (comms_octets comms), h.0, comms_len comms h.1)

-- A community repeated.
pub alike : (n : ℕ) (comm : ExtComm) → length comm.0 ≡ 8 → AreComms (replicate n comm)
alike zero comm len = tt
alike (suc n) comm len = (len, alike n comm len)

-- Where there are too many communities, the message is too long.
pub many_long : (change : Change) → IsWritable change → has_many change ≡ true → 4096 < length (written change)
many_long (Reach advert) w many =
    let count : 512 < length advert.comms = ltb-true _ _ many in
    let size : length (comms_octets advert.comms) ≡ 8 * length advert.comms = comms_len advert.comms w.comms in
    let a : List ℕ = attribute 128 14 (reach_value advert) in
    let b : List ℕ = comms_octets advert.comms in
    let h : List ℕ = attribute_head 192 16 (length b) in
    let t : List ℕ = tunnel_text advert.pmsi in
    omega (
      arith,
      count,
      size,
      length-append path_text (a ++ ((h ++ b) ++ t)),
      length-append a ((h ++ b) ++ t),
      length-append (h ++ b) t,
      length-append h b,
    )
many_long (Unreach key) w many = absurd cc

-- ---- octets

octets_append : (a b : List ℕ) → IsOctets a → IsOctets b → IsOctets (a ++ b)
octets_append a b p q i =
    elim (cases_lt i (length a)) [
      | inl lt ↦ rw (get_or_append_left a b 0 i lt) (p i)
      | inr le ↦ rw (get_or-append_right a b (length a) i 0 refl le) (q (i - length a))
    ]

repeated_octets : (n x : ℕ) → x < 256 → IsOctets (replicate n x)
repeated_octets zero x lt i = omega arith
repeated_octets (suc n) x lt zero = lt
repeated_octets (suc n) x lt (suc i) = repeated_octets n x lt i

two_octets : (a b : ℕ) → a < 256 → b < 256 → IsOctets (a ∷ b ∷ [])
two_octets a b p q zero = p
two_octets a b p q (suc zero) = q
two_octets a b p q (suc (suc i)) = omega arith

number_octets : (n : ℕ) → IsOctets (to_be_bytes w16 n)
number_octets n = two_octets (n / 256 % 256) (n % 256) (omega arith) (omega arith)

-- A message of attributes that are octets is octets.
pub message_octets : (attributes : List ℕ) → IsOctets attributes → IsOctets (message_text attributes)
message_octets attributes fits =
    let len : ℕ = length attributes in
    let kind : IsOctets (2 ∷ 0 ∷ []) = two_octets 2 0 (omega arith) (omega arith) in
    octets_append marker (to_be_bytes w16 (23 + len) ++ ((2 ∷ 0 ∷ []) ++ ((0 ∷ []) ++ (to_be_bytes w16 len ++ attributes))))
    (repeated_octets 16 255 (omega arith))
    (octets_append (to_be_bytes w16 (23 + len)) ((2 ∷ 0 ∷ []) ++ ((0 ∷ []) ++ (to_be_bytes w16 len ++ attributes))) (number_octets (23 + len))
    (octets_append (2 ∷ 0 ∷ []) ((0 ∷ []) ++ (to_be_bytes w16 len ++ attributes)) kind
    (octets_append (0 ∷ []) (to_be_bytes w16 len ++ attributes) (repeated_octets 1 0 (omega arith))
    (octets_append (to_be_bytes w16 len) attributes (number_octets len) fits))))
