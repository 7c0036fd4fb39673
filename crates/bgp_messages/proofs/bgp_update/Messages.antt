-- What is read at the front of a stream is what is spelled, and a fault stays.
use Rattle.std.proofs.Common.{◌≡◌, ◌≢◌, ℕ, ◌+◌, ◌-◌, ◌^◌, ◌<◌, ◌≤◌, Bool, true, false, cond, ltb, eqb, not, inl, inr, List, [], ◌∷◌, ◌++◌, length, take, drop, Result, Ok, Err, refl, sym, ap, subst, ◌∙◌, append_assoc, arith}
use Rattle.std.specs.Int.{w16, to_be_bytes, from_be_bytes}
use Rattle.std.proofs.lemmas.Bool.{ltb-false, ltb-true, le-ltb, eqb-true, eqb-false, ne_eqb, not-false}
use Rattle.std.proofs.lemmas.List.{length-append, length-drop, length-take-le, take-append-drop, take_at, take-append-le, drop-append-le, get_or_append_left, nil_from_length}
use Rattle.mv_base.specs.Octets.{IsOctets}
use Rattle.mv_base.proofs.Fields.{octets_before, chosen, ok_is, err_is}
use Rattle.mv_base.specs.framing.Cut.{Front}
use Rattle.mv_base.specs.framing.Cut.Front.{more, whole, bad}
use Rattle.mv_base.proofs.framing.Cuts.{IsFraming, IsOctets-before, IsOctets-after}
use Rattle.mv_base.proofs.framing.Fronts.{not_bad, not_more, not_waiting, not_bad_yet, bad_is, whole_is, skip, take_branch, same_tests}
use Rattle.mv_base.proofs.framing.Feedings.{IsFormat}
use Rattle.bgp_messages.specs.declared.bgp_attributes.update.Update.{Update}
use Rattle.bgp_messages.specs.declared.bgp_attributes.update.Message.{Message}
use Rattle.bgp_messages.specs.declared.bgp_attributes.update.Message.TheVariants as messages
use Rattle.bgp_messages.specs.declared.bgp_attributes.fault.StreamFault.{StreamFault}
use Rattle.bgp_messages.specs.declared.bgp_attributes.fault.StreamFault.TheVariants.{Marker, MessageLength, MessageType}
use Rattle.bgp_messages.specs.bgp_update.Spelling.{header, Means, SpellsMessage}
use Rattle.bgp_messages.specs.bgp_update.FirstFault.{MessageFault, UnitFault}
use Rattle.bgp_messages.specs.bgp_update.FirstFault.MessageFault.{wrong_marker, wrong_length, wrong_type, length_by_type, in_body}
use Rattle.bgp_messages.specs.bgp_update.Reading.{is_marker, is_length, is_type, fits_type, body_at, updated, contents, message_of, message_by, message_front}
use Rattle.bgp_messages.proofs.bgp_update.Bodies.{body_taken, body_again, body_fails, fails_body}
use Rattle.bgp_messages.proofs.bgp_update.HeaderTests.{length_told, length_tells, length_wrong, wrong_length_told, type_told, type_tells, type_wrong, wrong_type_told, other_type, fits_told, fits_tells, fits_wrong, wrong_fit_told}
use Rattle.bgp_messages.proofs.bgp_update.Headers.{len_in, kind_in, by_rest, length_headed, at_header, at_few, at_other_marker, Stands, stands}

pub nothing_stands : message_front [] ≡ more
unfolding message_front
nothing_stands = refl

-- ---- the contents

updated_ok : (r : Result Update (ℕ × StreamFault)) (m : Message) → updated r ≡ Ok m → (u : Update) × (r ≡ Ok u) × (m ≡ messages.Update u)
updated_ok (Ok u) m e = (u, refl, sym (ok_is {E = ℕ × StreamFault} (messages.Update u) m e))
updated_ok (Err f) m e = absurd cc

updated_err : (r : Result Update (ℕ × StreamFault)) (f : ℕ × StreamFault) → updated r ≡ Err f → r ≡ Err f
updated_err (Ok u) f e = absurd cc
updated_err (Err g) f e = let same : g ≡ f = err_is {A = Message} g f e in ap (λ (x : ℕ × StreamFault). Err x) same

contents_taken : (kind : ℕ) (body : List ℕ) (m : Message) → IsOctets body → is_type kind ≡ true → fits_type kind (19 + length body) ≡ true
    → contents kind body ≡ Ok m → Means m kind body
contents_taken kind body m fits is fit e =
    elim (chosen (not (eqb kind 2)) (Ok (messages.Other kind)) (updated (body_at body)) (Ok m) e) [
      | inl a ↦
          let other : kind ≢ 2 = eqb-false _ _ (not_true (eqb kind 2) a.0) in
          let t = type_told kind is in
          let short : kind ≡ 4 → body ≡ [] = λ keepalive. nil_from_length body (omega (arith, (fits_told kind (19 + length body) fit).1 keepalive)) in
          let P : Message → Type 0 = λ m. Means m kind body in
          subst P (ok_is {E = ℕ × StreamFault} (messages.Other kind) m a.1) (refl, other_type kind t.0 t.1 other, short)
      | inr b ↦
          let u = updated_ok (body_at body) m b.1 in
          let P : Message → Type 0 = λ m. Means m kind body in
          subst P (sym u.2) (eqb-true _ _ (not-false (eqb kind 2) b.0), body_taken body u.0 fits u.1)
    ]
  where
    not_true : (b : Bool) → not b ≡ true → b ≡ false
    not_true true e = absurd cc
    not_true false e = refl

contents_of_update : (body : List ℕ) (r : Result Update (ℕ × StreamFault)) → body_at body ≡ r → contents 2 body ≡ updated r
contents_of_update body r e = ap updated e

contents_again : (m : Message) (kind : ℕ) (body : List ℕ) → length body < 2 ^ 16 → Means m kind body → contents kind body ≡ Ok m
contents_again (messages.Update u) kind body small (is, s) =
    ap (λ (k : ℕ). contents k body) is ∙ contents_of_update body (Ok u) (body_again u body small s)
contents_again (messages.Other k) kind body small (is, other, empty) =
    let unlike : eqb kind 2 ≡ false =
    ne_eqb kind 2 (λ update. elim other [
      | inl a ↦ omega (arith, a, update)
      | inr b ↦
          elim b [ inl a ↦ omega (arith, a, update) | inr d ↦ elim d [ inl a ↦ omega (arith, a, update) | inr a ↦ omega (arith, a, update) ] ]
    ]) in
    take_branch (not (eqb kind 2)) (Ok (messages.Other kind)) (updated (body_at body)) (ap not unlike) ∙ ap (λ (n : ℕ). Ok (messages.Other n)) is

-- the length and the type of a message that is spelled
type_of_message : (m : Message) (kind : ℕ) (body : List ℕ) → Means m kind body → is_type kind ≡ true
type_of_message (messages.Update u) kind body (is, s) = type_tells kind (omega (arith, is)) (omega (arith, is))
type_of_message (messages.Other k) kind body (is, other, empty) =
    elim other [
      | inl a ↦ type_tells kind (omega (arith, a)) (omega (arith, a))
      | inr b ↦ elim b [
        | inl a ↦ type_tells kind (omega (arith, a)) (omega (arith, a))
        | inr d ↦ elim d [
          | inl a ↦ type_tells kind (omega (arith, a)) (omega (arith, a))
          | inr a ↦
              type_tells kind (omega (arith, a)) (omega (arith, a))
        ]
      ]
    ]

fit_of_message : (m : Message) (kind : ℕ) (body : List ℕ) → Means m kind body → fits_type kind (19 + length body) ≡ true
fit_of_message (messages.Update u) kind body (is, s) =
    let list_text : List ℕ = to_be_bytes w16 (length s.list) ++ (s.list ++ s.rest) in
    let sizes : length body ≡ 2 + (length s.withdrawn + (2 + (length s.list + length s.rest))) =
    ap (λ (xs : List ℕ). length xs) s.parts ∙ omega (arith, length-append s.withdrawn list_text, length-append s.list s.rest) in
    fits_tells kind (19 + length body) (λ _. omega (arith, sizes)) (λ keepalive. absurd (omega (arith, is, keepalive)))
fit_of_message (messages.Other k) kind body (is, other, empty) =
    fits_tells kind (19 + length body)
    (λ update. absurd (elim other [
      | inl a ↦ omega (arith, a, update)
      | inr b ↦
          elim b [ inl a ↦ omega (arith, a, update) | inr d ↦ elim d [ inl a ↦ omega (arith, a, update) | inr a ↦ omega (arith, a, update) ] ]
    ]))
    (λ keepalive. omega (arith, ap (λ (xs : List ℕ). length xs) (empty keepalive)))

-- ---- what stands after a header

-- where a whole message stands, all tests were passed
record Passed (len kind : ℕ) (rest : List ℕ) : Type 0 where
  low : 19 ≤ len
  high : len ≤ 4096
  known : is_type kind ≡ true
  fit : fits_type kind len ≡ true
  room : len ≤ 19 + length rest

whole_message : (len : ℕ) (r : Result Message (ℕ × StreamFault)) (n : ℕ) (ms : List Message) → message_of len r ≡ whole n ms
    → (m : Message) × (r ≡ Ok m) × (len ≡ n) × (ms ≡ m ∷ [])
whole_message len (Ok m) n ms e = let w = whole_is {E = StreamFault} len n (m ∷ []) ms e in (m, refl, w.0, sym w.1)
whole_message len (Err f) n ms e = absurd cc

by_taken : (len kind : ℕ) (rest : List ℕ) (n : ℕ) (ms : List Message) → by_rest len kind rest ≡ whole n ms
    → Passed len kind rest × ((m : Message) × (contents kind (take (len - 19) rest) ≡ Ok m) × (len ≡ n) × (ms ≡ m ∷ []))
by_taken len kind rest n ms e =
    let a = not_bad (not (is_length len)) [] 16 MessageLength _ n ms e in
    let b = not_bad (not (is_type kind)) [] 18 MessageType _ n ms a.1 in
    let d = not_bad (not (fits_type kind len)) [] 16 MessageLength _ n ms b.1 in
    let f = not_more (ltb (19 + length rest) len) _ n ms d.1 in
    let l = length_told len (not-false (is_length len) a.0) in (
      record { low = l.0; high = l.1; known = not-false (is_type kind) b.0; fit = not-false (fits_type kind len) d.0; room = ltb-false _ _ f.0 },
      whole_message len (contents kind (take (len - 19) rest)) n ms f.1,
    )

-- all tests are passed
by_passed : (len kind : ℕ) (rest : List ℕ) → Passed len kind rest → by_rest len kind rest ≡ message_of len (contents kind (take (len - 19) rest))
by_passed len kind rest p =
    skip (not (is_length len)) (bad [] 16 MessageLength) _ (ap not (length_tells len p.low p.high))
    ∙ skip (not (is_type kind)) (bad [] 18 MessageType) _ (ap not p.known)
    ∙ skip (not (fits_type kind len)) (bad [] 16 MessageLength) _ (ap not p.fit)
    ∙ skip (ltb (19 + length rest) len) more _ (le-ltb _ _ p.room)

-- ---- whole messages

message_again : (ms : List Message) (text after : List ℕ) → SpellsMessage ms text → message_front (text ++ after) ≡ whole (length text) ms
message_again ms text after s =
    let len : ℕ = 19 + length s.body in
    let rest : List ℕ = s.body ++ after in
    let down : len - 19 ≡ length s.body = omega arith in
    let part : take (len - 19) rest ≡ s.body = take_at s.body after (len - 19) (sym down) in
    let size : length text ≡ len = ap (λ (xs : List ℕ). length xs) s.parts ∙ length_headed len s.kind s.body in
    let p : Passed len s.kind rest =
    record {
      low = omega arith;
      high = s.within;
      known = type_of_message s.message s.kind s.body s.means;
      fit =
          fit_of_message s.message s.kind s.body s.means;
      room = omega (arith, length-append s.body after);
    } in
    ap (λ (xs : List ℕ). message_front (xs ++ after)) s.parts
    ∙ ap message_front (append_assoc (header len s.kind) s.body after)
    ∙ at_header len s.kind rest (omega (arith, s.within))
    ∙ by_passed len s.kind rest p
    ∙ ap (λ (xs : List ℕ). message_of len (contents s.kind xs)) part
    ∙ ap (message_of len) (contents_again s.message s.kind s.body (omega (arith, s.within)) s.means)
    ∙ ap (λ (ns : List Message). whole len ns) (sym s.one)
    ∙ ap (λ (n : ℕ). whole n ms) (sym size)

whole_taken : (len kind : ℕ) (rest xs : List ℕ) (n : ℕ) (ms : List Message) → IsOctets xs → xs ≡ header len kind ++ rest
    → by_rest len kind rest ≡ whole n ms → (n ≤ length xs) × SpellsMessage ms (take n xs)
whole_taken len kind rest xs n ms fits parts e =
    let t = by_taken len kind rest n ms e in
    let p = t.0 in
    let body : List ℕ = take (len - 19) rest in
    let all : length xs ≡ 19 + length rest = ap (λ (ys : List ℕ). length ys) parts ∙ length_headed len kind rest in
    let size : length body ≡ len - 19 = length-take-le (len - 19) rest (omega (arith, p.room)) in
    let up : 19 + length body ≡ len = omega (arith, p.low) in
    let split : xs ≡ (header len kind ++ body) ++ drop (len - 19) rest =
    parts ∙ ap (λ (ys : List ℕ). header len kind ++ ys) (sym (take-append-drop (len - 19) rest))
    ∙ sym (append_assoc (header len kind) body (drop (len - 19) rest)) in
    let front : take n xs ≡ header len kind ++ body =
    ap (take n) split ∙ take_at (header len kind ++ body) (drop (len - 19) rest) n (omega (arith, length_headed len kind body, up, t.1.2)) in
    let rest_fits : IsOctets rest = IsOctets-after (header len kind) rest (subst IsOctets parts fits) in (
      omega (arith, all, p.room, t.1.2),
      record {
        message = t.1.0;
        kind = kind;
        body = body;
        one = t.1.3;
        parts = front ∙ ap (λ (l : ℕ). header l kind ++ body) (sym up);
        within = omega (arith, up, p.high);
        means = contents_taken kind body t.1.0 (octets_before (len - 19) rest rest_fits) p.known
            (subst (λ (l : ℕ). fits_type kind l ≡ true) (sym up) p.fit) t.1.1;
      },
    )

message_taken : (xs : List ℕ) (n : ℕ) (ms : List Message) → IsOctets xs → message_front xs ≡ whole n ms
    → (n ≤ length xs) × SpellsMessage ms (take n xs)
message_taken xs n ms fits e =
    elim (stands xs fits) [
      | Stands.few lt ↦ absurd (let clash : ◌≡◌ {A = Front Message StreamFault} more (whole n ms) = sym (at_few xs lt) ∙ e in cc)
      | Stands.other_marker le other ↦ absurd (let clash : ◌≡◌ {A = Front Message StreamFault} (bad [] 0 Marker) (whole n ms) =
          sym (at_other_marker xs le other) ∙ e in cc)
      | Stands.headed len kind rest lt parts ↦ whole_taken len kind rest xs n ms fits parts
          (sym (at_header len kind rest lt) ∙ sym (ap message_front parts) ∙ e)
    ]

-- ---- faults stay

body_same : (len : ℕ) (xs ys : List ℕ) → 19 ≤ length xs → len ≤ length xs → take (len - 19) (drop 19 (xs ++ ys)) ≡ take (len - 19) (drop 19 xs)
body_same len xs ys le room =
    ap (take (len - 19)) (drop-append-le 19 xs ys le) ∙ take-append-le (len - 19) (drop 19 xs) ys (omega (arith, length-drop 19 xs, room, le))

message_kept : (xs ys : List ℕ) (ms : List Message) (offset : ℕ) (e : StreamFault) → message_front xs ≡ bad ms offset e
    → message_front (xs ++ ys) ≡ bad ms offset e
unfolding message_front
message_kept xs ys ms offset e h =
    let a = not_waiting (ltb (length xs) 19) _ ms offset e h in
    let enough : 19 ≤ length xs = ltb-false _ _ a.0 in
    let sizes : length (xs ++ ys) ≡ length xs + length ys = length-append xs ys in
    let len : ℕ = len_in xs in
    let kind : ℕ = kind_in xs in
    let len_same : len_in (xs ++ ys) ≡ len =
    ap (λ (zs : List ℕ). from_be_bytes w16 (take 2 zs)) (drop-append-le 16 xs ys (omega (arith, enough)))
    ∙ ap (from_be_bytes w16) (take-append-le 2 (drop 16 xs) ys (omega (arith, length-drop 16 xs, enough))) in
    let kind_same : kind_in (xs ++ ys) ≡ kind = get_or_append_left xs ys 0 18 (omega (arith, enough)) in
    skip (ltb (length (xs ++ ys)) 19) more _ (le-ltb _ _ (omega (arith, enough, sizes)))
    ∙ ap (λ (zs : List ℕ). cond (not (is_marker zs)) (bad [] 0 Marker) (message_by (len_in (xs ++ ys)) (kind_in (xs ++ ys)) (xs ++ ys)))
    (take-append-le 16 xs ys (omega (arith, enough)))
    ∙ ap (λ (l : ℕ). cond (not (is_marker (take 16 xs))) (bad [] 0 Marker) (message_by l (kind_in (xs ++ ys)) (xs ++ ys))) len_same
    ∙ ap (λ (k : ℕ). cond (not (is_marker (take 16 xs))) (bad [] 0 Marker) (message_by len k (xs ++ ys))) kind_same
    ∙ same_tests (not (is_marker (take 16 xs))) (bad [] 0 Marker) _ _ (bad ms offset e) a.1
    (λ h1. same_tests (not (is_length len)) (bad [] 16 MessageLength) _ _ (bad ms offset e) h1
    (λ h2. same_tests (not (is_type kind)) (bad [] 18 MessageType) _ _ (bad ms offset e) h2
    (λ h3. same_tests (not (fits_type kind len)) (bad [] 16 MessageLength) _ _ (bad ms offset e) h3
    (λ h4.
    let g = not_waiting (ltb (length xs) len) _ ms offset e h4 in
    let room : len ≤ length xs = ltb-false _ _ g.0 in
    skip (ltb (length (xs ++ ys)) len) more _ (le-ltb _ _ (omega (arith, room, sizes)))
    ∙ ap (λ (zs : List ℕ). message_of len (contents kind zs)) (body_same len xs ys enough room)
    ∙ g.1))))

-- ---- what may wait

message_waits : (xs : List ℕ) → message_front xs ≡ more → length xs < 4096
unfolding message_front
message_waits xs e =
    elim (chosen (ltb (length xs) 19) more _ more e) [
      | inl t ↦ let short : length xs < 19 = ltb-true _ _ t.0 in omega (arith, short)
      | inr a ↦
          let b = not_bad_yet (not (is_marker (take 16 xs))) [] 0 Marker _ a.1 in
          let d = not_bad_yet (not (is_length (len_in xs))) [] 16 MessageLength _ b.1 in
          let f = not_bad_yet (not (is_type (kind_in xs))) [] 18 MessageType _ d.1 in
          let g = not_bad_yet (not (fits_type (kind_in xs) (len_in xs))) [] 16 MessageLength _ f.1 in
          elim (chosen (ltb (length xs) (len_in xs)) more _ more g.1) [
            | inl t ↦
                let lt : length xs < len_in xs = ltb-true _ _ t.0 in
                let l = length_told (len_in xs) (not-false (is_length (len_in xs)) d.0) in
                omega (arith, lt, l.1)
            | inr i ↦ absurd (tells (len_in xs) (contents (kind_in xs) (take (len_in xs - 19) (drop 19 xs))) i.1)
          ]
    ]
  where
    tells : (n : ℕ) (r : Result Message (ℕ × StreamFault)) → message_of n r ≡ more → ⊥
    tells n (Ok m) e = cc
    tells n (Err f) e = cc

-- ---- first faults

bad_message : (len : ℕ) (r : Result Message (ℕ × StreamFault)) (ms : List Message) (offset : ℕ) (e : StreamFault) → message_of len r ≡ bad ms offset e
    → (place : ℕ) × (r ≡ Err (place, e)) × (offset ≡ 19 + place) × (ms ≡ [])
bad_message len (Ok m) ms offset e h = absurd cc
bad_message len (Err f) ms offset e h =
    let b = bad_is [] ms (19 + f.0) offset f.1 e h in
    (f.0, ap (λ (x : StreamFault). Err (f.0, x)) b.1, sym b.0, sym b.2)

-- only an UPDATE has faults in its body
body_of_update : (kind : ℕ) (body : List ℕ) (place : ℕ) (e : StreamFault) → contents kind body ≡ Err (place, e)
    → (kind ≡ 2) × (body_at body ≡ Err (place, e))
body_of_update kind body place e h =
    elim (chosen (not (eqb kind 2)) (Ok (messages.Other kind)) (updated (body_at body)) (Err (place, e)) h) [
      | inl a ↦ absurd (let clash : Ok (messages.Other kind) ≡ Err (place, e) = a.1 in cc)
      | inr b ↦ (eqb-true _ _ (not-false (eqb kind 2) b.0), updated_err (body_at body) (place, e) b.1)
    ]

by_fails : (len kind : ℕ) (rest xs : List ℕ) (ms : List Message) (offset : ℕ) (e : StreamFault) → len < 2 ^ 16 → IsOctets rest
    → xs ≡ header len kind ++ rest → by_rest len kind rest ≡ bad ms offset e → UnitFault xs ms offset e
by_fails len kind rest xs ms offset e small fits parts h =
    elim (chosen (not (is_length len)) (bad [] 16 MessageLength) _ (bad ms offset e) h) [
      | inl a ↦
          let b = bad_is [] ms 16 offset MessageLength e a.1 in
          (sym b.2, wrong_length len kind rest small parts (length_wrong len (not_true (is_length len) a.0)) (sym b.0) (sym b.1))
      | inr a ↦
          let l = length_told len (not-false (is_length len) a.0) in
          elim (chosen (not (is_type kind)) (bad [] 18 MessageType) _ (bad ms offset e) a.1) [
            | inl d ↦
                let b = bad_is [] ms 18 offset MessageType e d.1 in
                (sym b.2, wrong_type len kind rest l.0 l.1 parts (type_wrong kind (not_true (is_type kind) d.0)) (sym b.0) (sym b.1))
            | inr d ↦ elim (chosen (not (fits_type kind len)) (bad [] 16 MessageLength) _ (bad ms offset e) d.1) [
              | inl f ↦
                  let b = bad_is [] ms 16 offset MessageLength e f.1 in
                  (sym b.2, length_by_type len kind rest l.0 l.1 parts (fits_wrong kind len (not_true (fits_type kind len) f.0)) (sym b.0) (sym b.1))
              | inr f ↦
                  let g = not_waiting (ltb (19 + length rest) len) _ ms offset e f.1 in
                  inside l.0 l.1 (not-false (fits_type kind len) f.0) (ltb-false _ _ g.0) g.1
            ]
          ]
    ]
  where
    not_true : (b : Bool) → not b ≡ true → b ≡ false
    not_true true e = absurd cc
    not_true false e = refl

    inside : 19 ≤ len → len ≤ 4096 → fits_type kind len ≡ true → len ≤ 19 + length rest
        → message_of len (contents kind (take (len - 19) rest)) ≡ bad ms offset e → UnitFault xs ms offset e
    inside low high fit room g =
        let body : List ℕ = take (len - 19) rest in
        let m = bad_message len (contents kind body) ms offset e g in
        let u = body_of_update kind body m.0 e m.1 in
        let size : length body ≡ len - 19 = length-take-le (len - 19) rest (omega (arith, room)) in
        let up : 19 + length body ≡ len = omega (arith, low) in
        let four : 23 ≤ len = (fits_told kind len fit).0 u.0 in
        let whole_text : xs ≡ header (19 + length body) 2 ++ (body ++ drop (len - 19) rest) =
        parts ∙ ap (λ (k : ℕ). header len k ++ rest) u.0 ∙ ap (λ (l : ℕ). header l 2 ++ rest) (sym up)
        ∙ ap (λ (ys : List ℕ). header (19 + length body) 2 ++ ys) (sym (take-append-drop (len - 19) rest)) in (
          m.3,
          in_body body (drop (len - 19) rest) m.0 (omega (arith, up, four)) (omega (arith, up, high)) whole_text
              (body_fails body m.0 e (octets_before (len - 19) rest fits) (omega (arith, up, four)) u.1) m.2,
        )

message_fails : (xs : List ℕ) (ms : List Message) (offset : ℕ) (e : StreamFault) → IsOctets xs → message_front xs ≡ bad ms offset e
    → UnitFault xs ms offset e
message_fails xs ms offset e fits h =
    elim (stands xs fits) [
      | Stands.few lt ↦ absurd (let clash : ◌≡◌ {A = Front Message StreamFault} more (bad ms offset e) = sym (at_few xs lt) ∙ h in cc)
      | Stands.other_marker le other ↦
          let b = bad_is [] ms 0 offset Marker e (sym (at_other_marker xs le other) ∙ h) in
          (sym b.2, wrong_marker le other (sym b.0) (sym b.1))
      | Stands.headed len kind rest lt parts ↦ by_fails len kind rest xs ms offset e lt
          (IsOctets-after (header len kind) rest (subst IsOctets parts fits)) parts
          (sym (at_header len kind rest lt) ∙ sym (ap message_front parts) ∙ h)
    ]

bad_same : (m n : ℕ) (d e : StreamFault) → m ≡ n → d ≡ e → ◌≡◌ {A = Front Message StreamFault} (bad [] m d) (bad [] n e)
bad_same m n d e p q i = bad [] (p i) (q i)

fails_message : (xs : List ℕ) (offset : ℕ) (e : StreamFault) → IsOctets xs → MessageFault xs offset e → message_front xs ≡ bad [] offset e
fails_message xs offset e fits (wrong_marker le other at fault) = at_other_marker xs le other ∙ bad_same 0 offset Marker e (sym at) (sym fault)
fails_message xs offset e fits (wrong_length len kind rest small parts wrong at fault) =
    ap message_front parts ∙ at_header len kind rest small
    ∙ take_branch (not (is_length len)) (bad [] 16 MessageLength) _ (ap not (wrong_length_told len wrong))
    ∙ bad_same 16 offset MessageLength e (sym at) (sym fault)
fails_message xs offset e fits (wrong_type len kind rest low high parts wrong at fault) =
    ap message_front parts ∙ at_header len kind rest (omega (arith, high))
    ∙ skip (not (is_length len)) (bad [] 16 MessageLength) _ (ap not (length_tells len low high))
    ∙ take_branch (not (is_type kind)) (bad [] 18 MessageType) _ (ap not (wrong_type_told kind wrong))
    ∙ bad_same 18 offset MessageType e (sym at) (sym fault)
fails_message xs offset e fits (length_by_type len kind rest low high parts wrong at fault) =
    let known : is_type kind ≡ true =
    elim wrong [
      | inl a ↦ type_tells kind (omega (arith, a.0)) (omega (arith, a.0))
      | inr b ↦
          type_tells kind (omega (arith, b.0)) (omega (arith, b.0))
    ] in
    ap message_front parts ∙ at_header len kind rest (omega (arith, high))
    ∙ skip (not (is_length len)) (bad [] 16 MessageLength) _ (ap not (length_tells len low high))
    ∙ skip (not (is_type kind)) (bad [] 18 MessageType) _ (ap not known)
    ∙ take_branch (not (fits_type kind len)) (bad [] 16 MessageLength) _ (ap not (wrong_fit_told kind len wrong))
    ∙ bad_same 16 offset MessageLength e (sym at) (sym fault)
fails_message xs offset e fits (in_body body rest place low high parts faulty at) =
    let len : ℕ = 19 + length body in
    let down : len - 19 ≡ length body = omega arith in
    let part : take (len - 19) (body ++ rest) ≡ body = take_at body rest (len - 19) (sym down) in
    let body_fits : IsOctets body = IsOctets-before body rest (IsOctets-after (header len 2) (body ++ rest) (subst IsOctets parts fits)) in
    let p : Passed len 2 (body ++ rest) =
    record {
      low = omega arith;
      high = high;
      known = type_tells 2 (omega arith) (omega arith);
      fit =
          fits_tells 2 len (λ _. low) (λ keepalive. absurd (omega (arith, keepalive)));
      room = omega (arith, length-append body rest);
    } in
    ap message_front parts ∙ at_header len 2 (body ++ rest) (omega (arith, high))
    ∙ by_passed len 2 (body ++ rest) p
    ∙ ap (λ (xs : List ℕ). message_of len (contents 2 xs)) part
    ∙ ap (message_of len) (contents_of_update body (Err (place, e)) (fails_body body place e body_fits faulty))
    ∙ bad_same (19 + place) offset e e (sym at) refl

-- What stands at the front is what is spelled, and the first fault.
pub messages_framed : IsFraming message_front SpellsMessage
messages_framed = record {
  empty = nothing_stands;
  taken = message_taken;
  again = message_again;
  filled = λ ms text s. omega (arith, ap (λ (xs : List ℕ). length xs) s.parts, length_headed (19 + length s.body) s.kind s.body);
}

pub message_format : IsFormat message_front SpellsMessage UnitFault 4096
message_format = record {
  stream = record { framing = messages_framed; kept = message_kept };
  waits = message_waits;
  fails = message_fails;
  faulty = λ xs ms offset e fits h. fails_message xs offset e fits h.1 ∙ ap (λ (ns : List Message). bad ns offset e) (sym h.0);
}
