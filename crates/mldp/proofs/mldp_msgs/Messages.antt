-- A message: it is read exactly where it is spelled, and its faults.
use Rattle.std.proofs.Common.{◌≡◌, ℕ, ◌+◌, ◌-◌, ◌^◌, ◌<◌, ◌≤◌, ◌⊎◌, inl, inr, Bool, true, false, cond, ltb, List, [], ◌∷◌, ◌++◌, length, take, drop, Result, Ok, Err, refl, sym, ap, subst, ◌∙◌, append_assoc, arith}
use Rattle.std.proofs.lemmas.Bool.{ltb-false, ltb-true, le-ltb, lt-ltb}
use Rattle.std.proofs.lemmas.List.{length-append, length-drop}
use Rattle.mv_base.specs.Octets.{IsOctets}
use Rattle.mv_base.proofs.Fields.{octets_before, octets_after}
use Rattle.mv_base.specs.framing.Cut.{Front}
use Rattle.mv_base.specs.framing.Cut.Front.{more, whole, bad}
use Rattle.mv_base.proofs.framing.Cuts.{IsFraming}
use Rattle.mv_base.proofs.framing.Fronts.{skip, take_branch}
use Rattle.mv_base.proofs.framing.Headers.{headed, first_headed, second_headed, length_headed, is_headed}
use Rattle.mldp.specs.declared.mldp_msgs.fault.LdpFault.{LdpFault}
use Rattle.mldp.specs.declared.mldp_msgs.fault.LdpFault.TheVariants as faults
use Rattle.mldp.specs.declared.mldp_msgs.message.LabelMessage.{LabelMessage}
use Rattle.mldp.specs.mldp_msgs.Spelling.{IsLabelType, SpellsMessage}
use Rattle.mldp.specs.mldp_msgs.FirstFault as faulty
use Rattle.mldp.specs.mldp_msgs.FirstFault.{LabelStands, MessageFault}
use Rattle.mldp.specs.mldp_msgs.Reading.{first, second, sized, body_of, message_by, message_at, seen, message_front}
use Rattle.mldp.proofs.mldp_msgs.Fronts.{fault_is, meets, front_seen}
use Rattle.mldp.proofs.mldp_msgs.Heads.{first_below, second_below, inner_octets, lead_in, body_in, after_body, Led, led_is, body_of_led, length_led}
use Rattle.mldp.proofs.mldp_msgs.Bodies.{BodyFault, BodyMeans, body_is, body_again, fails_body}

-- what the answer says of the octets
abbrev MessageMeans : List ℕ → Result (LabelMessage × ℕ) (ℕ × LdpFault) → Type 0
MessageMeans octets (Ok x) = (x.1 ≤ length octets) × SpellsMessage (x.0 ∷ []) (take x.1 octets)
MessageMeans octets (Err f) = MessageFault octets f.0 f.1

-- ---- what was read

by_fault : (xs : List ℕ) (offset : ℕ) (e : LdpFault) → IsOctets xs → Led 4 xs → BodyFault (first xs) (body_in 4 xs) offset e
    → MessageFault xs offset e
by_fault xs offset e fits s (is, why) =
    let label : LabelStands xs (body_in 4 xs) = record {
      kind = first xs;
      id = lead_in 4 xs;
      after = after_body 4 xs;
      is_label = is;
      id_len = s.lead_len;
      fits = omega (arith, s.counted, second_below xs fits);
      parts = s.parts;
    } in
    elim why [
      | inl h ↦ faulty.in_tlvs (body_in 4 xs) h.0 label h.1 h.2
      | inr h ↦ faulty.missing (body_in 4 xs) h.0 label h.1 h.2 h.3 h.4
    ]

by_body : (xs : List ℕ) → IsOctets xs → 4 + second xs ≤ length xs → Led 4 xs → (r : Result LabelMessage (ℕ × LdpFault))
    → BodyMeans (first xs) (body_in 4 xs) r → MessageMeans xs (sized (4 + second xs) r)
by_body xs fits room s (Err f) h = by_fault xs f.0 f.1 fits s h
by_body xs fits room s (Ok m) h = (
  room,
  record {
    message = m;
    kind = first xs;
    id = lead_in 4 xs;
    body = body_in 4 xs;
    one = refl;
    parts = s.front;
    id_len = s.lead_len;
    kind_fits = first_below xs fits;
    len_fits = omega (arith, s.counted, second_below xs fits);
    means = h;
  },
)

message_is : (xs : List ℕ) → IsOctets xs → 0 < length xs → MessageMeans xs (message_at xs)
unfolding message_at
message_is xs fits pos =
    let P : Result (LabelMessage × ℕ) (ℕ × LdpFault) → Type 0 = MessageMeans xs in
    let z : Result (LabelMessage × ℕ) (ℕ × LdpFault) = message_at xs in
    let wrong : 4 ≤ length xs → (second xs < 4) ⊎ (length (drop 4 xs) < second xs) → MessageFault xs 2 faults.MessageLength = λ four why.
    faulty.length_wrong (first xs) (second xs) (drop 4 xs) (first_below xs fits) (second_below xs fits) (is_headed xs fits four) why refl refl in
    meets P (ltb (length xs) 4) _ _ z refl (λ t. faulty.header_cut pos (ltb-true _ _ t) refl refl) (λ f0 e0.
    let four : 4 ≤ length xs = ltb-false _ _ f0 in
    meets P (ltb (second xs) 4) _ _ z e0 (λ t. wrong four (inl (ltb-true _ _ t))) (λ f1 e1.
    let low : 4 ≤ second xs = ltb-false _ _ f1 in
    meets P (ltb (length xs) (4 + second xs)) _ _ z e1
    (λ t. let lt : length xs < 4 + second xs = ltb-true _ _ t in wrong four (inr (omega (arith, length-drop 4 xs, lt, four)))) (λ f2 e2.
    let room : 4 + second xs ≤ length xs = ltb-false _ _ f2 in
    let body_fits : IsOctets (body_in 4 xs) = octets_before (second xs - 4) (drop 8 xs) (octets_after 8 xs fits) in
    subst P e2 (by_body xs fits room (led_is 4 xs fits low room) (body_of (first xs) (body_in 4 xs)) (body_is (first xs) (body_in 4 xs) body_fits)))))

-- ---- what is spelled is read

abbrev wrong : ℕ → LdpFault → Result (LabelMessage × ℕ) (ℕ × LdpFault)
wrong offset e = Err (offset, e)

-- the header at the front
at_header : (kind len : ℕ) (rest : List ℕ) → kind < 2 ^ 16 → len < 2 ^ 16
    → message_at (headed kind len rest) ≡ message_by kind len (headed kind len rest)
unfolding message_at
at_header kind len rest k l =
    let xs : List ℕ = headed kind len rest in
    let four : ltb (length xs) 4 ≡ false = le-ltb _ _ (omega (arith, length_headed kind len rest)) in
    skip (ltb (length xs) 4) (wrong 0 faults.MessageLength) _ four
    ∙ ap (λ (n : ℕ). message_by n (second xs) xs) (first_headed kind len rest k)
    ∙ ap (λ (n : ℕ). message_by kind n xs) (second_headed kind len rest l)

-- a whole message at the front
at_whole : (kind : ℕ) (id body after : List ℕ) → kind < 2 ^ 16 → 4 + length body < 2 ^ 16 → length id ≡ 4
    → message_at (headed kind (4 + length body) (id ++ (body ++ after))) ≡ sized (8 + length body) (body_of kind body)
at_whole kind id body after k l id_len =
    let len : ℕ = 4 + length body in
    let xs : List ℕ = headed kind len (id ++ (body ++ after)) in
    let size : length xs ≡ 8 + length body + length after = length_led 4 kind id body after id_len in
    let low : ltb len 4 ≡ false = le-ltb _ _ (omega arith) in
    let room : ltb (length xs) (4 + len) ≡ false = le-ltb _ _ (omega (arith, size)) in
    let all : 4 + len ≡ 8 + length body = omega arith in
    at_header kind len (id ++ (body ++ after)) k l
    ∙ skip (ltb len 4) (wrong 2 faults.MessageLength) _ low
    ∙ skip (ltb (length xs) (4 + len)) (wrong 2 faults.MessageLength) _ room
    ∙ ap (λ (ys : List ℕ). sized (4 + len) (body_of kind ys)) (body_of_led 4 kind id body after id_len)
    ∙ ap (λ (n : ℕ). sized n (body_of kind body)) all

message_again : (ms : List LabelMessage) (text after : List ℕ) → (s : SpellsMessage ms text)
    → message_at (text ++ after) ≡ Ok (s.message, length text)
message_again ms text after s =
    let size : 8 + length s.body ≡ length text =
    omega (
      arith,
      ap (λ (xs : List ℕ). length xs) s.parts,
      length_headed s.kind (4 + length s.body) (s.id ++ s.body),
      length-append s.id s.body,
      s.id_len,
    ) in
    ap (λ (xs : List ℕ). message_at (xs ++ after)) s.parts
    ∙ ap (λ (ys : List ℕ). message_at (headed s.kind (4 + length s.body) ys)) (append_assoc s.id s.body after)
    ∙ at_whole s.kind s.id s.body after s.kind_fits s.len_fits s.id_len
    ∙ ap (sized (8 + length s.body)) (body_again s.message s.kind s.body s.means)
    ∙ ap (λ (n : ℕ). Ok (s.message, n)) size

-- ---- the first fault is answered

few : (octets : List ℕ) → length octets < 4 → message_at octets ≡ wrong 0 faults.MessageLength
unfolding message_at
few octets lt = take_branch (ltb (length octets) 4) (wrong 0 faults.MessageLength) _ (lt-ltb _ _ lt)

wrong_length : (kind len : ℕ) (rest : List ℕ) → (len < 4) ⊎ (length rest < len)
    → message_by kind len (headed kind len rest) ≡ wrong 2 faults.MessageLength
wrong_length kind len rest (inl lt) = take_branch (ltb len 4) (wrong 2 faults.MessageLength) _ (lt-ltb _ _ lt)
wrong_length kind len rest (inr lt) =
    let xs : List ℕ = headed kind len rest in
    let short : ltb (length xs) (4 + len) ≡ true = lt-ltb _ _ (omega (arith, length_headed kind len rest, lt)) in
    either (ltb len 4) (take_branch (ltb (length xs) (4 + len)) (wrong 2 faults.MessageLength) _ short)
  where
    either : (b : Bool) {y : Result (LabelMessage × ℕ) (ℕ × LdpFault)} → y ≡ wrong 2 faults.MessageLength
        → cond b (wrong 2 faults.MessageLength) y ≡ wrong 2 faults.MessageLength
    either true e = refl
    either false e = e

label_below : (kind : ℕ) → IsLabelType kind → kind < 2 ^ 16
label_below kind (inl h) = omega (arith, h)
label_below kind (inr (inl h)) = omega (arith, h)
label_below kind (inr (inr h)) = omega (arith, h)

-- a message of a label type whose body fails
fails_body_at : (octets body : List ℕ) (offset : ℕ) (e : LdpFault) → IsOctets octets → (s : LabelStands octets body) → BodyFault s.kind body offset e
    → message_at octets ≡ wrong offset e
fails_body_at octets body offset e fits s h =
    let body_fits : IsOctets body = inner_octets (headed s.kind (4 + length body) s.id) body s.after octets fits s.parts in
    ap message_at s.parts
    ∙ at_whole s.kind s.id body s.after (label_below s.kind s.is_label) s.fits s.id_len
    ∙ ap (sized (8 + length body)) (fails_body s.kind body offset e body_fits h)

fails_message : (octets : List ℕ) (offset : ℕ) (e : LdpFault) → IsOctets octets → MessageFault octets offset e → message_at octets ≡ wrong offset e
fails_message octets offset e fits (faulty.header_cut pos lt at is) = few octets lt ∙ fault_is wrong offset 0 e faults.MessageLength at is
fails_message octets offset e fits (faulty.length_wrong kind len rest k l parts why at is) =
    ap message_at parts ∙ at_header kind len rest k l ∙ wrong_length kind len rest why ∙ fault_is wrong offset 2 e faults.MessageLength at is
fails_message octets offset e fits (faulty.in_tlvs body place s h at) = fails_body_at octets body offset e fits s (s.is_label, inl (place, h, at))
fails_message octets offset e fits (faulty.missing body ts s are none at is) =
    fails_body_at octets body offset e fits s (s.is_label, inr (ts, are, none, at, is))

-- ---- fronts of a PDU's octets

-- what stands at the front says of the octets
abbrev pub FrontMeans : List ℕ → Front LabelMessage LdpFault → Type 0
FrontMeans octets more = octets ≡ []
FrontMeans octets (whole n ms) = (n ≤ length octets) × SpellsMessage ms (take n octets)
FrontMeans octets (bad before offset e) = (before ≡ []) × MessageFault octets offset e

seen_is : (octets : List ℕ) (r : Result (LabelMessage × ℕ) (ℕ × LdpFault)) → MessageMeans octets r → FrontMeans octets (seen r)
seen_is octets (Ok x) h = h
seen_is octets (Err f) h = (refl, h)

pub front_is : (octets : List ℕ) → IsOctets octets → FrontMeans octets (message_front octets)
front_is [] fits = refl
front_is (b ∷ bs) fits = seen_is (b ∷ bs) (message_at (b ∷ bs)) (message_is (b ∷ bs) fits (omega arith))

message_more : (ms : List LabelMessage) (text : List ℕ) → SpellsMessage ms text → 0 < length text
message_more ms text s = omega (arith, ap (λ (xs : List ℕ). length xs) s.parts, length_headed s.kind (4 + length s.body) (s.id ++ s.body))

front_again : (ms : List LabelMessage) (text after : List ℕ) → SpellsMessage ms text → message_front (text ++ after) ≡ whole (length text) ms
front_again ms text after s =
    front_seen (text ++ after) (omega (arith, message_more ms text s, length-append text after))
    ∙ ap seen (message_again ms text after s)
    ∙ ap (λ (xs : List LabelMessage). whole (length text) xs) (sym s.one)

fault_more : (octets : List ℕ) (offset : ℕ) (e : LdpFault) → MessageFault octets offset e → 0 < length octets
fault_more octets offset e (faulty.header_cut pos lt at is) = pos
fault_more octets offset e (faulty.length_wrong kind len rest k l parts why at is) =
    omega (arith, ap (λ (xs : List ℕ). length xs) parts, length_headed kind len rest)
fault_more octets offset e (faulty.in_tlvs body place s h at) =
    omega (arith, ap (λ (xs : List ℕ). length xs) s.parts, length_headed s.kind (4 + length body) (s.id ++ (body ++ s.after)))
fault_more octets offset e (faulty.missing body ts s are none at is) =
    omega (arith, ap (λ (xs : List ℕ). length xs) s.parts, length_headed s.kind (4 + length body) (s.id ++ (body ++ s.after)))

pub fails_front : (octets : List ℕ) (offset : ℕ) (e : LdpFault) → IsOctets octets → MessageFault octets offset e
    → message_front octets ≡ bad [] offset e
fails_front octets offset e fits h = front_seen octets (fault_more octets offset e h) ∙ ap seen (fails_message octets offset e fits h)

pub messages_framed : IsFraming message_front SpellsMessage
messages_framed = record {
  empty = refl;
  taken = λ xs n ms fits e. subst (FrontMeans xs) e (front_is xs fits);
  again = λ ms text after s. front_again ms text after s;
  filled = λ ms text s. message_more ms text s;
}
