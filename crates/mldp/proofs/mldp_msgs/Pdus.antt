-- A PDU: it is read exactly where it is spelled, its faults, and that a fault stays.
use Rattle.std.proofs.Common.{◌≡◌, ◌≢◌, ℕ, ◌+◌, ◌-◌, ◌^◌, ◌<◌, ◌≤◌, ◌⊎◌, inl, inr, false, ltb, eqb, not, List, [], ◌∷◌, ◌++◌, length, take, drop, Option, Some, None, refl, sym, ap, subst, ◌∙◌, append_assoc, arith}
use Rattle.std.specs.Prelude.{⊤}
use Rattle.std.proofs.lemmas.Bool.{ltb-false, ltb-true, le-ltb, lt-ltb, eqb-true, eqb-false, ne_eqb, cases_lt}
use Rattle.std.proofs.lemmas.List.{length-append, length-drop, append-nil, take-append-le, drop-append-le}
use Rattle.mv_base.specs.Octets.{IsOctets}
use Rattle.mv_base.proofs.Fields.{octets_before, octets_after}
use Rattle.mv_base.specs.framing.Units.{Begins, octets_of}
use Rattle.mv_base.specs.framing.Cut.{Front, Cut, cut, with_front}
use Rattle.mv_base.specs.framing.Cut.Front.{more, whole, bad}
use Rattle.mv_base.proofs.framing.Cuts.{Found, found, Ends, begun, waits, stops, IsOctets-after}
use Rattle.mv_base.proofs.framing.Feedings.{IsFormat}
use Rattle.mv_base.proofs.framing.Fronts.{not_waiting, skip, take_branch, same_tests}
use Rattle.mv_base.proofs.framing.Headers.{headed, first_headed, second_headed, length_headed, is_headed, first_more, second_more}
use Rattle.mldp.specs.declared.mldp_msgs.fault.LdpFault.{LdpFault}
use Rattle.mldp.specs.declared.mldp_msgs.fault.LdpFault.TheVariants as faults
use Rattle.mldp.specs.declared.mldp_msgs.message.LabelMessage.{LabelMessage}
use Rattle.mldp.specs.mldp_msgs.Spelling.{SpellsMessage, SpellsPdu}
use Rattle.mldp.specs.mldp_msgs.FirstFault as faulty
use Rattle.mldp.specs.mldp_msgs.FirstFault.{MessageFault, PduFault}
use Rattle.mldp.specs.mldp_msgs.Reading.{first, second, message_front, pdu_of, pdu_cut, pdu_by, pdu_front}
use Rattle.mldp.proofs.mldp_msgs.Fronts.{fault_is, meets, no_pdu, not_true, not_false}
use Rattle.mldp.proofs.mldp_msgs.Heads.{first_below, second_below, inner_octets, lead_in, body_in, after_body, Led, led_is, body_of_led, length_led}
use Rattle.mldp.proofs.mldp_msgs.Messages.{FrontMeans, front_is, fails_front, messages_framed}

-- ---- the messages of a body

-- a body of whole messages is cut into these
body_again : (body : List ℕ) (ms : List LabelMessage) → Begins SpellsMessage body ms []
    → cut message_front body ≡ record { messages = ms; rest = []; fault = None }
body_again body ms b =
    begun message_front SpellsMessage messages_framed 0 (length body) body ms [] b (omega arith)
    ∙ ap (with_front ms) (waits message_front (length body) [] messages_framed.empty)
    ∙ ap (λ (xs : List LabelMessage). record { messages = xs; rest = []; fault = None }) (append-nil ms)

-- these messages, and then one that fails, in octets whose first stands at 0
abbrev BodyFails : List ℕ → List LabelMessage → ℕ → LdpFault → Type 0
BodyFails body ms place e =
    (left : List ℕ) × (offset : ℕ) × Begins SpellsMessage body ms left × (0 < length left) × MessageFault left offset e
    × (place ≡ (length body - length left) + offset)

-- what the cut of a body says of it
abbrev BodyMeans : List ℕ → List LabelMessage → Option (ℕ × LdpFault) → Type 0
BodyMeans body ms None = Begins SpellsMessage body ms []
BodyMeans body ms (Some f) = BodyFails body ms f.0 f.1

body_ends : (body rest : List ℕ) (before ms : List LabelMessage) (o : Option (ℕ × LdpFault)) → IsOctets rest → Begins SpellsMessage body before rest
    → Ends message_front (0 + length body) rest before ms o → BodyMeans body ms o
body_ends body rest before ms None fits b (ends, same) =
    subst (λ (ns : List LabelMessage). Begins SpellsMessage body ns []) (sym same)
    (subst (Begins SpellsMessage body before) (subst (FrontMeans rest) ends (front_is rest fits)) b)
body_ends body rest before ms (Some f) fits b (last, offset, stands, at, same) =
    let fault : (last ≡ []) × MessageFault rest offset f.1 = subst (FrontMeans rest) stands (front_is rest fits) in
    let all : ms ≡ before = same ∙ ap (λ (ns : List LabelMessage). before ++ ns) fault.0 ∙ append-nil before in
    let within : length rest ≤ length body = omega (arith, ap (λ (xs : List ℕ). length xs) b.parts, length-append (octets_of b.units) rest) in (
      rest,
      offset,
      subst (λ (ns : List LabelMessage). Begins SpellsMessage body ns rest) (sym all) b,
      some rest last stands,
      fault.1,
      omega (arith, at, within),
    )
  where
    some : (rest : List ℕ) (last : List LabelMessage) {offset : ℕ} {e : LdpFault} → message_front rest ≡ bad last offset e → 0 < length rest
    some [] last e = absurd cc
    some (b ∷ bs) last e = omega arith

body_is : (body : List ℕ) → IsOctets body → BodyMeans body (cut message_front body).messages (cut message_front body).fault
body_is body fits =
    let c : Cut LabelMessage LdpFault = cut message_front body in
    let f : Found message_front SpellsMessage 0 body c = found message_front SpellsMessage messages_framed 0 body fits in
    body_ends body c.rest f.first c.messages c.fault (IsOctets-after (octets_of f.begins.units) c.rest (subst IsOctets f.begins.parts fits)) f.begins
    f.ends

-- a body whose message fails
body_fails : (body : List ℕ) (ms : List LabelMessage) (left : List ℕ) (offset : ℕ) (e : LdpFault) → IsOctets body → Begins SpellsMessage body ms left
    → MessageFault left offset e → cut message_front body
    ≡ record { messages = ms; rest = left; fault = Some ((length body - length left) + offset, e) }
body_fails body ms left offset e fits b h =
    let within : length left ≤ length body = omega (arith, ap (λ (xs : List ℕ). length xs) b.parts, length-append (octets_of b.units) left) in
    let there : ℕ = length body - length left in
    let at : there + length left ≡ 0 + length body = omega (arith, within) in
    let left_fits : IsOctets left = IsOctets-after (octets_of b.units) left (subst IsOctets b.parts fits) in
    begun message_front SpellsMessage messages_framed 0 there body ms left b at
    ∙ ap (with_front ms) (stops message_front there offset e [] left messages_framed.empty (fails_front left offset e left_fits h))
    ∙ ap (λ (ns : List LabelMessage). record { messages = ns; rest = left; fault = Some (there + offset, e) }) (append-nil ms)

-- ---- what was read

-- what stands at the front says of the octets
abbrev PduMeans : List ℕ → Front LabelMessage LdpFault → Type 0
PduMeans octets more = ⊤
PduMeans octets (whole n ms) = (n ≤ length octets) × SpellsPdu ms (take n octets)
PduMeans octets (bad before offset e) = PduFault octets before offset e

by_body : (xs : List ℕ) → first xs ≡ 1 → second xs ≤ 4096 → 4 + second xs ≤ length xs → Led 6 xs
    → (ms : List LabelMessage) (o : Option (ℕ × LdpFault)) → BodyMeans (body_in 6 xs) ms o → PduMeans xs (pdu_of (4 + second xs) ms o)
by_body xs one high room s ms None h = (
  room,
  record {
    ident = lead_in 6 xs;
    body = body_in 6 xs;
    parts = s.front ∙ ap (λ (n : ℕ). headed n (6 + length (body_in 6 xs)) (lead_in 6 xs ++ body_in 6 xs)) one;
    ident_len = s.lead_len;
    fits = omega (arith, s.counted, high);
    messages = h;
  },
)
by_body xs one high room s ms (Some f) (left, offset, begins, pos, fault, at) =
    let parts = s.parts ∙ ap (λ (n : ℕ). headed n (6 + length (body_in 6 xs)) (lead_in 6 xs ++ (body_in 6 xs ++ after_body 6 xs))) one in
    faulty.in_message (lead_in 6 xs) (body_in 6 xs) (after_body 6 xs) s.lead_len (omega (arith, s.counted, high)) parts left offset begins pos fault
    (omega (arith, at))

pdu_is : (xs : List ℕ) → IsOctets xs → PduMeans xs (pdu_front xs)
unfolding pdu_front
pdu_is xs fits =
    let P : Front LabelMessage LdpFault → Type 0 = PduMeans xs in
    let z : Front LabelMessage LdpFault = pdu_front xs in
    let wrong : 4 ≤ length xs → first xs ≡ 1 → (second xs < 6) ⊎ (4096 < second xs) → PduFault xs [] 2 faults.PduLength = λ four one why.
    faulty.pdu_length (second xs) (drop 4 xs) (second_below xs fits) (is_headed xs fits four ∙ ap (λ (n : ℕ). headed n (second xs) (drop 4 xs)) one)
    why refl refl refl in
    meets P (ltb (length xs) 4) _ _ z refl (λ t. tt) (λ f0 e0.
    let four : 4 ≤ length xs = ltb-false _ _ f0 in
    meets P (not (eqb (first xs) 1)) _ _ z e0 (λ t. faulty.version (first xs) (second xs) (drop 4 xs) (first_below xs fits) (second_below xs fits)
    (is_headed xs fits four) (eqb-false _ _ (not_true (eqb (first xs) 1) t)) refl refl refl) (λ f1 e1.
    let one : first xs ≡ 1 = eqb-true _ _ (not_false (eqb (first xs) 1) f1) in
    meets P (ltb (second xs) 6) _ _ z e1 (λ t. wrong four one (inl (ltb-true _ _ t))) (λ f2 e2.
    let low : 6 ≤ second xs = ltb-false _ _ f2 in
    meets P (ltb 4096 (second xs)) _ _ z e2 (λ t. wrong four one (inr (ltb-true _ _ t))) (λ f3 e3.
    let high : second xs ≤ 4096 = ltb-false _ _ f3 in
    meets P (ltb (length xs) (4 + second xs)) _ _ z e3 (λ t. tt) (λ f4 e4.
    let room : 4 + second xs ≤ length xs = ltb-false _ _ f4 in
    let body_fits : IsOctets (body_in 6 xs) = octets_before (second xs - 6) (drop 10 xs) (octets_after 10 xs fits) in
    let c : Cut LabelMessage LdpFault = cut message_front (body_in 6 xs) in
    subst P e4 (by_body xs one high room (led_is 6 xs fits low room) c.messages c.fault (body_is (body_in 6 xs) body_fits)))))))

-- ---- what is spelled is read

-- the header at the front
at_header : (version len : ℕ) (rest : List ℕ) → version < 2 ^ 16 → len < 2 ^ 16
    → pdu_front (headed version len rest) ≡ pdu_by version len (headed version len rest)
unfolding pdu_front
at_header version len rest v l =
    let four : ltb (length (headed version len rest)) 4 ≡ false = le-ltb _ _ (omega (arith, length_headed version len rest)) in
    skip (ltb (length (headed version len rest)) 4) more _ four
    ∙ ap (λ (n : ℕ). pdu_by n (second (headed version len rest)) (headed version len rest)) (first_headed version len rest v)
    ∙ ap (λ (n : ℕ). pdu_by version n (headed version len rest)) (second_headed version len rest l)

-- a whole PDU at the front
at_whole : (ident body after : List ℕ) → length ident ≡ 6 → 6 + length body ≤ 4096
    → pdu_front (headed 1 (6 + length body) (ident ++ (body ++ after))) ≡ pdu_cut (10 + length body) (cut message_front body)
at_whole ident body after ident_len fits =
    let len : ℕ = 6 + length body in
    let xs : List ℕ = headed 1 len (ident ++ (body ++ after)) in
    let size : length xs ≡ 10 + length body + length after = length_led 6 1 ident body after ident_len in
    let low : ltb len 6 ≡ false = le-ltb _ _ (omega arith) in
    let high : ltb 4096 len ≡ false = le-ltb _ _ fits in
    let room : ltb (length xs) (4 + len) ≡ false = le-ltb _ _ (omega (arith, size)) in
    let all : 4 + len ≡ 10 + length body = omega arith in
    at_header 1 len (ident ++ (body ++ after)) (omega arith) (omega (arith, fits))
    ∙ skip (ltb len 6) (bad [] 2 faults.PduLength) _ low
    ∙ skip (ltb 4096 len) (bad [] 2 faults.PduLength) _ high
    ∙ skip (ltb (length xs) (4 + len)) more _ room
    ∙ ap (λ (ys : List ℕ). pdu_cut (4 + len) (cut message_front ys)) (body_of_led 6 1 ident body after ident_len)
    ∙ ap (λ (n : ℕ). pdu_cut n (cut message_front body)) all

pdu_again : (ms : List LabelMessage) (text after : List ℕ) → SpellsPdu ms text → pdu_front (text ++ after) ≡ whole (length text) ms
pdu_again ms text after s =
    let size : 10 + length s.body ≡ length text =
    omega (
      arith,
      ap (λ (xs : List ℕ). length xs) s.parts,
      length_headed 1 (6 + length s.body) (s.ident ++ s.body),
      length-append s.ident s.body,
      s.ident_len,
    ) in
    ap (λ (xs : List ℕ). pdu_front (xs ++ after)) s.parts
    ∙ ap (λ (ys : List ℕ). pdu_front (headed 1 (6 + length s.body) ys)) (append_assoc s.ident s.body after)
    ∙ at_whole s.ident s.body after s.ident_len s.fits
    ∙ ap (pdu_cut (10 + length s.body)) (body_again s.body ms s.messages)
    ∙ ap (λ (n : ℕ). whole n ms) size

-- ---- the first fault is answered

-- before any message
abbrev wrong : ℕ → LdpFault → Front LabelMessage LdpFault
wrong offset e = bad [] offset e

wrong_length : (len : ℕ) (octets : List ℕ) → (len < 6) ⊎ (4096 < len) → pdu_by 1 len octets ≡ wrong 2 faults.PduLength
wrong_length len octets (inl lt) = take_branch (ltb len 6) (wrong 2 faults.PduLength) _ (lt-ltb _ _ lt)
wrong_length len octets (inr lt) =
    let low : ltb len 6 ≡ false = le-ltb _ _ (omega (arith, lt)) in
    skip (ltb len 6) (wrong 2 faults.PduLength) _ low ∙ take_branch (ltb 4096 len) (wrong 2 faults.PduLength) _ (lt-ltb _ _ lt)

wrong_version : (version len : ℕ) (octets : List ℕ) → version ≢ 1 → pdu_by version len octets ≡ wrong 0 faults.Version
wrong_version version len octets other = take_branch (not (eqb version 1)) (wrong 0 faults.Version) _ (ap not (ne_eqb _ _ other))

-- equal faults at equal places, before any message
front_fault : (ms : List LabelMessage) (p q : ℕ) (d e : LdpFault) → ms ≡ [] → p ≡ q → d ≡ e → wrong q e ≡ bad ms p d
front_fault ms p q d e none at is = fault_is wrong p q d e at is ∙ ap (λ (ns : List LabelMessage). bad ns p d) (sym none)

fails_pdu : (octets : List ℕ) (ms : List LabelMessage) (offset : ℕ) (e : LdpFault) → IsOctets octets → PduFault octets ms offset e
    → pdu_front octets ≡ bad ms offset e
fails_pdu octets ms offset e fits (faulty.version version len rest v l parts other none at is) =
    ap pdu_front parts ∙ at_header version len rest v l ∙ wrong_version version len (headed version len rest) other
    ∙ front_fault ms offset 0 e faults.Version none at is
fails_pdu octets ms offset e fits (faulty.pdu_length len rest l parts why none at is) =
    ap pdu_front parts ∙ at_header 1 len rest (omega arith) l ∙ wrong_length len (headed 1 len rest) why
    ∙ front_fault ms offset 2 e faults.PduLength none at is
fails_pdu octets ms offset e fits (faulty.in_message ident body after ident_len len parts left place begins pos h at) =
    let body_fits : IsOctets body = inner_octets (headed 1 (6 + length body) ident) body after octets fits parts in
    let there : 10 + ((length body - length left) + place) ≡ offset = omega (arith, at) in
    ap pdu_front parts
    ∙ at_whole ident body after ident_len len
    ∙ ap (pdu_cut (10 + length body)) (body_fails body ms left place e body_fits begins h)
    ∙ ap (λ (n : ℕ). bad ms n e) there

-- ---- a fault stays, whatever comes

body_same : (len : ℕ) (xs ys : List ℕ) → 4 + len ≤ length xs → take (len - 6) (drop 10 (xs ++ ys)) ≡ take (len - 6) (drop 10 xs)
body_same len xs ys room =
    elim (cases_lt (length xs) 10) [
      | inl lt ↦ let none : len - 6 ≡ 0 = omega (arith, lt, room) in rw none refl
      | inr le ↦ ap (take (len - 6)) (drop-append-le 10 xs ys le) ∙ take-append-le (len - 6) (drop 10 xs) ys (omega (arith, length-drop 10 xs, room))
    ]

pdu_kept : (xs ys : List ℕ) (ms : List LabelMessage) (offset : ℕ) (e : LdpFault) → pdu_front xs ≡ bad ms offset e
    → pdu_front (xs ++ ys) ≡ bad ms offset e
unfolding pdu_front
pdu_kept xs ys ms offset e h =
    let a = not_waiting (ltb (length xs) 4) _ ms offset e h in
    let four : 4 ≤ length xs = ltb-false _ _ a.0 in
    let longer : length (xs ++ ys) ≡ length xs + length ys = length-append xs ys in
    let b : ltb (length (xs ++ ys)) 4 ≡ false = le-ltb _ _ (omega (arith, longer, four)) in
    skip (ltb (length (xs ++ ys)) 4) more _ b
    ∙ ap (λ (n : ℕ). pdu_by n (second (xs ++ ys)) (xs ++ ys)) (first_more xs ys four)
    ∙ ap (λ (n : ℕ). pdu_by (first xs) n (xs ++ ys)) (second_more xs ys four)
    ∙ same_tests (not (eqb (first xs) 1)) (bad [] 0 faults.Version) _ _ (bad ms offset e) a.1
    (λ h1. same_tests (ltb (second xs) 6) (bad [] 2 faults.PduLength) _ _ (bad ms offset e) h1
    (λ h2. same_tests (ltb 4096 (second xs)) (bad [] 2 faults.PduLength) _ _ (bad ms offset e) h2
    (λ h3.
    let g = not_waiting (ltb (length xs) (4 + second xs)) _ ms offset e h3 in
    let room : 4 + second xs ≤ length xs = ltb-false _ _ g.0 in
    let d : ltb (length (xs ++ ys)) (4 + second xs) ≡ false = le-ltb _ _ (omega (arith, longer, room)) in
    skip (ltb (length (xs ++ ys)) (4 + second xs)) more _ d
    ∙ ap (λ (zs : List ℕ). pdu_cut (4 + second xs) (cut message_front zs)) (body_same (second xs) xs ys room)
    ∙ g.1)))

-- ---- how much may wait

abbrev Waits : List ℕ → Front LabelMessage LdpFault → Type 0
Waits octets more = length octets < 4100
Waits octets (whole n ms) = ⊤
Waits octets (bad before offset e) = ⊤

whole_waits : (xs : List ℕ) (n : ℕ) (ms : List LabelMessage) (o : Option (ℕ × LdpFault)) → Waits xs (pdu_of n ms o)
whole_waits xs n ms None = tt
whole_waits xs n ms (Some f) = tt

waits_is : (xs : List ℕ) → Waits xs (pdu_front xs)
unfolding pdu_front
waits_is xs =
    let P : Front LabelMessage LdpFault → Type 0 = Waits xs in
    let z : Front LabelMessage LdpFault = pdu_front xs in
    meets P (ltb (length xs) 4) _ _ z refl (λ t. let lt : length xs < 4 = ltb-true _ _ t in omega (arith, lt)) (λ f0 e0.
    meets P (not (eqb (first xs) 1)) _ _ z e0 (λ t. tt) (λ f1 e1.
    meets P (ltb (second xs) 6) _ _ z e1 (λ t. tt) (λ f2 e2.
    meets P (ltb 4096 (second xs)) _ _ z e2 (λ t. tt) (λ f3 e3.
    let high : second xs ≤ 4096 = ltb-false _ _ f3 in
    meets P (ltb (length xs) (4 + second xs)) _ _ z e3 (λ t. let lt : length xs < 4 + second xs = ltb-true _ _ t in omega (arith, lt, high)) (λ f4 e4.
    let c : Cut LabelMessage LdpFault = cut message_front (body_in 6 xs) in
    subst P e4 (whole_waits xs (4 + second xs) c.messages c.fault))))))

-- ---- the format

pub pdu_format : IsFormat pdu_front SpellsPdu PduFault 4100
pdu_format = record {
  stream = record {
    framing = record {
      empty = no_pdu;
      taken = λ xs n ms fits e. subst (PduMeans xs) e (pdu_is xs fits);
      again = λ ms text after s. pdu_again ms text after s;
      filled = λ ms text s. omega (arith, ap (λ (xs : List ℕ). length xs) s.parts, length_headed 1 (6 + length s.body) (s.ident ++ s.body));
    };
    kept = λ xs ys ms offset e h. pdu_kept xs ys ms offset e h;
  };
  waits = λ xs e. subst (Waits xs) e (waits_is xs);
  fails = λ xs ms offset e fits h. subst (PduMeans xs) h (pdu_is xs fits);
  faulty = λ xs ms offset e fits h. fails_pdu xs ms offset e fits h;
}
