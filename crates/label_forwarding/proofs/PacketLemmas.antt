-- Packets of both families: what is read is spelled, and the first fault is answered, both ways.
use Rattle.std.proofs.Common.{◌≡◌, ◌≢◌, ℕ, ◌+◌, ◌-◌, ◌/◌, ◌^◌, ◌<◌, ◌≤◌, Bool, true, false, cond, eqb, ltb, List, [], ◌∷◌, length, get_or, Option, None, Some, Result, Ok, Err, refl, sym, ap, subst, ◌∙◌, arith, inl, inr}
use Rattle.std.specs.Prelude.{IfOk, IfErr}
use Rattle.std.proofs.lemmas.Bool.{cases_lt, le-ltb, lt-ltb, ne_eqb, eq-eqb}
use Rattle.std.proofs.lemmas.Bool.Decides.{eqb_tells}
use Rattle.mv_base.specs.Octets.{IsOctets}
use Rattle.mv_base.proofs.Fields.{ok_is}
use Rattle.mv_base.specs.declared.addr.Addr.{Addr}
use Rattle.mv_base.specs.declared.addr.Addr.TheVariants.{V4, V6}
use Rattle.label_forwarding.specs.declared.fault.PacketFault.{PacketFault}
use Rattle.label_forwarding.specs.declared.fault.PacketFault.TheVariants as reasons
use Rattle.label_forwarding.specs.Spelling.{Packet, FourFields, AreFour, four_octets, MeetsFour, SixFields, AreSix, six_octets, MeetsSix, IsPacket}
use Rattle.label_forwarding.specs.Spelling as packets
use Rattle.label_forwarding.specs.FirstFault.{FourFault, SixFault, FirstFault}
use Rattle.label_forwarding.specs.FirstFault as first_faults
use Rattle.label_forwarding.specs.Reading.{fault, octets_in, four_fault, six_fault, unless, four_of, six_of, packet_of}
use Rattle.label_forwarding.proofs.OctetLemmas.{front_one}
use Rattle.label_forwarding.proofs.FourLemmas.{FourRead, four_read, four_fields, four_laid, four_settles, four_meets, four_fails}
use Rattle.label_forwarding.proofs.SixLemmas.{SixRead, six_read, six_fields, six_laid, six_settles, six_meets, six_fails}

-- an answer that was read of these octets
abbrev pub Answers : List ℕ → Result Packet (ℕ × PacketFault) → Type 0
Answers octets (Ok packet) = IsPacket packet.source packet.group octets × (packet.octets ≡ octets)
Answers octets (Err found) = FirstFault octets found

-- ---- what is read

four_answers : (octets : List ℕ) → IsOctets octets → 20 ≤ length octets → get_or octets 0 0 / 16 ≡ 4 → Answers octets (four_of octets)
unfolding four_of
four_answers octets fits le version =
    let laid = four_laid octets fits le version in
    let f : FourFields = four_fields octets in
    let read : FourRead octets f = subst (λ (xs : List ℕ). FourRead xs f) (sym laid.1) (four_read f laid.0) in
    let packet : Packet = record { source = V4 (octets_in 4 12 octets); group = V4 (octets_in 4 16 octets); octets = octets } in
    elim (four_settles octets f read) [
      | inl fine ↦ subst (λ (o : Option (ℕ × PacketFault)). Answers octets (unless o packet)) (sym fine.0)
          (packets.four f laid.0 fine.1 laid.1 refl refl, refl)
      | inr found ↦ subst (λ (o : Option (ℕ × PacketFault)). Answers octets (unless o packet)) (sym found.1)
          (first_faults.in_four f laid.0 laid.1 found.2)
    ]

-- an octet whose high half is that of version 6
low_half : (octets : List ℕ) → IsOctets octets → 1 ≤ length octets → get_or octets 0 0 / 16 ≡ 6
    → (class : ℕ) × (rest : List ℕ) × (octets ≡ (96 + class) ∷ rest) × (class < 2 ^ 4)
low_half [] fits le version = absurd (omega arith)
low_half (a ∷ rest) fits le version =
    let below : a < 256 = fits 0 in
    let whole : a ≡ 96 + (a - 96) = omega arith in
    (a - 96, rest, ap (λ n. n ∷ rest) whole, omega arith)

six_answers : (octets : List ℕ) → IsOctets octets → 20 ≤ length octets → get_or octets 0 0 / 16 ≡ 6 → Answers octets (six_of octets)
unfolding six_of
six_answers octets fits le version =
    let packet : Packet = record { source = V6 (octets_in 16 8 octets); group = V6 (octets_in 16 24 octets); octets = octets } in
    let whole : Bool → Result Packet (ℕ × PacketFault) = λ b. cond b (Err (fault (length octets) reasons.Short)) (unless (six_fault octets) packet) in
    elim (cases_lt (length octets) 40) [
      | inl lt ↦
          let half = low_half octets fits (omega arith) version in
          subst (λ (b : Bool). Answers octets (whole b)) (sym (lt-ltb (length octets) 40 lt))
          (first_faults.six_short half.0 half.1 half.2 half.3 le lt refl)
      | inr ge ↦
          let laid = six_laid octets fits ge version in
          let f : SixFields = six_fields octets in
          let read : SixRead octets f = subst (λ (xs : List ℕ). SixRead xs f) (sym laid.1) (six_read f laid.0) in
          subst (λ (b : Bool). Answers octets (whole b)) (sym (le-ltb (length octets) 40 ge))
          (elim (six_settles octets f read) [
            | inl fine ↦ subst (λ (o : Option (ℕ × PacketFault)). Answers octets (unless o packet)) (sym fine.0)
                (packets.six f laid.0 fine.1 laid.1 refl refl, refl)
            | inr found ↦ subst (λ (o : Option (ℕ × PacketFault)). Answers octets (unless o packet)) (sym found.1)
                (first_faults.in_six f laid.0 laid.1 found.2)
          ])
    ]

-- the choice by length and version
choice : Bool → Bool → Bool → List ℕ → Result Packet (ℕ × PacketFault)
choice short is_four is_six octets =
    cond short (Err (fault (length octets) reasons.Short))
    (cond is_four (four_of octets) (cond is_six (six_of octets) (Err (fault 0 reasons.Version))))

is_choice : (octets : List ℕ) → packet_of octets
    ≡ choice (ltb (length octets) 20) (eqb (get_or octets 0 0 / 16) 4) (eqb (get_or octets 0 0 / 16) 6) octets
unfolding packet_of choice
is_choice octets = refl

chosen_short : (octets : List ℕ) (four six : Bool) (short : Bool) → short ≡ true
    → choice short four six octets ≡ Err (fault (length octets) reasons.Short)
unfolding choice
chosen_short octets four six short e = rw e refl

chosen_four : (octets : List ℕ) (six short four : Bool) → short ≡ false → four ≡ true → choice short four six octets ≡ four_of octets
unfolding choice
chosen_four octets six short four e g = rw (e, g) refl

chosen_six : (octets : List ℕ) (short four six : Bool) → short ≡ false → four ≡ false → six ≡ true → choice short four six octets ≡ six_of octets
unfolding choice
chosen_six octets short four six e g h = rw (e, g, h) refl

chosen_none : (octets : List ℕ) (short four six : Bool) → short ≡ false → four ≡ false → six ≡ false
    → choice short four six octets ≡ Err (fault 0 reasons.Version)
unfolding choice
chosen_none octets short four six e g h = rw (e, g, h) refl

reads_short : (octets : List ℕ) → length octets < 20 → packet_of octets ≡ Err (fault (length octets) reasons.Short)
reads_short octets lt = is_choice octets ∙ chosen_short octets _ _ _ (lt-ltb (length octets) 20 lt)

reads_four : (octets : List ℕ) → 20 ≤ length octets → get_or octets 0 0 / 16 ≡ 4 → packet_of octets ≡ four_of octets
reads_four octets le version = is_choice octets ∙ chosen_four octets _ _ _ (le-ltb (length octets) 20 le) (eq-eqb _ 4 version)

reads_six : (octets : List ℕ) → 20 ≤ length octets → get_or octets 0 0 / 16 ≡ 6 → packet_of octets ≡ six_of octets
reads_six octets le version =
    is_choice octets ∙ chosen_six octets _ _ _ (le-ltb (length octets) 20 le) (ne_eqb _ 4 (λ four. omega (arith, four, version))) (eq-eqb _ 6 version)

reads_none : (octets : List ℕ) → 20 ≤ length octets → get_or octets 0 0 / 16 ≢ 4 → get_or octets 0 0 / 16 ≢ 6
    → packet_of octets ≡ Err (fault 0 reasons.Version)
reads_none octets le four six = is_choice octets ∙ chosen_none octets _ _ _ (le-ltb (length octets) 20 le) (ne_eqb _ 4 four) (ne_eqb _ 6 six)

answers_as : (octets : List ℕ) (r s : Result Packet (ℕ × PacketFault)) → r ≡ s → Answers octets s → Answers octets r
answers_as octets r s e h = subst (λ (x : Result Packet (ℕ × PacketFault)). Answers octets x) (sym e) h

-- What reading gives is spelled, or the first fault.
pub packet_answers : (octets : List ℕ) → IsOctets octets → Answers octets (packet_of octets)
packet_answers octets fits =
    elim (cases_lt (length octets) 20) [
      | inl lt ↦ answers_as octets _ _ (reads_short octets lt) (first_faults.short lt refl)
      | inr le ↦ elim (eqb_tells (get_or octets 0 0 / 16) 4) [
        | inl four ↦ answers_as octets _ _ (reads_four octets le four.1) (four_answers octets fits le four.1)
        | inr other ↦ elim (eqb_tells (get_or octets 0 0 / 16) 6) [
          | inl six ↦ answers_as octets _ _ (reads_six octets le six.1) (six_answers octets fits le six.1)
          | inr none ↦ answers_as octets _ _ (reads_none octets le other.1 none.1)
              (first_faults.version (get_or octets 0 0) _ (front_one octets (omega arith)) le other.1 none.1 refl)
        ]
      ]
    ]

answer_as : (octets : List ℕ) (r : Result Packet (ℕ × PacketFault)) → Answers octets r
    → IfOk r (λ packet. IsPacket packet.source packet.group octets × (packet.octets ≡ octets)) × IfErr r (λ found. FirstFault octets found)
answer_as octets (Ok packet) h = (h, tt)
answer_as octets (Err found) h = (tt, h)

pub answer_is : (r : Result Packet (ℕ × PacketFault)) (octets : List ℕ) → IsOctets octets → r ≡ packet_of octets
    → IfOk r (λ packet. IsPacket packet.source packet.group octets × (packet.octets ≡ octets)) × IfErr r (λ found. FirstFault octets found)
answer_is r octets fits e = answer_as octets r (answers_as octets r (packet_of octets) e (packet_answers octets fits))

-- ---- the other way round

made4 : (octets : List ℕ) (o : Option (ℕ × PacketFault)) → four_fault octets ≡ o
    → four_of octets ≡ unless o (record { source = V4 (octets_in 4 12 octets); group = V4 (octets_in 4 16 octets); octets = octets })
unfolding four_of
made4 octets o e = rw e refl

made6 : (octets : List ℕ) (o : Option (ℕ × PacketFault)) → 40 ≤ length octets → six_fault octets ≡ o
    → six_of octets ≡ unless o (record { source = V6 (octets_in 16 8 octets); group = V6 (octets_in 16 24 octets); octets = octets })
unfolding six_of
made6 octets o le e = rw (le-ltb (length octets) 40 le, e) refl

short6 : (octets : List ℕ) → length octets < 40 → six_of octets ≡ Err (fault (length octets) reasons.Short)
unfolding six_of
short6 octets lt = rw (lt-ltb (length octets) 40 lt) refl

read_four_of : (octets : List ℕ) (f : FourFields) → AreFour f → octets ≡ four_octets f → FourRead octets f
read_four_of octets f are e = subst (λ (xs : List ℕ). FourRead xs f) (sym e) (four_read f are)

read_six_of : (octets : List ℕ) (f : SixFields) → AreSix f → octets ≡ six_octets f → SixRead octets f
read_six_of octets f are e = subst (λ (xs : List ℕ). SixRead xs f) (sym e) (six_read f are)

pub packet_again : (source group : Addr) (octets : List ℕ) → IsPacket source group octets
    → packet_of octets ≡ Ok (record { source = source; group = group; octets = octets })
packet_again source group octets (packets.four f are m e from to) =
    let read = read_four_of octets f are e in
    reads_four octets (omega (arith, read.len)) read.version ∙ (made4 octets None (four_meets octets f read m)
    ∙ (λ i. Ok (record {
      source = (ap (λ (xs : List ℕ). V4 xs) read.source ∙ sym from) i;
      group =
          (ap (λ (xs : List ℕ). V4 xs) read.group ∙ sym to) i;
      octets = octets;
    })))
packet_again source group octets (packets.six f are m e from to) =
    let read = read_six_of octets f are e in
    reads_six octets (omega (arith, read.len)) read.version ∙ (made6 octets None (omega (arith, read.len)) (six_meets octets f read m)
    ∙ (λ i. Ok (record {
      source = (ap (λ (xs : List ℕ). V6 xs) read.source ∙ sym from) i;
      group =
          (ap (λ (xs : List ℕ). V6 xs) read.group ∙ sym to) i;
      octets = octets;
    })))

abbrev bad_answer : ℕ × PacketFault → Result Packet (ℕ × PacketFault)
bad_answer x = Err x

pub fails_packet : (octets : List ℕ) (x : ℕ × PacketFault) → FirstFault octets x → packet_of octets ≡ Err x
fails_packet octets x (first_faults.short lt is) = reads_short octets lt ∙ ap bad_answer (sym is)
fails_packet octets x (first_faults.version first rest e le four six is) =
    let octet : get_or octets 0 0 ≡ first = ap (λ (xs : List ℕ). get_or xs 0 0) e in
    reads_none octets le (λ h. four (ap (λ n. n / 16) (sym octet) ∙ h)) (λ h. six (ap (λ n. n / 16) (sym octet) ∙ h)) ∙ ap bad_answer (sym is)
fails_packet octets x (first_faults.in_four f are e failed) =
    let read = read_four_of octets f are e in
    reads_four octets (omega (arith, read.len)) read.version ∙ made4 octets (Some x) (four_fails octets f x read failed)
fails_packet octets x (first_faults.six_short class rest e lt le short is) =
    let octet : get_or octets 0 0 ≡ 96 + class = ap (λ (xs : List ℕ). get_or xs 0 0) e in
    reads_six octets le (omega arith) ∙ (short6 octets short ∙ ap bad_answer (sym is))
fails_packet octets x (first_faults.in_six f are e failed) =
    let read = read_six_of octets f are e in
    reads_six octets (omega (arith, read.len)) read.version ∙ made6 octets (Some x) (omega (arith, read.len)) (six_fails octets f x read failed)

-- ---- laws

pub one_flow : (source group other to : Addr) (octets : List ℕ) → IsPacket source group octets → IsPacket other to octets
    → (source ≡ other) × (group ≡ to)
one_flow source group other to octets own others =
    let a : Packet = record { source = source; group = group; octets = octets } in
    let b : Packet = record { source = other; group = to; octets = octets } in
    let same : a ≡ b = ok_is {E = ℕ × PacketFault} a b (sym (packet_again source group octets own) ∙ packet_again other to octets others) in
    (ap (λ (p : Packet). p.source) same, ap (λ (p : Packet). p.group) same)
