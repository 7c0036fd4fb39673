-- The parts of a header and of a record are read exactly where they stand, and their faults.
use Rattle.std.proofs.Common.{◌≡◌, ℕ, ◌+◌, ◌*◌, ◌/◌, ◌%◌, List, ◌++◌, length, take, drop, refl, sym, ap, subst, ◌∙◌, arith}
use Rattle.std.specs.Prelude.{⊤}
use Rattle.std.proofs.lemmas.List.{take-append-drop, length-append, length-drop, length-take-le}
use Rattle.mv_base.specs.declared.ids.NodeId.{NodeId}
use Rattle.core_pcap.specs.declared.fault.PcapFault.TheVariants as faults
use Rattle.core_pcap.specs.declared.hop.CoreHop.{CoreHop}
use Rattle.core_pcap.specs.declared.order.ByteOrder.{ByteOrder}
use Rattle.core_pcap.specs.declared.order.ByteOrder.TheVariants.{BigEndian}
use Rattle.core_pcap.specs.Words.{word, half, node_octets}
use Rattle.core_pcap.specs.Fields.{Read, Lacks, FieldFails, Then}
use Rattle.core_pcap.specs.Reading.{octets_at, word_at, known_word_at, known_half_at, magic_at, version_at, passed_at, header_at, millis_at, length_at, node_at, shim_at, time_at, lengths_at, ends_at, label_at, hop_at}
use Rattle.core_pcap.specs.Spelling.{magic, labelled_text, time_text, frame_text, AreOctets, IsMagic, IsWord, IsKnownWord, IsKnownHalf, IsMillis, IsLength, IsNode, IsShim, IsVersion, IsPassed, IsTime, AreLengths, AreEnds, IsLabelled, IsHop, SpellsHeader, SpellsHop}
use Rattle.core_pcap.specs.FirstFault.{MagicFails, VersionFails, PassedFails, NetworkFails, HeaderFails, TimeFails, LengthsFail, EndsFail, LabelFails, HopFails}
use Rattle.core_pcap.proofs.Readers.{IsReader, Both, Made, then_at, then_reader, made_at, made_reader, same_reader, said_reader, octets_reader}
use Rattle.core_pcap.proofs.FieldReaders.{magic_reader, word_reader, known_word_reader, known_half_reader, millis_reader, length_reader, node_reader, shim_reader}

-- Equal parts make equal texts.
joined : (text a b c d : List ℕ) → text ≡ a ++ b → a ≡ c → b ≡ d → text ≡ c ++ d
joined text a b c d e p q = e ∙ ap (λ (t : List ℕ). t ++ b) p ∙ ap (λ (t : List ℕ). c ++ t) q

-- ---- the version

abbrev VersionText : ByteOrder → ⊤ → List ℕ → Type 0
VersionText order = Both (IsKnownHalf order 2) (λ major. IsKnownHalf order 4)

abbrev version_fields : ByteOrder → List ℕ → Read ⊤
version_fields order = then_at (known_half_at order 2 0 faults.Version) (λ major. known_half_at order 4 2 faults.Version)

version_same : (order : ByteOrder) (octets : List ℕ) → version_at order octets ≡ version_fields order octets
unfolding version_at
version_same order octets = refl

version_there : (order : ByteOrder) (x : ⊤) (text : List ℕ) → VersionText order x text → IsVersion order x text
version_there order x text b = joined text b.front b.back _ _ b.parts b.first b.second

version_back : (order : ByteOrder) (x : ⊤) (text : List ℕ) → IsVersion order x text → VersionText order x text
version_back order x text s = record { x = tt; front = half order 2; back = half order 4; first = refl; second = refl; parts = s }

version_reader : (order : ByteOrder) → IsReader (version_at order) (IsVersion order) (VersionFails order)
version_reader order =
    said_reader (version_at order) (VersionText order) (IsVersion order) (VersionFails order) (version_there order) (version_back order)
    (same_reader (version_fields order) (version_at order) _ _ (version_same order)
    (then_reader (known_half_at order 2 0 faults.Version) (IsKnownHalf order 2) (FieldFails 2 (IsKnownHalf order 2) 0 faults.Version)
    (λ major. known_half_at order 4 2 faults.Version) (λ major. IsKnownHalf order 4)
    (λ major. FieldFails 2 (IsKnownHalf order 4) 2 faults.Version)
    (known_half_reader order 2 0 faults.Version (omega arith)) (λ major front s. known_half_reader order 4 2 faults.Version (omega arith))))

-- ---- what may be anything

abbrev no_value : List ℕ → ⊤
no_value octets = tt

abbrev LastText : ⊤ → List ℕ → Type 0
LastText = Made no_value (AreOctets 4)

abbrev PassedText : ⊤ → List ℕ → Type 0
PassedText = Both (AreOctets 4) (λ zone. Both (AreOctets 4) (λ accuracy. LastText))

abbrev last_two : List ℕ → Read ⊤
last_two = then_at (octets_at 4) (λ accuracy. made_at (octets_at 4) no_value)

passed_same : (octets : List ℕ) → passed_at octets ≡ then_at (octets_at 4) (λ zone. last_two) octets
unfolding passed_at
passed_same octets = refl

passed_there : (x : ⊤) (text : List ℕ) → PassedText x text → IsPassed x text
passed_there x text b =
    let c = b.second in
    let m = c.second in
    let first = ap (λ (t : List ℕ). length t) b.first.1 in
    let second = ap (λ (t : List ℕ). length t) c.first.1 in
    let third = ap (λ (t : List ℕ). length t) m.spells.1 in
    let whole = ap (λ (t : List ℕ). length t) b.parts ∙ length-append b.front b.back in
    let thereafter = ap (λ (t : List ℕ). length t) c.parts ∙ length-append c.front c.back in
    omega (arith, first, second, third, whole, thereafter, b.first.0, c.first.0, m.spells.0)

passed_back : (x : ⊤) (text : List ℕ) → IsPassed x text → PassedText x text
passed_back x text len =
    let more = drop 4 text in
    let last = drop 4 more in
    let eight : length more ≡ 8 = omega (arith, len, length-drop 4 text) in
    let four : length last ≡ 4 = omega (arith, eight, length-drop 4 more) in
    record {
      x = take 4 text;
      front = take 4 text;
      back = more;
      first = (length-take-le 4 text (omega (arith, len)), refl);
      second = record {
        x = take 4 more;
        front = take 4 more;
        back = last;
        first = (length-take-le 4 more (omega (arith, eight)), refl);
        second = record { x = last; is = refl; spells = (four, refl) };
        parts = sym (take-append-drop 4 more);
      };
      parts = sym (take-append-drop 4 text);
    }

passed_reader : IsReader passed_at IsPassed PassedFails
passed_reader =
    said_reader passed_at PassedText IsPassed PassedFails passed_there passed_back
    (same_reader (then_at (octets_at 4) (λ zone. last_two)) passed_at _ _ passed_same
    (then_reader (octets_at 4) (AreOctets 4) (Lacks 4) (λ zone. last_two) (λ zone. Both (AreOctets 4) (λ accuracy. LastText))
    (λ zone. Then (AreOctets 4) (Lacks 4) (λ accuracy. Lacks 4)) (octets_reader 4) (λ zone front s.
    then_reader (octets_at 4) (AreOctets 4) (Lacks 4) (λ accuracy. made_at (octets_at 4) no_value) (λ accuracy. LastText) (λ accuracy. Lacks 4)
    (octets_reader 4) (λ accuracy front s.
    made_reader (octets_at 4) (AreOctets 4) (Lacks 4) no_value (octets_reader 4)))))

-- ---- the header

abbrev ordered : ByteOrder → ⊤ → ByteOrder
ordered order known = order

abbrev NetworkText : ByteOrder → ByteOrder → List ℕ → Type 0
NetworkText order = Made (ordered order) (IsKnownWord order 1)

abbrev HeaderText : ByteOrder → List ℕ → Type 0
HeaderText = Both IsMagic (λ order. Both (IsVersion order) (λ version. Both IsPassed (λ passed. NetworkText order)))

abbrev network_at : ByteOrder → List ℕ → Read ByteOrder
network_at order = made_at (known_word_at order 1 faults.Network) (ordered order)

abbrev after_version : ByteOrder → List ℕ → Read ByteOrder
after_version order = then_at passed_at (λ passed. network_at order)

abbrev after_magic : ByteOrder → List ℕ → Read ByteOrder
after_magic order = then_at (version_at order) (λ version. after_version order)

header_same : (octets : List ℕ) → header_at octets ≡ then_at magic_at after_magic octets
unfolding header_at
header_same octets = refl

header_there : (order : ByteOrder) (text : List ℕ) → HeaderText order text → SpellsHeader order text
header_there order text b =
    let c = b.second in
    let d = c.second in
    let m = d.second in
    let thereafter = joined c.back d.front d.back d.front (word b.x 1) d.parts refl m.spells in
    let middle = joined b.back c.front c.back (half b.x 2 ++ half b.x 4) (d.front ++ word b.x 1) c.parts c.first thereafter in
    let whole = joined text b.front b.back (word b.x magic) _ b.parts b.first middle in
    subst (λ (o : ByteOrder). SpellsHeader o text) (sym m.is) (record { passed = d.front; len = d.first; octets = whole })

header_back : (order : ByteOrder) (text : List ℕ) → SpellsHeader order text → HeaderText order text
header_back order text s =
    let network : Both IsPassed (λ passed. NetworkText order) order (s.passed ++ word order 1) =
    record { x = tt; front = s.passed; back = word order 1; first = s.len; second = record { x = tt; is = refl; spells = refl }; parts = refl } in
    let version : Both (IsVersion order) (λ version. Both IsPassed (λ passed. NetworkText order)) order
    ((half order 2 ++ half order 4) ++ (s.passed ++ word order 1)) =
    record { x = tt; front = half order 2 ++ half order 4; back = s.passed ++ word order 1; first = refl; second = network; parts = refl } in
    record {
      x = order;
      front = word order magic;
      back = (half order 2 ++ half order 4) ++ (s.passed ++ word order 1);
      first = refl;
      second =
          version;
      parts = s.octets;
    }

pub header_reader : IsReader header_at SpellsHeader HeaderFails
header_reader =
    said_reader header_at HeaderText SpellsHeader HeaderFails header_there header_back
    (same_reader (then_at magic_at after_magic) header_at _ _ header_same
    (then_reader magic_at IsMagic MagicFails after_magic (λ order. Both (IsVersion order) (λ version. Both IsPassed (λ passed. NetworkText order)))
    (λ order. Then (IsVersion order) (VersionFails order) (λ version. Then IsPassed PassedFails (λ passed. NetworkFails order))) magic_reader
    (λ order front s.
    then_reader (version_at order) (IsVersion order) (VersionFails order) (λ version. after_version order)
    (λ version. Both IsPassed (λ passed. NetworkText order)) (λ version. Then IsPassed PassedFails (λ passed. NetworkFails order))
    (version_reader order) (λ version front s.
    then_reader passed_at IsPassed PassedFails (λ passed. network_at order) (λ passed. NetworkText order) (λ passed. NetworkFails order) passed_reader
    (λ passed front s.
    made_reader (known_word_at order 1 faults.Network) (IsKnownWord order 1) (NetworkFails order) (ordered order)
    (known_word_reader order 1 faults.Network (omega arith)))))))

-- ---- the time of a hop

abbrev tick_of : ℕ → ℕ → ℕ
tick_of seconds millis = seconds * 1000 + millis

abbrev TimeText : ByteOrder → ℕ → List ℕ → Type 0
TimeText order = Both (IsWord order) (λ seconds. Made (tick_of seconds) (IsMillis order))

abbrev time_fields : ByteOrder → List ℕ → Read ℕ
time_fields order = then_at (word_at order) (λ seconds. made_at (millis_at order) (tick_of seconds))

time_same : (order : ByteOrder) (octets : List ℕ) → time_at order octets ≡ time_fields order octets
unfolding time_at
time_same order octets = refl

time_there : (order : ByteOrder) (tick : ℕ) (text : List ℕ) → TimeText order tick text → IsTime order tick text
time_there order tick text b =
    let m = b.second in
    let seconds : b.x ≡ tick / 1000 = omega (arith, m.is, m.spells.0) in
    let millis : m.x ≡ tick % 1000 = omega (arith, m.is, m.spells.0) in (
      omega (arith, seconds, b.first.0),
      joined text b.front b.back _ _ b.parts (b.first.1 ∙ ap (word order) seconds)
          (m.spells.1 ∙ ap (λ (n : ℕ). word order (n * 1000)) millis),
    )

time_back : (order : ByteOrder) (tick : ℕ) (text : List ℕ) → IsTime order tick text → TimeText order tick text
time_back order tick text s = record {
  x = tick / 1000;
  front = word order (tick / 1000);
  back = word order (tick % 1000 * 1000);
  first = (s.0, refl);
  second = record { x = tick % 1000; is = omega arith; spells = (omega arith, refl) };
  parts = s.1;
}

time_reader : (order : ByteOrder) → IsReader (time_at order) (IsTime order) (TimeFails order)
time_reader order =
    said_reader (time_at order) (TimeText order) (IsTime order) (TimeFails order) (time_there order) (time_back order)
    (same_reader (time_fields order) (time_at order) _ _ (time_same order)
    (then_reader (word_at order) (IsWord order) (Lacks 4) (λ seconds. made_at (millis_at order) (tick_of seconds))
    (λ seconds. Made (tick_of seconds) (IsMillis order)) (λ seconds. FieldFails 4 (IsMillis order) 0 faults.Time) (word_reader order)
    (λ seconds front s. made_reader (millis_at order) (IsMillis order) (FieldFails 4 (IsMillis order) 0 faults.Time) (tick_of seconds)
    (millis_reader order))))

-- ---- the lengths of its frame

abbrev sized : ℕ → ⊤ → ℕ
sized len known = len

abbrev LengthsText : ByteOrder → ℕ → List ℕ → Type 0
LengthsText order = Both (IsLength order) (λ len. Made (sized len) (IsKnownWord order (18 + len)))

abbrev lengths_fields : ByteOrder → List ℕ → Read ℕ
lengths_fields order = then_at (length_at order) (λ len. made_at (known_word_at order (18 + len) faults.Length) (sized len))

lengths_same : (order : ByteOrder) (octets : List ℕ) → lengths_at order octets ≡ lengths_fields order octets
unfolding lengths_at
lengths_same order octets = refl

lengths_there : (order : ByteOrder) (len : ℕ) (text : List ℕ) → LengthsText order len text → AreLengths order len text
lengths_there order len text b =
    let m = b.second in
    subst (λ (n : ℕ). AreLengths order n text) (sym m.is) (b.first.0, joined text b.front b.back _ _ b.parts b.first.1 m.spells)

lengths_back : (order : ByteOrder) (len : ℕ) (text : List ℕ) → AreLengths order len text → LengthsText order len text
lengths_back order len text s = record {
  x = len;
  front = word order (18 + len);
  back = word order (18 + len);
  first = (s.0, refl);
  second = record { x = tt; is = refl; spells = refl };
  parts = s.1;
}

lengths_reader : (order : ByteOrder) → IsReader (lengths_at order) (AreLengths order) (LengthsFail order)
lengths_reader order =
    said_reader (lengths_at order) (LengthsText order) (AreLengths order) (LengthsFail order) (lengths_there order) (lengths_back order)
    (same_reader (lengths_fields order) (lengths_at order) _ _ (lengths_same order)
    (then_reader (length_at order) (IsLength order) (FieldFails 4 (IsLength order) 0 faults.Length)
    (λ len. made_at (known_word_at order (18 + len) faults.Length) (sized len)) (λ len. Made (sized len) (IsKnownWord order (18 + len)))
    (λ len. FieldFails 4 (IsKnownWord order (18 + len)) 0 faults.Length) (length_reader order)
    (λ len front s. made_reader (known_word_at order (18 + len) faults.Length) (IsKnownWord order (18 + len))
    (FieldFails 4 (IsKnownWord order (18 + len)) 0 faults.Length) (sized len)
    (known_word_reader order (18 + len) faults.Length (omega (arith, s.0))))))

-- ---- its ends

abbrev ends_of : NodeId → NodeId → NodeId × NodeId
ends_of to from = (to, from)

abbrev EndsText : NodeId × NodeId → List ℕ → Type 0
EndsText = Both IsNode (λ to. Made (ends_of to) IsNode)

abbrev ends_fields : List ℕ → Read (NodeId × NodeId)
ends_fields = then_at node_at (λ to. made_at node_at (ends_of to))

ends_same : (octets : List ℕ) → ends_at octets ≡ ends_fields octets
unfolding ends_at
ends_same octets = refl

ends_there : (x : NodeId × NodeId) (text : List ℕ) → EndsText x text → AreEnds x text
ends_there x text b =
    let m = b.second in
    subst (λ (y : NodeId × NodeId). AreEnds y text) (sym m.is) (b.first.0, m.spells.0, joined text b.front b.back _ _ b.parts b.first.1 m.spells.1)

ends_back : (x : NodeId × NodeId) (text : List ℕ) → AreEnds x text → EndsText x text
ends_back x text s = record {
  x = x.0;
  front = node_octets x.0;
  back = node_octets x.1;
  first = (s.0, refl);
  second = record { x = x.1; is = refl; spells = (s.1, refl) };
  parts = s.2;
}

ends_reader : IsReader ends_at AreEnds EndsFail
ends_reader =
    said_reader ends_at EndsText AreEnds EndsFail ends_there ends_back
    (same_reader ends_fields ends_at _ _ ends_same
    (then_reader node_at IsNode (FieldFails 6 IsNode 0 faults.Address) (λ to. made_at node_at (ends_of to)) (λ to. Made (ends_of to) IsNode)
    (λ to. FieldFails 6 IsNode 0 faults.Address) node_reader
    (λ to front s. made_reader node_at IsNode (FieldFails 6 IsNode 0 faults.Address) (ends_of to) node_reader)))

-- ---- its label

abbrev LabelText : ℕ × ℕ → List ℕ → Type 0
LabelText = Both (IsKnownHalf BigEndian 0x8847) (λ mpls. IsShim)

abbrev label_fields : List ℕ → Read (ℕ × ℕ)
label_fields = then_at (known_half_at BigEndian 0x8847 0 faults.EtherType) (λ mpls. shim_at)

label_same : (octets : List ℕ) → label_at octets ≡ label_fields octets
unfolding label_at
label_same octets = refl

label_there : (x : ℕ × ℕ) (text : List ℕ) → LabelText x text → IsLabelled x text
label_there x text b = (b.second.0, b.second.1, joined text b.front b.back (half BigEndian 0x8847) _ b.parts b.first b.second.2)

label_back : (x : ℕ × ℕ) (text : List ℕ) → IsLabelled x text → LabelText x text
label_back x text s = record { x = tt; front = half BigEndian 0x8847; back = _; first = refl; second = (s.0, s.1, refl); parts = s.2 }

label_reader : IsReader label_at IsLabelled LabelFails
label_reader =
    said_reader label_at LabelText IsLabelled LabelFails label_there label_back
    (same_reader label_fields label_at _ _ label_same
    (then_reader (known_half_at BigEndian 0x8847 0 faults.EtherType) (IsKnownHalf BigEndian 0x8847)
    (FieldFails 2 (IsKnownHalf BigEndian 0x8847) 0 faults.EtherType) (λ mpls. shim_at) (λ mpls. IsShim)
    (λ mpls. FieldFails 4 IsShim 0 faults.Shim)
    (known_half_reader BigEndian 0x8847 0 faults.EtherType (omega arith)) (λ mpls front s. shim_reader)))

-- ---- a record

abbrev hop_of : ℕ → NodeId × NodeId → ℕ × ℕ → List ℕ → CoreHop
hop_of tick ends label bytes = record { tick = tick; from = ends.1; to = ends.0; label = label.0; ttl = label.1; bytes = bytes }

abbrev DataText : ℕ → ℕ → NodeId × NodeId → ℕ × ℕ → CoreHop → List ℕ → Type 0
DataText tick len ends label = Made (hop_of tick ends label) (AreOctets len)

abbrev data_at : ℕ → ℕ → NodeId × NodeId → ℕ × ℕ → List ℕ → Read CoreHop
data_at tick len ends label = made_at (octets_at len) (hop_of tick ends label)

abbrev BehindEnds : ℕ → ℕ → NodeId × NodeId → CoreHop → List ℕ → Type 0
BehindEnds tick len ends = Both IsLabelled (DataText tick len ends)

abbrev after_ends : ℕ → ℕ → NodeId × NodeId → List ℕ → Read CoreHop
after_ends tick len ends = then_at label_at (data_at tick len ends)

abbrev BehindLengths : ℕ → ℕ → CoreHop → List ℕ → Type 0
BehindLengths tick len = Both AreEnds (BehindEnds tick len)

abbrev after_lengths : ℕ → ℕ → List ℕ → Read CoreHop
after_lengths tick len = then_at ends_at (after_ends tick len)

abbrev BehindTime : ByteOrder → ℕ → CoreHop → List ℕ → Type 0
BehindTime order tick = Both (AreLengths order) (BehindLengths tick)

abbrev after_time : ByteOrder → ℕ → List ℕ → Read CoreHop
after_time order tick = then_at (lengths_at order) (after_lengths tick)

abbrev HopText : ByteOrder → CoreHop → List ℕ → Type 0
HopText order = Both (IsTime order) (BehindTime order)

hop_same : (order : ByteOrder) (octets : List ℕ) → hop_at order octets ≡ then_at (time_at order) (after_time order) octets
unfolding hop_at
hop_same order octets = refl

hop_there : (order : ByteOrder) (hop : CoreHop) (text : List ℕ) → HopText order hop text → SpellsHop order hop text
hop_there order hop text b =
    let c = b.second in
    let d = c.second in
    let e = d.second in
    let m = e.second in
    let made : CoreHop = hop_of b.x d.x e.x m.x in
    let len : c.x ≡ length m.x = sym m.spells.0 in
    let label = joined d.back e.front e.back _ m.x e.parts e.first.2 m.spells.1 in
    let frame = joined c.back d.front d.back _ _ d.parts d.first.2 label in
    let sizes : c.front ≡ word order (18 + length m.x) ++ word order (18 + length m.x) =
    c.first.1 ∙ ap (λ (n : ℕ). word order (18 + n) ++ word order (18 + n)) len in
    let thereafter = joined b.back c.front c.back _ _ c.parts sizes frame in
    let whole = joined text b.front b.back _ _ b.parts b.first.1 thereafter in
    let is : IsHop made =
    record { tick = b.first.0; from = d.first.1; to = d.first.0; label = e.first.0; ttl = e.first.1; few = omega (arith, len, c.first.0) } in
    subst (λ (h : CoreHop). SpellsHop order h text) (sym m.is) (record { is = is; octets = whole })

hop_back : (order : ByteOrder) (hop : CoreHop) (text : List ℕ) → SpellsHop order hop text → HopText order hop text
hop_back order hop text s =
    let len = length hop.bytes in
    let ends = ends_of hop.to hop.from in
    let label = labelled_text hop.label hop.ttl in
    let labelled : BehindEnds hop.tick len ends hop (label ++ hop.bytes) = record {
      x = (hop.label, hop.ttl);
      front = label;
      back = hop.bytes;
      first = (s.is.label, s.is.ttl, refl);
      second = record { x = hop.bytes; is = refl; spells = (refl, refl) };
      parts = refl;
    } in
    let framed : BehindLengths hop.tick len hop (frame_text hop) = record {
      x = ends;
      front = node_octets hop.to ++ node_octets hop.from;
      back = label ++ hop.bytes;
      first = (s.is.to, s.is.from, refl);
      second = labelled;
      parts = refl;
    } in
    let sizes = word order (18 + len) ++ word order (18 + len) in
    let sizes_before : BehindTime order hop.tick hop (sizes ++ frame_text hop) = record {
      x = len;
      front = sizes;
      back = frame_text hop;
      first = (s.is.few, refl);
      second = framed;
      parts = refl;
    } in
    record {
      x = hop.tick;
      front = time_text order hop.tick;
      back = sizes ++ frame_text hop;
      first = (s.is.tick, refl);
      second = sizes_before;
      parts =
          s.octets;
    }

pub hop_reader : (order : ByteOrder) → IsReader (hop_at order) (SpellsHop order) (HopFails order)
hop_reader order =
    said_reader (hop_at order) (HopText order) (SpellsHop order) (HopFails order) (hop_there order) (hop_back order)
    (same_reader (then_at (time_at order) (after_time order)) (hop_at order) _ _ (hop_same order)
    (then_reader (time_at order) (IsTime order) (TimeFails order) (after_time order) (BehindTime order)
    (λ tick. Then (AreLengths order) (LengthsFail order) (λ len. Then AreEnds EndsFail (λ ends. Then IsLabelled LabelFails (λ label. Lacks len))))
    (time_reader order) (λ tick front s.
    then_reader (lengths_at order) (AreLengths order) (LengthsFail order) (after_lengths tick) (BehindLengths tick)
    (λ len. Then AreEnds EndsFail (λ ends. Then IsLabelled LabelFails (λ label. Lacks len))) (lengths_reader order) (λ len front s.
    then_reader ends_at AreEnds EndsFail (after_ends tick len) (BehindEnds tick len) (λ ends. Then IsLabelled LabelFails (λ label. Lacks len))
    ends_reader (λ ends front s.
    then_reader label_at IsLabelled LabelFails (data_at tick len ends) (DataText tick len ends) (λ label. Lacks len) label_reader (λ label front s.
    made_reader (octets_at len) (AreOctets len) (Lacks len) (hop_of tick ends label) (octets_reader len)))))))
