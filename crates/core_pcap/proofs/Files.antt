-- What a file tells is one, and reading tells it.
use Rattle.std.proofs.Common.{◌≡◌, ◌≢◌, ℕ, ◌+◌, ◌-◌, ◌<◌, List, [], ◌∷◌, ◌++◌, length, get_or, take, Option, Some, None, Result, Ok, Err, refl, sym, ap, subst, ◌∙◌, append_assoc, append-nil, arith}
use Rattle.std.specs.Prelude.{All, Bool, IfOk, false, ◌==◌}
use Rattle.std.specs.List.{flat_map}
use Rattle.std.proofs.lemmas.Bool.{eqb-false}
use Rattle.std.proofs.lemmas.List.{length-append, flat_map_more, take_more}
use Rattle.std.proofs.lemmas.List.Concat.{flat_map-cons}
use Rattle.std.proofs.lemmas.List.Elements.{All-nil, All-push, All-head, All-tail}
use Rattle.mv_base.specs.Octets.{IsOctets}
use Rattle.mv_base.proofs.Fields.{ok_is, err_is}
use Rattle.core_pcap.specs.declared.fault.PcapFault.{PcapFault}
use Rattle.mv_base.specs.declared.memory.NoMemory.{NoMemory}
use Rattle.core_pcap.specs.declared.hop.CoreHop.{CoreHop}
use Rattle.core_pcap.specs.declared.hop.PcapRead.{PcapRead}
use Rattle.core_pcap.specs.declared.order.ByteOrder.{ByteOrder}
use Rattle.core_pcap.specs.declared.order.ByteOrder.TheVariants.{BigEndian, LittleEndian}
use Rattle.core_pcap.specs.Words.{word}
use Rattle.core_pcap.specs.Reading.{header_at, hop_at}
use Rattle.core_pcap.specs.Spelling.{IsHop, SpellsHop, SpellsHeader, SpellsFile, hop_text, written_header, written_file}
use Rattle.core_pcap.specs.File.{FirstFault, in_header, in_record, Tells}
use Rattle.core_pcap.specs.Answers.{IsOnly, ReadsRows, Rows, Stops}
use Rattle.core_pcap.proofs.Readers.{rest_octets}
use Rattle.core_pcap.proofs.PartReaders.{header_reader, hop_reader}

abbrev fault_of : ℕ → PcapFault → ℕ × PcapFault
fault_of left fault = (left, fault)

abbrev hop_read : CoreHop → List ℕ → CoreHop × List ℕ
hop_read hop rest = (hop, rest)

abbrev read_hop : CoreHop × List ℕ → Result (CoreHop × List ℕ) (ℕ × PcapFault)
read_hop x = Ok x

abbrev no_hop : ℕ × PcapFault → Result (CoreHop × List ℕ) (ℕ × PcapFault)
no_hop f = Err f

same_hop : (x y : CoreHop × List ℕ) → read_hop x ≡ read_hop y → x ≡ y
same_hop x y e = ok_is {E = ℕ × PcapFault} x y e

same_fault : (f g : ℕ × PcapFault) → no_hop f ≡ no_hop g → f ≡ g
same_fault f g e = err_is {A = CoreHop × List ℕ} f g e

-- ---- records end to end

more_text : (order : ByteOrder) (hop : CoreHop) (hops : List CoreHop) (rest : List ℕ)
    → flat_map (hop_text order) (hop ∷ hops) ++ rest ≡ hop_text order hop ++ (flat_map (hop_text order) hops ++ rest)
more_text order hop hops rest =
    ap (λ (t : List ℕ). t ++ rest) (flat_map-cons (hop_text order) hop hops) ∙ append_assoc (hop_text order hop) (flat_map (hop_text order) hops) rest

-- The first record is read.
first_read : (order : ByteOrder) (hop : CoreHop) (hops : List CoreHop) (records rest : List ℕ) → All IsHop (hop ∷ hops)
    → records ≡ flat_map (hop_text order) (hop ∷ hops) ++ rest
    → hop_at order records ≡ read_hop (hop, flat_map (hop_text order) hops ++ rest)
first_read order hop hops records rest each parts =
    ap (hop_at order) (parts ∙ more_text order hop hops rest)
    ∙ (hop_reader order).again hop (hop_text order hop) (flat_map (hop_text order) hops ++ rest)
    (record { is = All-head IsHop hop hops each; octets = refl })

-- A record has octets.
hop_long : (order : ByteOrder) (hop : CoreHop) → 0 < length (hop_text order hop)
hop_long BigEndian hop = omega arith
hop_long LittleEndian hop = omega arith

shorter_by : (order : ByteOrder) (hop : CoreHop) (octets text rest : List ℕ) → SpellsHop order hop text → octets ≡ text ++ rest
    → length rest < length octets
shorter_by order hop octets text rest s parts =
    omega (arith, hop_long order hop, ap (λ (t : List ℕ). length t) s.octets, ap (λ (t : List ℕ). length t) parts, length-append text rest)

-- Fewer octets are left after a record.
pub shorter : (order : ByteOrder) (octets : List ℕ) (hop : CoreHop) (rest : List ℕ) → IsOctets octets
    → hop_at order octets ≡ read_hop (hop_read hop rest) → length rest < length octets
shorter order octets hop rest fits e =
    let t = (hop_reader order).taken octets (hop_read hop rest) fits e in
    shorter_by order hop octets t.0 rest t.1 t.2

-- Where a record is read, reading does not stop.
goes_on : (order : ByteOrder) (len : ℕ) (records : List ℕ) (hop : CoreHop) (rest : List ℕ) (fault : Option (ℕ × PcapFault)) → IsOctets records
    → hop_at order records ≡ read_hop (hop_read hop rest)
    → Stops order len records fault → ⊥
goes_on order len records hop rest None fits e nothing = omega (arith, shorter order records hop rest fits e, ap (λ (t : List ℕ). length t) nothing)
goes_on order len records hop rest (Some f) fits e stops =
    let no : hop_at order records ≡ no_hop (fault_of stops.1 f.1) = (hop_reader order).faulty records stops.1 f.1 fits stops.2 in
    let both : read_hop (hop_read hop rest) ≡ no_hop (fault_of stops.1 f.1) = sym e ∙ no in
    absurd cc

-- Reading stops in one way.
stops_one : (order : ByteOrder) (len : ℕ) (rest : List ℕ) (fault other : Option (ℕ × PcapFault)) → IsOctets rest → Stops order len rest fault
    → Stops order len rest other → fault ≡ other
stops_one order len rest None None fits a b = refl
stops_one order len rest None (Some g) fits a b = absurd (b.0 a)
stops_one order len rest (Some f) None fits a b = absurd (a.0 b)
stops_one order len rest (Some f) (Some g) fits a b =
    let first = (hop_reader order).faulty rest a.1 f.1 fits a.2 in
    let second = (hop_reader order).faulty rest b.1 g.1 fits b.2 in
    let same : fault_of a.1 f.1 ≡ fault_of b.1 g.1 = same_fault (fault_of a.1 f.1) (fault_of b.1 g.1) (sym first ∙ second) in
    let place : f.0 ≡ g.0 = a.3 ∙ ap (λ (h : ℕ × PcapFault). len - h.0) same ∙ sym b.3 in
    some_fault f.0 g.0 f.1 g.1 place (ap (λ (h : ℕ × PcapFault). h.1) same)
  where
    some_fault : (p q : ℕ) (x y : PcapFault) → p ≡ q → x ≡ y → Some (fault_of p x) ≡ Some (fault_of q y)
    some_fault p q x y e h = rw (e, h) refl

-- Records are those of one list of hops.
rows_one : (order : ByteOrder) (len : ℕ) (hops others : List CoreHop) (records rest thereafter : List ℕ) (fault other : Option (ℕ × PcapFault))
    → IsOctets records
    → All IsHop hops → records ≡ flat_map (hop_text order) hops ++ rest → Stops order len rest fault
    → All IsHop others → records ≡ flat_map (hop_text order) others ++ thereafter → Stops order len thereafter other
    → (hops ≡ others) × (fault ≡ other)
rows_one order len [] [] records rest thereafter fault other fits each parts stops all whole ends = (
  refl,
  stops_one order len records fault other fits (subst (λ (t : List ℕ). Stops order len t fault) (sym parts) stops)
      (subst (λ (t : List ℕ). Stops order len t other) (sym whole) ends),
)
rows_one order len [] (y ∷ ys) records rest thereafter fault other fits each parts stops all whole ends =
    absurd (goes_on order len records y (flat_map (hop_text order) ys ++ thereafter) fault fits (first_read order y ys records thereafter all whole)
    (subst (λ (t : List ℕ). Stops order len t fault) (sym parts) stops))
rows_one order len (x ∷ xs) [] records rest thereafter fault other fits each parts stops all whole ends =
    absurd (goes_on order len records x (flat_map (hop_text order) xs ++ rest) other fits (first_read order x xs records rest each parts)
    (subst (λ (t : List ℕ). Stops order len t other) (sym whole) ends))
rows_one order len (x ∷ xs) (y ∷ ys) records rest thereafter fault other fits each parts stops all whole ends =
    let after = flat_map (hop_text order) xs ++ rest in
    let first = first_read order x xs records rest each parts in
    let second = first_read order y ys records thereafter all whole in
    let same : hop_read x after ≡ hop_read y (flat_map (hop_text order) ys ++ thereafter) =
    same_hop (hop_read x after) (hop_read y (flat_map (hop_text order) ys ++ thereafter)) (sym first ∙ second) in
    let left : IsOctets after = rest_octets records (hop_text order x) after fits (parts ∙ more_text order x xs rest) in
    let more =
    rows_one order len xs ys after rest thereafter fault other left (All-tail IsHop x xs each) refl stops (All-tail IsHop y ys all)
    (ap (λ (p : CoreHop × List ℕ). p.1) same) ends in
    (cons_is x y xs ys (ap (λ (p : CoreHop × List ℕ). p.0) same) more.0, more.1)
  where
    cons_is : (a b : CoreHop) (more others : List CoreHop) → a ≡ b → more ≡ others → a ∷ more ≡ b ∷ others
    cons_is a b more others e h = rw (e, h) refl

-- ---- a file

abbrev ordered_read : ByteOrder → List ℕ → Result (ByteOrder × List ℕ) (ℕ × PcapFault)
ordered_read order records = Ok (order, records)

abbrev no_order : ℕ → PcapFault → Result (ByteOrder × List ℕ) (ℕ × PcapFault)
no_order left fault = Err (left, fault)

-- what is read of a file
data Parsed (hops : List CoreHop) (fault : Option (ℕ × PcapFault)) (octets : List ℕ) : Type 0 where
  bad : (left : ℕ) (own : PcapFault) → header_at octets ≡ no_order left own → hops ≡ [] → fault ≡ Some (length octets - left, own)
      → Parsed hops fault octets
  good : (order : ByteOrder) (records : List ℕ) → IsOctets records → header_at octets ≡ ordered_read order records
      → Rows order (length octets) records hops fault → Parsed hops fault octets

header_read : (order : ByteOrder) (octets header records : List ℕ) → SpellsHeader order header → octets ≡ header ++ records
    → header_at octets ≡ ordered_read order records
header_read order octets header records head parts = ap header_at parts ∙ header_reader.again order header records head

parsed_faulty : (hops : List CoreHop) (f : ℕ × PcapFault) (octets : List ℕ) → IsOctets octets → FirstFault hops octets f.0 f.1
    → Parsed hops (Some f) octets
parsed_faulty hops f octets fits (in_header left fails none at) =
    bad left f.1 (header_reader.faulty octets left f.1 fits fails) none (ap (λ (place : ℕ). Some (fault_of place f.1)) at)
parsed_faulty hops f octets fits (in_record order header rest left head each parts some fails at) =
    let records = flat_map (hop_text order) hops ++ rest in
    good order records (rest_octets octets header records fits parts) (header_read order octets header records head parts)
    (record { rest = rest; each = each; parts = refl; stops = (some, left, fails, at) })

parsed : (hops : List CoreHop) (fault : Option (ℕ × PcapFault)) (octets : List ℕ) → IsOctets octets → Tells hops fault octets
    → Parsed hops fault octets
parsed hops None octets fits s =
    let records = flat_map (hop_text s.order) hops in
    good s.order records (rest_octets octets s.header records fits s.parts) (header_read s.order octets s.header records s.head s.parts)
    (record { rest = []; each = s.each; parts = sym (append-nil records); stops = refl })
parsed hops (Some f) octets fits first = parsed_faulty hops f octets fits first

same_order : (o p : ByteOrder) (r s : List ℕ) → ordered_read o r ≡ ordered_read p s → (o ≡ p) × (r ≡ s)
same_order o p r s e =
    let first : ByteOrder × List ℕ = (o, r) in
    let second : ByteOrder × List ℕ = (p, s) in
    let same : first ≡ second = ok_is {E = ℕ × PcapFault} first second e in
    (ap (λ (x : ByteOrder × List ℕ). x.0) same, ap (λ (x : ByteOrder × List ℕ). x.1) same)

same_stop : (a b : ℕ) (x y : PcapFault) → no_order a x ≡ no_order b y → fault_of a x ≡ fault_of b y
same_stop a b x y e = err_is {A = ByteOrder × List ℕ} (fault_of a x) (fault_of b y) e

parsed_one : (hops others : List CoreHop) (fault other : Option (ℕ × PcapFault)) (octets : List ℕ) → Parsed hops fault octets
    → Parsed others other octets → (hops ≡ others) × (fault ≡ other)
parsed_one hops others fault other octets (bad left own e none is) (bad right its h nothing said) =
    let same = same_stop left right own its (sym e ∙ h) in
    (none ∙ sym nothing, is ∙ ap (λ (f : ℕ × PcapFault). Some (fault_of (length octets - f.0) f.1)) same ∙ sym said)
parsed_one hops others fault other octets (bad left own e none is) (good order records fits h rows) =
    (let both : no_order left own ≡ ordered_read order records = sym e ∙ h in absurd cc)
parsed_one hops others fault other octets (good order records fits e rows) (bad right its h nothing said) =
    (let both : ordered_read order records ≡ no_order right its = sym e ∙ h in absurd cc)
parsed_one hops others fault other octets (good order records fits e rows) (good its same_records more h own) =
    let same = same_order order its records same_records (sym e ∙ h) in
    let moved : Rows order (length octets) records others other =
    subst (λ (o : ByteOrder). Rows o (length octets) records others other) (sym same.0)
    (subst (λ (r : List ℕ). Rows its (length octets) r others other) (sym same.1) own) in
    rows_one order (length octets) hops others records rows.rest moved.rest fault other fits rows.each rows.parts rows.stops moved.each moved.parts
    moved.stops

-- What a file tells is one.
pub tells_one : (hops others : List CoreHop) (fault other : Option (ℕ × PcapFault)) (octets : List ℕ) → IsOctets octets → Tells hops fault octets
    → Tells others other octets → (hops ≡ others) × (fault ≡ other)
tells_one hops others fault other octets fits a b =
    parsed_one hops others fault other octets (parsed hops fault octets fits a) (parsed others other octets fits b)

-- ---- what reading answers

pub tells_header : (octets : List ℕ) (left : ℕ) (own : PcapFault) → IsOctets octets → header_at octets ≡ no_order left own
    → FirstFault [] octets (length octets - left) own
tells_header octets left own fits e = in_header left (header_reader.fails octets left own fits e) refl refl

pub tells_rows : (hops : List CoreHop) (fault : Option (ℕ × PcapFault)) (octets : List ℕ) (order : ByteOrder) (records : List ℕ) → IsOctets octets
    → header_at octets ≡ ordered_read order records
    → Rows order (length octets) records hops fault → Tells hops fault octets
tells_rows hops None octets order records fits e rows =
    let t = header_reader.taken octets (order, records) fits e in
    let whole : records ≡ flat_map (hop_text order) hops =
    rows.parts ∙ ap (λ (r : List ℕ). flat_map (hop_text order) hops ++ r) rows.stops ∙ append-nil (flat_map (hop_text order) hops) in
    record { order = order; header = t.0; head = t.1; each = rows.each; parts = t.2 ∙ ap (λ (r : List ℕ). t.0 ++ r) whole }
tells_rows hops (Some f) octets order records fits e rows =
    let t = header_reader.taken octets (order, records) fits e in
    in_record order t.0 rows.rest rows.stops.1 t.1 rows.each (t.2 ∙ ap (λ (r : List ℕ). t.0 ++ r) rows.parts) rows.stops.0 rows.stops.2 rows.stops.3

-- ---- the loop over records

pub some_left : (b : Bool) (rest : List ℕ) → b ≡ false → b ≡ (length rest == 0) → rest ≢ []
some_left b rest e h = λ none. eqb-false (length rest) 0 (sym h ∙ e) (ap (λ (t : List ℕ). length t) none)

-- these hops stand in front of the rest
pub record Done (order : ByteOrder) (records : List ℕ) (hops : List CoreHop) (rest : List ℕ) : Type 0 where
  pub each : All IsHop hops
  pub parts : records ≡ flat_map (hop_text order) hops ++ rest

pub done_none : (order : ByteOrder) (records : List ℕ) → Done order records [] records
done_none order records = record { each = All-nil IsHop; parts = refl }

pub done_octets : (order : ByteOrder) (records : List ℕ) (hops : List CoreHop) (rest : List ℕ) → IsOctets records → Done order records hops rest
    → IsOctets rest
done_octets order records hops rest fits d = rest_octets records (flat_map (hop_text order) hops) rest fits d.parts

done_by : (order : ByteOrder) (records : List ℕ) (hops : List CoreHop) (hop : CoreHop) (rest text thereafter : List ℕ) → Done order records hops rest
    → SpellsHop order hop text → rest ≡ text ++ thereafter → Done order records (hops ++ hop ∷ []) thereafter
done_by order records hops hop rest text thereafter d s parts =
    let before = flat_map (hop_text order) hops in
    let whole : rest ≡ hop_text order hop ++ thereafter = parts ∙ ap (λ (t : List ℕ). t ++ thereafter) s.octets in
    record {
      each = All-push IsHop hops hop d.each s.is;
      parts = d.parts ∙ ap (λ (t : List ℕ). before ++ t) whole ∙ sym (append_assoc before (hop_text order hop) thereafter)
          ∙ ap (λ (t : List ℕ). t ++ thereafter) (flat_map_more (hop_text order) [] hops hop);
    }

pub done_more : (order : ByteOrder) (records : List ℕ) (hops : List CoreHop) (hop : CoreHop) (rest thereafter : List ℕ) → IsOctets records
    → Done order records hops rest → hop_at order rest ≡ read_hop (hop_read hop thereafter)
    → Done order records (hops ++ hop ∷ []) thereafter
done_more order records hops hop rest thereafter fits d e =
    let t = (hop_reader order).taken rest (hop_read hop thereafter) (done_octets order records hops rest fits d) e in
    done_by order records hops hop rest t.0 thereafter d t.1 t.2

pub done_all : (order : ByteOrder) (len : ℕ) (records : List ℕ) (hops : List CoreHop) (rest : List ℕ) → Done order records hops rest → rest ≡ []
    → Rows order len records hops None
done_all order len records hops rest d nothing = record { rest = rest; each = d.each; parts = d.parts; stops = nothing }

pub done_stop : (order : ByteOrder) (len : ℕ) (records : List ℕ) (hops : List CoreHop) (rest : List ℕ) (left : ℕ) (fault : PcapFault)
    → IsOctets records → Done order records hops rest → rest ≢ []
    → hop_at order rest ≡ no_hop (fault_of left fault) → Rows order len records hops (Some (len - left, fault))
done_stop order len records hops rest left fault fits d some e =
    let fails = (hop_reader order).fails rest left fault (done_octets order records hops rest fits d) e in
    record { rest = rest; each = d.each; parts = d.parts; stops = (some, left, fails, refl) }

-- ---- what is written

pub written_spells : (hops : List CoreHop) → All IsHop hops → SpellsFile hops (written_file hops)
written_spells hops each = record {
  order = BigEndian;
  header = written_header;
  head = record { passed = word BigEndian 0 ++ word BigEndian 0 ++ word BigEndian 65535; len = refl; octets = refl };
  each = each;
  parts = refl;
}

-- One hop more.
pub written_more : (hops : List CoreHop) (i : ℕ) (hop : CoreHop) (out new : List ℕ) → i < length hops → hop ≡ get_or hops i hop
    → out ≡ written_header ++ flat_map (hop_text BigEndian) (take i hops)
    → new ≡ out ++ hop_text BigEndian hop → new ≡ written_header ++ flat_map (hop_text BigEndian) (take (i + 1) hops)
written_more hops i hop out new lt is so_far h =
    let one : take (i + 1) hops ≡ take i hops ++ hop ∷ [] = take_more hops i hop lt ∙ ap (λ (x : CoreHop). take i hops ++ x ∷ []) (sym is) in
    h ∙ ap (λ (t : List ℕ). t ++ hop_text BigEndian hop) so_far ∙ flat_map_more (hop_text BigEndian) written_header (take i hops) hop
    ∙ ap (λ (hs : List CoreHop). written_header ++ flat_map (hop_text BigEndian) hs) (sym one)

-- ---- the answer of a call that may want memory

pub told_rows : (r : Result PcapRead NoMemory) (octets : List ℕ) (order : ByteOrder) (records : List ℕ) → IsOctets octets
    → header_at octets ≡ ordered_read order records
    → IfOk r (λ file. ReadsRows order (length octets) records file) → IfOk r (λ file. Tells file.hops file.fault octets)
told_rows (Ok file) octets order records fits e rows = tells_rows file.hops file.fault octets order records fits e rows
told_rows (Err want) octets order records fits e rows = tt

pub only_told : (r : Result PcapRead NoMemory) (octets : List ℕ) → IsOctets octets → IfOk r (λ file. Tells file.hops file.fault octets)
    → (hops : List CoreHop) (fault : Option (ℕ × PcapFault)) → Tells hops fault octets → IsOnly r hops fault
only_told (Ok file) octets fits told hops fault t = tells_one file.hops hops file.fault fault octets fits told t
only_told (Err want) octets fits told hops fault t = tt
