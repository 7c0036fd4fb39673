-- How many octets fields have, and how far from the start a fault may stand.
use Rattle.std.proofs.Common.{◌≡◌, ℕ, ◌+◌, ◌*◌, ◌^◌, ◌<◌, ◌≤◌, List, [], ◌∷◌, ◌++◌, length, ap, ◌∙◌, arith}
use Rattle.std.specs.Int.{w16, to_be_bytes}
use Rattle.std.proofs.lemmas.List.{length-append}
use Rattle.mv_base.specs.Address.{addr_octets, IsAddr}
use Rattle.mv_base.specs.declared.addr.Addr.{Addr}
use Rattle.mv_base.specs.declared.addr.Addr.TheVariants.{V4, V6}
use Rattle.pim_joinprune.specs.declared.fault.PimFault.{PimFault}
use Rattle.pim_joinprune.specs.declared.fault.PimFault.TheVariants as faults
use Rattle.pim_joinprune.specs.declared.family.Family.{Family}
use Rattle.pim_joinprune.specs.declared.source.JpSource.{JpSource}
use Rattle.pim_joinprune.specs.declared.group.Group.{Group}
use Rattle.pim_joinprune.specs.Fields.{AreAll, AreCounted, IsOctet, IsKnown, IsNumber, Lacks, FieldFails, missing, wrong, Then, here, thereafter}
use Rattle.pim_joinprune.specs.Spelling.{IsFamily, SpellsAddress, SpellsUnicast, IsKind, SpellsGroupAddress, SpellsSource, SpellsGroup, SpellsFields, unicast, masked}
use Rattle.pim_joinprune.specs.FirstFault.{KnownFails, FamilyFails, KindFails, MulticastFails, UnicastFails, SourceFails, SourcesFail, GroupAddressFails, GroupFails, GroupsFail, FieldsFail, Trails, RestFails}
use Rattle.pim_joinprune.specs.Families.{family_octet, addr_len, mask_len, family_of, IsOf}
use Rattle.pim_joinprune.proofs.PartReaders.{of_family}

-- all texts have at most so many octets
abbrev pub IsSized : {A : Type 0} → (A → List ℕ → Type 0) → ℕ → Type 0
IsSized {A} S n = (x : A) (text : List ℕ) → S x text → length text ≤ n

-- a fault stands among the octets or right after them, at most so many from the first
abbrev pub IsClose : (List ℕ → ℕ → PimFault → Type 0) → ℕ → Type 0
IsClose F n = (octets : List ℕ) (left : ℕ) (fault : PimFault) → F octets left fault → (left ≤ length octets) × (length octets ≤ left + n)

lacks_close : (n : ℕ) → IsClose (Lacks n) 0
lacks_close n octets left fault l = (omega (arith, l.at), omega (arith, l.at))

field_close : {A : Type 0} (S : A → List ℕ → Type 0) (F : List ℕ → ℕ → PimFault → Type 0) (W : A → Type 0) (own : PimFault) (n : ℕ) → IsClose F n
    → IsClose (FieldFails S F W own) n
field_close S F W own n close octets left fault (missing first) = close octets left fault first
field_close S F W own n close octets left fault (wrong x text rest spells parts w at is) = (omega (arith, at), omega (arith, at))

then_close : {A : Type 0} (S : A → List ℕ → Type 0) (F : List ℕ → ℕ → PimFault → Type 0) (G : A → List ℕ → ℕ → PimFault → Type 0) (n m : ℕ)
    → IsSized S n → IsClose F n → ((x : A) (text : List ℕ) → S x text → IsClose (G x) m) → IsClose (Then S F G) (n + m)
then_close S F G n m sized close far octets left fault (here first) =
    let c = close octets left fault first in
    (c.0, omega (arith, c.1))
then_close S F G n m sized close far octets left fault (thereafter x text rest spells parts second) =
    let c = far x text spells rest left fault second in
    let s = sized x text spells in
    let len : length octets ≡ length text + length rest = ap (λ (xs : List ℕ). length xs) parts ∙ length-append text rest in
    (omega (arith, len, c.0), omega (arith, len, c.1, s))

octet_sized : IsSized IsOctet 1
octet_sized x text (lt, is) = omega (arith, ap (λ (xs : List ℕ). length xs) is)

known_sized : (value : ℕ) → IsSized (IsKnown value) 1
known_sized value x text (same, is) = omega (arith, ap (λ (xs : List ℕ). length xs) is)

number_sized : IsSized IsNumber 2
number_sized x text (lt, is) = omega (arith, ap (λ (xs : List ℕ). length xs) is)

kind_sized : IsSized IsKind 1
kind_sized kind text (flags, lt, low, is) = omega (arith, ap (λ (xs : List ℕ). length xs) is)

family_sized : IsSized IsFamily 1
family_sized family text is = omega (arith, ap (λ (xs : List ℕ). length xs) is)

addr_sized : (addr : Addr) → IsAddr addr → length (addr_octets addr) ≤ 16
addr_sized (V4 octets) h = omega (arith, h)
addr_sized (V6 octets) h = omega (arith, h)

of_sized : (family : Family) (addr : Addr) → IsOf family addr → length (addr_octets addr) ≤ 16
of_sized family addr h = addr_sized addr (of_family family addr h).1

unicast_sized : IsSized SpellsUnicast 18
unicast_sized addr text (is, octets) = omega (arith, ap (λ (xs : List ℕ). length xs) octets, addr_sized addr is)

source_sized : (family : Family) → IsSized (SpellsSource family) 20
source_sized family source text s = omega (arith, ap (λ (xs : List ℕ). length xs) s.octets, of_sized family source.addr s.addr)

group_address_sized : (family : Family) → IsSized (SpellsGroupAddress family) 20
group_address_sized family addr text s = omega (arith, ap (λ (xs : List ℕ). length xs) s.octets, of_sized family addr s.multicast.0)

sources_sized : (family : Family) (sources : List JpSource) (text : List ℕ) → AreAll (SpellsSource family) sources text
    → length text ≤ 20 * length sources
sources_sized family [] text h = omega (arith, ap (λ (xs : List ℕ). length xs) h)
sources_sized family (s ∷ ss) text (first, others, spells, more, parts) =
    omega (
      arith,
      source_sized family s first spells,
      sources_sized family ss others more,
      ap (λ (xs : List ℕ). length xs) parts,
      length-append first others,
    )

-- ---- groups

group_sized : (family : Family) → IsSized (SpellsGroup family) 2621424
group_sized family group text s =
    let joined = to_be_bytes w16 (length group.joins) in
    let pruned = to_be_bytes w16 (length group.prunes) in
    let sources = s.joins ++ s.prunes in
    let all : length text ≡ length (masked family s.flags group.group) + length (joined ++ (pruned ++ sources)) =
    ap (λ (xs : List ℕ). length xs) s.octets ∙ length-append (masked family s.flags group.group) (joined ++ (pruned ++ sources)) in
    let counts : length (joined ++ (pruned ++ sources)) ≡ length sources + 4 = omega arith in
    omega (
      arith,
      all,
      counts,
      length-append s.joins s.prunes,
      of_sized family group.group s.is.multicast.0,
      sources_sized family group.joins s.joins s.joined,
      sources_sized family group.prunes s.prunes s.pruned,
      s.is.joins.0,
      s.is.prunes.0,
    )

groups_sized : (family : Family) (groups : List Group) (text : List ℕ) → AreAll (SpellsGroup family) groups text
    → length text ≤ 2621424 * length groups
groups_sized family [] text h = omega (arith, ap (λ (xs : List ℕ). length xs) h)
groups_sized family (g ∷ gs) text (first, others, spells, more, parts) =
    omega (
      arith,
      group_sized family g first spells,
      groups_sized family gs others more,
      ap (λ (xs : List ℕ). length xs) parts,
      length-append first others,
    )

fields_sized : IsSized SpellsFields 668463142
fields_sized message text s =
    let thereafter : List ℕ = s.reserved ∷ length message.groups ∷ (to_be_bytes w16 message.holdtime ++ s.groups) in
    let all : length text ≡ length (unicast message.neighbour) + length thereafter =
    ap (λ (xs : List ℕ). length xs) s.octets ∙ length-append (unicast message.neighbour) thereafter in
    let four : length thereafter ≡ length s.groups + 4 = omega arith in
    omega (
      arith,
      all,
      four,
      addr_sized message.neighbour s.is.neighbour,
      groups_sized (family_of message.neighbour) message.groups s.groups s.each,
      s.is.few,
    )

-- ---- first faults

known_close : (value : ℕ) (own : PimFault) → IsClose (KnownFails value own) 1
known_close value own octets left fault h =
    let c = field_close IsOctet (Lacks 1) _ own 0 (lacks_close 1) octets left fault h in
    (c.0, omega (arith, c.1))

-- an octet that has one value alone, and what is after it
after_close : (value : ℕ) (own : PimFault) (G : List ℕ → ℕ → PimFault → Type 0) (m : ℕ) → IsClose G m
    → IsClose (Then (IsKnown value) (KnownFails value own) (λ octet. G)) (1 + m)
after_close value own G m close =
    then_close (IsKnown value) (KnownFails value own) (λ octet. G) 1 m (known_sized value) (known_close value own) (λ x text h. close)

octet_close : (G : ℕ → List ℕ → ℕ → PimFault → Type 0) (m : ℕ) → ((x : ℕ) (text : List ℕ) → IsOctet x text → IsClose (G x) m)
    → IsClose (Then IsOctet (Lacks 1) G) (1 + m)
octet_close G m close =
    then_close IsOctet (Lacks 1) G 1 m octet_sized (λ octets left fault l. let c = lacks_close 1 octets left fault l in (c.0, omega (arith, c.1)))
    close

number_close : (G : ℕ → List ℕ → ℕ → PimFault → Type 0) (m : ℕ) → ((x : ℕ) (text : List ℕ) → IsNumber x text → IsClose (G x) m)
    → IsClose (Then IsNumber (Lacks 2) G) (2 + m)
number_close G m close =
    then_close IsNumber (Lacks 2) G 2 m number_sized (λ octets left fault l. let c = lacks_close 2 octets left fault l in (c.0, omega (arith, c.1)))
    close

family_close : IsClose FamilyFails 1
family_close octets left fault h =
    let c = field_close IsOctet (Lacks 1) _ faults.Family 0 (lacks_close 1) octets left fault h in
    (c.0, omega (arith, c.1))

unicast_close : IsClose UnicastFails 2
unicast_close =
    then_close IsFamily FamilyFails _ 1 1 family_sized family_close
    (λ family text h. after_close 0 faults.Encoding (Lacks (addr_len family)) 0 (lacks_close (addr_len family)))

kind_close : IsClose KindFails 1
kind_close octets left fault h =
    let c = field_close IsOctet (Lacks 1) _ faults.Flags 0 (lacks_close 1) octets left fault h in
    (c.0, omega (arith, c.1))

source_close : (family : Family) → IsClose (SourceFails family) 4
source_close family =
    after_close (family_octet family) faults.Family _ 3 (after_close 0 faults.Encoding _ 2
    (then_close IsKind KindFails _ 1 1 kind_sized kind_close
    (λ kind text h. after_close (mask_len family) faults.MaskLength (Lacks (addr_len family)) 0 (lacks_close (addr_len family)))))

multicast_close : (family : Family) → IsClose (MulticastFails family) 0
multicast_close family = field_close (SpellsAddress family) (Lacks (addr_len family)) _ faults.NotMulticast 0 (lacks_close (addr_len family))

group_address_close : (family : Family) → IsClose (GroupAddressFails family) 4
group_address_close family =
    after_close (family_octet family) faults.Family _ 3
    (after_close 0 faults.Encoding _ 2 (octet_close _ 1
    (λ flags text h. after_close (mask_len family) faults.MaskLength (MulticastFails family) 0 (multicast_close family))))

sources_close : (family : Family) (n : ℕ) → n < 2 ^ 16 → IsClose (SourcesFail family n) 1310704
sources_close family n lt octets left fault h =
    let c = source_close family h.rest left fault h.fails in
    let s = sources_sized family h.before h.text h.stand in
    let len : length octets ≡ length h.text + length h.rest = ap (λ (xs : List ℕ). length xs) h.parts ∙ length-append h.text h.rest in
    (omega (arith, len, c.0), omega (arith, len, c.1, s, h.few, lt))

joins_close : (family : Family) (joined pruned : ℕ) → joined < 2 ^ 16 → pruned < 2 ^ 16
    → IsClose (Then (AreCounted (SpellsSource family) joined) (SourcesFail family joined) (λ joins. SourcesFail family pruned)) 2621408
joins_close family joined pruned lt less =
    then_close (AreCounted (SpellsSource family) joined) (SourcesFail family joined) (λ joins. SourcesFail family pruned) 1310704 1310704
    (λ xs text h. omega (arith, sources_sized family xs text h.each, h.count, lt)) (sources_close family joined lt)
    (λ xs text h. sources_close family pruned less)

group_close : (family : Family) → IsClose (GroupFails family) 2621432
group_close family =
    then_close (SpellsGroupAddress family) (GroupAddressFails family) _ 20 2621412 (group_address_sized family)
    (λ octets left fault h. let c = group_address_close family octets left fault h in (c.0, omega (arith, c.1)))
    (λ group text h. number_close _ 2621410 (λ joined front j. number_close _ 2621408 (λ pruned back p. joins_close family joined pruned j.0 p.0)))

groups_close : (neighbour : Addr) (n : ℕ) → n < 2 ^ 8 → IsClose (GroupsFail neighbour n) 669000000
groups_close neighbour n lt octets left fault h =
    let c = group_close (family_of neighbour) h.rest left fault h.fails in
    let s = groups_sized (family_of neighbour) h.before h.text h.stand in
    let len : length octets ≡ length h.text + length h.rest = ap (λ (xs : List ℕ). length xs) h.parts ∙ length-append h.text h.rest in
    (omega (arith, len, c.0), omega (arith, len, c.1, s, h.few, lt))

fields_close : IsClose FieldsFail 669000022
fields_close =
    then_close SpellsUnicast UnicastFails _ 18 669000004 unicast_sized
    (λ octets left fault h. let c = unicast_close octets left fault h in (c.0, omega (arith, c.1)))
    (λ neighbour text h. octet_close _ 669000003
    (λ reserved t r. octet_close _ 669000002 (λ count u k. number_close _ 669000000 (λ holdtime v d. groups_close neighbour count k.0))))

-- What stands after the checksum has its fault within so many octets.
pub rest_close : IsClose RestFails 669000022
rest_close =
    then_close SpellsFields FieldsFail (λ message. Trails) 669000022 0 (λ message text s. omega (arith, fields_sized message text s)) fields_close
    (λ message text s octets left fault t. (omega (arith, t.at), omega (arith, t.at)))
