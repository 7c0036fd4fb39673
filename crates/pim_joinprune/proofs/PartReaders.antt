-- Addresses, sources, groups, and the fields of a message are read exactly where they stand, and their faults.
use Rattle.std.proofs.Common.{◌≡◌, ℕ, ◌^◌, ◌<◌, List, [], ◌∷◌, ◌++◌, length, refl, sym, ap, subst, ◌∙◌, arith}
use Rattle.std.specs.Int.{w16, to_be_bytes}
use Rattle.std.specs.List.{AllByRecursion}
use Rattle.mv_base.specs.Address.{addr_octets, IsAddr}
use Rattle.mv_base.specs.declared.addr.Addr.{Addr}
use Rattle.mv_base.specs.declared.addr.Addr.TheVariants.{V4, V6}
use Rattle.pim_joinprune.specs.declared.fault.PimFault.{PimFault}
use Rattle.pim_joinprune.specs.declared.fault.PimFault.TheVariants as faults
use Rattle.pim_joinprune.specs.declared.family.Family.{Family}
use Rattle.pim_joinprune.specs.declared.family.Family.TheVariants.{Ipv4, Ipv6}
use Rattle.pim_joinprune.specs.declared.source.SourceKind.{SourceKind}
use Rattle.pim_joinprune.specs.declared.source.JpSource.{JpSource}
use Rattle.pim_joinprune.specs.declared.group.Group.{Group}
use Rattle.pim_joinprune.specs.declared.message.JoinPrune.{JoinPrune}
use Rattle.pim_joinprune.specs.Fields.{Read, all_at, AreAll, AreCounted, IsOctet, IsKnown, IsNumber, Lacks, Then}
use Rattle.pim_joinprune.specs.Reading.{octet_at, known_at, number_at, address_at, family_at, kind_at, multicast_at, unicast_at, source_at, group_address_at, group_at, fields_at}
use Rattle.pim_joinprune.specs.Spelling.{IsSource, IsGroup, IsFamily, SpellsAddress, SpellsMulticast, SpellsUnicast, IsKind, SpellsGroupAddress, SpellsSource, SpellsGroup, SpellsFields, masked, unicast}
use Rattle.pim_joinprune.specs.FirstFault.{KnownFails, FamilyFails, KindFails, MulticastFails, UnicastFails, SourceFails, SourcesFail, GroupAddressFails, GroupFails, GroupsFail, FieldsFail}
use Rattle.pim_joinprune.specs.Families.{family_octet, addr_len, mask_len, family_of, IsOf}
use Rattle.pim_joinprune.proofs.Readers.{IsReader, Both, Made, then_at, then_reader, made_at, made_reader, all_reader, same_reader, said_reader}
use Rattle.pim_joinprune.proofs.FieldReaders.{octet_reader, number_reader, known_reader, family_reader, address_reader, kind_reader, multicast_reader, family_below, mask_below}

-- ---- the family of an address

pub of_family : (family : Family) (addr : Addr) → IsOf family addr → (family ≡ family_of addr) × IsAddr addr
of_family Ipv4 (V4 octets) is = (refl, is)
of_family Ipv6 (V6 octets) is = (refl, is)
of_family Ipv4 (V6 octets) is = absurd is
of_family Ipv6 (V4 octets) is = absurd is

pub own_family : (addr : Addr) → IsAddr addr → IsOf (family_of addr) addr
own_family (V4 octets) is = is
own_family (V6 octets) is = is

-- ---- an octet that has one value alone, and a field after it

record After {A : Type 0} (value : ℕ) (T : A → List ℕ → Type 0) (z : A) (text : List ℕ) : Type 0 where
  pub back : List ℕ
  pub spells : T z back
  pub parts : text ≡ value ∷ back

abbrev after_at : {A : Type 0} → ℕ → PimFault → (List ℕ → Read A) → List ℕ → Read A
after_at value own s = then_at (known_at value own) (λ octet. s)

after_reader : {A : Type 0} (value : ℕ) (own : PimFault) → value < 2 ^ 8
    → (s : List ℕ → Read A) (T : A → List ℕ → Type 0) (G : List ℕ → ℕ → PimFault → Type 0) → IsReader s T G
    → IsReader (after_at value own s) (After value T) (Then (IsKnown value) (KnownFails value own) (λ octet. G))
after_reader {A} value own lt s T G reader =
    said_reader (after_at value own s) (Both (IsKnown value) (λ octet. T)) (After value T) _ there back
    (then_reader (known_at value own) (IsKnown value) (KnownFails value own) (λ octet. s) (λ octet. T) (λ octet. G) (known_reader value own lt)
    (λ octet. reader))
  where
    there : (z : A) (text : List ℕ) → Both (IsKnown value) (λ octet. T) z text → After value T z text
    there z text b = record { back = b.back; spells = b.second; parts = b.parts ∙ ap (λ (t : List ℕ). t ++ b.back) b.first.1 }

    back : (z : A) (text : List ℕ) → After value T z text → Both (IsKnown value) (λ octet. T) z text
    back z text a = record { x = value; front = value ∷ []; back = a.back; first = (refl, refl); second = a.spells; parts = a.parts }

-- ---- the family of the message and encoding, and a field after them

abbrev encoded_at : {A : Type 0} → Family → (List ℕ → Read A) → List ℕ → Read A
encoded_at family s = after_at (family_octet family) faults.Family (after_at 0 faults.Encoding s)

abbrev Encoded : {A : Type 0} → Family → (A → List ℕ → Type 0) → A → List ℕ → Type 0
Encoded family T = After (family_octet family) (After 0 T)

abbrev EncodedFails : Family → (List ℕ → ℕ → PimFault → Type 0) → List ℕ → ℕ → PimFault → Type 0
EncodedFails family G =
    Then (IsKnown (family_octet family)) (KnownFails (family_octet family) faults.Family)
    (λ same. Then (IsKnown 0) (KnownFails 0 faults.Encoding) (λ encoding. G))

encoded_reader : {A : Type 0} (family : Family) (s : List ℕ → Read A) (T : A → List ℕ → Type 0) (G : List ℕ → ℕ → PimFault → Type 0) → IsReader s T G
    → IsReader (encoded_at family s) (Encoded family T) (EncodedFails family G)
encoded_reader family s T G reader =
    after_reader (family_octet family) faults.Family (family_below family) (after_at 0 faults.Encoding s) (After 0 T) _
    (after_reader 0 faults.Encoding (omega arith) s T G reader)

-- ---- a unicast address

abbrev unicast_after : Family → List ℕ → Read Addr
unicast_after family = after_at 0 faults.Encoding (address_at family)

abbrev UnicastText : Addr → List ℕ → Type 0
UnicastText = Both IsFamily (λ family. After 0 (SpellsAddress family))

unicast_same : (octets : List ℕ) → unicast_at octets ≡ then_at family_at unicast_after octets
unfolding unicast_at
unicast_same octets = refl

unicast_there : (addr : Addr) (text : List ℕ) → UnicastText addr text → SpellsUnicast addr text
unicast_there addr text a =
    let b = a.second in
    let is = of_family a.x addr b.spells.0 in
    let whole : text ≡ family_octet a.x ∷ 0 ∷ addr_octets addr =
    a.parts ∙ ap (λ (t : List ℕ). t ++ a.back) a.first
    ∙ ap (λ (t : List ℕ). family_octet a.x ∷ t) (b.parts ∙ ap (λ (t : List ℕ). 0 ∷ t) b.spells.1) in
    (is.1, whole ∙ ap (λ (f : Family). family_octet f ∷ 0 ∷ addr_octets addr) is.0)

unicast_back : (addr : Addr) (text : List ℕ) → SpellsUnicast addr text → UnicastText addr text
unicast_back addr text s =
    let octets = addr_octets addr in
    let family = family_of addr in
    record {
      x = family;
      front = family_octet family ∷ [];
      back = 0 ∷ octets;
      first = refl;
      second = record { back = octets; spells = (own_family addr s.0, refl); parts = refl };
      parts = s.1;
    }

pub unicast_reader : IsReader unicast_at SpellsUnicast UnicastFails
unicast_reader =
    said_reader unicast_at UnicastText SpellsUnicast UnicastFails unicast_there unicast_back
    (same_reader (then_at family_at unicast_after) unicast_at _ _ unicast_same
    (then_reader family_at IsFamily FamilyFails unicast_after (λ family. After 0 (SpellsAddress family))
    (λ family. Then (IsKnown 0) (KnownFails 0 faults.Encoding) (λ encoding. Lacks (addr_len family))) family_reader
    (λ family. after_reader 0 faults.Encoding (omega arith) (address_at family) (SpellsAddress family) (Lacks (addr_len family))
    (address_reader family))))

-- ---- a source

abbrev source_of : SourceKind → Addr → JpSource
source_of kind addr = record { kind = kind; addr = addr }

abbrev masked_source_at : Family → SourceKind → List ℕ → Read JpSource
masked_source_at family kind = after_at (mask_len family) faults.MaskLength (made_at (address_at family) (source_of kind))

abbrev MaskedSource : Family → SourceKind → JpSource → List ℕ → Type 0
MaskedSource family kind = After (mask_len family) (Made (source_of kind) (SpellsAddress family))

abbrev MaskedSourceFails : Family → List ℕ → ℕ → PimFault → Type 0
MaskedSourceFails family = Then (IsKnown (mask_len family)) (KnownFails (mask_len family) faults.MaskLength) (λ mask. Lacks (addr_len family))

abbrev SourceText : Family → JpSource → List ℕ → Type 0
SourceText family = Encoded family (Both IsKind (MaskedSource family))

abbrev source_fields : Family → List ℕ → Read JpSource
source_fields family = then_at kind_at (masked_source_at family)

source_same : (family : Family) (octets : List ℕ) → source_at family octets ≡ encoded_at family (source_fields family) octets
unfolding source_at
source_same family octets = refl

source_there : (family : Family) (source : JpSource) (text : List ℕ) → SourceText family source text → SpellsSource family source text
source_there family source text a =
    let b = a.spells in
    let c = b.spells in
    let (flags, lt, low, front) = c.first in
    let d = c.second in
    let m = d.spells in
    let whole : text ≡ masked family flags m.x =
    a.parts ∙ ap (λ (t : List ℕ). family_octet family ∷ t)
    (b.parts ∙ ap (λ (t : List ℕ). 0 ∷ t) (c.parts ∙ ap (λ (t : List ℕ). t ++ c.back) front
    ∙ ap (λ (t : List ℕ). flags ∷ t) (d.parts ∙ ap (λ (t : List ℕ). mask_len family ∷ t) m.spells.1))) in
    subst (λ (s : JpSource). SpellsSource family s text) (sym m.is)
    (record { flags = flags; octet = lt; kind = low; addr = m.spells.0; octets = whole })

source_back : (family : Family) (source : JpSource) (text : List ℕ) → SpellsSource family source text → SourceText family source text
source_back family source text s =
    let octets = addr_octets source.addr in
    let mask = mask_len family in
    let address : MaskedSource family source.kind source (mask ∷ octets) =
    record { back = octets; spells = record { x = source.addr; is = refl; spells = (s.addr, refl) }; parts = refl } in
    let thereafter : Both IsKind (MaskedSource family) source (s.flags ∷ mask ∷ octets) =
    record {
      x = source.kind;
      front = s.flags ∷ [];
      back = mask ∷ octets;
      first = (s.flags, s.octet, s.kind, refl);
      second = address;
      parts =
          refl;
    } in
    record { back = 0 ∷ s.flags ∷ mask ∷ octets; spells = record { back = s.flags ∷ mask ∷ octets; spells = thereafter; parts = refl }; parts = s.octets }

pub source_reader : (family : Family) → IsReader (source_at family) (SpellsSource family) (SourceFails family)
source_reader family =
    said_reader (source_at family) (SourceText family) (SpellsSource family) (SourceFails family) (source_there family) (source_back family)
    (same_reader (encoded_at family (source_fields family)) (source_at family) _ _ (source_same family)
    (encoded_reader family (source_fields family) (Both IsKind (MaskedSource family)) _
    (then_reader kind_at IsKind KindFails (masked_source_at family) (MaskedSource family) (λ kind. MaskedSourceFails family) kind_reader
    (λ kind. after_reader (mask_len family) faults.MaskLength (mask_below family) (made_at (address_at family) (source_of kind))
    (Made (source_of kind) (SpellsAddress family)) (Lacks (addr_len family))
    (made_reader (address_at family) (SpellsAddress family) (Lacks (addr_len family)) (source_of kind) (address_reader family))))))

-- ---- the address of a group

abbrev masked_group_at : Family → ℕ → List ℕ → Read Addr
masked_group_at family flags = after_at (mask_len family) faults.MaskLength (multicast_at family)

abbrev MaskedGroup : Family → ℕ → Addr → List ℕ → Type 0
MaskedGroup family flags = After (mask_len family) (SpellsMulticast family)

abbrev MaskedGroupFails : Family → List ℕ → ℕ → PimFault → Type 0
MaskedGroupFails family = Then (IsKnown (mask_len family)) (KnownFails (mask_len family) faults.MaskLength) (λ mask. MulticastFails family)

abbrev GroupAddressText : Family → Addr → List ℕ → Type 0
GroupAddressText family = Encoded family (Both IsOctet (MaskedGroup family))

abbrev group_address_fields : Family → List ℕ → Read Addr
group_address_fields family = then_at octet_at (masked_group_at family)

group_address_same : (family : Family) (octets : List ℕ) → group_address_at family octets ≡ encoded_at family (group_address_fields family) octets
unfolding group_address_at
group_address_same family octets = refl

group_address_there : (family : Family) (addr : Addr) (text : List ℕ) → GroupAddressText family addr text → SpellsGroupAddress family addr text
group_address_there family addr text a =
    let b = a.spells in
    let c = b.spells in
    let d = c.second in
    let m = d.spells in
    let whole : text ≡ masked family c.x addr =
    a.parts ∙ ap (λ (t : List ℕ). family_octet family ∷ t)
    (b.parts ∙ ap (λ (t : List ℕ). 0 ∷ t) (c.parts ∙ ap (λ (t : List ℕ). t ++ c.back) c.first.1
    ∙ ap (λ (t : List ℕ). c.x ∷ t) (d.parts ∙ ap (λ (t : List ℕ). mask_len family ∷ t) m.octets))) in
    record { flags = c.x; octet = c.first.0; multicast = m.multicast; octets = whole }

group_address_back : (family : Family) (addr : Addr) (text : List ℕ) → SpellsGroupAddress family addr text → GroupAddressText family addr text
group_address_back family addr text s =
    let octets = addr_octets addr in
    let mask = mask_len family in
    let address : MaskedGroup family s.flags addr (mask ∷ octets) =
    record { back = octets; spells = record { multicast = s.multicast; octets = refl }; parts = refl } in
    let thereafter : Both IsOctet (MaskedGroup family) addr (s.flags ∷ mask ∷ octets) =
    record { x = s.flags; front = s.flags ∷ []; back = mask ∷ octets; first = (s.octet, refl); second = address; parts = refl } in
    record { back = 0 ∷ s.flags ∷ mask ∷ octets; spells = record { back = s.flags ∷ mask ∷ octets; spells = thereafter; parts = refl }; parts = s.octets }

pub group_address_reader : (family : Family) → IsReader (group_address_at family) (SpellsGroupAddress family) (GroupAddressFails family)
group_address_reader family =
    said_reader (group_address_at family) (GroupAddressText family) (SpellsGroupAddress family) (GroupAddressFails family)
    (group_address_there family) (group_address_back family)
    (same_reader (encoded_at family (group_address_fields family)) (group_address_at family) _ _ (group_address_same family)
    (encoded_reader family (group_address_fields family) (Both IsOctet (MaskedGroup family)) _
    (then_reader octet_at IsOctet (Lacks 1) (masked_group_at family) (MaskedGroup family) (λ flags. MaskedGroupFails family) octet_reader
    (λ flags. after_reader (mask_len family) faults.MaskLength (mask_below family) (multicast_at family) (SpellsMulticast family)
    (MulticastFails family) (multicast_reader family)))))

-- ---- a group

abbrev group_of : Addr → List JpSource → List JpSource → Group
group_of group joins prunes = record { group = group; joins = joins; prunes = prunes }

abbrev group_prunes : Family → Addr → ℕ → List JpSource → List ℕ → Read Group
group_prunes family group pruned joins = made_at (all_at (source_at family) pruned) (group_of group joins)

abbrev PrunesText : Family → Addr → ℕ → List JpSource → Group → List ℕ → Type 0
PrunesText family group pruned joins = Made (group_of group joins) (AreCounted (SpellsSource family) pruned)

abbrev group_joins : Family → Addr → ℕ → ℕ → List ℕ → Read Group
group_joins family group joined pruned = then_at (all_at (source_at family) joined) (group_prunes family group pruned)

abbrev JoinsText : Family → Addr → ℕ → ℕ → Group → List ℕ → Type 0
JoinsText family group joined pruned = Both (AreCounted (SpellsSource family) joined) (PrunesText family group pruned)

abbrev group_counts : Family → Addr → List ℕ → Read Group
group_counts family group = then_at number_at (λ joined. then_at number_at (λ pruned. group_joins family group joined pruned))

abbrev CountsText : Family → Addr → Group → List ℕ → Type 0
CountsText family group = Both IsNumber (λ joined. Both IsNumber (λ pruned. JoinsText family group joined pruned))

abbrev GroupText : Family → Group → List ℕ → Type 0
GroupText family = Both (SpellsGroupAddress family) (CountsText family)

abbrev JoinsFail : Family → ℕ → ℕ → List ℕ → ℕ → PimFault → Type 0
JoinsFail family joined pruned = Then (AreCounted (SpellsSource family) joined) (SourcesFail family joined) (λ joins. SourcesFail family pruned)

group_same : (family : Family) (octets : List ℕ) → group_at family octets ≡ then_at (group_address_at family) (group_counts family) octets
unfolding group_at
group_same family octets = refl

pub each_source : (family : Family) (sources : List JpSource) (text : List ℕ) → AreAll (SpellsSource family) sources text
    → AllByRecursion (IsSource family) sources
each_source family [] text h = tt
each_source family (s ∷ ss) text (first, others, spells, more, parts) = (spells.addr, each_source family ss others more)

sources_reader : (family : Family) (n : ℕ) → IsReader (all_at (source_at family) n) (AreCounted (SpellsSource family) n) (SourcesFail family n)
sources_reader family n = all_reader (source_at family) (SpellsSource family) (SourceFails family) (source_reader family) n

joins_reader : (family : Family) (group : Addr) (joined pruned : ℕ)
    → IsReader (group_joins family group joined pruned) (JoinsText family group joined pruned) (JoinsFail family joined pruned)
joins_reader family group joined pruned =
    then_reader (all_at (source_at family) joined) (AreCounted (SpellsSource family) joined) (SourcesFail family joined)
    (group_prunes family group pruned) (PrunesText family group pruned) (λ joins. SourcesFail family pruned) (sources_reader family joined)
    (λ joins. made_reader (all_at (source_at family) pruned) (AreCounted (SpellsSource family) pruned) (SourcesFail family pruned)
    (group_of group joins) (sources_reader family pruned))

counts_reader : (family : Family) (group : Addr)
    → IsReader (group_counts family group) (CountsText family group)
    (Then IsNumber (Lacks 2) (λ joined. Then IsNumber (Lacks 2) (λ pruned. JoinsFail family joined pruned)))
counts_reader family group =
    then_reader number_at IsNumber (Lacks 2) (λ joined. then_at number_at (λ pruned. group_joins family group joined pruned))
    (λ joined. Both IsNumber (λ pruned. JoinsText family group joined pruned))
    (λ joined. Then IsNumber (Lacks 2) (λ pruned. JoinsFail family joined pruned)) number_reader
    (λ joined. then_reader number_at IsNumber (Lacks 2) (λ pruned. group_joins family group joined pruned)
    (λ pruned. JoinsText family group joined pruned) (λ pruned. JoinsFail family joined pruned) number_reader
    (λ pruned. joins_reader family group joined pruned))

group_there : (family : Family) (group : Group) (text : List ℕ) → GroupText family group text → SpellsGroup family group text
group_there family group text a =
    let s = a.first in
    let b = a.second in
    let c = b.second in
    let d = c.second in
    let m = d.second in
    let joined : to_be_bytes w16 b.x ≡ to_be_bytes w16 (length d.x) = ap (to_be_bytes w16) (sym d.first.count) in
    let pruned : to_be_bytes w16 c.x ≡ to_be_bytes w16 (length m.x) = ap (to_be_bytes w16) (sym m.spells.count) in
    let inner : c.back ≡ d.front ++ d.back = d.parts in
    let counts : a.back ≡ to_be_bytes w16 (length d.x) ++ (to_be_bytes w16 (length m.x) ++ (d.front ++ d.back)) =
    b.parts ∙ ap (λ (t : List ℕ). t ++ b.back) (b.first.1 ∙ joined)
    ∙ ap (λ (t : List ℕ). to_be_bytes w16 (length d.x) ++ t)
    (c.parts ∙ ap (λ (t : List ℕ). t ++ c.back) (c.first.1 ∙ pruned) ∙ ap (λ (t : List ℕ). to_be_bytes w16 (length m.x) ++ t) inner) in
    let whole : text ≡ masked family s.flags a.x ++ (to_be_bytes w16 (length d.x) ++ (to_be_bytes w16 (length m.x) ++ (d.front ++ d.back))) =
    a.parts ∙ ap (λ (t : List ℕ). t ++ a.back) s.octets ∙ ap (λ (t : List ℕ). masked family s.flags a.x ++ t) counts in
    let is : IsGroup family (group_of a.x d.x m.x) = record {
      multicast = s.multicast;
      joins = (omega (arith, d.first.count, b.first.0), each_source family d.x d.front d.first.each);
      prunes = (omega (arith, m.spells.count, c.first.0), each_source family m.x d.back m.spells.each);
    } in
    subst (λ (g : Group). SpellsGroup family g text) (sym m.is)
    (record {
      flags = s.flags;
      octet = s.octet;
      is = is;
      joins = d.front;
      prunes = d.back;
      joined = d.first.each;
      pruned = m.spells.each;
      octets =
          whole;
    })

group_back : (family : Family) (group : Group) (text : List ℕ) → SpellsGroup family group text → GroupText family group text
group_back family group text s =
    let joined = to_be_bytes w16 (length group.joins) in
    let pruned = to_be_bytes w16 (length group.prunes) in
    let sources : JoinsText family group.group (length group.joins) (length group.prunes) group (s.joins ++ s.prunes) = record {
      x = group.joins;
      front = s.joins;
      back = s.prunes;
      first = record { count = refl; each = s.joined };
      second = record { x = group.prunes; is = refl; spells = record { count = refl; each = s.pruned } };
      parts = refl;
    } in
    let counts : CountsText family group.group group (joined ++ (pruned ++ (s.joins ++ s.prunes))) = record {
      x = length group.joins;
      front = joined;
      back = pruned ++ (s.joins ++ s.prunes);
      first = (s.is.joins.0, refl);
      second = record {
        x = length group.prunes;
        front = pruned;
        back = s.joins ++ s.prunes;
        first = (s.is.prunes.0, refl);
        second = sources;
        parts =
            refl;
      };
      parts = refl;
    } in
    record {
      x = group.group;
      front = masked family s.flags group.group;
      back = joined ++ (pruned ++ (s.joins ++ s.prunes));
      first = record { flags = s.flags; octet = s.octet; multicast = s.is.multicast; octets = refl };
      second = counts;
      parts = s.octets;
    }

pub group_reader : (family : Family) → IsReader (group_at family) (SpellsGroup family) (GroupFails family)
group_reader family =
    said_reader (group_at family) (GroupText family) (SpellsGroup family) (GroupFails family) (group_there family) (group_back family)
    (same_reader (then_at (group_address_at family) (group_counts family)) (group_at family) _ _ (group_same family)
    (then_reader (group_address_at family) (SpellsGroupAddress family) (GroupAddressFails family) (group_counts family) (CountsText family)
    (λ group. Then IsNumber (Lacks 2) (λ joined. Then IsNumber (Lacks 2) (λ pruned. JoinsFail family joined pruned)))
    (group_address_reader family) (counts_reader family)))

-- ---- the fields of a message

abbrev message_made : Addr → ℕ → List Group → JoinPrune
message_made neighbour holdtime groups = record { neighbour = neighbour; holdtime = holdtime; groups = groups }

abbrev groups_fields : Addr → ℕ → ℕ → List ℕ → Read JoinPrune
groups_fields neighbour count holdtime = made_at (all_at (group_at (family_of neighbour)) count) (message_made neighbour holdtime)

abbrev GroupsText : Addr → ℕ → ℕ → JoinPrune → List ℕ → Type 0
GroupsText neighbour count holdtime = Made (message_made neighbour holdtime) (AreCounted (SpellsGroup (family_of neighbour)) count)

abbrev after_neighbour : Addr → List ℕ → Read JoinPrune
after_neighbour neighbour =
    then_at octet_at (λ reserved. then_at octet_at (λ count. then_at number_at (λ holdtime. groups_fields neighbour count holdtime)))

abbrev BehindNeighbour : Addr → JoinPrune → List ℕ → Type 0
BehindNeighbour neighbour = Both IsOctet (λ reserved. Both IsOctet (λ count. Both IsNumber (λ holdtime. GroupsText neighbour count holdtime)))

fields_same : (octets : List ℕ) → fields_at octets ≡ then_at unicast_at after_neighbour octets
unfolding fields_at
fields_same octets = refl

pub each_group : (family : Family) (groups : List Group) (text : List ℕ) → AreAll (SpellsGroup family) groups text
    → AllByRecursion (IsGroup family) groups
each_group family [] text h = tt
each_group family (g ∷ gs) text (first, others, spells, more, parts) = (spells.is, each_group family gs others more)

thereafter_reader : (neighbour : Addr) → IsReader (after_neighbour neighbour) (BehindNeighbour neighbour)
    (Then IsOctet (Lacks 1) (λ reserved. Then IsOctet (Lacks 1) (λ count. Then IsNumber (Lacks 2) (λ holdtime. GroupsFail neighbour count))))
thereafter_reader neighbour =
    then_reader octet_at IsOctet (Lacks 1) (λ reserved. then_at octet_at
    (λ count. then_at number_at (λ holdtime. groups_fields neighbour count holdtime)))
    (λ reserved. Both IsOctet (λ count. Both IsNumber (λ holdtime. GroupsText neighbour count holdtime)))
    (λ reserved. Then IsOctet (Lacks 1) (λ count. Then IsNumber (Lacks 2) (λ holdtime. GroupsFail neighbour count))) octet_reader (λ reserved.
    then_reader octet_at IsOctet (Lacks 1) (λ count. then_at number_at (λ holdtime. groups_fields neighbour count holdtime))
    (λ count. Both IsNumber (λ holdtime. GroupsText neighbour count holdtime))
    (λ count. Then IsNumber (Lacks 2) (λ holdtime. GroupsFail neighbour count)) octet_reader (λ count.
    then_reader number_at IsNumber (Lacks 2) (λ holdtime. groups_fields neighbour count holdtime) (λ holdtime. GroupsText neighbour count holdtime)
    (λ holdtime. GroupsFail neighbour count) number_reader (λ holdtime.
    made_reader (all_at (group_at (family_of neighbour)) count) (AreCounted (SpellsGroup (family_of neighbour)) count) (GroupsFail neighbour count)
    (message_made neighbour holdtime) (all_reader (group_at (family_of neighbour)) (SpellsGroup (family_of neighbour))
    (GroupFails (family_of neighbour)) (group_reader (family_of neighbour)) count))))

fields_there : (message : JoinPrune) (text : List ℕ) → Both SpellsUnicast BehindNeighbour message text → SpellsFields message text
fields_there message text a =
    let b = a.second in
    let c = b.second in
    let d = c.second in
    let m = d.second in
    let holdtime : c.back ≡ to_be_bytes w16 d.x ++ d.back = d.parts ∙ ap (λ (t : List ℕ). t ++ d.back) d.first.1 in
    let count : b.back ≡ length m.x ∷ (to_be_bytes w16 d.x ++ d.back) =
    c.parts ∙ ap (λ (t : List ℕ). t ++ c.back) (c.first.1 ∙ ap (λ (n : ℕ). n ∷ []) (sym m.spells.count))
    ∙ ap (λ (t : List ℕ). length m.x ∷ t) holdtime in
    let reserved : a.back ≡ b.x ∷ length m.x ∷ (to_be_bytes w16 d.x ++ d.back) =
    b.parts ∙ ap (λ (t : List ℕ). t ++ b.back) b.first.1 ∙ ap (λ (t : List ℕ). b.x ∷ t) count in
    let whole : text ≡ unicast a.x ++ (b.x ∷ length m.x ∷ (to_be_bytes w16 d.x ++ d.back)) =
    a.parts ∙ ap (λ (t : List ℕ). t ++ a.back) a.first.1 ∙ ap (λ (t : List ℕ). unicast a.x ++ t) reserved in
    subst (λ (j : JoinPrune). SpellsFields j text) (sym m.is) (record {
      is = record {
        neighbour = a.first.0;
        holdtime = d.first.0;
        few = omega (arith, m.spells.count, c.first.0);
        groups =
            each_group (family_of a.x) m.x d.back m.spells.each;
      };
      reserved = b.x;
      octet = b.first.0;
      groups = d.back;
      each = m.spells.each;
      octets = whole;
    })

fields_back : (message : JoinPrune) (text : List ℕ) → SpellsFields message text → Both SpellsUnicast BehindNeighbour message text
fields_back message text s =
    let n = length message.groups in
    let holdtime = to_be_bytes w16 message.holdtime in
    let groups : Both IsNumber (λ h. GroupsText message.neighbour n h) message (holdtime ++ s.groups) = record {
      x = message.holdtime;
      front = holdtime;
      back = s.groups;
      first = (s.is.holdtime, refl);
      second = record { x = message.groups; is = refl; spells = record { count = refl; each = s.each } };
      parts = refl;
    } in
    let thereafter : BehindNeighbour message.neighbour message (s.reserved ∷ n ∷ (holdtime ++ s.groups)) = record {
      x = s.reserved;
      front = s.reserved ∷ [];
      back = n ∷ (holdtime ++ s.groups);
      first = (s.octet, refl);
      second = record { x = n; front = n ∷ []; back = holdtime ++ s.groups; first = (s.is.few, refl); second = groups; parts = refl };
      parts = refl;
    } in
    record {
      x = message.neighbour;
      front = unicast message.neighbour;
      back = s.reserved ∷ n ∷ (holdtime ++ s.groups);
      first =
          (s.is.neighbour, refl);
      second = thereafter;
      parts = s.octets;
    }

pub fields_reader : IsReader fields_at SpellsFields FieldsFail
fields_reader =
    said_reader fields_at (Both SpellsUnicast BehindNeighbour) SpellsFields FieldsFail fields_there fields_back
    (same_reader (then_at unicast_at after_neighbour) fields_at _ _ fields_same
    (then_reader unicast_at SpellsUnicast UnicastFails after_neighbour BehindNeighbour
    (λ neighbour. Then IsOctet (Lacks 1) (λ reserved. Then IsOctet (Lacks 1)
    (λ count. Then IsNumber (Lacks 2) (λ holdtime. GroupsFail neighbour count)))) unicast_reader thereafter_reader))
