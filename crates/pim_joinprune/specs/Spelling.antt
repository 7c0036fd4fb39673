-- Join/Prune messages of IPv4 and IPv6 (RFC 7761 sections 4.9, 4.9.1 and 4.9.5), and what spells each: some octets and
-- bits may be anything.
use Rattle.std.specs.Prelude.{◌≡◌, ℕ, ◌+◌, ◌%◌, ◌<◌, ◌≤◌, ◌^◌, List, [], ◌∷◌, ◌++◌, length, slice_index}
use Rattle.std.specs.Int.{w16, to_be_bytes}
use Rattle.std.specs.List.{flat_map, AllByRecursion}
use Rattle.mv_base.specs.Address.{addr_octets, IsAddr}
use Rattle.mv_base.specs.declared.addr.Addr.{Addr}
use Rattle.mv_base.specs.declared.addr.Addr.TheVariants.{V4, V6}
use Rattle.pim_joinprune.specs.declared.family.Family.{Family}
use Rattle.pim_joinprune.specs.declared.source.SourceKind.{SourceKind}
use Rattle.pim_joinprune.specs.declared.source.SourceKind.TheVariants as kinds
use Rattle.pim_joinprune.specs.declared.source.JpSource.{JpSource}
use Rattle.pim_joinprune.specs.declared.group.Group.{Group}
use Rattle.pim_joinprune.specs.declared.message.JoinPrune.{JoinPrune}
use Rattle.pim_joinprune.specs.Fields.{AreAll}
use Rattle.pim_joinprune.specs.Families.{family_octet, mask_len, family_of, IsOf}
use Rattle.pim_joinprune.specs.Checksums.{sum_of}

-- ---- which values have a spelling

-- the first octet of a multicast address (RFC 1112 section 4; RFC 4291 section 2.7)
abbrev pub BeginsMulticast : Addr → Type 0
BeginsMulticast (V4 octets) = (224 ≤ slice_index octets 0) × (slice_index octets 0 ≤ 239)
BeginsMulticast (V6 octets) = slice_index octets 0 ≡ 0xFF

abbrev pub IsMulticast : Family → Addr → Type 0
IsMulticast family addr = IsOf family addr × BeginsMulticast addr

abbrev pub IsSource : Family → JpSource → Type 0
IsSource family source = IsOf family source.addr

abbrev pub AreSources : Family → List JpSource → Type 0
AreSources family sources = (length sources < 2 ^ 16) × AllByRecursion (IsSource family) sources

pub record IsGroup (family : Family) (group : Group) : Type 0 where
  pub multicast : IsMulticast family group.group
  pub joins : AreSources family group.joins
  pub prunes : AreSources family group.prunes

-- all addresses are of the family of the neighbour's
pub record IsJoinPrune (message : JoinPrune) : Type 0 where
  pub neighbour : IsAddr message.neighbour
  pub holdtime : message.holdtime < 2 ^ 16
  pub few : length message.groups < 2 ^ 8
  pub groups : AllByRecursion (IsGroup (family_of message.neighbour)) message.groups

-- ---- what spells them

-- the octet that names a family
abbrev pub IsFamily : Family → List ℕ → Type 0
IsFamily family text = text ≡ family_octet family ∷ []

abbrev pub SpellsAddress : Family → Addr → List ℕ → Type 0
SpellsAddress family addr text = IsOf family addr × (text ≡ addr_octets addr)

-- family and the native encoding, in front of the address (RFC 7761 section 4.9.1)
abbrev pub unicast : Addr → List ℕ
unicast addr = family_octet (family_of addr) ∷ 0 ∷ addr_octets addr

abbrev pub SpellsUnicast : Addr → List ℕ → Type 0
SpellsUnicast addr text = IsAddr addr × (text ≡ unicast addr)

-- the same with flags and the mask length of a whole address (RFC 7761 section 4.9.1)
abbrev pub masked : Family → ℕ → Addr → List ℕ
masked family flags addr = family_octet family ∷ 0 ∷ flags ∷ mask_len family ∷ addr_octets addr

-- the flags W and R, the low two bits (RFC 7761 section 4.9.1)
abbrev pub low_flags : SourceKind → ℕ
low_flags kinds.Sg = 0
low_flags kinds.Rpt = 1
low_flags kinds.Star = 3

-- the flags of a source, of which the others may be anything
abbrev pub IsKind : SourceKind → List ℕ → Type 0
IsKind kind text = (flags : ℕ) × (flags < 2 ^ 8) × (flags % 4 ≡ low_flags kind) × (text ≡ flags ∷ [])

pub record SpellsMulticast (family : Family) (addr : Addr) (text : List ℕ) : Type 0 where
  pub multicast : IsMulticast family addr
  pub octets : text ≡ addr_octets addr

-- the flags may be anything
pub record SpellsGroupAddress (family : Family) (addr : Addr) (text : List ℕ) : Type 0 where
  pub flags : ℕ
  pub octet : flags < 2 ^ 8
  pub multicast : IsMulticast family addr
  pub octets : text ≡ masked family flags addr

-- the other flags may be anything
pub record SpellsSource (family : Family) (source : JpSource) (text : List ℕ) : Type 0 where
  pub flags : ℕ
  pub octet : flags < 2 ^ 8
  pub kind : flags % 4 ≡ low_flags source.kind
  pub addr : IsOf family source.addr
  pub octets : text ≡ masked family flags source.addr

-- the flags may be anything
pub record SpellsGroup (family : Family) (group : Group) (text : List ℕ) : Type 0 where
  pub flags : ℕ
  pub octet : flags < 2 ^ 8
  pub is : IsGroup family group
  pub joins : List ℕ
  pub prunes : List ℕ
  pub joined : AreAll (SpellsSource family) group.joins joins
  pub pruned : AreAll (SpellsSource family) group.prunes prunes
  pub octets : text ≡
      masked family flags group.group
      ++ (to_be_bytes w16 (length group.joins) ++ (to_be_bytes w16 (length group.prunes) ++ (joins ++ prunes)))

-- neighbour, an octet that may be anything, number of groups, holdtime, and the groups
pub record SpellsFields (message : JoinPrune) (text : List ℕ) : Type 0 where
  pub is : IsJoinPrune message
  pub reserved : ℕ
  pub octet : reserved < 2 ^ 8
  pub groups : List ℕ
  pub each : AreAll (SpellsGroup (family_of message.neighbour)) message.groups groups
  pub octets : text ≡ unicast message.neighbour ++ (reserved ∷ length message.groups ∷ (to_be_bytes w16 message.holdtime ++ groups))

-- Version 2 and type 3, an octet that may be anything, the checksum, and the fields (RFC 7761 section 4.9).
pub record Spells (message : JoinPrune) (text : List ℕ) : Type 0 where
  pub reserved : ℕ
  pub octet : reserved < 2 ^ 8
  pub fields : List ℕ
  pub spelled : SpellsFields message fields
  pub octets : text ≡ 0x23 ∷ reserved ∷ (to_be_bytes w16 (sum_of 0x23 reserved fields) ++ fields)

-- ---- what is written

-- the flag S, and W and R by the kind
abbrev pub flags_of : SourceKind → ℕ
flags_of kind = 4 + low_flags kind

abbrev pub source_text : Family → JpSource → List ℕ
source_text family source = masked family (flags_of source.kind) source.addr

abbrev pub sources_text : Family → List JpSource → List ℕ
sources_text family sources = flat_map (source_text family) sources

abbrev pub group_text : Family → Group → List ℕ
group_text family group =
    masked family 0 group.group ++ (to_be_bytes w16 (length group.joins) ++ (to_be_bytes w16 (length group.prunes)
    ++ (sources_text family group.joins ++ sources_text family group.prunes)))

abbrev pub fields_text : JoinPrune → List ℕ
fields_text message =
    unicast message.neighbour ++ (0 ∷ length message.groups ∷ (to_be_bytes w16 message.holdtime
    ++ flat_map (group_text (family_of message.neighbour)) message.groups))

abbrev pub written : JoinPrune → List ℕ
written message = 0x23 ∷ 0 ∷ (to_be_bytes w16 (sum_of 0x23 0 (fields_text message)) ++ fields_text message)
