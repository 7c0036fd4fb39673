-- The first fault of octets: whole fields that meet their conditions stand before its place, and the next one fails.
use Rattle.std.specs.Prelude.{◌≡◌, ◌≢◌, ℕ, ◌+◌, ◌/◌, ◌%◌, ◌<◌, ◌≤◌, List, ◌∷◌, ◌++◌, length}
use Rattle.std.specs.Int.{w16, to_be_bytes}
use Rattle.mv_base.specs.declared.addr.Addr.{Addr}
use Rattle.pim_joinprune.specs.declared.family.Family.{Family}
use Rattle.pim_joinprune.specs.declared.fault.PimFault.{PimFault}
use Rattle.pim_joinprune.specs.declared.fault.PimFault.TheVariants as reasons
use Rattle.pim_joinprune.specs.Fields.{IsOctet, IsKnown, IsNumber, AreCounted, Lacks, FieldFails, Then, AllFail}
use Rattle.pim_joinprune.specs.Families.{family_octet, addr_len, mask_len, family_of}
use Rattle.pim_joinprune.specs.Checksums.{sum_of}
use Rattle.pim_joinprune.specs.Spelling.{BeginsMulticast, IsFamily, SpellsAddress, SpellsUnicast, IsKind}
use Rattle.pim_joinprune.specs.Spelling.{SpellsGroupAddress, SpellsSource, SpellsGroup, SpellsFields}

-- an octet that has one value alone
abbrev pub KnownFails : ℕ → PimFault → List ℕ → ℕ → PimFault → Type 0
KnownFails value own = FieldFails IsOctet (Lacks 1) (λ octet. octet ≢ value) own

-- the octet that names the family of the message
abbrev pub FamilyFails : List ℕ → ℕ → PimFault → Type 0
FamilyFails = FieldFails IsOctet (Lacks 1) (λ octet. (octet ≢ 1) × (octet ≢ 2)) reasons.Family

-- family and encoding, and after them an address
abbrev pub UnicastFails : List ℕ → ℕ → PimFault → Type 0
UnicastFails =
    Then IsFamily FamilyFails (λ family.
    Then (IsKnown 0) (KnownFails 0 reasons.Encoding) (λ encoding. Lacks (addr_len family)))

-- the flag W without the flag R
abbrev pub KindFails : List ℕ → ℕ → PimFault → Type 0
KindFails = FieldFails IsOctet (Lacks 1) (λ flags. flags % 4 ≡ 2) reasons.Flags

-- the family of the message, encoding, flags, mask length, and address
abbrev pub SourceFails : Family → List ℕ → ℕ → PimFault → Type 0
SourceFails family =
    Then (IsKnown (family_octet family)) (KnownFails (family_octet family) reasons.Family) (λ same.
    Then (IsKnown 0) (KnownFails 0 reasons.Encoding) (λ encoding.
    Then IsKind KindFails (λ kind.
    Then (IsKnown (mask_len family)) (KnownFails (mask_len family) reasons.MaskLength) (λ mask. Lacks (addr_len family)))))

-- an address that is multicast
abbrev pub MulticastFails : Family → List ℕ → ℕ → PimFault → Type 0
MulticastFails family = FieldFails (SpellsAddress family) (Lacks (addr_len family)) (λ addr. ¬ (BeginsMulticast addr)) reasons.NotMulticast

-- the family of the message, encoding, flags that may be anything, mask length, and address
abbrev pub GroupAddressFails : Family → List ℕ → ℕ → PimFault → Type 0
GroupAddressFails family =
    Then (IsKnown (family_octet family)) (KnownFails (family_octet family) reasons.Family) (λ same.
    Then (IsKnown 0) (KnownFails 0 reasons.Encoding) (λ encoding.
    Then IsOctet (Lacks 1) (λ flags.
    Then (IsKnown (mask_len family)) (KnownFails (mask_len family) reasons.MaskLength) (λ mask. MulticastFails family))))

-- so many sources
abbrev pub SourcesFail : Family → ℕ → List ℕ → ℕ → PimFault → Type 0
SourcesFail family = AllFail (SpellsSource family) (SourceFails family)

-- the group, the two counts, and the sources
abbrev pub GroupFails : Family → List ℕ → ℕ → PimFault → Type 0
GroupFails family =
    Then (SpellsGroupAddress family) (GroupAddressFails family) (λ group.
    Then IsNumber (Lacks 2) (λ joined.
    Then IsNumber (Lacks 2) (λ pruned.
    Then (AreCounted (SpellsSource family) joined) (SourcesFail family joined) (λ joins. SourcesFail family pruned))))

-- so many groups of the family of the neighbour's address
abbrev pub GroupsFail : Addr → ℕ → List ℕ → ℕ → PimFault → Type 0
GroupsFail neighbour = AllFail (SpellsGroup (family_of neighbour)) (GroupFails (family_of neighbour))

-- neighbour, an octet that may be anything, number of groups, holdtime, and the groups
abbrev pub FieldsFail : List ℕ → ℕ → PimFault → Type 0
FieldsFail =
    Then SpellsUnicast UnicastFails (λ neighbour.
    Then IsOctet (Lacks 1) (λ reserved.
    Then IsOctet (Lacks 1) (λ count.
    Then IsNumber (Lacks 2) (λ holdtime. GroupsFail neighbour count))))

-- octets stand after the last group
pub record Trails (octets : List ℕ) (left : ℕ) (fault : PimFault) : Type 0 where
  pub more : 0 < length octets
  pub at : left ≡ length octets
  pub is : fault ≡ reasons.Trailing

-- all that stands after the checksum
abbrev pub RestFails : List ℕ → ℕ → PimFault → Type 0
RestFails = Then SpellsFields FieldsFail (λ message. Trails)

-- The first fault of all the octets, and its place.
pub data FirstFault (octets : List ℕ) (place : ℕ) (fault : PimFault) : Type 0 where
  short : length octets < 4 → place ≡ length octets → fault ≡ reasons.Short → FirstFault octets place fault
  version : (first : ℕ) (rest : List ℕ) → octets ≡ first ∷ rest → 3 ≤ length rest → first / 16 ≢ 2 → place ≡ 0 →
      fault ≡ reasons.Version → FirstFault octets place fault
  type : (first : ℕ) (rest : List ℕ) → octets ≡ first ∷ rest → 3 ≤ length rest → first / 16 ≡ 2 → first % 16 ≢ 3 → place ≡ 0 →
      fault ≡ reasons.PimType → FirstFault octets place fault
  sum : (reserved : ℕ) (sum fields : List ℕ) → octets ≡ 0x23 ∷ reserved ∷ (sum ++ fields) → length sum ≡ 2 →
      sum ≢ to_be_bytes w16 (sum_of 0x23 reserved fields) → place ≡ 2 → fault ≡ reasons.Checksum → FirstFault octets place fault
  field : (reserved : ℕ) (fields : List ℕ) (left : ℕ) →
      octets ≡ 0x23 ∷ reserved ∷ (to_be_bytes w16 (sum_of 0x23 reserved fields) ++ fields) → RestFails fields left fault →
      place + left ≡ length octets → FirstFault octets place fault
