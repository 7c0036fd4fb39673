-- The first fault of octets: what stands before its place is well, and this fails for that reason.
use Rattle.std.specs.Prelude.{◌≡◌, ◌≢◌, ℕ, ◌+◌, ◌/◌, ◌<◌, ◌≤◌, ◌^◌, List, ◌∷◌, length}
use Rattle.label_forwarding.specs.declared.fault.PacketFault.{PacketFault}
use Rattle.label_forwarding.specs.declared.fault.PacketFault.TheVariants as reasons
use Rattle.label_forwarding.specs.Spelling.{FourFields, AreFour, four_octets, HeaderFits, TotalFits, SumFits, IsFourGroup, IsFourLocal}
use Rattle.label_forwarding.specs.Spelling.{SixFields, AreSix, six_octets, LenFits, IsSixGroup, IsSixLocal}

-- the fault is this one
abbrev pub Is : ℕ × PacketFault → ℕ → PacketFault → Type 0
Is fault place reason = fault ≡ (place, reason)

-- a field of an IPv4 packet fails
pub data FourFault (f : FourFields) (fault : ℕ × PacketFault) : Type 0 where
  header_length : ¬ HeaderFits f → Is fault 0 reasons.HeaderLength → FourFault f fault
  total_length : HeaderFits f → ¬ TotalFits f → Is fault 2 reasons.TotalLength → FourFault f fault
  sum : HeaderFits f → TotalFits f → ¬ SumFits f → Is fault 10 reasons.Checksum → FourFault f fault
  not_multicast : HeaderFits f → TotalFits f → SumFits f → ¬ IsFourGroup f.group → Is fault 16 reasons.NotMulticast
      → FourFault f fault
  link_local : HeaderFits f → TotalFits f → SumFits f → IsFourGroup f.group → IsFourLocal f.group → Is fault 16 reasons.LinkLocal
      → FourFault f fault

-- a field of an IPv6 packet fails
pub data SixFault (f : SixFields) (fault : ℕ × PacketFault) : Type 0 where
  total_length : ¬ LenFits f → Is fault 4 reasons.TotalLength → SixFault f fault
  not_multicast : LenFits f → ¬ IsSixGroup f.group → Is fault 24 reasons.NotMulticast → SixFault f fault
  link_local : LenFits f → IsSixGroup f.group → IsSixLocal f.group → Is fault 24 reasons.LinkLocal → SixFault f fault

-- the first fault of all the octets
pub data FirstFault (octets : List ℕ) (fault : ℕ × PacketFault) : Type 0 where
  short : length octets < 20 → Is fault (length octets) reasons.Short → FirstFault octets fault
  version : (first : ℕ) (rest : List ℕ) → octets ≡ first ∷ rest → 20 ≤ length octets → first / 16 ≢ 4 → first / 16 ≢ 6
      → Is fault 0 reasons.Version → FirstFault octets fault
  in_four : (f : FourFields) → AreFour f → octets ≡ four_octets f → FourFault f fault → FirstFault octets fault
  six_short : (class : ℕ) (rest : List ℕ) → octets ≡ (96 + class) ∷ rest → class < 2 ^ 4 → 20 ≤ length octets → length octets < 40
      → Is fault (length octets) reasons.Short → FirstFault octets fault
  in_six : (f : SixFields) → AreSix f → octets ≡ six_octets f → SixFault f fault → FirstFault octets fault
