-- Fields that stand end to end, read from left to right. A fault has the number of octets from its place to the end.
use Rattle.std.specs.Prelude.{◌≡◌, ℕ, ◌+◌, ◌<◌, List, ◌++◌, length, Result}
use Rattle.core_pcap.specs.declared.fault.PcapFault.{PcapFault}
use Rattle.core_pcap.specs.declared.fault.PcapFault.TheVariants as faults

-- the value of a field, and the octets after it
abbrev pub Read : Type 0 → Type 0
Read A = Result (A × List ℕ) (ℕ × PcapFault)

-- A field has n octets, and fewer are left.
pub record Lacks (n : ℕ) (octets : List ℕ) (left : ℕ) (fault : PcapFault) : Type 0 where
  pub few : length octets < n
  pub at : left ≡ length octets
  pub is : fault ≡ faults.Short

-- A field of n octets fails: fewer are left, or they spell none of its values. Its own fault stands so many octets before it.
pub data FieldFails {A : Type 0} (n : ℕ) (Spells : A → List ℕ → Type 0) (before : ℕ) (own : PcapFault)
    (octets : List ℕ) (left : ℕ) (fault : PcapFault) : Type 0 where
  missing : Lacks n octets left fault → FieldFails n Spells before own octets left fault
  wrong : (text rest : List ℕ) → length text ≡ n → octets ≡ text ++ rest → ((x : A) → Spells x text → ⊥) →
      left ≡ length octets + before → fault ≡ own → FieldFails n Spells before own octets left fault

-- One thing stands before another: the first fails, or it stands there whole and the one after it fails.
pub data Then {A : Type 0}
    (Spells : A → List ℕ → Type 0) (First : List ℕ → ℕ → PcapFault → Type 0) (Behind : A → List ℕ → ℕ → PcapFault → Type 0)
    (octets : List ℕ) (left : ℕ) (fault : PcapFault) : Type 0 where
  here : First octets left fault → Then Spells First Behind octets left fault
  thereafter : (x : A) (text rest : List ℕ) → Spells x text → octets ≡ text ++ rest → Behind x rest left fault →
      Then Spells First Behind octets left fault
