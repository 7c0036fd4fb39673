-- Fields that stand end to end, read from left to right. A fault has the number of octets from its place to the end.
use Rattle.std.specs.Prelude.{◌≡◌, ℕ, zero, suc, ◌<◌, ◌^◌, List, [], ◌∷◌, ◌++◌, length, Result, Ok}
use Rattle.std.specs.Int.{w16, to_be_bytes}
use Rattle.mv_base.specs.Cursor.{◌>>=◌}
use Rattle.pim_joinprune.specs.declared.fault.PimFault.{PimFault}
use Rattle.pim_joinprune.specs.declared.fault.PimFault.TheVariants as faults

-- the value of a field, and the octets after it
abbrev pub Read : Type 0 → Type 0
Read A = Result (A × List ℕ) (ℕ × PimFault)

-- so many elements end to end
unfoldable pub all_at : {A : Type 0} → (List ℕ → Read A) → ℕ → List ℕ → Read (List A)
all_at read zero octets = Ok ([], octets)
all_at read (suc n) octets = do
  first ← read octets
  others ← all_at read n first.1
  Ok (first.0 ∷ others.0, others.1)

-- so many elements stand end to end: `Spells` tells the octets of each
abbrev pub AreAll : {A : Type 0} → (A → List ℕ → Type 0) → List A → List ℕ → Type 0
AreAll Spells [] text = text ≡ []
AreAll Spells (x ∷ xs) text = (first others : List ℕ) × Spells x first × AreAll Spells xs others × (text ≡ first ++ others)

pub record AreCounted {A : Type 0} (Spells : A → List ℕ → Type 0) (n : ℕ) (xs : List A) (text : List ℕ) : Type 0 where
  pub count : length xs ≡ n
  pub each : AreAll Spells xs text

abbrev pub IsOctet : ℕ → List ℕ → Type 0
IsOctet octet text = (octet < 2 ^ 8) × (text ≡ octet ∷ [])

-- an octet that has one value alone
abbrev pub IsKnown : ℕ → ℕ → List ℕ → Type 0
IsKnown value octet text = (octet ≡ value) × (text ≡ value ∷ [])

-- a number of two octets
abbrev pub IsNumber : ℕ → List ℕ → Type 0
IsNumber number text = (number < 2 ^ 16) × (text ≡ to_be_bytes w16 number)

-- so many octets
abbrev pub AreOctets : ℕ → List ℕ → List ℕ → Type 0
AreOctets n octets text = (length octets ≡ n) × (text ≡ octets)

-- ---- first faults

-- A field has n octets, and fewer are left.
pub record Lacks (n : ℕ) (octets : List ℕ) (left : ℕ) (fault : PimFault) : Type 0 where
  pub few : length octets < n
  pub at : left ≡ length octets
  pub is : fault ≡ faults.Short

-- A field fails: octets are missing, or it is there with a value that it may not have.
pub data FieldFails {A : Type 0}
    (Spells : A → List ℕ → Type 0) (Missing : List ℕ → ℕ → PimFault → Type 0) (Wrong : A → Type 0) (own : PimFault)
    (octets : List ℕ) (left : ℕ) (fault : PimFault) : Type 0 where
  missing : Missing octets left fault → FieldFails Spells Missing Wrong own octets left fault
  wrong : (x : A) (text rest : List ℕ) → Spells x text → octets ≡ text ++ rest → Wrong x → left ≡ length octets → fault ≡ own →
      FieldFails Spells Missing Wrong own octets left fault

-- One thing stands before another: the first fails, or it stands there whole and the one after it fails.
pub data Then {A : Type 0}
    (Spells : A → List ℕ → Type 0) (First : List ℕ → ℕ → PimFault → Type 0) (Behind : A → List ℕ → ℕ → PimFault → Type 0)
    (octets : List ℕ) (left : ℕ) (fault : PimFault) : Type 0 where
  here : First octets left fault → Then Spells First Behind octets left fault
  thereafter : (x : A) (text rest : List ℕ) → Spells x text → octets ≡ text ++ rest → Behind x rest left fault →
      Then Spells First Behind octets left fault

-- Of n elements end to end some stand whole, and the next fails.
pub record AllFail {A : Type 0}
    (Spells : A → List ℕ → Type 0) (Fails : List ℕ → ℕ → PimFault → Type 0) (n : ℕ)
    (octets : List ℕ) (left : ℕ) (fault : PimFault) : Type 0 where
  pub before : List A
  pub text : List ℕ
  pub rest : List ℕ
  pub stand : AreAll Spells before text
  pub parts : octets ≡ text ++ rest
  pub few : length before < n
  pub fails : Fails rest left fault
