-- Octets that are values end to end, or values and then a fault; and the lines of both.
use Rattle.std.specs.Prelude.{◌≡◌, ℕ, ◌<◌, ◌≤◌, Bool, true, false, List, ◌++◌, length, take}
use Rattle.std.specs.List.{flat_map, AllByRecursion}

-- How values of a format are spelled and told: the octets and the condition of each, the first fault of octets, the
-- line of each, and the line of a fault after so many octets.
pub record Telling (T F : Type 0) : Type 1 where
  pub text : T → List ℕ
  pub Is : T → Type 0
  pub First : List ℕ → F → Type 0
  pub line : T → List ℕ
  pub refusal : ℕ → F → List ℕ

-- The value is spelled at the front of the octets, by so many of them.
pub record Stands {T F : Type 0} (t : Telling T F) (octets : List ℕ) (value : T) (len : ℕ) : Type 0 where
  pub is : t.Is value
  pub some : 0 < len
  pub within : len ≤ length octets
  pub text : take len octets ≡ t.text value

-- The octets are those values, end to end.
pub record Whole {T F : Type 0} (t : Telling T F) (octets : List ℕ) (values : List T) : Type 0 where
  pub spelled : AllByRecursion t.Is values
  pub whole : octets ≡ flat_map t.text values

-- Those values stand first, octets follow, and these have that first fault.
pub record Stop {T F : Type 0} (t : Telling T F) (octets : List ℕ) (values : List T) (fault : F) : Type 0 where
  pub spelled : AllByRecursion t.Is values
  pub rest : List ℕ
  pub whole : octets ≡ flat_map t.text values ++ rest
  pub more : 0 < length rest
  pub first : t.First rest fault

-- The text has the lines of the values that the octets are.
pub record TellsWhole {T F : Type 0} (t : Telling T F) (octets told : List ℕ) : Type 0 where
  pub values : List T
  pub whole : Whole t octets values
  pub lines : told ≡ flat_map t.line values

-- The text has the lines of the values before the first fault, and that of the fault.
pub record TellsStop {T F : Type 0} (t : Telling T F) (octets told : List ℕ) : Type 0 where
  pub values : List T
  pub fault : F
  pub stop : Stop t octets values fault
  pub lines : told ≡ flat_map t.line values ++ t.refusal (length (flat_map t.text values)) fault

-- what a text tells of octets, by whether a fault was met
abbrev pub TellsEach : {T F : Type 0} → Telling T F → Bool → List ℕ → List ℕ → Type 0
TellsEach t false octets told = TellsWhole t octets told
TellsEach t true octets told = TellsStop t octets told
