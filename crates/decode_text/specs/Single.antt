-- Octets that are one value, or have a fault; and the lines of both.
use Rattle.std.specs.Prelude.{◌≡◌, ℕ, Bool, true, false, List}

-- How a value is spelled and told: its octets, the first fault of octets, its lines, and the line of a fault.
pub record Single (V F : Type 0) : Type 1 where
  pub Spells : V → List ℕ → Type 0
  pub First : List ℕ → F → Type 0
  pub lines : V → List ℕ
  pub refusal : F → List ℕ

-- what a text tells of octets, by whether a fault was met
abbrev pub TellsOne : {V F : Type 0} → Single V F → Bool → List ℕ → List ℕ → Type 0
TellsOne {V} {F} s false octets told = (value : V) × s.Spells value octets × (told ≡ s.lines value)
TellsOne {V} {F} s true octets told = (fault : F) × s.First octets fault × (told ≡ s.refusal fault)
