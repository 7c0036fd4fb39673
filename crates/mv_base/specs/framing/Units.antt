-- Units that stand end to end, each with the messages that it carries.
use Rattle.std.specs.Prelude.{◌≡◌, ◌≢◌, ℕ, List, ◌++◌}
use Rattle.std.specs.List.{flat_map, AllByRecursion}

-- one spelling of a unit, and its messages
pub record Spelled (M : Type 0) : Type 0 where
  pub messages : List M
  pub octets : List ℕ

abbrev pub octets_of : {M : Type 0} → List (Spelled M) → List ℕ
octets_of units = flat_map (λ u. u.octets) units

abbrev pub messages_of : {M : Type 0} → List (Spelled M) → List M
messages_of units = flat_map (λ u. u.messages) units

abbrev pub AreUnits : {M : Type 0} → (List M → List ℕ → Type 0) → List (Spelled M) → Type 0
AreUnits Spells units = AllByRecursion (λ u. Spells u.messages u.octets) units

-- whole units, end to end, carry these messages, and the rest stands after them
pub record Begins {M : Type 0} (Spells : List M → List ℕ → Type 0) (stream : List ℕ) (ms : List M) (rest : List ℕ) : Type 0 where
  pub units : List (Spelled M)
  pub each : AreUnits Spells units
  pub parts : stream ≡ octets_of units ++ rest
  pub carried : ms ≡ messages_of units

-- no prefix is a whole unit
abbrev pub NoUnit : {M : Type 0} → (List M → List ℕ → Type 0) → List ℕ → Type 0
NoUnit {M} Spells rest = (ms : List M) (text after : List ℕ) → Spells ms text → rest ≢ text ++ after

-- these messages, and then no whole unit
pub record Splits {M : Type 0} (Spells : List M → List ℕ → Type 0) (stream : List ℕ) (ms : List M) (rest : List ℕ) : Type 0 where
  pub begins : Begins Spells stream ms rest
  pub no_unit : NoUnit Spells rest
