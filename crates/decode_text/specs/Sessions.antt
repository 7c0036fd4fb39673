-- Octets that are the units of a session end to end, or units after which one at fault stands or the octets end; and the
-- lines of both.
use Rattle.std.specs.Prelude.{◌≡◌, ℕ, ◌+◌, ◌<◌, Bool, true, false, List, [], ◌++◌, length, codes, Option, None, Some}
use Rattle.std.specs.List.{flat_map, AllByRecursion}
use Rattle.mv_base.specs.Octets.{IsOctets}
use Rattle.mv_base.specs.framing.Units.{Begins, NoUnit, Splits}
use Rattle.mv_base.specs.framing.Cut.{Fails, NoFault}
use Rattle.mv_base.specs.declared.framing.fault.FeedFault.{FeedFault}
use Rattle.mv_base.specs.declared.framing.fault.FeedFault.TheVariants as faults
use Rattle.value_text.specs.ValueText.{refused_line}

-- How the units of a session are spelled and told: the octets of a unit with its messages, the first fault of octets with
-- the messages that stand before it in the unit at fault, the lines of a message, and the word of a fault.
pub record Session (M E : Type 0) : Type 1 where
  pub Spells : List M → List ℕ → Type 0
  pub Faulty : List ℕ → List M → ℕ → E → Type 0
  pub lines : M → List ℕ
  pub word : E → List ℕ

-- the session of these words
abbrev pub session_of : {M E : Type 0} → (List M → List ℕ → Type 0) → (List ℕ → List M → ℕ → E → Type 0) → (M → List ℕ) → (E → List ℕ) → Session M E
session_of Spells Faulty lines word = record { Spells = Spells; Faulty = Faulty; lines = lines; word = word }

-- The octets are whole units with these messages.
abbrev pub AreUnits : {M E : Type 0} → Session M E → List ℕ → List M → Type 0
AreUnits s octets ms = Begins s.Spells octets ms []

-- After whole units the octets end inside a unit, which begins at the place and has no fault so far.
pub record EndsInside {M E : Type 0} (s : Session M E) (octets : List ℕ) (ms : List M) (place : ℕ) : Type 0 where
  pub rest : List ℕ
  pub splits : Splits s.Spells octets ms rest
  pub more : 0 < length rest
  pub sound : NoFault s.Faulty rest
  pub at : place + length rest ≡ length octets

-- The octets stop at the place after these messages, for the reason of that word: a first fault, or that they end inside
-- a unit.
pub data StopsAt {M E : Type 0} (s : Session M E) (octets : List ℕ) (ms : List M) (place : ℕ) (word : List ℕ) : Type 0 where
  faulty : (e : E) → Fails s.Spells s.Faulty octets ms place e → word ≡ s.word e → StopsAt s octets ms place word
  inside : EndsInside s octets ms place → word ≡ codes "short" → StopsAt s octets ms place word

-- The text has the lines of the messages that the octets are.
pub record TellsUnits {M E : Type 0} (s : Session M E) (octets told : List ℕ) : Type 0 where
  pub messages : List M
  pub units : AreUnits s octets messages
  pub text : told ≡ flat_map s.lines messages

-- The text has the lines of the messages before the octets stop, and the line that tells where and why they do.
pub record TellsStop {M E : Type 0} (s : Session M E) (octets told : List ℕ) : Type 0 where
  pub messages : List M
  pub place : ℕ
  pub word : List ℕ
  pub stop : StopsAt s octets messages place word
  pub text : told ≡ flat_map s.lines messages ++ refused_line place word

-- what a text tells of octets, by whether they stop
abbrev pub TellsSession : {M E : Type 0} → Session M E → Bool → List ℕ → List ℕ → Type 0
TellsSession s false octets told = TellsUnits s octets told
TellsSession s true octets told = TellsStop s octets told

-- ---- what is told of a stream that is fed piece by piece

-- What the words of a session meet: a first fault stays whatever comes after it, no octets are no unit and have no
-- fault, and the messages of units and those before a fault can be told.
pub record IsSession {M E : Type 0} (Spells : List M → List ℕ → Type 0) (Faulty : List ℕ → List M → ℕ → E → Type 0) (IsTellable : M → Type 0) : Type 0
  where
    pub kept : (octets thereafter : List ℕ) (ms : List M) (offset : ℕ) (e : E) → IsOctets (octets ++ thereafter) → Faulty octets ms offset e
        → Faulty (octets ++ thereafter) ms offset e
    pub no_unit : NoUnit Spells []
    pub no_fault : NoFault Faulty []
    pub tellable : (ms : List M) (text : List ℕ) → Spells ms text → AllByRecursion IsTellable ms
    pub tellable_before : (octets : List ℕ) (ms : List M) (offset : ℕ) (e : E) → Faulty octets ms offset e → AllByRecursion IsTellable ms

-- the text before, and after it the line of the first fault
abbrev pub TellsFault : {E : Type 0} → (E → List ℕ) → FeedFault E → Bool → List ℕ → List ℕ → Type 0
TellsFault word (faults.First place fault) refused old new = (refused ≡ true) × (new ≡ old ++ refused_line place (word fault))
TellsFault word faults.Failed refused old new = ⊥
TellsFault word faults.NoMemory refused old new = ⊥

-- the text before, and after it the line of an end inside a unit that begins at the place, if there is one
abbrev pub TellsEnd : Option ℕ → Bool → List ℕ → List ℕ → Type 0
TellsEnd None refused old new = (refused ≡ false) × (new ≡ old)
TellsEnd (Some place) refused old new = (refused ≡ true) × (new ≡ old ++ refused_line place (codes "short"))
