-- How a command may end that reads a text and shows what is in it: what it read, and what it wrote. Which command it is says what a text says
-- (`read`), and what is shown of that, with a fault among it where it says so (`Tells`).
use Rattle.std.specs.Prelude.{◌≡◌, ℕ, ◌<◌, ◌++◌, ◌⊎◌, ⊤, Bool, true, false, List, [], length, Option, Result, Ok, Err, MatchResult}
use Rattle.mv_io.specs.Octets.{Appended, AppendedPart}
use Rattle.line_words.specs.FaultText.{fault_text}
use Rattle.line_words.specs.declared.fault.TextFault.{TextFault}
use Rattle.mvpn_tool.specs.declared.stop.Stop.{Stop}
use Rattle.mvpn_tool.specs.declared.stop.Stop.TheVariants as stops
use Rattle.mvpn_tool.specs.Input.{IsInput, Taken}

-- What is longer than the limit says that alone.
abbrev pub IsBounded : {X : Type 0} → (List ℕ → X) → Type 0
IsBounded says = (octets : List ℕ) → 16777216 < length octets → (more : List ℕ) → says (octets ++ more) ≡ says octets

-- This is shown of a text, which says something.
pub record TellsText {X : Type 0} (read : List ℕ → Result X TextFault) (Tells : Bool → X → List ℕ → Type 0) (refused : Bool)
    (input text : List ℕ) : Type 0 where
  pub what : X
  pub said : read input ≡ Ok what
  pub tells : Tells refused what text

-- All that is shown of the input was written.
pub record ToldAll {X : Type 0} (read : List ℕ → Result X TextFault) (Tells : Bool → X → List ℕ → Type 0) (refused : Bool)
    (left old new : Option (List ℕ)) : Type 0 where
  pub input : List ℕ
  pub is_input : IsInput left input
  pub what : X
  pub said : read input ≡ Ok what
  pub text : List ℕ
  pub tells : Tells refused what text
  pub written : Appended old new text

-- The text has a fault, and the line that shows it was written alone.
pub record ToldFaulty {X : Type 0} (read : List ℕ → Result X TextFault) (left old new : Option (List ℕ)) : Type 0 where
  pub input : List ℕ
  pub is_input : IsInput left input
  pub fault : TextFault
  pub said : read input ≡ Err fault
  pub text : Appended old new (fault_text fault)

-- A prefix of what is shown was written.
pub record ToldPart {X : Type 0} (Tells : Bool → X → List ℕ → Type 0) (what : X) (old new : Option (List ℕ)) : Type 0 where
  pub refused : Bool
  pub text : List ℕ
  pub tells : Tells refused what text
  pub written : AppendedPart old new text

-- A prefix of what is shown of the input, or of the line that shows a fault of the text, was written.
pub record ToldEarly {X : Type 0} (read : List ℕ → Result X TextFault) (Tells : Bool → X → List ℕ → Type 0)
    (left old new : Option (List ℕ)) : Type 0 where
  pub input : List ℕ
  pub is_input : IsInput left input
  pub part : MatchResult (read input) (λ what. ToldPart Tells what old new) (λ fault. AppendedPart old new (fault_text fault))

-- how the command ends
abbrev pub TellEnds : {X : Type 0} → (List ℕ → Result X TextFault) → (Bool → X → List ℕ → Type 0) →
    Option (List ℕ) → Result Bool Stop → Option (List ℕ) → Option (List ℕ) → Type 0
TellEnds read Tells left (Ok refused) old new = ToldAll read Tells refused left old new
TellEnds read Tells left (Err stops.Text) old new = ToldFaulty read left old new
TellEnds read Tells left (Err stops.Source) old new = Appended old new []
TellEnds read Tells left (Err stops.Sink) old new = ToldEarly read Tells left old new
TellEnds read Tells left (Err stops.Memory) old new = Appended old new [] ⊎ ToldEarly read Tells left old new
TellEnds read Tells left (Err stops.Label) old new = ⊥

-- The input was taken, unless the source failed or memory ran out.
abbrev pub TellTakes : Result Bool Stop → Option (List ℕ) → Option (List ℕ) → Type 0
TellTakes (Ok refused) left rest = Taken left rest
TellTakes (Err stops.Text) left rest = Taken left rest
TellTakes (Err stops.Source) left rest = ⊤
TellTakes (Err stops.Sink) left rest = Taken left rest
TellTakes (Err stops.Memory) left rest = ⊤
TellTakes (Err stops.Label) left rest = ⊥

-- the status by which it ends
abbrev pub tell_status : Result Bool Stop → ℕ
tell_status (Ok false) = 0
tell_status (Ok true) = 1
tell_status (Err stops.Text) = 3
tell_status (Err stops.Source) = 4
tell_status (Err stops.Sink) = 5
tell_status (Err stops.Memory) = 6
tell_status (Err stops.Label) = 7
