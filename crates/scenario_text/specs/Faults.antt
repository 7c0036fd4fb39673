-- What a text says, and its first fault, with no order of reading.
use Rattle.std.specs.Prelude.{◌≡◌, ℕ, ◌+◌, ◌<◌, ◌≤◌, true, false, List, [], ◌∷◌, ◌++◌, length, Ok, Err}
use Rattle.std.specs.Str.Lines.{lines}
use Rattle.scenario_defs.specs.declared.event.Script.{Script}
use Rattle.line_words.specs.declared.fault.TextFault.{TextFault}
use Rattle.line_words.specs.declared.fault.Reason.TheVariants as reasons
use Rattle.scenario_lines.specs.declared.scenario_draft.line.Line.{Line}
use Rattle.scenario_lines.specs.scenario_draft.Drafted.{Drafted}
use Rattle.scenario_lines.specs.scenario_draft.Adding.{added, empty_draft}
use Rattle.scenario_text.specs.Grammar.{line_of, script_at, script_of}

-- The lines from that number on are without fault, and take the old draft to the new one.
abbrev pub Says : Drafted → ℕ → List (List ℕ) → Drafted → Type 0
Says old number [] new = new ≡ old
Says old number (octets ∷ more) new =
    (said : Line) × (line_of old number octets ≡ Ok said) × Says (added old number said) (number + 1) more new

-- The fault is that of the next line, or of the end.
abbrev pub IsFaultyAt : Drafted → ℕ → List (List ℕ) → TextFault → Type 0
IsFaultyAt draft number [] fault = (draft.begun ≡ false) × (fault ≡ record { line = number; column = 1; reason = reasons.Events })
IsFaultyAt draft number (octets ∷ more) fault = line_of draft number octets ≡ Err fault

-- Lines without fault stand before the first line that has one, or before the end that lacks `events`.
pub record FirstFault (old : Drafted) (number : ℕ) (all : List (List ℕ)) (fault : TextFault) : Type 0 where
  pub front : List (List ℕ)
  pub rest : List (List ℕ)
  pub draft : Drafted
  pub whole : all ≡ front ++ rest
  pub says : Says old number front draft
  pub faulty : IsFaultyAt draft (number + length front) rest fault

-- The lines say the script: they are without fault, and the scenario ends.
pub record SaysScript (old : Drafted) (number : ℕ) (all : List (List ℕ)) (script : Script) : Type 0 where
  pub draft : Drafted
  pub says : Says old number all draft
  pub begun : draft.begun ≡ true
  pub told : script ≡ script_at draft (number + length all)

-- A text that is not too long is read exactly where no line has a fault and the scenario ends; and else the first fault is told.
pub record AreTheFaults (text : List ℕ) : Type 0 where
  pub accepted : (script : Script) → script_of text ≡ Ok script → (length text ≤ 16777216) × SaysScript empty_draft 1 (lines text) script
  pub accepts : (script : Script) → length text ≤ 16777216 → SaysScript empty_draft 1 (lines text) script → script_of text ≡ Ok script
  pub fault : (fault : TextFault) → length text ≤ 16777216 → script_of text ≡ Err fault → FirstFault empty_draft 1 (lines text) fault
  pub long : 16777216 < length text → script_of text ≡ Err (record { line = 1; column = 1; reason = reasons.Long })
