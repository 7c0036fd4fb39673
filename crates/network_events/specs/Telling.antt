-- The lines of an event: those of its acts, or the one of its refusal; and what is appended of them.
use Rattle.std.specs.Prelude.{◌≡◌, ◌⊎◌, ℕ, ◌++◌, List, [], ◌∷◌, Option, None, Some, Result, Ok, Err}
use Rattle.scenario_defs.specs.declared.report.Refusal.{Refusal}
use Rattle.scenario_defs.specs.declared.report.ReportLine.{ReportLine}
use Rattle.scenario_defs.specs.declared.report.ReportLine.TheVariants as told
use Rattle.network_events.specs.declared.halt.Halt.{Halt}
use Rattle.network_events.specs.declared.halt.Halt.TheVariants as halts

abbrev pub refused_lines : ℕ → Option Refusal → List ReportLine
refused_lines line None = []
refused_lines line (Some reason) = told.Refused line reason ∷ []

-- what was written for an event that was met: the line of its refusal, if any
abbrev pub IsTold : ℕ → Result (Option Refusal) Halt → List ReportLine → List ReportLine → Type 0
IsTold line (Ok reason) lines new_lines = new_lines ≡ lines ++ refused_lines line reason
IsTold line (Err halt) lines new_lines = ⊥

-- A refused event has its line, if there is memory for it. An event that halts, halts.
pub record Tells (line : ℕ) (answer : Result (Option Refusal) Halt) (lines new_lines : List ReportLine) (result : Result (Unit {0}) Halt)
    : Type 0 where
  pub made : result ≡ Ok tt → IsTold line answer lines new_lines
  pub lacks : (halt : Halt) → result ≡ Err halt → (halt ≡ halts.NoMemory) ⊎ ((answer ≡ Err halt) × (new_lines ≡ lines))

-- All lines of the event are appended to those of before, and it comes to what was told; or memory is wanting, and those of before stay as
-- they were.
pub record Appends (told : Result (Unit {0}) Halt) (own lines new_lines : List ReportLine) (result : Result (Unit {0}) Halt) : Type 0 where
  pub all : (result ≡ Err halts.NoMemory → ⊥) → (result ≡ told) × (new_lines ≡ lines ++ own)
  pub wanting : result ≡ Err halts.NoMemory → new_lines ≡ lines
