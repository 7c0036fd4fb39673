-- When a source or a sink may answer that it failed: where its count of faults rose in the call.
use Rattle.std.specs.Prelude.{ℕ, ◌+◌, ◌-◌, ◌^◌, ◌≤◌, min, Result, Ok, Err, OnErr}

-- what stands after a count, which stays at its greatest value
abbrev pub next : ℕ → ℕ
next count = min (count + 1) (2 ^ 64 - 1)

-- The count is greater than before, or stands at its greatest value.
abbrev pub Rose : ℕ → ℕ → Type 0
Rose before now = next before ≤ now

-- The count never falls, and a failure is told only where it rose.
pub record HasCause {T E : Type 0} (before now : ℕ) (result : Result T E) : Type 0 where
  pub later : before ≤ now
  pub failed : OnErr result (Rose before now)

-- a count that rises by one exactly where a call failed
abbrev pub faults_after : {T E : Type 0} → Result T E → ℕ → ℕ
faults_after (Ok x) before = before
faults_after (Err e) before = next before
