-- What a root keeps of the selective tunnels of a VRF.
use Rattle.std.specs.Prelude.{◌≡◌, ℕ, ◌+◌, ◌*◌, ◌^◌, ◌<◌, ◌≤◌, ◌&&◌, ◌||◌, Bool, false, not, List, length, Option, None, Some, option_map}
use Rattle.std.specs.List.{find}
use Rattle.mv_base.specs.declared.pattern.Pattern.{Pattern}
use Rattle.selective_defs.specs.Selective.{AreDistinct, Among, next_number}
use Rattle.selective_defs.specs.declared.selection.Selection.{Selection}
use Rattle.selective.specs.Delays.{is_due}
use Rattle.selective.specs.Patterns.{same_pattern}

-- the selections of a VRF: the VRF's number, the delay of a selection, and the selections in the order in which they were made
pub record Root : Type 0 where
  pub number : ℕ
  pub delay : ℕ
  pub selections : List Selection

-- the LSP number of the tunnel that adds this to the number of the VRF's inclusive tunnel
abbrev pub lsp_number : ℕ → ℕ → ℕ
lsp_number vrf number = vrf * 2 ^ 20 + number

-- whether the selection is that of the pattern
abbrev pub is_of : Pattern → Selection → Bool
is_of pattern selection = same_pattern selection.pattern pattern

-- the number that the selection of the pattern has
abbrev pub number_at : Pattern → List Selection → Option ℕ
number_at pattern selections = option_map (λ (selection : Selection). selection.number) (find (is_of pattern) selections)

-- what the tunnel of a selection adds to the number of the inclusive tunnel, which is where there is none
abbrev pub added : Option Selection → ℕ
added None = 0
added (Some selection) = selection.number

-- the pattern is selected
abbrev pub IsSelected : Pattern → List Selection → Type 0
IsSelected pattern selections = (selection : Selection) × (Among selection selections) × (selection.pattern ≡ pattern)

-- one more selection, made at the clock
abbrev pub selected_now : Pattern → ℕ → List Selection → Selection
selected_now pattern now selections = record { pattern = pattern; number = next_number selections; since = now; run = false }

-- whether the selection is due, and its delay was not run
abbrev pub is_waiting : ℕ → ℕ → Selection → Bool
is_waiting delay now selection = not selection.run && is_due delay now selection.since

-- the selection, with its delay run where that is due
abbrev pub run_due : ℕ → ℕ → Selection → Selection
run_due delay now selection = record selection { run = selection.run || is_due delay now selection.since }

-- No two selections are of one pattern, no two have one number, and each number is one of 1 to 2^20 - 1.
pub record AreSelections (selections : List Selection) : Type 0 where
  pub patterns : AreDistinct selections
  pub numbers : (one other : Selection) → Among one selections → Among other selections → one.number ≡ other.number → one ≡ other
  pub within : (selection : Selection) → Among selection selections → (1 ≤ selection.number) × (selection.number < 2 ^ 20)

-- what is true of each root
pub record IsRoot (number delay : ℕ) (selections : List Selection) : Type 0 where
  pub least : 1 ≤ number
  pub most : number ≤ 4095
  pub short : delay ≤ 1000
  pub few : length selections ≤ 256
  pub kept : AreSelections selections
