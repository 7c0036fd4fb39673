-- From when on entries may end.
use Rattle.std.specs.Prelude.{◌≡◌, ℕ, min, true, Option, None, Some}
use Rattle.std.specs.FinMap.{get}
use Rattle.scenario_defs.specs.declared.event.IfaceEntry.{IfaceEntry}
use Rattle.pim_defs.specs.declared.expiry.Expiry.{Expiry}
use Rattle.pim_defs.specs.declared.expiry.Expiry.TheVariants.{At, Never}
use Rattle.pim_defs.specs.Expiry.{is_after}
use Rattle.pim_defs.specs.Entries.{Entries}

-- the sooner of two ends
abbrev pub sooner : Expiry → Expiry → Expiry
sooner (At own) (At other) = At (min own other)
sooner (At own) Never = At own
sooner Never other = other

-- and of an end and one that may be there
abbrev pub sooner_where : Expiry → Option Expiry → Expiry
sooner_where own None = own
sooner_where own (Some other) = sooner own other

-- No entry ends at a clock before which the end comes.
abbrev pub IsBound : Expiry → Entries → Type 0
IsBound next entries =
    (clock : ℕ) (at : IfaceEntry) (expiry : Expiry) → is_after next clock ≡ true → get entries at ≡ Some expiry → is_after expiry clock ≡ true
