-- Changes of entries.
use Rattle.std.specs.Prelude.{List, [], ◌∷◌, Option, None, Some, if◌then◌else◌}
use Rattle.std.specs.FinMap.{insert, remove}
use Rattle.scenario_defs.specs.declared.event.IfaceEntry.{IfaceEntry}
use Rattle.pim_defs.specs.declared.expiry.Expiry.{Expiry}
use Rattle.pim_defs.specs.Entries.{Entries}
use Rattle.pim_state.specs.Plan.{is_at}

-- the entries, with this expiry at the entry; without an expiry it is removed
abbrev pub changed : Entries → IfaceEntry → Option Expiry → Entries
changed entries at None = remove entries at
changed entries at (Some expiry) = insert entries at expiry

-- the entries after the changes, in turn
abbrev pub changed_by : Entries → List (IfaceEntry × Option Expiry) → Entries
changed_by entries [] = entries
changed_by entries (change ∷ more) = changed_by (changed entries change.0 change.1) more

-- the expiry of an entry after the changes, by the one before
abbrev pub then_at : List (IfaceEntry × Option Expiry) → Option Expiry → IfaceEntry → Option Expiry
then_at [] now at = now
then_at (change ∷ more) now at = then_at more (if is_at change.0 at then change.1 else now) at
