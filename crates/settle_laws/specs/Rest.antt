-- A network at rest, and the events that bring it there.
use Rattle.std.specs.Prelude.{◌≡◌, ℕ, List, [], ◌∷◌}
use Rattle.scenario_defs.specs.declared.event.Timed.{Timed}
use Rattle.network_defs.specs.Counts.{unready}
use Rattle.network_defs.specs.Run.{IsSettled, IsDrained}
use Rattle.network_defs.specs.World.{World}
use Rattle.settle_laws.specs.Behind.{heal_at, settle_at, tick_at}

-- `heal`, `settle`, a `tick` of so many, and `settle` again, on these lines of a script
abbrev pub calming : ℕ → ℕ → ℕ → ℕ → ℕ → List Timed
calming first second third fourth count = heal_at first ∷ settle_at second ∷ tick_at third count ∷ settle_at fourth ∷ []

-- The network is settled and drained, and each of its sessions is ready.
abbrev pub IsAtRest : World → Type 0
IsAtRest world = IsSettled world × IsDrained world × (unready world ≡ 0)
