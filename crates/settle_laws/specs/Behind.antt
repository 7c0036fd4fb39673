-- The network after an event of a run.
use Rattle.std.specs.Prelude.{◌≡◌, ℕ, List, [], ◌∷◌, ◌++◌}
use Rattle.scenario_defs.specs.declared.event.Event.TheVariants as events
use Rattle.scenario_defs.specs.declared.event.Script.{Script}
use Rattle.scenario_defs.specs.declared.event.Timed.{Timed}
use Rattle.network_defs.specs.Costs.{Cores}
use Rattle.network_defs.specs.Run.{Traced, Run, IsSettled, IsDrained}
use Rattle.network_defs.specs.World.{World}

-- `heal`, `settle`, `drain`, `tick` and `state` on that line of a script
abbrev pub heal_at : ℕ → Timed
heal_at line = record { line = line; event = events.Heal }

abbrev pub settle_at : ℕ → Timed
settle_at line = record { line = line; event = events.Settle }

abbrev pub drain_at : ℕ → Timed
drain_at line = record { line = line; event = events.Drain }

abbrev pub tick_at : ℕ → ℕ → Timed
tick_at line count = record { line = line; event = events.Tick count }

abbrev pub state_at : ℕ → Timed
state_at line = record { line = line; event = events.State }

-- A run of these events is the beginning of what happened, and the network after it has a property.
pub record IsBehind (cores : Cores) (script : Script) (events : List Timed) (trace : List Traced) (P : World → Type 0) : Type 0 where
  pub world : World
  pub first : List Traced
  pub rest : List Traced
  pub parts : trace ≡ first ++ rest
  pub run : Run cores script events first world
  pub holds : P world

-- After each `settle` among the events of a run no octet is in transit and no timer is due, and after each `drain` no copy is on a link.
pub record Settles (cores : Cores) (script : Script) (events : List Timed) (trace : List Traced) : Type 0 where
  pub settled : (before after : List Timed) (line : ℕ) → events ≡ before ++ settle_at line ∷ after →
      IsBehind cores script (before ++ settle_at line ∷ []) trace IsSettled
  pub drained : (before after : List Timed) (line : ℕ) → events ≡ before ++ drain_at line ∷ after →
      IsBehind cores script (before ++ drain_at line ∷ []) trace IsDrained
