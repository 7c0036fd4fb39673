-- From when on a delay of a route that was learned may be over.
use Rattle.std.specs.Prelude.{◌≡◌, ◌≤◌, ℕ, Bool, true, false, not, min, Option, None, Some}
use Rattle.std.specs.FinMap as maps
use Rattle.selective.specs.declared.route_key.Learned.{Learned}
use Rattle.selective.specs.declared.route_key.RouteKey.{RouteKey}
use Rattle.selective.specs.Delays.{is_due}
use Rattle.selective.specs.Leaves.{Routes}

-- the earliest of some clocks, and this one where it counts
abbrev pub earlier : Bool → Option ℕ → ℕ → Option ℕ
earlier false earliest clock = earliest
earlier true None clock = Some clock
earlier true (Some first) clock = Some (min first clock)

-- the earliest clock at which a route was learned whose delay was not run, with one more route
abbrev pub earliest_with : Option ℕ → RouteKey × Learned → Option ℕ
earliest_with earliest entry = earlier (not entry.1.run) earliest entry.1.since

-- whether the delay may be over of a route that was learned then or later
abbrev pub is_any_due : ℕ → ℕ → Option ℕ → Bool
is_any_due delay now None = false
is_any_due delay now (Some since) = is_due delay now since

-- the clock is none before the earliest one
abbrev pub IsFrom : Option ℕ → ℕ → Type 0
IsFrom None clock = ⊥
IsFrom (Some first) clock = first ≤ clock

-- No route whose delay was not run was learned before the clock that is noted.
abbrev pub IsNoted : Option ℕ → Routes → Type 0
IsNoted earliest routes = (key : RouteKey) (route : Learned) → maps.get routes key ≡ Some route → route.run ≡ false → IsFrom earliest route.since
