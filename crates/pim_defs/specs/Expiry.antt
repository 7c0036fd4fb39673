-- When entries end (RFC 7761 sections 4.5.1 to 4.5.3 and 4.9.5).
use Rattle.std.specs.Prelude.{ℕ, ◌+◌, ◌==◌, max, nat_lt, Bool, true, false, Option, None, Some, if◌then◌else◌}
use Rattle.pim_defs.specs.declared.expiry.Expiry.{Expiry}
use Rattle.pim_defs.specs.declared.expiry.Expiry.TheVariants.{At, Never}

-- whether it comes after the clock; `Never` is after every clock
abbrev pub is_after : Expiry → ℕ → Bool
is_after (At moment) clock = nat_lt clock moment
is_after Never clock = true

-- whether there is an entry, and it counts: it ends after the clock
abbrev pub counts : ℕ → Option Expiry → Bool
counts clock None = false
counts clock (Some expiry) = is_after expiry clock

-- the later of two
abbrev pub later : Expiry → Expiry → Expiry
later (At a) (At b) = At (max a b)
later (At a) Never = Never
later Never other = Never

-- what a holdtime that begins at the clock sets: 0xFFFF is without end
abbrev pub held_until : ℕ → ℕ → Expiry
held_until clock holdtime = if holdtime == 65535 then Never else At (clock + holdtime)

-- the later one of what an entry has and what a holdtime sets
abbrev pub latest : ℕ → ℕ → Option Expiry → Expiry
latest clock holdtime None = held_until clock holdtime
latest clock holdtime (Some old) = later old (held_until clock holdtime)

-- The expiry is set to the later of the present one and the clock plus the holdtime. An entry whose expiry would not be
-- after the clock is not made, and one that is there then stays as it is.
abbrev pub extended : ℕ → ℕ → Option Expiry → Option Expiry
extended clock holdtime old = if is_after (latest clock holdtime old) clock then Some (latest clock holdtime old) else old

-- the expiry after a run of the timers at the clock: an entry that has ended is removed
abbrev pub remaining : ℕ → Option Expiry → Option Expiry
remaining clock old = if counts clock old then old else None
