-- Whether a delay is over.
use Rattle.std.specs.Prelude.{ℕ, ◌+◌, Bool, nat_le}

-- whether a delay from that moment on is over
abbrev pub is_due : ℕ → ℕ → ℕ → Bool
is_due delay now since = nat_le (since + delay) now
