-- How specific a pattern is.
use Rattle.std.specs.Prelude.{ℕ, Option, None, Some}
use Rattle.mv_base.specs.declared.addr.Addr.{Addr}
use Rattle.mv_base.specs.declared.pattern.Pattern.{Pattern}

-- the rank of a source and a group, None being the wildcard
abbrev pub rank_of : Option Addr → Option Addr → ℕ
rank_of (Some source) (Some group) = 4
rank_of (Some source) None = 3
rank_of None (Some group) = 2
rank_of None None = 1

abbrev pub rank : Pattern → ℕ
rank pattern = rank_of pattern.source pattern.group
