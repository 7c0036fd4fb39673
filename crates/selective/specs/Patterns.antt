-- When two patterns are one.
use Rattle.std.specs.Prelude.{◌&&◌, Bool}
use Rattle.std.specs.Option.{option_eq}
use Rattle.mv_base.specs.Address.{same_addr}
use Rattle.mv_base.specs.declared.pattern.Pattern.{Pattern}

-- whether both are one pattern
abbrev pub same_pattern : Pattern → Pattern → Bool
same_pattern one other = option_eq same_addr one.source other.source && option_eq same_addr one.group other.group
