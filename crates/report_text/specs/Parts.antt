-- Parts of a line of a report.
use Rattle.std.specs.Prelude.{ℕ, List, [], ◌++◌, Option, None, Some, codes}
use Rattle.std.specs.Fmt.{decimal}

-- the TTL of a copy, which a copy that lands has none of
abbrev pub ttl_text : Option ℕ → List ℕ
ttl_text None = []
ttl_text (Some ttl) = codes " " ++ decimal ttl
