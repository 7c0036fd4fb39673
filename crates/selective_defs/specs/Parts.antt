-- The words of patterns as lists of numbers by which keys are ordered.
use Rattle.std.specs.Prelude.{ℕ, List, [], Option, None, Some}
use Rattle.mldp.specs.mv_base.declared.addr.Addr.{Addr}
pub use Rattle.mldp.specs.mv_base.Address.{addr_key}

-- None is the wildcard
abbrev pub word_part : Option Addr → List ℕ
word_part None = []
word_part (Some addr) = addr_key addr
