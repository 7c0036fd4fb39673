use Rattle.std.proofs.Common.{◌≡◌}
use Rattle.umh_select.proofs.umh.Umh.site_at.Given as goal

abbrev pub invariant-loop-key : goal.invariant-loop-key
invariant-loop-key l = l._key-iterator ≡ l.initial._key-iterator
