-- What the kinds that never fail tell, and how much a sink of them holds.
use Rattle.std.specs.Prelude.{ℕ, List, Option}
use Rattle.mv_io.specs.Kinds.{left_after, told}
use Rattle.mv_io.specs.declared.sure.SureSource.{SureSource}
use Rattle.mv_io.specs.declared.sure.SureSink.{SureSink}

-- what is left to read
abbrev pub sure_left : SureSource → Option (List ℕ)
sure_left s = left_after s.octets s.at

-- what was written, while all of it is held
abbrev pub sure_written : SureSink → Option (List ℕ)
sure_written s = told s.whole s.held.items

-- how many octets it tells of
abbrev pub sure_room : SureSink → ℕ
sure_room s = s.room
