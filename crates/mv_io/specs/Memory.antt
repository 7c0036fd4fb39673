-- What the kinds that fail at chosen calls tell, the calls made, those that fail, and how many did.
use Rattle.std.specs.Prelude.{ℕ, List, Option}
use Rattle.mv_io.specs.Kinds.{left_after, told}
use Rattle.mv_io.specs.declared.memory.MemSource.{MemSource}
use Rattle.mv_io.specs.declared.memory.MemSink.{MemSink}

-- what is left to read
abbrev pub source_left : MemSource → Option (List ℕ)
source_left s = left_after s.octets s.at

-- how many calls of `read` were made
abbrev pub source_calls : MemSource → ℕ
source_calls s = s.calls.made

-- the numbers of the calls of `read` that fail
abbrev pub source_failing : MemSource → List ℕ
source_failing s = s.calls.failing

-- how many calls of `read` failed
abbrev pub source_faults : MemSource → ℕ
source_faults s = s.calls.faults

-- what was written, while all of it is held
abbrev pub sink_written : MemSink → Option (List ℕ)
sink_written s = told s.whole s.held.items

-- how many octets it tells of
abbrev pub sink_room : MemSink → ℕ
sink_room s = s.room

-- how many calls of `write` were made
abbrev pub sink_calls : MemSink → ℕ
sink_calls s = s.calls.made

-- the numbers of the calls of `write` that fail
abbrev pub sink_failing : MemSink → List ℕ
sink_failing s = s.calls.failing

-- how many calls of `write` failed
abbrev pub sink_faults : MemSink → ℕ
sink_faults s = s.calls.faults
