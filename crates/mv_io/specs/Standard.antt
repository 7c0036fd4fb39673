-- What a source or a sink over std reads of or writes to, and how often it has failed.
use Rattle.std.specs.Prelude.{ℕ}
use Rattle.mv_io.specs.declared.standard.StdSource.{StdSource}
use Rattle.mv_io.specs.declared.standard.StdSink.{StdSink}

-- what a source reads of
abbrev pub reader_of : {R : Type 0} → StdSource R → R
reader_of s = s.reader

-- the faults of a source
abbrev pub reader_faults : {R : Type 0} → StdSource R → ℕ
reader_faults s = s.faults

-- what a sink writes to
abbrev pub writer_of : {W : Type 0} → StdSink W → W
writer_of s = s.writer

-- the faults of a sink
abbrev pub writer_faults : {W : Type 0} → StdSink W → ℕ
writer_faults s = s.faults
