use Rattle.std.proofs.Common.{length}
use Rattle.core_pcap.proofs.Files.{Done}
use Rattle.core_pcap.proofs.reading.read_records.Given as goal

abbrev pub invariant-loop-rest : goal.invariant-loop-rest
invariant-loop-rest l = Done l.order l.records l.hops l.rest

abbrev pub decreases-loop-rest : goal.decreases-loop-rest
decreases-loop-rest l = length l.rest
