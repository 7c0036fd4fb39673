use Rattle.core_pcap.proofs.Files.{written_more}
use Rattle.core_pcap.proofs.writing.file_of.Goals as goal

pub loop-hop-preserved : goal.loop-hop-preserved
loop-hop-preserved c =
    written_more c.as_slice-items.result.now c.loop-hop.hop-index c.hop-item.result c.loop-hop.out c.write_hop.new.out c.loop-hop-test.true
    c.hop-item.is c.loop-hop.invariant c.in_ok-write_hop.ensures.ok
