use Rattle.core_pcap.proofs.Appends.{three}
use Rattle.core_pcap.proofs.writing.push_hop.Goals as goal

pub returns : goal.returns
returns c =
    three c.args.out.now _ _ _ _ _ _ c.in_ok-push_time.ensures (rw c.len.ensures at c.in_ok-push_lengths.ensures) c.in_ok-push_frame.ensures
