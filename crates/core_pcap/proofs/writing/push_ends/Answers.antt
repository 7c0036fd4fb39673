use Rattle.core_pcap.proofs.Appends.{two}
use Rattle.core_pcap.proofs.writing.push_ends.Goals as goal

pub returns : goal.returns
returns c = two c.args.out.now _ _ _ _ c.in_ok-push_node.ensures c.in_ok-push_node-2.ensures
