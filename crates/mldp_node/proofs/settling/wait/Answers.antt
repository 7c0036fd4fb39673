use Rattle.mldp_node.proofs.PartLemmas.{waited_if}
use Rattle.mldp_node.proofs.settling.wait.Goals as goal

pub returns : goal.returns
returns c = waited_if c.wait.result c.args.trees.now c.wait.new.self c.args.puts.now.items c.args.fec.now c.args.upstream c.wait.ensures
