use Rattle.mldp_node.proofs.PartLemmas.{cancelled}
use Rattle.mldp_node.proofs.settling.cancel.Goals as goal

pub returns : goal.returns
returns c = λ toward. cancelled toward c.args.trees.now c.unwait.new.self c.args.puts.now.items c.args.fec.now c.unwait.ensures
