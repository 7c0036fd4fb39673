use Rattle.mldp_node.proofs.PartLemmas.{mapped_to}
use Rattle.mldp_node.proofs.settling.map.Goals as goal

pub returns-in_ok-put-in-Some-clause-ok : goal.returns-in_ok-put-in-Some-clause-ok
returns-in_ok-put-in-Some-clause-ok c =
    mapped_to c.args.trees.now c.map.new.self c.args.puts.now.items c.put.new.puts.items c.args.fec.now c.args.upstream c.in_ok-map.field-0
    c.in-Some.label
    c.in_ok-map.ensures.least c.in-Some.is c.in_ok-map.ensures.mapped c.in_ok-put-in-Some.ensures
