use Rattle.node_laws.proofs.PartLemmas.{leaves_made, parts_lack, parts_made}
use Rattle.node_laws.proofs.parts.parts_make_a_step.Goals as goal

pub returns-clause-made : goal.returns-clause-made
returns-clause-made c = λ place now call state control new_control node new_node waiting new_waiting has stepped made unspent puts.
    parts_made place now call state control node waiting has new_control new_node new_waiting stepped made unspent puts

pub returns-clause-lacks : goal.returns-clause-lacks
returns-clause-lacks c = λ place now call state control node waiting has h. parts_lack place now call state control node waiting has h

pub returns-clause-leaves : goal.returns-clause-leaves
returns-clause-leaves c = leaves_made
