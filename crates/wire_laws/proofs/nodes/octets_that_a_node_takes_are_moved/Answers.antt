use Rattle.wire_laws.proofs.AnyNodeLemmas.{move_lacks, move_made}
use Rattle.wire_laws.proofs.nodes.octets_that_a_node_takes_are_moved.Goals as goal

pub returns-clause-made : goal.returns-clause-made
returns-clause-made c = λ n from kind count network node new is has joined sound e. move_made n from kind count network joined node is has sound new e

pub returns-clause-lacks : goal.returns-clause-lacks
returns-clause-lacks c = λ n from kind count network node is has joined sound e. move_lacks n from kind count network joined node is has sound e
