use Rattle.wire_laws.proofs.AnyNodeLemmas.{call_lacks, call_made}
use Rattle.wire_laws.proofs.nodes.calls_of_a_node_are_acts.Goals as goal

pub returns-clause-made : goal.returns-clause-made
returns-clause-made c = λ n network node call new is e. call_made n network node call is new e

pub returns-clause-lacks : goal.returns-clause-lacks
returns-clause-lacks c = λ n network node call is e. call_lacks n network node call is e
