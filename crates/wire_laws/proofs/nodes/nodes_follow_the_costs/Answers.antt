use Rattle.wire_laws.proofs.AnyNodeLemmas.{follow_lacks, follow_made}
use Rattle.wire_laws.proofs.nodes.nodes_follow_the_costs.Goals as goal

pub returns-clause-made : goal.returns-clause-made
returns-clause-made c = λ n network node new is e. follow_made n network node is new e

pub returns-clause-lacks : goal.returns-clause-lacks
returns-clause-lacks c = λ n network node is e. follow_lacks n network node is e
