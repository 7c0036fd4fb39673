use Rattle.vrf_words.proofs.tree_laws.Refreshed.{flows_of_vrfs, no_flows, refreshed_tree}
use Rattle.vrf_words.proofs.tree_laws.laws.trees_are_refreshed.Goals as goal

pub returns-clause-tree : goal.returns-clause-tree
returns-clause-tree c = refreshed_tree

pub returns-clause-vrfs : goal.returns-clause-vrfs
returns-clause-vrfs c = flows_of_vrfs

pub returns-clause-start : goal.returns-clause-start
returns-clause-start c = no_flows
