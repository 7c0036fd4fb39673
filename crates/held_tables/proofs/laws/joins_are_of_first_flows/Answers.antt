use Rattle.vrf_words.proofs.tree_laws.Joins.{joins_by_vrfs}
use Rattle.held_tables.proofs.laws.joins_are_of_first_flows.Goals as goal

pub returns : goal.returns
returns c = λ place control peer rd source_as flow of_vrfs. joins_by_vrfs place control peer rd source_as flow of_vrfs
