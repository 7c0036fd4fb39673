use Rattle.vrf_words.proofs.tree_laws.Joins.{joins_are, no_join}
use Rattle.vrf_words.proofs.tree_laws.laws.joins_are_told.Goals as goal

pub returns-clause-joins : goal.returns-clause-joins
returns-clause-joins c place control trees peer rd source_as flow h of_vrfs = joins_are place control peer rd source_as flow trees h of_vrfs

pub returns-clause-none : goal.returns-clause-none
returns-clause-none c = no_join
