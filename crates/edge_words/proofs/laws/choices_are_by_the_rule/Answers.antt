use Rattle.edge_words.proofs.Known.{of_edges, chosen_is, none_is}
use Rattle.edge_words.proofs.laws.choices_are_by_the_rule.Goals as goal

pub returns-clause-edges : goal.returns-clause-edges
returns-clause-edges c = of_edges

pub returns-clause-chosen : goal.returns-clause-chosen
returns-clause-chosen c = chosen_is

pub returns-clause-none : goal.returns-clause-none
returns-clause-none c = none_is
