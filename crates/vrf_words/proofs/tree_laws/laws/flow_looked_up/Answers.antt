use Rattle.vrf_words.proofs.tree_laws.Choices.{choice_is}
use Rattle.vrf_words.proofs.tree_laws.Flows.{looked_up}
use Rattle.vrf_words.proofs.tree_laws.laws.flow_looked_up.Goals as goal

pub returns-clause-choice : goal.returns-clause-choice
returns-clause-choice c place control own tree flow is rules nodes whole = choice_is place control own tree is whole rules nodes flow

pub returns-clause-flow : goal.returns-clause-flow
returns-clause-flow c = looked_up
