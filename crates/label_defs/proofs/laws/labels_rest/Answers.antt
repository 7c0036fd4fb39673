use Rattle.label_defs.proofs.RestLemmas.{leaves_on, released_rests, rests_on}
use Rattle.label_defs.proofs.laws.labels_rest.Goals as goal

pub returns-clause-leaves : goal.returns-clause-leaves
returns-clause-leaves c = leaves_on

pub returns-clause-released : goal.returns-clause-released
returns-clause-released c = released_rests

pub returns-clause-rests : goal.returns-clause-rests
returns-clause-rests c = rests_on
