use Rattle.probe_defs.proofs.LineLemmas.{comes}
use Rattle.probe_defs.proofs.StreamLemmas.{yields}
use Rattle.probe_defs.proofs.laws.lines_make_a_probe.Goals as goal

pub returns-clause-comes : goal.returns-clause-comes
returns-clause-comes c = comes

pub returns-clause-yields : goal.returns-clause-yields
returns-clause-yields c = yields
