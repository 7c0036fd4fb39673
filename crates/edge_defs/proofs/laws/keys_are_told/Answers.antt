use Rattle.edge_defs.proofs.KeyLemmas.{key_exact, note_exact, pattern_exact, flow_exact, value_exact}
use Rattle.edge_defs.proofs.laws.keys_are_told.Goals as goal

pub returns-clause-keys : goal.returns-clause-keys
returns-clause-keys c = key_exact

pub returns-clause-notes : goal.returns-clause-notes
returns-clause-notes c = note_exact

pub returns-clause-patterns : goal.returns-clause-patterns
returns-clause-patterns c = pattern_exact

pub returns-clause-flows : goal.returns-clause-flows
returns-clause-flows c = flow_exact

pub returns-clause-exact : goal.returns-clause-exact
returns-clause-exact c = value_exact
