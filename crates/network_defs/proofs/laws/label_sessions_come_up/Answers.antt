use Rattle.network_defs.proofs.Example.{label_sessions}
use Rattle.network_defs.proofs.laws.label_sessions_come_up.Goals as goal

pub returns : goal.returns
returns c = label_sessions
