use Rattle.network_defs.proofs.session_defs.Example.{cut_in_two}
use Rattle.network_defs.proofs.session_defs.laws.a_message_cut_in_two.Goals as goal

pub returns : goal.returns
returns c = cut_in_two
