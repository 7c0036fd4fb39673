use Rattle.bgp_values.proofs.mvpn_nlri.CallLemmas.{one}
use Rattle.bgp_values.proofs.mvpn_nlri.reading.one_spelling.Goals as goal

pub returns : goal.returns
returns c = one
