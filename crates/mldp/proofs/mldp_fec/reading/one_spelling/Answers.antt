use Rattle.mldp.proofs.mldp_fec.CallLemmas.{one}
use Rattle.mldp.proofs.mldp_fec.reading.one_spelling.Goals as goal

pub returns : goal.returns
returns c = one
