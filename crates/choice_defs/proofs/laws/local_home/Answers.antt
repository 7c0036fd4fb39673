use Rattle.choice_defs.proofs.HomeLemmas.{local_home}
use Rattle.choice_defs.proofs.laws.local_home.Goals as goal

pub returns : goal.returns
returns c = local_home
