use Rattle.made_laws.proofs.GrowLemmas.{made_grows}
use Rattle.made_laws.proofs.growing.made_scripts_only_grow.Goals as goal

pub returns : goal.returns
returns c = made_grows
