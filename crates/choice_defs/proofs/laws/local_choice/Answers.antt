use Rattle.choice_defs.proofs.ChoiceLemmas.{site_of_longest}
use Rattle.choice_defs.proofs.laws.local_choice.Goals as goal

pub returns : goal.returns
returns c = site_of_longest
