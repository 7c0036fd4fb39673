use Rattle.once_laws.proofs.Once.{choices_calm}
use Rattle.once_laws.proofs.laws.choices_are_calm.Goals as goal

pub returns : goal.returns
returns c = choices_calm
