use Rattle.generator.proofs.RepeatLemmas.{made_same}
use Rattle.generator.proofs.laws.texts_repeat.Goals as goal

pub returns : goal.returns
returns c = made_same
