use Rattle.made_laws.proofs.Whole.{made_read}
use Rattle.made_laws.proofs.laws.made_texts_are_read.Goals as goal

pub returns : goal.returns
returns c = made_read
