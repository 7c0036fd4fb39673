use Rattle.once_laws.proofs.Zeros.{zeros_of}
use Rattle.once_laws.proofs.laws.zeros_are_calm.Goals as goal

pub returns : goal.returns
returns c = zeros_of
