use Rattle.once_laws.proofs.StandRuns.{entries_told}
use Rattle.once_laws.proofs.laws.entries_are_told.Goals as goal

pub returns : goal.returns
returns c core script events trace world rules rises run = entries_told core script.scenario events trace world rules rises run
