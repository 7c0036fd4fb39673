use Rattle.once_laws.proofs.StandRuns.{asks_told}
use Rattle.once_laws.proofs.laws.asks_are_told.Goals as goal

pub returns : goal.returns
returns c core script events trace world rules rises run = asks_told core script.scenario events trace world rules rises run
