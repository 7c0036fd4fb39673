use Rattle.once_laws.proofs.Notes.{notes_told}
use Rattle.once_laws.proofs.laws.notes_are_told.Goals as goal

pub returns : goal.returns
returns c core script events trace world rules rises run = notes_told core script.scenario events trace world rules rises run
