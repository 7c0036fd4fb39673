use Rattle.once_laws.proofs.Behind.{known_of, labels_calm}
use Rattle.once_laws.proofs.laws.labels_are_calm.Goals as goal

pub returns : goal.returns
returns c core script events trace world calm root within fec rooted =
    labels_calm script.scenario core world (known_of core script events trace world calm) root within fec rooted
