use Rattle.selective.proofs.RootLemmas.{same_test}
use Rattle.selective.proofs.root.matches.Goals as goal

pub returns : goal.returns
returns c = same_test c.matches.result c.args.pattern.now c.args.source c.args.group c.matches.ensures
