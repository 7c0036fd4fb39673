use Rattle.ingress_laws.proofs.CopyLemmas.{copies_are_under}
use Rattle.ingress_laws.proofs.texts.copies_are_of_routes.Goals as goal

pub returns : goal.returns
returns c = copies_are_under
