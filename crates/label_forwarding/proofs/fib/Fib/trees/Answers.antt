use Rattle.std.proofs.lemmas.Result.{IfOk-weaker}
use Rattle.label_forwarding.proofs.KnownLemmas.{all_known}
use Rattle.label_forwarding.proofs.fib.Fib.trees.Goals as goal

pub returns : goal.returns
returns c =
    IfOk-weaker c.fecs_of.result _ _ (λ fecs own. all_known c.self.inside.pairs c.self.inside.slots c.args.self.now c.self.invariant c.self.view_is
    fecs.items own) c.fecs_of.ensures
