use Rattle.selective.proofs.RootLemmas.{run_root}
use Rattle.selective.proofs.root.RootTunnels.timers.Goals as goal

pub invariant_of-self : goal.invariant_of-self
invariant_of-self c =
    run_root c.self.inside.number c.self.inside.delay c.args.now c.self.inside.selections.items c.run_due.new.selections.items c.run_due.ensures
    c.self.invariant
