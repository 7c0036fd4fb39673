use Rattle.label_forwarding.proofs.HopLemmas.{sorted_then, set_then, set_stays}
use Rattle.label_forwarding.proofs.branches.Branches.insert.Goals as goal

pub invariant_of-self : goal.invariant_of-self
invariant_of-self c =
    sorted_then c.put.result c.self.inside.items.items c.put.new.items.items c.args.branch c.self.invariant c.put.ensures.ok c.put.ensures.err

pub returns-clause-ok : goal.returns-clause-ok
returns-clause-ok c =
    set_then c.put.result c.self.inside.items.items c.put.new.items.items c.args.branch c.args.self.now c.self.view_is c.self.invariant
    c.put.ensures.ok

pub returns-clause-err : goal.returns-clause-err
returns-clause-err c = set_stays c.put.result c.self.inside.items.items c.put.new.items.items c.args.self.now c.self.view_is c.put.ensures.err
