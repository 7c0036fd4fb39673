use Rattle.std.proofs.Common.{ap}
use Rattle.edge_tables.specs.taken_tables.Slots.{taken_in}
use Rattle.edge_tables.proofs.taken_tables.WaitLemmas.{entered_noted}
use Rattle.edge_tables.proofs.taken_tables.table.TakenTable.enter.Goals as goal

pub invariant_of-self-2 : goal.invariant_of-self-2
invariant_of-self-2 c =
    entered_noted c.self.inside.earliest c.earliest_with-earliest.result c.in_ok-fresh.fresh (taken_in c.self.inside.routes) (taken_in c.enter.new.self)
    c.in_ok-own.own c.args.entry c.self.invariant c.earliest_with-earliest.ensures c.in_ok-fresh.ensures.entered
    (λ no. ap taken_in (c.in_ok-fresh.ensures.stays no))
