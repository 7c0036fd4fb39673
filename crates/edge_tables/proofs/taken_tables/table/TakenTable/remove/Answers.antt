use Rattle.edge_tables.specs.taken_tables.Slots.{taken_in}
use Rattle.edge_tables.proofs.taken_tables.WaitLemmas.{rest_noted}
use Rattle.edge_tables.proofs.taken_tables.table.TakenTable.remove.Goals as goal

pub invariant_of-self : goal.invariant_of-self
invariant_of-self c =
    rest_noted c.self.inside.earliest (taken_in c.self.inside.routes) (taken_in c.remove.new.self) c.args.key.now c.self.invariant c.remove.ensures
