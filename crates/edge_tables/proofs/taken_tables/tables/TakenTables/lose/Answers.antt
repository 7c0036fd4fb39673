use Rattle.std.proofs.Common.{sym, ap, subst, ◌∙◌}
use Rattle.std.specs.FinMap.{remove}
use Rattle.edge_tables.specs.taken_tables.Slots.{tables_of}
use Rattle.edge_tables.specs.taken_tables.Tables.{AreSpelled, Tables}
use Rattle.edge_tables.proofs.taken_tables.MapLemmas.{others_spelled, removed}
use Rattle.edge_tables.proofs.taken_tables.tables.TakenTables.lose.Goals as goal

pub invariant_of-self : goal.invariant_of-self
invariant_of-self c =
    let old = c.self.inside.slots.entries in
    subst AreSpelled (sym (removed old c.remove.new.self.entries c.args.peer c.remove.ensures.updates.0))
    (others_spelled (tables_of old) c.args.peer c.self.invariant)

pub returns : goal.returns
returns c =
    removed c.self.inside.slots.entries c.remove.new.self.entries c.args.peer c.remove.ensures.updates.0
    ∙ ap (λ (tables : Tables). remove tables c.args.peer) c.self.view_is
