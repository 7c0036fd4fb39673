use Rattle.std.proofs.Common.{◌∙◌, ap, sym}
use Rattle.edge_tables.specs.Tables.{up_of}
use Rattle.edge_tables.proofs.SlotLemmas.{no_slot, slot_at}
use Rattle.edge_tables.proofs.tables.EdgeTables.is_up.Goals as goal

pub returns-in-None : goal.returns-in-None
returns-in-None c =
    sym (ap up_of (no_slot c.self.inside.slots.items c.deref.result.now c.args.self.now c.args.peer c.self.view_is c.deref.ensures.value
    c.in-None.ensures.place))

pub returns-in-Some : goal.returns-in-Some
returns-in-Some c =
    c.is_up.ensures
    ∙ sym (ap up_of (slot_at c.self.inside.slots.items c.deref.result.now c.args.self.now c.args.peer c.in-Some.place c.index.result.now
    c.self.view_is c.deref.ensures.value c.in-Some.ensures.place c.index.ensures))
