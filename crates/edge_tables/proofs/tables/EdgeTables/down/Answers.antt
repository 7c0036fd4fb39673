use Rattle.std.proofs.Common.{◌≡◌}
use Rattle.edge_tables.specs.Tables.{PeerTable, downed}
use Rattle.edge_tables.proofs.SlotLemmas.{no_slot, slot_set, unknown}
use Rattle.edge_tables.proofs.tables.EdgeTables.down.Goals as goal

pub returns-in-None : goal.returns-in-None
returns-in-None c =
    unknown (λ (old new : PeerTable). new ≡ downed old) c.args.self.now c.args.peer
    (no_slot c.self.inside.slots.items c.deref.result.now c.args.self.now c.args.peer c.self.view_is c.deref.ensures.value c.in-None.ensures.place)

pub returns-in-Some : goal.returns-in-Some
returns-in-Some c =
    slot_set c.self.inside.slots.items c.deref.result.now c.args.self.now c.args.peer c.in-Some.place c.index_mut.result.now c.self.view_is
    c.deref.ensures.value c.in-Some.ensures.place c.index_mut.ensures.value
    (λ (old new : PeerTable). new ≡ downed old) c.down.new.self c.down.ensures.peer c.down.ensures.downed
