use Rattle.std.proofs.Common.{◌≡◌}
use Rattle.std.proofs.lemmas.Result.{on_ok_weaker}
use Rattle.edge_tables.specs.Tables.{PeerTable, raised}
use Rattle.edge_tables.proofs.SlotLemmas.{no_slot, slot_set, unknown}
use Rattle.edge_tables.proofs.tables.EdgeTables.raise.Goals as goal

pub returns-in-None-clause-raised : goal.returns-in-None-clause-raised
returns-in-None-clause-raised c =
    unknown (λ (old new : PeerTable). new ≡ raised old) c.args.self.now c.args.peer
    (no_slot c.self.inside.slots.items c.deref.result.now c.args.self.now c.args.peer c.self.view_is c.deref.ensures.value c.in-None.ensures.place)

pub returns-in-Some-clause-raised : goal.returns-in-Some-clause-raised
returns-in-Some-clause-raised c =
    on_ok_weaker c.raise.result
    (slot_set c.self.inside.slots.items c.deref.result.now c.args.self.now c.args.peer c.in-Some.place c.index_mut.result.now c.self.view_is
    c.deref.ensures.value c.in-Some.ensures.place c.index_mut.ensures.value
    (λ (old new : PeerTable). new ≡ raised old) c.raise.new.self c.raise.ensures.peer)
    c.raise.ensures.raised
