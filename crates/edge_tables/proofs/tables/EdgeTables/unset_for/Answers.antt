use Rattle.std.proofs.Common.{◌≡◌}
use Rattle.std.proofs.lemmas.Result.{on_ok_weaker}
use Rattle.edge_tables.specs.Tables.{PeerTable, without_route}
use Rattle.edge_tables.proofs.SlotLemmas.{no_slot, slot_set, unknown}
use Rattle.edge_tables.proofs.tables.EdgeTables.unset_for.Goals as goal

pub returns-in-None-clause-unset : goal.returns-in-None-clause-unset
returns-in-None-clause-unset c =
    unknown (λ (old new : PeerTable). new ≡ without_route c.args.key.now old) c.args.self.now c.args.peer
    (no_slot c.self.inside.slots.items c.deref.result.now c.args.self.now c.args.peer c.self.view_is c.deref.ensures.value c.in-None.ensures.place)

pub returns-in-Some-clause-unset : goal.returns-in-Some-clause-unset
returns-in-Some-clause-unset c =
    on_ok_weaker c.unset.result
    (slot_set c.self.inside.slots.items c.deref.result.now c.args.self.now c.args.peer c.in-Some.place c.index_mut.result.now c.self.view_is
    c.deref.ensures.value c.in-Some.ensures.place c.index_mut.ensures.value
    (λ (old new : PeerTable). new ≡ without_route c.args.key.now old) c.unset.new.self c.unset.ensures.peer)
    c.unset.ensures.unset
