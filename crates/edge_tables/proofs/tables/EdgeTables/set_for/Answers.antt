use Rattle.std.proofs.Common.{◌≡◌, ◌∙◌}
use Rattle.std.proofs.lemmas.Result.{on_ok_weaker}
use Rattle.edge_tables.specs.Slots.{peer_table}
use Rattle.edge_tables.specs.Tables.{PeerTable, with_route}
use Rattle.edge_tables.proofs.SlotLemmas.{no_slot, slot_set, unknown}
use Rattle.edge_tables.proofs.tables.EdgeTables.set_for.Goals as goal

pub returns-in-None-clause-set : goal.returns-in-None-clause-set
returns-in-None-clause-set c =
    unknown (λ (old new : PeerTable). new ≡ with_route c.args.key.now c.args.value.now old) c.args.self.now c.args.peer
    (no_slot c.self.inside.slots.items c.deref.result.now c.args.self.now c.args.peer c.self.view_is c.deref.ensures.value c.in-None.ensures.place)

pub returns-in_ok-value-in-Some-clause-set : goal.returns-in_ok-value-in-Some-clause-set
returns-in_ok-value-in-Some-clause-set c =
    on_ok_weaker c.set.result
    (λ set.
    slot_set c.self.inside.slots.items c.deref.result.now c.args.self.now c.args.peer c.in-Some.place c.index_mut.result.now c.self.view_is
    c.deref.ensures.value c.in-Some.ensures.place c.index_mut.ensures.value
    (λ (old new : PeerTable). new ≡ with_route c.args.key.now c.args.value.now old) c.set.new.self c.set.ensures.peer
    (set ∙ (λ i. with_route (c.in_ok-key-in-Some.ensures i) (c.in_ok-value-in-Some.ensures i) (peer_table c.index_mut.result.now))))
    c.set.ensures.set
