use Rattle.std.proofs.Common.{◌≡◌, [], ◌∙◌, ap, sym}
use Rattle.edge_tables.specs.Tables.{PeerTable, waiting_of}
use Rattle.edge_tables.proofs.ActivityLemmas.{none_taken, none_waiting, silent_all, silent_already}
use Rattle.edge_tables.proofs.SlotLemmas.{no_slot, slot_at, slot_kept, slot_set, unknown}
use Rattle.edge_tables.proofs.tables.EdgeTables.take_out.Goals as goal

pub returns-in-Silent-clause-result : goal.returns-in-Silent-clause-result
returns-in-Silent-clause-result c =
    c.new.ensures
    ∙ sym (none_waiting c.self.inside.slots.items c.args.self.now c.args.peer c.self.view_is
    (silent_all c.self.inside.activity c.self.inside.slots.items c.in-Silent.is c.self.invariant))

pub returns-in-Silent-clause-taken : goal.returns-in-Silent-clause-taken
returns-in-Silent-clause-taken c =
    none_taken c.self.inside.slots.items c.args.self.now c.args.peer c.self.view_is
    (silent_all c.self.inside.activity c.self.inside.slots.items c.in-Silent.is c.self.invariant)

pub returns-in-None-clause-result : goal.returns-in-None-clause-result
returns-in-None-clause-result c =
    c.new-in-None.ensures
    ∙ sym (ap waiting_of (no_slot c.self.inside.slots.items c.deref.result.now c.args.self.now c.args.peer c.self.view_is c.deref.ensures.value
    c.in-None.ensures.place))

pub returns-in-None-clause-taken : goal.returns-in-None-clause-taken
returns-in-None-clause-taken c =
    unknown (λ (old new : PeerTable). new ≡ record old { waiting = [] }) c.args.self.now c.args.peer
    (no_slot c.self.inside.slots.items c.deref.result.now c.args.self.now c.args.peer c.self.view_is c.deref.ensures.value c.in-None.ensures.place)

pub returns-else-is_empty-clause-result : goal.returns-else-is_empty-clause-result
returns-else-is_empty-clause-result c =
    c.take_out-taken.ensures.result
    ∙ sym (ap waiting_of (slot_at c.self.inside.slots.items c.deref.result.now c.args.self.now c.args.peer c.in-Some.place c.index_mut.result.now
    c.self.view_is c.deref.ensures.value c.in-Some.ensures.place c.index_mut.ensures.value))

pub returns-else-is_empty-clause-taken : goal.returns-else-is_empty-clause-taken
returns-else-is_empty-clause-taken c =
    slot_set c.self.inside.slots.items c.deref.result.now c.args.self.now c.args.peer c.in-Some.place c.index_mut.result.now c.self.view_is
    c.deref.ensures.value c.in-Some.ensures.place c.index_mut.ensures.value
    (λ (old new : PeerTable). new ≡ record old { waiting = [] }) c.take_out-taken.new.self c.take_out-taken.ensures.peer c.take_out-taken.ensures.taken

pub returns-then-is_empty-clause-result : goal.returns-then-is_empty-clause-result
returns-then-is_empty-clause-result c =
    c.new-then-is_empty.ensures
    ∙ sym (ap waiting_of (slot_at c.self.inside.slots.items c.deref.result.now c.args.self.now c.args.peer c.in-Some.place c.index.result.now
    c.self.view_is c.deref.ensures.value c.in-Some.ensures.place c.index.ensures) ∙ c.is_empty.ensures.0 c.if-is_empty.true)

pub returns-then-is_empty-clause-taken : goal.returns-then-is_empty-clause-taken
returns-then-is_empty-clause-taken c =
    slot_kept c.self.inside.slots.items c.deref.result.now c.args.self.now c.args.peer c.in-Some.place c.index.result.now c.self.view_is
    c.deref.ensures.value c.in-Some.ensures.place c.index.ensures
    (λ (old new : PeerTable). new ≡ record old { waiting = [] })
    (silent_already c.index.result.now (c.is_empty.ensures.0 c.if-is_empty.true))
