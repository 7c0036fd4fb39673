use Rattle.std.proofs.Common.{◌≡◌, ◌<◌, ◌≤◌, length, inl, refl, arith}
use Rattle.edge_tables.specs.Tables.{IsPutPart, PeerTable, put_after}
use Rattle.edge_tables.specs.Slots.{Becomes, peer_table}
use Rattle.edge_tables.specs.declared.slot.Slot.{Slot}
use Rattle.edge_tables.proofs.PutLemmas.{part_of_all}
use Rattle.edge_tables.proofs.WayLemmas.{on_err, way_cut, way_end, way_more}
use Rattle.edge_tables.proofs.tables.put_each.Goals as goal

pub loop-slot-init : goal.loop-slot-init
loop-slot-init c = refl

pub loop-slot-preserved : goal.loop-slot-preserved
loop-slot-preserved c =
    let lt : c.loop-slot.slot-index < length c.loop-slot.slots = omega arith in
    way_more (Becomes (λ (old new : PeerTable). new ≡ put_after old)) c.loop-slot.slot-index c.args.slots.now c.loop-slot.slots c.slot-item.result
    c.put.new.self lt
    c.loop-slot.invariant (c.put.ensures.peer, c.in_ok-put.ensures.put)

pub returns-clause-put : goal.returns-clause-put
returns-clause-put c =
    let le : length c.loop-slot.slots ≤ c.loop-slot.slot-index = omega arith in
    way_end (Becomes (λ (old new : PeerTable). new ≡ put_after old)) c.loop-slot.slot-index c.args.slots.now c.loop-slot.slots le
    c.loop-slot.invariant

pub returns-in_err-put-clause-partly : goal.returns-in_err-put-clause-partly
returns-in_err-put-clause-partly c =
    let lt : c.loop-slot.slot-index < length c.loop-slot.slots = omega arith in
    on_err c.from_residual.result _
    (way_cut (Becomes (λ (old new : PeerTable). new ≡ put_after old)) (Becomes IsPutPart)
    (λ (x y : Slot) h. (h.0, part_of_all (peer_table x) (peer_table y) h.1)) (λ (x : Slot). (refl, inl refl))
    c.loop-slot.slot-index c.args.slots.now c.loop-slot.slots c.slot-item.result c.put.new.self lt c.loop-slot.invariant
    (c.put.ensures.peer, c.in_err-put.ensures.partly))
