use Rattle.std.proofs.Common.{◌≡◌, ◌<◌, ◌≤◌, ◌⊎◌, length, inl, inr, refl, ap, arith}
use Rattle.edge_tables.specs.Tables.{PeerTable, with_route}
use Rattle.edge_tables.specs.Slots.{Becomes, peer_table}
use Rattle.edge_tables.specs.declared.slot.Slot.{Slot}
use Rattle.edge_tables.proofs.WayLemmas.{on_err, way_cut, way_end, way_more}
use Rattle.edge_tables.proofs.tables.set_each.Goals as goal

pub loop-slot-init : goal.loop-slot-init
loop-slot-init c = refl

pub loop-slot-preserved : goal.loop-slot-preserved
loop-slot-preserved c =
    let lt : c.loop-slot.slot-index < length c.loop-slot.slots = omega arith in
    way_more (Becomes (λ (old new : PeerTable). new ≡ with_route c.args.key.now c.args.value.now old)) c.loop-slot.slot-index c.args.slots.now
    c.loop-slot.slots c.slot-item.result c.set.new.self lt
    c.loop-slot.invariant (c.set.ensures.peer, c.in_ok-set.ensures.set)

pub returns-clause-set : goal.returns-clause-set
returns-clause-set c =
    let le : length c.loop-slot.slots ≤ c.loop-slot.slot-index = omega arith in
    way_end (Becomes (λ (old new : PeerTable). new ≡ with_route c.args.key.now c.args.value.now old)) c.loop-slot.slot-index c.args.slots.now
    c.loop-slot.slots le c.loop-slot.invariant

pub returns-in_err-set-clause-partly : goal.returns-in_err-set-clause-partly
returns-in_err-set-clause-partly c =
    let lt : c.loop-slot.slot-index < length c.loop-slot.slots = omega arith in
    on_err c.from_residual.result _
    (way_cut (Becomes (λ (old new : PeerTable). new ≡ with_route c.args.key.now c.args.value.now old))
    (Becomes (λ (old new : PeerTable). (new ≡ old) ⊎ (new ≡ with_route c.args.key.now c.args.value.now old)))
    (λ (x y : Slot) h. (h.0, inr h.1)) (λ (x : Slot). (refl, inl refl))
    c.loop-slot.slot-index c.args.slots.now c.loop-slot.slots c.slot-item.result c.set.new.self lt c.loop-slot.invariant
    (c.set.ensures.peer, inl (ap peer_table c.in_err-set.ensures.unchanged)))
