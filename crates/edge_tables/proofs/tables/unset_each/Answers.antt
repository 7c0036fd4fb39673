use Rattle.std.proofs.Common.{◌≡◌, ◌<◌, ◌≤◌, ◌⊎◌, length, inl, inr, refl, ap, arith}
use Rattle.edge_tables.specs.Tables.{PeerTable, without_route}
use Rattle.edge_tables.specs.Slots.{Becomes, peer_table}
use Rattle.edge_tables.specs.declared.slot.Slot.{Slot}
use Rattle.edge_tables.proofs.WayLemmas.{on_err, way_cut, way_end, way_more}
use Rattle.edge_tables.proofs.tables.unset_each.Goals as goal

pub loop-slot-init : goal.loop-slot-init
loop-slot-init c = refl

pub loop-slot-preserved : goal.loop-slot-preserved
loop-slot-preserved c =
    let lt : c.loop-slot.slot-index < length c.loop-slot.slots = omega arith in
    way_more (Becomes (λ (old new : PeerTable). new ≡ without_route c.args.key.now old)) c.loop-slot.slot-index c.args.slots.now c.loop-slot.slots
    c.slot-item.result c.unset.new.self lt
    c.loop-slot.invariant (c.unset.ensures.peer, c.in_ok-unset.ensures.unset)

pub returns-clause-unset : goal.returns-clause-unset
returns-clause-unset c =
    let le : length c.loop-slot.slots ≤ c.loop-slot.slot-index = omega arith in
    way_end (Becomes (λ (old new : PeerTable). new ≡ without_route c.args.key.now old)) c.loop-slot.slot-index c.args.slots.now c.loop-slot.slots le
    c.loop-slot.invariant

pub returns-in_err-unset-clause-partly : goal.returns-in_err-unset-clause-partly
returns-in_err-unset-clause-partly c =
    let lt : c.loop-slot.slot-index < length c.loop-slot.slots = omega arith in
    on_err c.from_residual.result _
    (way_cut (Becomes (λ (old new : PeerTable). new ≡ without_route c.args.key.now old))
    (Becomes (λ (old new : PeerTable). (new ≡ old) ⊎ (new ≡ without_route c.args.key.now old)))
    (λ (x y : Slot) h. (h.0, inr h.1)) (λ (x : Slot). (refl, inl refl))
    c.loop-slot.slot-index c.args.slots.now c.loop-slot.slots c.slot-item.result c.unset.new.self lt c.loop-slot.invariant
    (c.unset.ensures.peer, inl (ap peer_table c.in_err-unset.ensures.unchanged)))
