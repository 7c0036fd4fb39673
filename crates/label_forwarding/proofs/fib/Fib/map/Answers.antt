use Rattle.std.proofs.Common.{◌∙◌, ap, sym, refl}
use Rattle.std.specs.FinMap as maps
use Rattle.label_forwarding.specs.FibData.{FibData, hop}
use Rattle.label_forwarding.specs.Slots.{had, counted}
use Rattle.label_forwarding.proofs.FibLemmas.{pair_seen}
use Rattle.label_forwarding.proofs.StepLemmas.{roomier, roomier_view}
use Rattle.label_forwarding.proofs.OpLemmas.{map_leaves, one_fits, swapped, counted_busy}
use Rattle.label_forwarding.proofs.fib.Fib.map.Goals as goal

pub note-requires-clause-absent : goal.note-requires-clause-absent
note-requires-clause-absent c =
    sym (pair_seen c.make_room.new.table c.make_room-2.new.table (hop c.args.from c.args.label))
    ∙ (ap (λ (f : FibData). maps.get f.pairs (hop c.args.from c.args.label))
    (roomier_view c.self.inside.pairs c.make_room.new.table c.self.inside.slots c.make_room-2.new.table c.make_room.ensures.entries
    c.make_room-2.ensures.entries ∙ c.self.view_is)
    ∙ c.requires)

pub count-requires-clause-few : goal.count-requires-clause-few
count-requires-clause-few c =
    one_fits c.make_room.new.table c.note.new.pairs c.make_room-2.new.table c.args.fec (had c.make_room-2.new.table c.args.fec)
    (roomier c.self.inside.pairs c.make_room.new.table c.self.inside.slots c.make_room-2.new.table c.make_room.ensures.entries c.make_room-2.ensures.entries
    c.self.invariant) refl c.note.ensures.counts c.note.ensures.few

pub invariant_of-self-2 : goal.invariant_of-self-2
invariant_of-self-2 c =
    let slot = had c.make_room-2.new.table c.args.fec in
    let fib =
    roomier c.self.inside.pairs c.make_room.new.table c.self.inside.slots c.make_room-2.new.table c.make_room.ensures.entries c.make_room-2.ensures.entries
    c.self.invariant in
    (
    map_leaves c.make_room.new.table c.note.new.pairs c.make_room-2.new.table c.make_room-2.new.table c.count.new.slots (hop c.args.from c.args.label)
    c.args.fec slot (counted slot) fib
    (swapped c.make_room-2.new.table c.count.new.slots c.args.fec (counted slot) refl (counted_busy slot) c.count.ensures.each c.count.ensures.unique)
    c.note.ensures.each c.note.ensures.unique c.note.ensures.counts refl refl).0

pub returns-clause-ok : goal.returns-clause-ok
returns-clause-ok c =
    let slot = had c.make_room-2.new.table c.args.fec in
    let fib =
    roomier c.self.inside.pairs c.make_room.new.table c.self.inside.slots c.make_room-2.new.table c.make_room.ensures.entries c.make_room-2.ensures.entries
    c.self.invariant in
    (
    map_leaves c.make_room.new.table c.note.new.pairs c.make_room-2.new.table c.make_room-2.new.table c.count.new.slots (hop c.args.from c.args.label)
    c.args.fec slot (counted slot) fib
    (swapped c.make_room-2.new.table c.count.new.slots c.args.fec (counted slot) refl (counted_busy slot) c.count.ensures.each c.count.ensures.unique)
    c.note.ensures.each c.note.ensures.unique c.note.ensures.counts refl refl).1
    ∙ ap (λ (f : FibData). record f { pairs = maps.insert f.pairs (hop c.args.from c.args.label) c.args.fec })
    (roomier_view c.self.inside.pairs c.make_room.new.table c.self.inside.slots c.make_room-2.new.table c.make_room.ensures.entries
    c.make_room-2.ensures.entries ∙ c.self.view_is)
