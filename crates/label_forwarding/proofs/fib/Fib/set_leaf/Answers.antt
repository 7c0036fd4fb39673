use Rattle.std.proofs.Common.{◌∙◌, ap, refl}
use Rattle.label_forwarding.specs.FibData.{FibData, with_leaf}
use Rattle.label_forwarding.specs.Slots.{had, with_mark}
use Rattle.label_forwarding.proofs.StepLemmas.{roomier, roomier_view}
use Rattle.label_forwarding.proofs.OpLemmas.{leaf_leaves}
use Rattle.label_forwarding.proofs.fib.Fib.set_leaf.Goals as goal

pub invariant_of-self-2 : goal.invariant_of-self-2
invariant_of-self-2 c =
    let slot = had c.make_room.new.table c.args.fec in
    let fib = roomier c.self.inside.pairs c.self.inside.pairs c.self.inside.slots c.make_room.new.table refl c.make_room.ensures.entries c.self.invariant in
    (
    leaf_leaves c.self.inside.pairs c.make_room.new.table c.make_room.new.table c.set_leaf.new.slots c.args.fec c.args.leaf slot
    (with_mark slot c.args.leaf) fib
    (record {
      value = refl;
      others = λ other e. refl;
      own = refl;
      each = c.set_leaf.ensures.each;
      unique = c.set_leaf.ensures.unique;
    })
    refl refl refl).0

pub returns-clause-ok : goal.returns-clause-ok
returns-clause-ok c =
    let slot = had c.make_room.new.table c.args.fec in
    let fib = roomier c.self.inside.pairs c.self.inside.pairs c.self.inside.slots c.make_room.new.table refl c.make_room.ensures.entries c.self.invariant in
    (
    leaf_leaves c.self.inside.pairs c.make_room.new.table c.make_room.new.table c.set_leaf.new.slots c.args.fec c.args.leaf slot
    (with_mark slot c.args.leaf) fib
    (record {
      value = refl;
      others = λ other e. refl;
      own = refl;
      each = c.set_leaf.ensures.each;
      unique = c.set_leaf.ensures.unique;
    })
    refl refl refl).1
    ∙ ap (λ (f : FibData). record f { leaves = with_leaf f.leaves c.args.fec c.args.leaf })
    (roomier_view c.self.inside.pairs c.self.inside.pairs c.self.inside.slots c.make_room.new.table refl c.make_room.ensures.entries ∙ c.self.view_is)
