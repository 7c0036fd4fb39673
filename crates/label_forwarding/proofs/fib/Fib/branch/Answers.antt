use Rattle.std.proofs.Common.{◌∙◌, refl}
use Rattle.label_forwarding.proofs.StepLemmas.{roomier, roomier_view}
use Rattle.label_forwarding.proofs.OpLemmas.{add_keeps, add_ok, add_err}
use Rattle.label_forwarding.proofs.fib.Fib.branch.Goals as goal

pub invariant_of-self-2 : goal.invariant_of-self-2
invariant_of-self-2 c =
    add_keeps c.add.result c.self.inside.pairs c.make_room.new.table c.add.new.slots c.args.fec c.args.branch
    (roomier c.self.inside.pairs c.self.inside.pairs c.self.inside.slots c.make_room.new.table refl c.make_room.ensures.entries c.self.invariant)
    c.add.ensures.ok c.add.ensures.err c.add.ensures.unique

pub returns-clause-ok : goal.returns-clause-ok
returns-clause-ok c =
    add_ok c.add.result c.self.inside.pairs c.make_room.new.table c.add.new.slots c.args.fec c.args.branch c.args.self.now
    (roomier_view c.self.inside.pairs c.self.inside.pairs c.self.inside.slots c.make_room.new.table refl c.make_room.ensures.entries ∙ c.self.view_is)
    (roomier c.self.inside.pairs c.self.inside.pairs c.self.inside.slots c.make_room.new.table refl c.make_room.ensures.entries c.self.invariant)
    c.add.ensures.ok c.add.ensures.unique

pub returns-clause-err : goal.returns-clause-err
returns-clause-err c =
    add_err c.add.result c.self.inside.pairs c.make_room.new.table c.add.new.slots c.args.fec c.args.self.now
    (roomier_view c.self.inside.pairs c.self.inside.pairs c.self.inside.slots c.make_room.new.table refl c.make_room.ensures.entries ∙ c.self.view_is)
    (roomier c.self.inside.pairs c.self.inside.pairs c.self.inside.slots c.make_room.new.table refl c.make_room.ensures.entries c.self.invariant)
    c.add.ensures.err c.add.ensures.unique
