use Rattle.label_forwarding.proofs.HopLemmas.{was_there, is_added}
use Rattle.label_forwarding.proofs.branches.put.Goals as goal

pub returns-then-stands_at-clause-ok : goal.returns-then-stands_at-clause-ok
returns-then-stands_at-clause-ok c =
    was_there c.args.branch c.args.items.now.items c.deref.result.now c.deref-2.result.now c.place_of-place.result
    c.deref.ensures.value c.deref-2.ensures.value c.requires c.place_of-place.ensures.point (c.stands_at.ensures.yes c.if-stands_at.true)

pub returns-clause-ok : goal.returns-clause-ok
returns-clause-ok c =
    is_added c.args.branch c.args.items.now.items c.deref.result.now c.deref-2.result.now c.insert.new.self.items c.place_of-place.result
    c.deref.ensures.value c.deref-2.ensures.value c.requires c.place_of-place.ensures.point c.place_of-place.ensures.within
    (c.stands_at.ensures.no c.if-stands_at.false) c.in_ok-insert.ensures.items
