use Rattle.std.proofs.Common.{◌≡◌, ◌+◌, subst, sym, arith}
use Rattle.mv_base.specs.core_walks.Reached.{is_connected}
use Rattle.mv_base.proofs.core_walks.ReachedLemmas.{AreMarks, are_first, are_next, all_marks, all_walks}
use Rattle.mv_base.proofs.core_walks.connection.is_connected.Goals as goal

pub loop-round-init : goal.loop-round-init
loop-round-init c = subst (AreMarks c.args.links.now 0) (sym c.first_marks-marks.ensures) (are_first c.args.links.now)

pub loop-round-preserved : goal.loop-round-preserved
loop-round-preserved c =
    subst (AreMarks c.args.links.now (c.loop-round.round + 1)) (sym c.next_marks-marks.ensures)
    (are_next c.args.nodes c.args.links.now c.loop-round.round c.loop-round.marks c.requires c.loop-round.invariant)

told : (c : goal.After-all_marked) → c.all_marked.result ≡ is_connected c.args.nodes c.args.links.now
told c =
    all_marks c.args.nodes c.loop-round.round c.args.links.now c.loop-round.marks c.all_marked.result c.requires (omega arith) c.loop-round.invariant
    c.all_marked.ensures

pub returns-clause-value : goal.returns-clause-value
returns-clause-value c = told c

pub returns-clause-walks : goal.returns-clause-walks
returns-clause-walks c = all_walks c.args.nodes c.args.links.now c.all_marked.result c.requires (told c)
