use Rattle.edge_probe.proofs.LineLemmas.{join_told}
use Rattle.edge_probe.proofs.given.give.Goals as goal

pub returns-in_ok-join-in-Join-clause-told : goal.returns-in_ok-join-in-Join-clause-told
returns-in_ok-join-in-Join-clause-told c = λ done told.
    join_told c.args.core.now c.args.peer done c.args.fault c.args.line.now c.in-Join.iface c.in-Join.source c.in-Join.group c.args.own.now
    c.join.new.own c.in-Join.is told (c.in_ok-join-in-Join.ensures.given c.args.peer done told.given)
