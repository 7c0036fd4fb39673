use Rattle.network_events.proofs.CustomerLemmas.{written_asks, written_spelled}
use Rattle.network_events.proofs.customers.take_written.Goals as goal

pub read_back-requires : goal.read_back-requires
read_back-requires c =
    let is = c.requires.written.2 in
    written_spelled c.args.written c.requires.written.1 is.is is.own.at.spelled

pub make-requires-clause-call : goal.make-requires-clause-call
make-requires-clause-call c =
    let (event, message, is) = c.requires.written in
    (written_asks c.args.network.now c.args.iface c.args.written message c.in-Ok.message event is (c.in-Ok.ensures message is.is) c.requires.network).makeable

pub returns-in-Ok : goal.returns-in-Ok
returns-in-Ok c = λ event message is.
    c.make.ensures event
    (written_asks c.args.network.now c.args.iface c.args.written message c.in-Ok.message event is (c.in-Ok.ensures message is.is) c.requires.network)
