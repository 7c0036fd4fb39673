use Rattle.scenario_defs.specs.declared.event.CustomerEvent.TheVariants as customers
use Rattle.scenario_defs.specs.declared.event.Event.TheVariants as events
use Rattle.network_events.proofs.CustomerLemmas.{read_at, read_given}
use Rattle.network_events.proofs.customers.pim.Goals as goal

pub take_read-requires-clause-message : goal.take_read-requires-clause-message
take_read-requires-clause-message c =
    read_at c.args.network.now c.args.iface c.args.octets.now c.args.lines.now c.in-Ok.message c.in-Ok.ensures.exact c.in-Ok.ensures.spelled
    c.requires.event

pub returns-in-Ok : goal.returns-in-Ok
returns-in-Ok c =
    c.take_read.ensures (events.Customer (customers.Pim c.args.iface c.args.octets.now))
    (read_given c.args.network.now c.args.iface c.args.octets.now c.args.lines.now c.in-Ok.message c.in-Ok.ensures.exact)
