use Rattle.std.proofs.Common.{◌∙◌, ap, sym, subst}
use Rattle.pim_defs.specs.Single.{join_of, prune_of}
use Rattle.scenario_defs.specs.declared.event.CustomerEvent.{CustomerEvent}
use Rattle.scenario_defs.specs.declared.event.CustomerEvent.TheVariants as customers
use Rattle.scenario_defs.specs.declared.event.Event.TheVariants as events
use Rattle.scenario_defs.specs.declared.scenario.Scenario.{Scenario}
use Rattle.mvpn_model.specs.Messages.{own_addr}
use Rattle.network_events.specs.Meeting.{IsGiven, Meets}
use Rattle.network_events.proofs.CustomerLemmas.{join_written, prune_written}
use Rattle.network_events.proofs.dispatch.meet_customer.Goals as goal

pub take_written-requires-clause-written : goal.take_written-requires-clause-written
take_written-requires-clause-written c =
    let iface = c.in-Join.iface in
    let entry = c.in-Join.entry in (
      events.Customer (customers.Join iface entry),
      join_of c.own_addr.result entry,
      join_written c.args.network.now iface entry c.own_addr.result
          (c.own_addr.ensures ∙ ap (λ (s : Scenario). own_addr s iface) c.scenario.ensures) c.join_of-written.result c.requires.network
          (subst (λ (event : CustomerEvent). IsGiven c.args.network.now.scenario (events.Customer event)) c.in-Join.is c.requires.event)
          c.join_of-written.ensures.value,
    )

pub take_written-requires-in-Prune-clause-written : goal.take_written-requires-in-Prune-clause-written
take_written-requires-in-Prune-clause-written c =
    let iface = c.in-Prune.iface in
    let entry = c.in-Prune.entry in (
      events.Customer (customers.Prune iface entry),
      prune_of c.own_addr-in-Prune.result entry,
      prune_written c.args.network.now iface entry c.own_addr-in-Prune.result
          (c.own_addr-in-Prune.ensures ∙ ap (λ (s : Scenario). own_addr s iface) c.scenario-in-Prune.ensures) c.prune_of-written.result c.requires.network
          (subst (λ (event : CustomerEvent). IsGiven c.args.network.now.scenario (events.Customer event)) c.in-Prune.is c.requires.event)
          c.prune_of-written.ensures.value,
    )

pub returns-in-Join : goal.returns-in-Join
returns-in-Join c =
    let iface = c.in-Join.iface in
    let entry = c.in-Join.entry in
    subst (λ (event : CustomerEvent). Meets (events.Customer event) c.args.network.now c.take_written.new.network c.args.lines.now
    c.take_written.new.lines c.take_written.result) (sym c.in-Join.is)
    (c.take_written.ensures (events.Customer (customers.Join iface entry)) (join_of c.own_addr.result entry)
    (join_written c.args.network.now iface entry c.own_addr.result
    (c.own_addr.ensures ∙ ap (λ (s : Scenario). own_addr s iface) c.scenario.ensures) c.join_of-written.result c.requires.network
    (subst (λ (event : CustomerEvent). IsGiven c.args.network.now.scenario (events.Customer event)) c.in-Join.is c.requires.event)
    c.join_of-written.ensures.value))

pub returns-in-Prune : goal.returns-in-Prune
returns-in-Prune c =
    let iface = c.in-Prune.iface in
    let entry = c.in-Prune.entry in
    subst (λ (event : CustomerEvent). Meets (events.Customer event) c.args.network.now c.take_written-in-Prune.new.network c.args.lines.now
    c.take_written-in-Prune.new.lines c.take_written-in-Prune.result) (sym c.in-Prune.is)
    (c.take_written-in-Prune.ensures (events.Customer (customers.Prune iface entry)) (prune_of c.own_addr-in-Prune.result entry)
    (prune_written c.args.network.now iface entry c.own_addr-in-Prune.result
    (c.own_addr-in-Prune.ensures ∙ ap (λ (s : Scenario). own_addr s iface) c.scenario-in-Prune.ensures) c.prune_of-written.result c.requires.network
    (subst (λ (event : CustomerEvent). IsGiven c.args.network.now.scenario (events.Customer event)) c.in-Prune.is c.requires.event)
    c.prune_of-written.ensures.value))
