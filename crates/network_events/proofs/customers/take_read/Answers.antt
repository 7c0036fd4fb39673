use Rattle.std.proofs.Common.{◌∙◌, ap, sym}
use Rattle.mv_base.specs.Address.{same_addr}
use Rattle.scenario_defs.specs.declared.scenario.Scenario.{Scenario}
use Rattle.mvpn_model.specs.Messages.{own_addr}
use Rattle.network_events.proofs.CustomerLemmas.{message_asks, message_makeable, read_for, read_not_ours}
use Rattle.network_events.proofs.customers.take_read.Goals as goal

pub returns-then-not-same : goal.returns-then-not-same
returns-then-not-same c =
    let own = c.own_addr.ensures ∙ ap (λ (s : Scenario). own_addr s c.args.iface) c.scenario.ensures in
    read_not_ours c.args.network.now c.args.iface c.args.message.now c.requires.message c.args.lines.now
    (ap (same_addr c.args.message.now.neighbour) (sym own) ∙ (sym c.same.ensures ∙ c.if-not-same.true))

pub make-requires-clause-call : goal.make-requires-clause-call
make-requires-clause-call c =
    let own = c.own_addr.ensures ∙ ap (λ (s : Scenario). own_addr s c.args.iface) c.scenario.ensures in
    message_makeable c.args.network.now c.args.iface c.args.message.now
    (read_for c.args.network.now c.args.iface c.args.message.now c.requires.message c.args.lines.now
    (ap (same_addr c.args.message.now.neighbour) (sym own) ∙ (sym c.same.ensures ∙ c.if-not-same.false))) c.requires.network

pub returns : goal.returns
returns c = λ event hands.
    let own = c.own_addr.ensures ∙ ap (λ (s : Scenario). own_addr s c.args.iface) c.scenario.ensures in
    c.make.ensures event
    (message_asks c.args.network.now c.args.iface c.args.message.now
    (read_for c.args.network.now c.args.iface c.args.message.now c.requires.message c.args.lines.now
    (ap (same_addr c.args.message.now.neighbour) (sym own) ∙ (sym c.same.ensures ∙ c.if-not-same.false))) event hands c.requires.network)
