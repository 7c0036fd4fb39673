use Rattle.std.specs.Prelude.{option_map}
use Rattle.std.proofs.Common.{◌∙◌, ap, sym}
use Rattle.scenario_defs.specs.declared.event.Event.TheVariants as events
use Rattle.network_acts.specs.Words.{customer_call}
use Rattle.network_events.proofs.CustomerLemmas.{amiss_met, plain_asks}
use Rattle.network_events.proofs.customers.ask.Goals as goal

pub returns-then-is_amiss : goal.returns-then-is_amiss
returns-then-is_amiss c =
    amiss_met c.args.event.now c.args.network.now c.args.lines.now (λ at ready is. sym c.if-is_amiss.true ∙ c.is_amiss.ensures at ready is)

pub make-requires-clause-call : goal.make-requires-clause-call
make-requires-clause-call c =
    (plain_asks c.args.event.now (customer_call c.in-Some.call) c.args.network.now
    (sym (ap (option_map customer_call) c.in-Some.is) ∙ c.call_of.ensures.call) c.call_of.ensures.octets c.requires.network c.requires.event
    (λ at ready is. sym c.if-is_amiss.false ∙ c.is_amiss.ensures at ready is)).makeable

pub returns : goal.returns
returns c =
    c.make.ensures (events.Customer c.args.event.now)
    (plain_asks c.args.event.now (customer_call c.in-Some.call) c.args.network.now (sym (ap (option_map customer_call) c.in-Some.is) ∙ c.call_of.ensures.call)
    c.call_of.ensures.octets c.requires.network c.requires.event (λ at ready is. sym c.if-is_amiss.false ∙ c.is_amiss.ensures at ready is))
