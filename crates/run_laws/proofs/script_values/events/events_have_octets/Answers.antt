use Rattle.std.proofs.Common.{All, subst}
use Rattle.std.proofs.lemmas.List.{take_all}
use Rattle.std.proofs.lemmas.List.Elements.{All-more}
use Rattle.scenario_defs.specs.declared.event.Timed.{Timed}
use Rattle.run_laws.specs.Octets.{EventHasOctets}
use Rattle.run_laws.proofs.script_values.events.events_have_octets.Goals as goal

pub loop-timed-preserved : goal.loop-timed-preserved
loop-timed-preserved c =
    All-more (λ (t : Timed). EventHasOctets t.event) c.args.timeds.now c.loop-timed.timed-index c.timed-item.result c.loop-timed-test.true
    c.loop-timed.invariant
    (subst (λ (t : Timed). EventHasOctets t.event) c.timed-item.is c.event_has_octets.ensures)

pub returns : goal.returns
returns c =
    subst (All (λ (t : Timed). EventHasOctets t.event)) (take_all c.loop-timed.timed-index c.args.timeds.now c.loop-timed-test.false)
    c.loop-timed.invariant
