use Rattle.std.proofs.Common.{sym, subst, [], ◌∷◌, Result}
use Rattle.network_defs.specs.Acts as acts
use Rattle.network_defs.specs.Events.{row}
use Rattle.network_acts.specs.Instant.{OfPlane}
use Rattle.network_acts.specs.Words.{IsWithin, with_current}
use Rattle.network_events.specs.Doing.{Does}
use Rattle.network_events.specs.declared.halt.Halt.{Halt}
use Rattle.network_events.proofs.DoLemmas.{act_does}
use Rattle.network_events.proofs.costs.reroute_at.Goals as goal

pub reroute-requires : goal.reroute-requires
reroute-requires c = record { network = c.requires.network }

pub returns : goal.returns
returns c =
    let n = c.args.n in
    subst (λ (r : Result (Unit {0}) Halt). Does (OfPlane (IsWithin n)) (with_current n) (row (acts.Reroute n ∷ [])) c.args.network.now
    c.reroute.new.self c.args.lines.now c.reroute.new.lines r) (sym c.answer_at.ensures)
    (act_does (OfPlane (IsWithin n)) (with_current n) (acts.Reroute n) n c.args.network.now c.reroute.new.self c.args.lines.now c.reroute.new.lines
    c.reroute.result c.reroute.ensures)
