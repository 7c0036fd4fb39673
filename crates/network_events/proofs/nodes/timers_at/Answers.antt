use Rattle.std.proofs.Common.{sym, subst, [], ◌∷◌, Result}
use Rattle.network_defs.specs.Acts as acts
use Rattle.network_defs.specs.Events.{row}
use Rattle.network_acts.specs.Instant.{OfPlane}
use Rattle.network_acts.specs.Words.{IsCurrent, same_moment}
use Rattle.network_events.specs.Doing.{Does}
use Rattle.network_events.specs.Meeting.{IsResting}
use Rattle.network_events.specs.declared.halt.Halt.{Halt}
use Rattle.network_events.proofs.NodeLemmas.{current_in, some_as, timers_do}
use Rattle.network_events.proofs.nodes.timers_at.Goals as goal

pub timers-requires : goal.timers-requires
timers-requires c = record {
  network =
      some_as IsResting (OfPlane (IsCurrent c.args.n)) c.args.network.now (current_in c.args.n c.args.network.now c.requires.within)
      c.requires.network;
}

pub returns : goal.returns
returns c =
    subst (λ (r : Result (Unit {0}) Halt). Does IsResting same_moment (row (acts.Timers c.args.n ∷ [])) c.args.network.now c.timers.new.self
    c.args.lines.now c.timers.new.lines r) (sym c.answer_at.ensures)
    (timers_do c.args.n c.args.network.now c.timers.new.self c.args.lines.now c.timers.new.lines c.timers.result c.requires.within c.timers.ensures)
