use Rattle.std.proofs.Common.{map, Ok}
use Rattle.network_defs.specs.Acts as acts
use Rattle.network_defs.specs.Counts.{node_ids}
use Rattle.network_defs.specs.Events.{row}
use Rattle.network_events.specs.Doing.{Does}
use Rattle.network_events.specs.Parts.{IsRepriced}
use Rattle.network_events.proofs.CostLemmas.{with_first}
use Rattle.network_events.proofs.costs.reroute_all.Given as goal

abbrev pub invariant-loop-number : goal.invariant-loop-number
invariant-loop-number l =
    Does IsRepriced (with_first l.number) (row (map (λ n. acts.Reroute n) (node_ids 0 l.number))) l.initial.network l.network l.initial.lines l.lines
    (Ok tt)
