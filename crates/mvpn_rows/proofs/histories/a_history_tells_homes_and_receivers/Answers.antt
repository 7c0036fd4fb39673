use Rattle.mvpn_model.proofs.TicksLemmas.{clock_small}
use Rattle.mvpn_rows.proofs.histories.a_history_tells_homes_and_receivers.Goals as goal

pub asks-requires-clause-clock : goal.asks-requires-clause-clock
asks-requires-clause-clock g c = clock_small c.in_ok-script.script 1 c.in_ok-script.ensures.rules

pub receivers-requires-clause-clock : goal.receivers-requires-clause-clock
receivers-requires-clause-clock g c = clock_small c.in_ok-script.script 1 c.in_ok-script.ensures.rules
