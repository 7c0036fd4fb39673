use Rattle.mvpn_tool.proofs.EventLemmas.{event_lacks, event_made, event_stops, made_may_be_written}
use Rattle.mvpn_tool.proofs.OutcomeLemmas.{after-event, after-stop, never-begun, replayed-all, replayed-none}
use Rattle.mvpn_tool.proofs.EndLemmas.{ends-fault, ends-script}
use Rattle.mvpn_tool.proofs.RunsLemmas.{halt_ended, whole_ended}
use Rattle.mvpn_tool.proofs.KnownLemmas.{hops_known}
use Rattle.mvpn_tool.proofs.laws.hops_are_known.Goals as goal

pub returns : goal.returns
returns c = hops_known c.readable_events_are_sound.ensures.run c.hops_have_spellings.ensures
