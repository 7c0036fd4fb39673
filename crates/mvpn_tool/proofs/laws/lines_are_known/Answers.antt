use Rattle.mvpn_tool.proofs.KnownLemmas.{lines_known}
use Rattle.mvpn_tool.proofs.laws.lines_are_known.Goals as goal

pub returns : goal.returns
returns c =
    lines_known c.readable_events_are_sound.ensures.event c.readable_events_are_sound.ensures.run c.lines_name_what_is_there.ensures.done
    c.lines_name_what_is_there.ensures.halted
