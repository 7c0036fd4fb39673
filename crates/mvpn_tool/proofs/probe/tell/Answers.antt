use Rattle.std.proofs.Common.{◌∙◌}
use Rattle.mvpn_tool.proofs.ProbeLemmas.{faulty_is_some, sound_is_none}
use Rattle.mvpn_tool.proofs.probe.tell.Goals as goal

pub returns-clause-sound : goal.returns-clause-sound
returns-clause-sound c is = c.is_some.ensures ∙ sound_is_none c.args.what.now _ c.have_octets.ensures c.in_ok-report.ensures is

pub returns-clause-fault : goal.returns-clause-fault
returns-clause-fault c has = c.is_some.ensures ∙ faulty_is_some c.args.what.now _ c.have_octets.ensures c.in_ok-report.ensures has
