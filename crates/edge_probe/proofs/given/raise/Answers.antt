use Rattle.std.proofs.Common.{refl, ap, Err}
use Rattle.edge_core.specs.declared.fault.EdgeFault.{EdgeFault}
use Rattle.edge_probe.proofs.AnswerLemmas.{memory_alone}
use Rattle.edge_probe.proofs.GivenLemmas.{first_down, first_given, first_not_lacking}
use Rattle.edge_probe.proofs.given.raise.Goals as goal

pub call-requires-clause-fits : goal.call-requires-clause-fits
call-requires-clause-fits c = (c.requires.peer, λ _. first_down c.args.core.now c.args.peer c.args.own.now c.requires.fresh)

pub memory-requires : goal.memory-requires
memory-requires c =
    memory_alone c.in-Err.fault (c.in-Err.ensures.only c.in-Err.fault refl) (λ e.
    first_not_lacking c.args.core.now c.args.peer c.args.own.now c.requires.fresh
    (c.in-Err.ensures.answers.lacks (ap (λ (f : EdgeFault). Err f) e) c.requires.fresh.unspent))

pub returns-in-Ok-clause-given : goal.returns-in-Ok-clause-given
returns-in-Ok-clause-given c =
    first_given c.args.core.now c.args.peer c.args.own.now c.call.new.self c.requires.fresh c.in-Ok.ensures.answers.home
    c.in-Ok.ensures.answers.goes_on c.in-Ok.ensures.answers.made
