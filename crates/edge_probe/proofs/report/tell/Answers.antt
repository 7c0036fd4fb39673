use Rattle.std.proofs.Common.{◌∙◌}
use Rattle.edge_core.specs.State.{home_of}
use Rattle.edge_probe.proofs.ProbeLemmas.{are_lines, is_peer, is_probed}
use Rattle.edge_probe.proofs.report.tell.Goals as goal

pub raise-requires-clause-peer : goal.raise-requires-clause-peer
raise-requires-clause-peer c =
    is_peer c.args.scenario.now c.args.edge c.args.peer c.args.lines.now (home_of c.args.own.now) c.requires.asked c.requires.home

pub give_all-requires-clause-lines : goal.give_all-requires-clause-lines
give_all-requires-clause-lines c =
    are_lines c.args.scenario.now c.args.edge c.args.peer c.args.lines.now (home_of c.raise.new.own) c.requires.asked
    (c.raise.ensures.home ∙ c.requires.home)

pub imports_of-requires-clause-given : goal.imports_of-requires-clause-given
imports_of-requires-clause-given c = (
  c.args.core.now,
  c.args.peer,
  c.args.lines.now,
  c.in_ok-fault.ensures.told.given,
  is_peer c.args.scenario.now c.args.edge c.args.peer c.args.lines.now (home_of c.give_all.new.own) c.requires.asked
      (c.give_all.ensures.home ∙ c.raise.ensures.home ∙ c.requires.home),
)

pub returns : goal.returns
returns c =
    let home = c.give_all.ensures.home ∙ c.raise.ensures.home ∙ c.requires.home in
    let told = c.in_ok-fault.ensures.told in
    let among = is_peer c.args.scenario.now c.args.edge c.args.peer c.args.lines.now (home_of c.give_all.new.own) c.requires.asked home in
    is_probed c.args.core.now c.args.peer c.args.lines.now c.give_all.new.own c.args.scenario.now c.args.edge home c.in_ok-fault.fault told
    c.in_ok-imports.imports c.in_ok-wants.wants c.lines_make_a_probe.ensures.yields
    (c.in_ok-imports.ensures c.args.core.now c.args.peer c.args.lines.now told.given among)
    (c.in_ok-wants.ensures told.given.unspent)
