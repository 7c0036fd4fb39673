use Rattle.std.proofs.Common.{◌∙◌, sym, subst}
use Rattle.pim_joinprune.specs.Spelling.{IsJoinPrune}
use Rattle.scenario_defs.specs.declared.event.JoinEntry.TheVariants.{Source}
use Rattle.edge_core.specs.State.{home_of}
use Rattle.edge_probe.proofs.AnswerLemmas.{join_given, join_memory}
use Rattle.edge_probe.proofs.JoinLemmas.{join_is_spelled, join_message, join_read}
use Rattle.edge_probe.proofs.given.join.Goals as goal

pub encode-requires : goal.encode-requires
encode-requires c =
    subst IsJoinPrune
    (sym (join_message c.args.own.now c.args.scenario.now c.requires.home c.args.iface c.own_addr.result c.own_addr.ensures
    (Source c.args.source c.args.group) c.in_ok-message.message c.in_ok-message.ensures.value))
    (join_is_spelled (home_of c.args.own.now).scenario c.requires.may.2.in_core.rules (home_of c.args.own.now).me c.args.iface c.args.source
    c.args.group c.requires.may.3.fits)

pub returns-in-Ok-clause-given : goal.returns-in-Ok-clause-given
returns-in-Ok-clause-given c = λ peer done given.
    let is = join_message c.args.own.now c.args.scenario.now c.requires.home c.args.iface c.own_addr.result c.own_addr.ensures
    (Source c.args.source c.args.group) c.in_ok-message.message c.in_ok-message.ensures.value in
    let read =
    join_read c.args.own.now given.in_core.rules c.args.iface c.args.source c.args.group c.requires.may.3.fits c.in_ok-message.message
    c.as_slice.result.now is (c.as_slice.ensures ∙ c.in_ok-octets.ensures) in
    join_given c.args.core.now peer done c.args.own.now given c.args.iface c.args.source c.args.group c.as_slice.result.now c.take_pim.new.self read
    tt c.in-Ok.ensures

pub memory-requires : goal.memory-requires
memory-requires c =
    let given = c.requires.may.2 in
    let is = join_message c.args.own.now c.args.scenario.now c.requires.home c.args.iface c.own_addr.result c.own_addr.ensures
    (Source c.args.source c.args.group) c.in_ok-message.message c.in_ok-message.ensures.value in
    let read =
    join_read c.args.own.now given.in_core.rules c.args.iface c.args.source c.args.group c.requires.may.3.fits c.in_ok-message.message
    c.as_slice.result.now is (c.as_slice.ensures ∙ c.in_ok-octets.ensures) in
    join_memory c.args.core.now c.requires.may.0 c.requires.may.1 c.args.own.now given c.args.iface c.args.source c.args.group c.as_slice.result.now
    c.take_pim.new.self read c.in-Err.fault c.requires.may.3.room c.in-Err.ensures
