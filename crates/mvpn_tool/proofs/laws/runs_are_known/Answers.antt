use Rattle.mvpn_tool.proofs.KnownLemmas.{goes_on, halted_run, whole_run}
use Rattle.mvpn_tool.proofs.TextLemmas.{text_by_lines}
use Rattle.mvpn_tool.proofs.laws.runs_are_known.Goals as goal

pub returns : goal.returns
returns c =
    let rule = c.runs_keep_the_label_rule.ensures.throughout in
    let tells = c.state_lines_report_unready.ensures in
    let settled = c.settle_settles.ensures.within in
    let drained = c.drain_drains.ensures.within in
    let whole =
    whole_run c.readable_events_are_sound.ensures.run c.hop_lines_name_datagrams.ensures c.hops_have_spellings.ensures rule tells settled drained
    c.each_run_is_safe.ensures c.runs_deliver_once.ensures c.runs_are_local.ensures
    c.runs_have_no_offence.ensures.whole c.runs_have_no_offence.ensures.plain in
    let halted =
    halted_run c.readable_events_are_sound.ensures.events c.hop_lines_name_datagrams.ensures c.hops_have_spellings.ensures rule tells settled
    drained c.halting_runs_are_safe.ensures c.halting_runs_deliver_once.ensures c.halting_runs_are_local.ensures in
    record {
      cores = c.each_scenario_has_cores.ensures;
      whole = whole;
      halted = halted;
      begins = goes_on whole halted c.one_run_or_one_halt.ensures.either c.one_run_or_one_halt.ensures.never_both
          c.one_run_or_one_halt.ensures.one_run
          c.first_events_of_a_run_run.ensures.run c.first_events_of_a_run_run.ensures.halt;
      text = text_by_lines c.a_plain_report_says_as_much.ensures.lines;
    }
