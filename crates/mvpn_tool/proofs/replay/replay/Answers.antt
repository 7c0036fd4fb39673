use Rattle.std.proofs.Common.{Err, sym, ap, ◌∙◌}
use Rattle.scenario_text.specs.Grammar.{script_of}
use Rattle.mvpn_tool.proofs.EndLemmas.{says-alike, script-bounded, read-taken, takes, ends-fault, ends-script}
use Rattle.mvpn_tool.proofs.replay.replay.Goals as goal

pub returns-in-Err-Text-clause-ends : goal.returns-in-Err-Text-clause-ends
returns-in-Err-Text-clause-ends g c =
    ends-fault c.args.output _ _ _ _ c.in-Err-Text.fault _ (says-alike script_of _ _ _ script-bounded c.in_ok-input.ensures.octets)
    (sym (ap script_of c.deref.ensures.value) ∙ (rw c.in-Err-Text.field-0-is at c.in-Err-Text.ensures.value))
    (rw c.in-Err-Text.field-0-is at c.write_fault.ensures.text) (rw c.in-Err-Text.field-0-is at c.write_fault.ensures.part)
    c.write_fault.ensures.others

pub returns-in-Err-Text-clause-taken : goal.returns-in-Err-Text-clause-taken
returns-in-Err-Text-clause-taken g c = takes _ _ (Err c.write_fault.result) (read-taken _ _ _ c.in_ok-input.ensures.octets)

pub returns-clause-ends : goal.returns-clause-ends
returns-clause-ends g c =
    ends-script c.args.output _ _ _ _ _ _ (says-alike script_of _ _ _ script-bounded c.in_ok-input.ensures.octets)
    (sym (ap script_of c.deref.ensures.value) ∙ c.in-Ok.ensures.value) c.replay_script.ensures.replays c.replay_script.ensures.others

pub returns-clause-taken : goal.returns-clause-taken
returns-clause-taken g c = takes _ _ c.replay_script.result (read-taken _ _ _ c.in_ok-input.ensures.octets)
