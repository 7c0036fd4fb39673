use Rattle.std.proofs.Common.{Err, List, ℕ, sym, ap, subst, ◌∙◌}
use Rattle.mvpn_tool.specs.TellOutcome.{TellsText}
use Rattle.mvpn_tool.proofs.EndLemmas.{says-alike, read-taken}
use Rattle.mvpn_tool.proofs.TellLemmas.{fault_not_label, not_label, tell_ends, tell_faulty, tell_takes}
use Rattle.mvpn_tool.proofs.shown.show.Goals as goal

pub returns-in-Err-Text-clause-ends : goal.returns-in-Err-Text-clause-ends
returns-in-Err-Text-clause-ends g c =
    tell_faulty g.T.Shows.said (g.T.Shows.Tells c.args.command.now) _ _ _ _ c.in-Err-Text.fault _ c.write_fault.ensures.text c.write_fault.ensures.part
    c.write_fault.ensures.others (says-alike g.T.Shows.said _ _ _ c.requires c.in_ok-input.ensures.octets)
    (sym (ap g.T.Shows.said c.deref.ensures.value) ∙ (rw c.in-Err-Text.field-0-is at c.in-Err-Text.ensures.fault))

pub returns-in-Err-Text-clause-taken : goal.returns-in-Err-Text-clause-taken
returns-in-Err-Text-clause-taken g c =
    tell_takes _ _ (Err c.write_fault.result) (read-taken _ _ _ c.in_ok-input.ensures.octets) (fault_not_label _ c.write_fault.ensures.others.1)

pub returns-clause-ends : goal.returns-clause-ends
returns-clause-ends g c =
    let tells = g.T.Shows.Tells c.args.command.now in
    let shown = c.in-Ok.shown in
    tell_ends g.T.Shows.said tells _ _ _ _ shown.text shown.refused _
    (says-alike g.T.Shows.said _ _ _ c.requires c.in_ok-input.ensures.octets)
    (subst (λ (xs : List ℕ). TellsText g.T.Shows.said tells shown.refused xs shown.text) c.deref.ensures.value c.in-Ok.ensures.shown)
    c.write_shown.ensures.ok c.write_shown.ensures.part c.write_shown.ensures.answer c.write_shown.ensures.others

pub returns-clause-taken : goal.returns-clause-taken
returns-clause-taken g c =
    tell_takes _ _ c.write_shown.result (read-taken _ _ _ c.in_ok-input.ensures.octets) (not_label _ c.write_shown.ensures.others)
