use Rattle.std.proofs.Common.{◌≡◌, true, false, sym, ap, ◌∙◌}
use Rattle.mv_base.specs.declared.ids.NodeId.{NodeId}
use Rattle.scenario_defs.specs.declared.event.Kind.TheVariants as kinds
use Rattle.network_defs.specs.Counts.{direction}
use Rattle.rule_laws.proofs.Start.{run_in_step}
use Rattle.rule_laws.proofs.Tables.{routes_in_step, labels_in_step}
use Rattle.rule_laws.proofs.laws.tables_are_in_step.Goals as goal

pub returns-clause-routes : goal.returns-clause-routes
returns-clause-routes c cores script events trace new s a b joined =
    let kept = run_in_step script.scenario cores events trace new s.scenario s.sound_events s.run in
    routes_in_step script.scenario new kept a b (kept.2.base.peers a b joined).1 joined

pub returns-clause-labels : goal.returns-clause-labels
returns-clause-labels c cores script events trace new s u n joined =
    let kept = run_in_step script.scenario cores events trace new s.scenario s.sound_events s.run in
    labels_in_step script.scenario new kept u n
    (λ same. let x : true ≡ false = sym joined ∙ ap (λ (m : NodeId). new.network.joined (direction kinds.Ldp u m)) (sym same) ∙ kept.2.base.apart u in
    absurd cc) joined
