use Rattle.std.proofs.Common.{◌++◌, ◌∷◌, [], List, refl, sym, subst, ap, ◌∙◌, take}
use Rattle.std.proofs.lemmas.List.{take_more}
use Rattle.edge_routes.specs.edge_home.Home.{Home}
use Rattle.edge_core.specs.State.{home_of}
use Rattle.probe_defs.specs.declared.probe.ProbeLine.{ProbeLine}
use Rattle.edge_probe.specs.Behind.{AreLinesAt, IsTold}
use Rattle.edge_probe.proofs.LineLemmas.{may_give, none_told}
use Rattle.edge_probe.proofs.given.give_all.Goals as goal

pub loop-line-init : goal.loop-line-init
loop-line-init c = record { told = none_told c.args.core.now c.args.peer c.args.own.now c.requires.given; home = refl }

pub give-requires-clause-may : goal.give-requires-clause-may
give-requires-clause-may c =
    let all = c.as_slice-all.result.now in
    let at_start : AreLinesAt (home_of c.args.own.now) all =
    subst (AreLinesAt (home_of c.args.own.now)) (sym c.as_slice-all.ensures) c.requires.lines in
    let here : AreLinesAt (home_of c.loop-line.own) all = subst (λ (home : Home). AreLinesAt home all) (sym c.loop-line.invariant.home) at_start in (
      take c.loop-line.line-index all,
      c.loop-line.invariant.told,
      may_give all c.loop-line.own here c.loop-line.line-index c.line-item.result c.loop-line-test.true c.line-item.is,
    )

pub loop-line-preserved : goal.loop-line-preserved
loop-line-preserved c =
    let all = c.as_slice-all.result.now in
    let line : ProbeLine = c.line-item.result in
    record {
      told = subst (λ (lines : List ProbeLine). IsTold c.args.core.now c.args.peer lines c.in_ok-fault.fault c.give.new.own)
          (sym (take_more all c.loop-line.line-index line c.loop-line-test.true
          ∙ ap (λ (own : ProbeLine). take c.loop-line.line-index all ++ own ∷ []) (sym c.line-item.is)))
          (c.in_ok-fault.ensures.told (take c.loop-line.line-index all) c.loop-line.invariant.told);
      home = c.give.ensures.home ∙ c.loop-line.invariant.home;
    }
