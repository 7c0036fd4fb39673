use Rattle.std.proofs.Common.{refl, sym, subst}
use Rattle.edge_defs.specs.Steps.{Customer, Unselect}
use Rattle.edge_core.specs.declared.fault.EdgeFault.TheVariants as faults
use Rattle.edge_core.specs.Called.{SettlesCall, going}
use Rattle.edge_core.proofs.SelectionLemmas.{has_selected}
use Rattle.edge_core.proofs.StepLemmas.{lacks_memory}
use Rattle.edge_core.proofs.parts.Parts.unselect.Goals as goal
use Rattle.edge_core.proofs.parts.Parts.unselect.Goals.{in-Ok, in-Err}

pub returns-clause-settles : goal.returns-clause-settles
returns-clause-settles c = λ core now.
    let old = c.args.self.now in
    let new = record old { routing = c.unselect.new.self } in
    let call = Customer (Unselect c.args.vrf c.args.pattern) in
    let home = c.unselect.ensures.home in
    elim c.match-unselect.branch [
      | in-Ok w ↦ subst (SettlesCall core now call (going old) new) (sym w.result-is)
          (has_selected now call (record {
            own = refl;
            prepared = λ state. refl;
            leaves = λ place other control. refl;
            peers =
                λ place control peer. refl;
            raised = λ old. refl;
          }) old c.unselect.new.self w.in-Ok.field-0 c.requires.live home
          (λ any. w.in-Ok.ensures.stepped any now) core)
      | in-Err w ↦ subst (SettlesCall core now call (going old) new) (sym w.result-is)
          (lacks_memory core now call (going old) new faults.NoMemory refl refl home)
    ]
