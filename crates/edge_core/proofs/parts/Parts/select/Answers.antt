use Rattle.std.proofs.Common.{refl, sym, ap, subst, Err}
use Rattle.edge_defs.specs.Steps.{Customer, Select}
use Rattle.edge_routing.specs.edge_control.declared.fault.ControlFault.{ControlFault}
use Rattle.edge_core.specs.declared.fault.EdgeFault.TheVariants as faults
use Rattle.edge_core.specs.Called.{SettlesCall, going}
use Rattle.edge_core.proofs.SelectionLemmas.{has_selected, stays_full}
use Rattle.edge_core.proofs.StepLemmas.{lacks_memory}
use Rattle.edge_core.proofs.parts.Parts.select.Goals as goal
use Rattle.edge_core.proofs.parts.Parts.select.Goals.{in-Ok, in-Err-Full, in-Err-NoMemory}

pub returns-clause-settles : goal.returns-clause-settles
returns-clause-settles c = λ core.
    let old = c.args.self.now in
    let new = record old { routing = c.select.new.self } in
    let call = Customer (Select c.args.vrf c.args.pattern) in
    let home = c.select.ensures.home in
    elim c.match-select.branch [
      | in-Ok w ↦ subst (SettlesCall core c.args.now call (going old) new) (sym w.result-is)
          (has_selected c.args.now call (record {
            own = refl;
            prepared = λ state. refl;
            leaves = λ place other control. refl;
            peers =
                λ place control peer. refl;
            raised = λ old. refl;
          }) old c.select.new.self w.in-Ok.field-0 c.requires.live home w.in-Ok.ensures.stepped
          core)
      | in-Err-Full w ↦ subst (SettlesCall core c.args.now call (going old) new) (sym w.result-is)
          (stays_full core c.args.now call old c.select.new.self
          (w.in-Err-Full.ensures.full (ap (λ (fault : ControlFault). Err fault) w.in-Err-Full.field-0-is)).1 c.requires.live)
      | in-Err-NoMemory w ↦ subst (SettlesCall core c.args.now call (going old) new) (sym w.result-is)
          (lacks_memory core c.args.now call (going old) new faults.NoMemory refl refl home)
    ]
