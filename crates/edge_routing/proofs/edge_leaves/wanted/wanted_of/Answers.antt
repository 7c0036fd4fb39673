use Rattle.std.proofs.Common.{Bool, Vec, Global, ap, ◌∙◌, arith}
use Rattle.std.specs.List.{filter, list_any}
use Rattle.std.specs.FinSet as sets
use Rattle.std.proofs.lemmas.List.{take_all}
use Rattle.mldp.specs.declared.mldp_fec.fec.Fec.{Fec}
use Rattle.label_defs.specs.LabelData.{same_fec}
use Rattle.edge_defs.specs.Tunnels.{leaves}
use Rattle.edge_routes.specs.edge_home.Home.{place_of}
use Rattle.control_laws.specs.Control.{control_of}
use Rattle.edge_routing.proofs.edge_leaves.WantLemmas.{listed, more_wanted, none_wanted}
use Rattle.edge_routing.proofs.edge_leaves.wanted.wanted_of.Goals as goal
use Rattle.edge_routing.proofs.edge_leaves.wanted.wanted_of.Goals.{then-wants+in_ok-push, else-wants}

pub loop-fec-preserved : goal.loop-fec-preserved
loop-fec-preserved c = λ core.
    let test : Fec → Bool = λ fec. sets.contains (leaves (place_of c.args.control.now.home core) (control_of c.args.control.now)) fec in
    elim c.if-wants.branch [
      | then-wants+in_ok-push w ↦ more_wanted test c.args.fecs.now c.loop-fec.found.items c.if-wants.found.items c.loop-fec.fec-index
          c.fec-item.result c.wants.result (omega arith) c.fec-item.is
          (c.loop-fec.invariant core) (c.wants.ensures core) w.if-wants.true
          (ap (λ (v : Vec Fec Global). v.items) w.found-is ∙ w.in_ok-push.ensures.items)
      | else-wants w ↦ none_wanted test c.args.fecs.now c.loop-fec.found.items c.if-wants.found.items c.loop-fec.fec-index c.fec-item.result
          c.wants.result (omega arith) c.fec-item.is
          (c.loop-fec.invariant core) (c.wants.ensures core) w.if-wants.false (ap (λ (v : Vec Fec Global). v.items) w.found-is)
    ]

pub returns-clause-wanted : goal.returns-clause-wanted
returns-clause-wanted c = λ core fec h.
    let test : Fec → Bool = λ fec. sets.contains (leaves (place_of c.args.control.now.home core) (control_of c.args.control.now)) fec in
    ap (list_any (same_fec fec)) (c.loop-fec.invariant core ∙ ap (filter test) (take_all c.loop-fec.fec-index c.args.fecs.now (omega arith)))
    ∙ listed test c.args.fecs.now fec h

pub returns-clause-only : goal.returns-clause-only
returns-clause-only c = λ core.
    let test : Fec → Bool = λ fec. sets.contains (leaves (place_of c.args.control.now.home core) (control_of c.args.control.now)) fec in
    c.loop-fec.invariant core ∙ ap (filter test) (take_all c.loop-fec.fec-index c.args.fecs.now (omega arith))
