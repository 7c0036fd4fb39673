use Rattle.std.proofs.Common.{◌≡◌, ℕ, ◌+◌, take, true, false, Option, sym, subst}
use Rattle.std.specs.Prelude.{is_some}
use Rattle.edge_defs.specs.Imported.{found_in, source_as_in}
use Rattle.edge_routes.proofs.FoundLemmas.{listed, found_same, found_new, found_both}
use Rattle.edge_routes.proofs.imported.only_source_as.Goals.{then-is_some+else-is_some-2, else-is_some}
use Rattle.edge_routes.proofs.imported.only_source_as.Goals as goal

pub returns-then-is_some-2 : goal.returns-then-is_some-2
returns-then-is_some-2 c =
    let one : is_some c.loop-comm.only ≡ true = cc in
    let other : is_some c.source_as_in-found.result ≡ true = cc in
    found_both source_as_in c.args.comms.now c.loop-comm.comm-index _ c.loop-comm.only c.source_as_in-found.result c.loop-comm-test.true
    c.loop-comm.invariant
    c.source_as_in-found.ensures one other

pub loop-comm-preserved : goal.loop-comm-preserved
loop-comm-preserved c = elim c.if-is_some.branch [
  | then-is_some+else-is_some-2 w ↦
      (let none : is_some c.loop-comm.only ≡ false = cc in
      subst (λ (o : Option ℕ). found_in source_as_in (take (c.loop-comm.comm-index + 1) c.args.comms.now) ≡ listed o) (sym w.only-is)
      (found_new source_as_in c.args.comms.now c.loop-comm.comm-index _ c.loop-comm.only c.source_as_in-found.result c.loop-comm-test.true
      c.loop-comm.invariant c.source_as_in-found.ensures none))
  | else-is_some w ↦
      (let none : is_some c.source_as_in-found.result ≡ false = cc in
      subst (λ (o : Option ℕ). found_in source_as_in (take (c.loop-comm.comm-index + 1) c.args.comms.now) ≡ listed o) (sym w.only-is)
      (found_same source_as_in c.args.comms.now c.loop-comm.comm-index _ c.loop-comm.only c.source_as_in-found.result c.loop-comm-test.true
      c.loop-comm.invariant c.source_as_in-found.ensures none))
]
