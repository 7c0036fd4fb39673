use Rattle.std.proofs.Common.{◌≡◌, ◌+◌, take, true, false, Option, sym, subst}
use Rattle.std.specs.Prelude.{is_some, option_map}
use Rattle.edge_defs.specs.Imported.{found_in, import_in}
use Rattle.edge_routes.specs.Local.{as_import}
use Rattle.edge_routes.specs.declared.originated.Import.{Import}
use Rattle.edge_routes.proofs.FoundLemmas.{listed, found_same, found_new, found_both, some_mapped}
use Rattle.edge_routes.proofs.imported.only_import.Goals.{then-is_some+else-is_some-2, else-is_some}
use Rattle.edge_routes.proofs.imported.only_import.Goals as goal

pub returns-then-is_some-2 : goal.returns-then-is_some-2
returns-then-is_some-2 c =
    let one : is_some c.loop-comm.only ≡ true = cc in
    let other : is_some c.import_in-found.result ≡ true = cc in
    found_both import_in c.args.comms.now c.loop-comm.comm-index _ (option_map as_import c.loop-comm.only)
    (option_map as_import c.import_in-found.result) c.loop-comm-test.true c.loop-comm.invariant
    c.import_in-found.ensures (some_mapped as_import c.loop-comm.only true one) (some_mapped as_import c.import_in-found.result true other)

pub loop-comm-preserved : goal.loop-comm-preserved
loop-comm-preserved c = elim c.if-is_some.branch [
  | then-is_some+else-is_some-2 w ↦
      (let none : is_some c.loop-comm.only ≡ false = cc in
      subst (λ (o : Option Import). found_in import_in (take (c.loop-comm.comm-index + 1) c.args.comms.now) ≡ listed (option_map as_import o))
      (sym w.only-is)
      (found_new import_in c.args.comms.now c.loop-comm.comm-index _ (option_map as_import c.loop-comm.only)
      (option_map as_import c.import_in-found.result) c.loop-comm-test.true c.loop-comm.invariant c.import_in-found.ensures
      (some_mapped as_import c.loop-comm.only false none)))
  | else-is_some w ↦
      (let none : is_some c.import_in-found.result ≡ false = cc in
      subst (λ (o : Option Import). found_in import_in (take (c.loop-comm.comm-index + 1) c.args.comms.now) ≡ listed (option_map as_import o))
      (sym w.only-is)
      (found_same import_in c.args.comms.now c.loop-comm.comm-index _ (option_map as_import c.loop-comm.only)
      (option_map as_import c.import_in-found.result) c.loop-comm-test.true c.loop-comm.invariant c.import_in-found.ensures
      (some_mapped as_import c.import_in-found.result false none)))
]
