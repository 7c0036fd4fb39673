use Rattle.std.proofs.Common.{length, arith, ap}
use Rattle.mv_base.specs.declared.table_defs.change.Change.{Change}
use Rattle.std.specs.Prelude.{List}
use Rattle.bgp_messages.specs.declared.bgp_attributes.key.Key.{Key}
use Rattle.edge_defs.specs.Keys.{Value}
use Rattle.edge_tables.proofs.PutLemmas.{all_put, front_put, none_put, one_put}
use Rattle.edge_tables.proofs.WayLemmas.{on_err}
use Rattle.edge_tables.proofs.writing.put_changes.Goals as goal

pub loop-change-init : goal.loop-change-init
loop-change-init c = none_put c.args.pending c.args.out.now

pub loop-change-smaller : goal.loop-change-smaller
loop-change-smaller c = let e = ap (λ (l : List (Change Key Value)). length l) c.in-Some.ensures in omega (arith, e)

pub loop-change-preserved : goal.loop-change-preserved
loop-change-preserved c =
    one_put c.args.pending c.args.out.now c.loop-change.out c.put_change.new.out c.loop-change.pending c.next.new.self c.in-Some.change
    c.loop-change.invariant c.in-Some.ensures c.in_ok-put_change.ensures.ok

pub loop-change-preserved-in_ok-put_change : goal.loop-change-preserved-in_ok-put_change
loop-change-preserved-in_ok-put_change c =
    one_put c.args.pending c.args.out.now c.loop-change.out c.put_change.new.out c.loop-change.pending c.next.new.self c.in-Some.change
    c.loop-change.invariant c.in-Some.ensures c.in_ok-put_change.ensures.ok

pub returns-in_err-put_change-clause-err : goal.returns-in_err-put_change-clause-err
returns-in_err-put_change-clause-err c =
    on_err c.from_residual.result _ (front_put c.args.pending c.args.out.now c.loop-change.out c.put_change.new.out c.loop-change.pending
    c.loop-change.invariant c.in_err-put_change.ensures.err)

pub returns-clause-ok : goal.returns-clause-ok
returns-clause-ok c = all_put c.args.pending c.args.out.now c.loop-change.out c.loop-change.pending c.loop-change.invariant c.in_default.ensures.0
