use Rattle.edge_tables.proofs.taken_tables.WaitLemmas.{route_ran}
use Rattle.edge_tables.proofs.taken_tables.running.run_entry.Goals as goal

pub returns : goal.returns
returns c =
    route_ran c.args.vrfs.now c.args.delay c.args.now c.args.peer c.args.key.now c.args.entry.now c.run_where.new.self c.is_due-due.result c.is_due-due.ensures
    c.run_where.ensures
