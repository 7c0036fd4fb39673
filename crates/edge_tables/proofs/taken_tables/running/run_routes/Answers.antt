use Rattle.std.proofs.Common.{rules}
use Rattle.edge_tables.specs.taken_tables.Running.{run_at}
use Rattle.edge_tables.specs.taken_tables.Slots.{taken_in}
use Rattle.edge_tables.proofs.taken_tables.MapLemmas.{table_ran}
use Rattle.edge_tables.proofs.taken_tables.running.run_routes.Goals as goal

pub returns : goal.returns
returns c =
    table_ran _ (run_at c.args.vrfs.now c.args.delay c.args.now c.args.peer) _ (λ k v b w g call. search rules) (taken_in c.args.routes.now)
    (taken_in c.retain.new.self) c.retain.ensures
