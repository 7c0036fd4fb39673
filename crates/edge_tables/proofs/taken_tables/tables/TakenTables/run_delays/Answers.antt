use Rattle.std.proofs.Common.{rules, ◌≡◌, sym, ap, subst, ◌∙◌}
use Rattle.edge_tables.specs.taken_tables.Running.{node_run}
use Rattle.edge_tables.specs.taken_tables.Slots.{tables_of}
use Rattle.edge_tables.specs.taken_tables.Tables.{AreSpelled, Tables}
use Rattle.edge_tables.proofs.taken_tables.MapLemmas.{run_is, run_spelled, run_tables, tables_ran}
use Rattle.edge_tables.proofs.taken_tables.tables.TakenTables.run_delays.Goals as goal

pub invariant_of-self : goal.invariant_of-self
invariant_of-self c =
    let old = c.self.inside.slots.entries in
    let ran : tables_of c.retain.new.self.entries ≡ run_tables c.args.vrfs.now c.args.nodes.now c.args.delay c.args.now (tables_of old) =
    tables_ran _ (node_run c.args.vrfs.now c.args.nodes.now c.args.delay c.args.now) _ (λ k v b w g call. search rules) old c.retain.new.self.entries
    c.retain.ensures.filtered in
    subst AreSpelled (sym ran) (run_spelled c.args.vrfs.now c.args.nodes.now c.args.delay c.args.now (tables_of old) c.self.invariant)

pub returns : goal.returns
returns c = λ place is.
    let old = c.self.inside.slots.entries in
    let ran : tables_of c.retain.new.self.entries ≡ run_tables c.args.vrfs.now c.args.nodes.now c.args.delay c.args.now (tables_of old) =
    tables_ran _ (node_run c.args.vrfs.now c.args.nodes.now c.args.delay c.args.now) _ (λ k v b w g call. search rules) old c.retain.new.self.entries
    c.retain.ensures.filtered in
    ran ∙ ap (λ (tables : Tables). run_tables c.args.vrfs.now c.args.nodes.now c.args.delay c.args.now tables) c.self.view_is
    ∙ run_is place c.args.vrfs.now c.args.nodes.now c.args.delay c.args.now c.args.self.now is
