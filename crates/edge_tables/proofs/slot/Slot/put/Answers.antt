use Rattle.std.proofs.lemmas.Result.{on_err_weaker}
use Rattle.edge_tables.specs.rib_sync.Ribs.{rib_out}
use Rattle.edge_defs.specs.Keys.{key_cmp}
use Rattle.edge_tables.proofs.PutLemmas.{put_part}
use Rattle.edge_tables.proofs.slot.Slot.put.Goals as goal

pub returns-clause-partly : goal.returns-clause-partly
returns-clause-partly c =
    on_err_weaker c.put_changes.result
    (put_part (rib_out key_cmp c.args.self.now.table) (rib_out key_cmp c.flush-pending.new.self) c.args.self.now.waiting c.put_changes.new.out
    c.flush-pending.result c.flush-pending.ensures.changes c.flush-pending.ensures.sent)
    c.put_changes.ensures.err
