use Rattle.std.proofs.lemmas.Result.{on_ok_weaker, on_err_weaker}
use Rattle.mv_base.specs.declared.table_defs.change.Change.TheVariants.{Reach}
use Rattle.edge_tables.proofs.rib_sync.RibLemmas.{changed, unchanged}
use Rattle.edge_tables.proofs.rib_sync.outbox.Outbox.set.Goals as goal

pub returns-clause-set : goal.returns-clause-set
returns-clause-set g c =
    on_ok_weaker c.set.result
    (changed g.K.Ord.cmp g.met.K.Ord.total c.requires.keys c.args.self.now c.self.inside.kept c.set.new.self (Reach c.args.key c.args.value)
    c.self.view_is c.set.ensures.up c.set.ensures.sent)
    c.set.ensures.ok

pub returns-clause-unchanged : goal.returns-clause-unchanged
returns-clause-unchanged g c =
    on_err_weaker c.set.result
    (unchanged g.K.Ord.cmp g.met.K.Ord.total c.requires.keys c.args.self.now c.self.inside.kept c.set.new.self c.self.view_is c.set.ensures.up
    c.set.ensures.sent)
    c.set.ensures.err
