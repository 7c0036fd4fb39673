use Rattle.std.proofs.lemmas.Result.{on_ok_weaker, on_err_weaker}
use Rattle.mv_base.specs.declared.table_defs.change.Change.TheVariants.{Unreach}
use Rattle.edge_tables.proofs.rib_sync.RibLemmas.{changed, unchanged}
use Rattle.edge_tables.proofs.rib_sync.outbox.Outbox.unset.Goals as goal

pub returns-clause-unset : goal.returns-clause-unset
returns-clause-unset g c =
    on_ok_weaker c.unset.result
    (changed g.K.Ord.cmp g.met.K.Ord.total c.requires.keys c.args.self.now c.self.inside.kept c.unset.new.self (Unreach c.args.key.now) c.self.view_is
    c.unset.ensures.up c.unset.ensures.sent)
    c.unset.ensures.ok

pub returns-clause-unchanged : goal.returns-clause-unchanged
returns-clause-unchanged g c =
    on_err_weaker c.unset.result
    (unchanged g.K.Ord.cmp g.met.K.Ord.total c.requires.keys c.args.self.now c.self.inside.kept c.unset.new.self c.self.view_is c.unset.ensures.up
    c.unset.ensures.sent)
    c.unset.ensures.err
