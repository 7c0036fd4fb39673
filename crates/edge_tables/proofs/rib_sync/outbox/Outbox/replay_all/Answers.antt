use Rattle.std.proofs.lemmas.Result.{on_ok_weaker}
use Rattle.edge_tables.proofs.rib_sync.RibLemmas.{replayed}
use Rattle.edge_tables.proofs.rib_sync.outbox.Outbox.replay_all.Goals as goal

pub returns-clause-up : goal.returns-clause-up
returns-clause-up g c =
    on_ok_weaker c.replay_all.result
    (λ now. replayed g.K.Ord.cmp g.met.K.Ord.total c.requires.keys c.args.self.now c.self.inside.kept c.replay_all.new.self c.self.view_is now.0 now.1
    c.replay_all.ensures.set)
    c.replay_all.ensures.up
