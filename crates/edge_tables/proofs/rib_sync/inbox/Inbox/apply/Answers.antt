use Rattle.std.proofs.lemmas.Result.{on_ok_weaker}
use Rattle.edge_tables.proofs.rib_sync.RibLemmas.{taken}
use Rattle.edge_tables.proofs.rib_sync.inbox.Inbox.apply.Goals as goal

pub returns-clause-applied : goal.returns-clause-applied
returns-clause-applied g c =
    on_ok_weaker c.make.result
    (taken g.K.Ord.cmp g.met.K.Ord.total c.requires c.args.self.now c.self.inside.map c.make.new.map c.args.change c.self.view_is c.self.invariant
    c.make.ensures.ordered)
    c.make.ensures.made
