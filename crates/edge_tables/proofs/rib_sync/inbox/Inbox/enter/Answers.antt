use Rattle.edge_tables.proofs.rib_sync.RibLemmas.{entered, seen_free}
use Rattle.edge_tables.proofs.rib_sync.inbox.Inbox.enter.Goals as goal

pub returns-clause-fresh : goal.returns-clause-fresh
returns-clause-fresh g c =
    seen_free g.K.Ord.cmp g.met.K.Ord.total c.enter_in.result c.args.self.now c.self.inside.map c.args.key c.self.view_is c.self.invariant
    c.enter_in.ensures.fresh

pub returns-clause-entered : goal.returns-clause-entered
returns-clause-entered g c =
    entered g.K.Ord.cmp g.met.K.Ord.total c.enter_in.result c.requires c.args.self.now c.self.inside.map c.enter_in.new.map c.args.key c.args.value
    c.self.view_is c.self.invariant c.enter_in.ensures.ordered c.enter_in.ensures.entered
