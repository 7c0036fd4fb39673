use Rattle.std.proofs.Common.{◌∙◌, sym, ap}
use Rattle.std.specs.FinMap.{get}
use Rattle.edge_tables.specs.rib_sync.Ribs.{rib_in}
use Rattle.edge_tables.proofs.rib_sync.ListLemmas.{get-ordered}
use Rattle.edge_tables.proofs.rib_sync.inbox.Inbox.get.Goals as goal

pub returns : goal.returns
returns g c =
    c.get.ensures.value ∙ sym (get-ordered g.K.Ord.cmp c.self.inside.map c.self.invariant c.args.key.now)
    ∙ ap (λ rows. get (rib_in g.K.Ord.cmp rows) c.args.key.now) c.self.view_is
