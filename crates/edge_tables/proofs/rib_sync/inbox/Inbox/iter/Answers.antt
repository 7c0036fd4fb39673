use Rattle.std.proofs.Common.{◌∙◌, sym, ap}
use Rattle.std.specs.FinMap.{entries, entries-from_sorted}
use Rattle.edge_tables.specs.rib_sync.Ribs.{rib_in}
use Rattle.edge_tables.proofs.rib_sync.ListLemmas.{sorted}
use Rattle.edge_tables.proofs.rib_sync.inbox.Inbox.iter.Goals as goal

pub returns : goal.returns
returns g c =
    c.iter.ensures.rest ∙ sym (entries-from_sorted g.K.Ord.cmp c.self.inside.map.entries
    (sorted g.K.Ord.cmp c.self.inside.map.entries c.self.invariant))
    ∙ ap (λ rows. entries (rib_in g.K.Ord.cmp rows)) c.self.view_is
