use Rattle.std.proofs.Common.{◌∙◌, ap}
use Rattle.edge_tables.specs.rib_sync.Ribs.{rib_in}
use Rattle.edge_tables.proofs.rib_sync.ListLemmas.{none}
use Rattle.edge_tables.proofs.rib_sync.inbox.Inbox.of.Goals as goal

pub returns : goal.returns
returns g c = ap (rib_in g.K.Ord.cmp) c.new.ensures.empty ∙ none g.K.Ord.cmp
