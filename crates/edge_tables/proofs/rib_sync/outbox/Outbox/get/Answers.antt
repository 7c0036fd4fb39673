use Rattle.std.proofs.Common.{◌∙◌, sym, ap}
use Rattle.std.specs.FinMap.{get}
use Rattle.edge_tables.specs.rib_sync.Ribs.{RibOut}
use Rattle.edge_tables.specs.rib_sync.Kept.{kept_rib}
use Rattle.edge_tables.proofs.rib_sync.RibLemmas.{get-set, seen_as}
use Rattle.edge_tables.proofs.rib_sync.outbox.Outbox.get.Goals as goal

pub returns : goal.returns
returns g c =
    c.get.ensures.value ∙ sym (get-set g.K.Ord.cmp g.met.K.Ord.total c.self.inside.kept c.args.key.now)
    ∙ ap (λ (rib : RibOut g.K.Ord.cmp g.row.V.Denot). get rib.set c.args.key.now)
    (sym (seen_as g.K.Ord.cmp g.met.K.Ord.total (kept_rib g.K.Ord.cmp c.self.inside.kept) c.args.self.now c.self.view_is))
