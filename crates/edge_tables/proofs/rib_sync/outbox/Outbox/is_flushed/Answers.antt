use Rattle.std.proofs.Common.{sym, ◌∙◌}
use Rattle.edge_tables.proofs.rib_sync.RibLemmas.{flushed_already}
use Rattle.edge_tables.proofs.rib_sync.ChangeLemmas.{handed_out, no_changes, none_handed}
use Rattle.edge_tables.proofs.rib_sync.outbox.Outbox.is_flushed.Goals as goal

pub returns-clause-changes : goal.returns-clause-changes
returns-clause-changes g c =
    let kept = c.self.inside.kept in
    let same = handed_out g.K.Ord.cmp g.met.K.Ord.total c.requires.keys g.V.PartialEq.eq c.requires.values kept c.self.invariant c.args.self.now c.self.view_is in (
      λ t. sym same ∙ no_changes kept.gone.entries kept.news.entries (c.is_clear.ensures.0 t).0 (c.is_clear.ensures.0 t).1,
      λ e. c.is_clear.ensures.1 (none_handed kept.gone.entries kept.news.entries (same ∙ e)),
    )

pub returns-clause-sent : goal.returns-clause-sent
returns-clause-sent g c t =
    flushed_already g.K.Ord.cmp g.met.K.Ord.total c.requires.keys c.args.self.now c.self.inside.kept c.self.view_is (c.is_clear.ensures.0 t).0
    (c.is_clear.ensures.0 t).1
