use Rattle.std.proofs.Common.{◌∙◌}
use Rattle.edge_tables.specs.rib_sync.Kept.{changes_in}
use Rattle.edge_tables.proofs.rib_sync.RibLemmas.{sent_all}
use Rattle.edge_tables.proofs.rib_sync.ChangeLemmas.{handed_out}
use Rattle.edge_tables.proofs.rib_sync.outbox.Outbox.flush.Goals as goal

pub returns-clause-changes : goal.returns-clause-changes
returns-clause-changes g c =
    (λ i. changes_in (c.take-gone.ensures.gone i) (c.take-gone.ensures.news i))
    ∙ handed_out g.K.Ord.cmp g.met.K.Ord.total c.requires.keys g.V.PartialEq.eq c.requires.values c.self.inside.kept c.self.invariant c.args.self.now
    c.self.view_is

pub returns-clause-sent : goal.returns-clause-sent
returns-clause-sent g c =
    sent_all g.K.Ord.cmp g.met.K.Ord.total c.requires.keys c.args.self.now c.self.inside.kept c.take-gone.new.self c.self.view_is
    c.take-gone.ensures.up c.take-gone.ensures.set c.take-gone.ensures.sent
