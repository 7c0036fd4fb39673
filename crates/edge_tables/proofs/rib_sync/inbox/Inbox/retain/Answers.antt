use Rattle.std.specs.Map.Calls.{CalledAtPair}
use Rattle.edge_tables.proofs.rib_sync.RibLemmas.{retained}
use Rattle.edge_tables.proofs.rib_sync.inbox.Inbox.retain.Goals as goal

pub returns : goal.returns
returns g c =
    retained g.K.Ord.cmp (CalledAtPair {F = g.row.F.Denot} {K = g.row.K.Denot} {X = g.row.V.Denot} g.F.FnMut) c.args.keep c.args.self.now
    c.self.inside.map c.retain.new.self c.self.view_is c.self.invariant c.retain.ensures.ordered c.retain.ensures.filtered
