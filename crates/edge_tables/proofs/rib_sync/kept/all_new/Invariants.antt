use Rattle.edge_tables.proofs.rib_sync.Replaying.{Replayed}
use Rattle.edge_tables.proofs.rib_sync.kept.all_new.Given as goal

abbrev pub invariant-loop-key : goal.invariant-loop-key
invariant-loop-key g l = Replayed g.K.Ord.cmp l.set l.news l.key-iterator
