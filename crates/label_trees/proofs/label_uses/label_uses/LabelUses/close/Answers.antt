use Rattle.indexmap.specs.IndexMap.{get}
use Rattle.label_trees.specs.label_uses.Held.{is_fec}
use Rattle.label_trees.proofs.label_uses.SeenLemmas.{bindings_owned, bindings_apart}
use Rattle.label_trees.proofs.label_uses.label_uses.LabelUses.close.Goals as goal

pub close-requires-clause-owned : goal.close-requires-clause-owned
close-requires-clause-owned c =
    bindings_owned c.self.inside.space c.self.inside.held c.self.inside.bindings c.self.inside.sessions (get is_fec c.self.inside.mapped)
    c.self.inside.waiting c.self.invariant

pub close-requires-clause-apart : goal.close-requires-clause-apart
close-requires-clause-apart c =
    bindings_apart c.self.inside.space c.self.inside.held c.self.inside.bindings c.self.inside.sessions (get is_fec c.self.inside.mapped)
    c.self.inside.waiting c.self.invariant
