use Rattle.std.proofs.Common.{◌≡◌, ◌++◌}
use Rattle.label_trees.specs.label_uses.Held.{labels_toward}
use Rattle.label_trees.proofs.label_uses.held.labels_toward.Given as goal

abbrev pub invariant-held : goal.invariant-held
invariant-held l = l.labels.items ++ labels_toward l.peer l.label-iterator ≡ labels_toward l.peer l.held.entries
