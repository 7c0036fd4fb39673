use Rattle.std.proofs.Common.{◌≡◌, drop}
use Rattle.label_trees.specs.label_uses.Uses.{lost_all}
use Rattle.label_trees.proofs.label_uses.label_uses.lose_all.Given as goal

abbrev pub invariant-loop-label : goal.invariant-loop-label
invariant-loop-label l = record {
  labels : lost_all l.peer l.uses.labels (drop l.label-index l.labels) ≡ lost_all l.peer l.initial.uses.labels l.labels;
  life : l.uses.life ≡ l.initial.uses.life;
  waiting : l.uses.waiting ≡ l.initial.uses.waiting;
  sessions : l.uses.sessions ≡ l.initial.uses.sessions;
}
