use Rattle.std.proofs.Common.{◌≡◌, take}
use Rattle.core_paths.specs.Rows.{noted_all}
use Rattle.core_paths.proofs.steps.note_all.Given as goal

abbrev pub invariant-loop-link : goal.invariant-loop-link
invariant-loop-link l = l.nexts ≡ noted_all l.row l.fn.nexts (take l.link-index l.links)
