use Rattle.std.proofs.Common.{◌≡◌, take}
use Rattle.std.specs.Prelude.{fold}
use Rattle.mv_base.specs.core_walks.Marks.{marked_link}
use Rattle.mv_base.proofs.core_walks.connection.next_marks.Given as goal

abbrev pub invariant-loop-link : goal.invariant-loop-link
invariant-loop-link l = l.next ≡ fold (marked_link l.marks) l.marks (take l.link-index l.links)
