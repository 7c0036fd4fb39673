use Rattle.std.proofs.Common.{◌≡◌, take}
use Rattle.core_paths.specs.Rows.{relaxed_all}
use Rattle.core_paths.proofs.rows.relax_all.Given as goal

abbrev pub invariant-loop-link : goal.invariant-loop-link
invariant-loop-link l = l.row ≡ relaxed_all l.fn.row (take l.link-index l.links)
