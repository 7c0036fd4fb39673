use Rattle.std.proofs.Common.{◌≡◌, ◌++◌, length}
use Rattle.std.specs.List.{filter_map}
use Rattle.ingress_rep.specs.Ingress.{copy_of}
use Rattle.ingress_rep.proofs.copying.push_copies.Given as goal

-- the copies to the other peers are still to come
abbrev pub invariant-taken : goal.invariant-taken
invariant-taken l = l.copies ++ filter_map (copy_of l.request) l.rest ≡ l.initial.copies ++ filter_map (copy_of l.request) l.taken

abbrev pub decreases-taken : goal.decreases-taken
decreases-taken l = length l.rest
