use Rattle.std.proofs.Common.{length}
use Rattle.ingress_text.proofs.TellLemmas.{IsToldTo}
use Rattle.ingress_text.proofs.telling.tell.Given as goal

-- the lines in front of the rest were told
abbrev pub invariant-lines : goal.invariant-lines
invariant-lines l = IsToldTo l.root l.input.lines l.text l.refused l.peers l.rest

abbrev pub decreases-lines : goal.decreases-lines
decreases-lines l = length l.rest
