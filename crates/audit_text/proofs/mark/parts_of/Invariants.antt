use Rattle.std.proofs.Common.{◌-◌, length}
use Rattle.audit_text.proofs.CutLemmas.{IsFront}
use Rattle.audit_text.proofs.mark.parts_of.Given as goal

abbrev pub invariant-lines : goal.invariant-lines
invariant-lines l = IsFront l.text l.place l.number

abbrev pub decreases-lines : goal.decreases-lines
decreases-lines l = length l.text - l.place
