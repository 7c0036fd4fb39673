use Rattle.mvpn_audit.specs.Judging.{IsRead}
use Rattle.mvpn_audit.proofs.judging.read.Given as goal

abbrev pub invariant-loop-place : goal.invariant-loop-place
invariant-loop-place l = IsRead l.case l.place l.reading
