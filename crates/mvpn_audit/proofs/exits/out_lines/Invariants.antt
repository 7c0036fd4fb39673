use Rattle.mvpn_audit.specs.Exits.{AreOutLines}
use Rattle.mvpn_audit.proofs.exits.out_lines.Given as goal

abbrev pub invariant-loop-numbered : goal.invariant-loop-numbered
invariant-loop-numbered l = AreOutLines l.lines l.numbered-index (record { exits = l.exits; repeats = l.repeats })
