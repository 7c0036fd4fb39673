use Rattle.std.proofs.Common.{◌≡◌, ◌++◌, drop}
use Rattle.label_defs.specs.Steps.{twice}
use Rattle.mldp_node.proofs.steps.twice.Given as goal

abbrev pub invariant-loop-fec : goal.invariant-loop-fec
invariant-loop-fec l = l.both.items ++ twice (drop l.fec-index l.fecs) ≡ twice l.fecs
