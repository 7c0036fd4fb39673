use Rattle.std.proofs.Common.{take}
use Rattle.mldp_node.specs.Parts.{AllSettledSo}
use Rattle.mldp_node.proofs.settling.settle_all.Given as goal

abbrev pub invariant-loop-fec : goal.invariant-loop-fec
invariant-loop-fec l = AllSettledSo l.core l.place (take l.fec-index l.fecs) l.ends l.initial.trees l.initial.puts.items l.trees l.puts.items
