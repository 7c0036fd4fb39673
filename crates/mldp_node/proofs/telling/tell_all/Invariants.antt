use Rattle.std.proofs.Common.{◌≡◌, drop}
use Rattle.mldp_node.specs.label_ends.Ends.{with_puts}
use Rattle.mldp_node.proofs.telling.tell_all.Given as goal

abbrev pub invariant-loop-put : goal.invariant-loop-put
invariant-loop-put l = with_puts l.addr l.ends (drop l.put-index l.puts) ≡ with_puts l.addr l.initial.ends l.puts
