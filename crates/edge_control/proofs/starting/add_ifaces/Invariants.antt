use Rattle.std.specs.Prelude.{fold}
use Rattle.std.proofs.Common.{◌≡◌, take}
use Rattle.edge_control.specs.Start.{with_iface}
use Rattle.edge_control.proofs.starting.add_ifaces.Given as goal

abbrev pub invariant-loop-own : goal.invariant-loop-own
invariant-loop-own l = l.tree ≡ fold with_iface l.initial.tree (take l.own-index l.ifaces)
