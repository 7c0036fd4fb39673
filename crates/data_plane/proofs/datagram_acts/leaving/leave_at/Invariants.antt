use Rattle.std.proofs.Common.{◌≡◌, ◌++◌, map, take}
use Rattle.scenario_defs.specs.declared.report.ReportLine.TheVariants as told
use Rattle.data_plane.proofs.datagram_acts.leaving.leave_at.Given as goal

abbrev pub invariant-loop-iface : goal.invariant-loop-iface
invariant-loop-iface l = l.lines ≡ l.fn.lines ++ map (λ iface. told.Out l.fn.number iface l.fn.octets) (take l.iface-index l.fn.ifaces)
