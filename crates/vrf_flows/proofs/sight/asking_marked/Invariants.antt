use Rattle.std.proofs.Common.{◌≡◌, ◌++◌, drop}
use Rattle.vrf_flows.specs.Sight.{asking_marked}
use Rattle.vrf_flows.proofs.sight.asking_marked.Given as goal

abbrev pub invariant-loop-own : goal.invariant-loop-own
invariant-loop-own l =
    l.found ++ asking_marked l.marks (drop l.own-index l.ifaces) l.sight.entries.now l.active l.sight.clock l.flow
    ≡ asking_marked l.marks l.ifaces l.sight.entries.now l.active l.sight.clock l.flow
