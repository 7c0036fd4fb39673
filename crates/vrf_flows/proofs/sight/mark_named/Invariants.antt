use Rattle.std.proofs.Common.{◌≡◌, length, drop}
use Rattle.vrf_flows.specs.Sight.{mark_named}
use Rattle.vrf_flows.proofs.sight.mark_named.Given as goal

abbrev pub invariant-loop-own : goal.invariant-loop-own
invariant-loop-own l = (length l.marks ≡ 256) × (mark_named l.marks (drop l.own-index l.listed) ≡ mark_named l.fn.marks l.listed)
