use Rattle.std.proofs.Common.{All, take}
use Rattle.mv_base.specs.Octets.{IsOctets}
use Rattle.run_laws.proofs.script_values.scenarios.vrfs_have_octets.Given as goal

abbrev pub invariant-loop-vrf : goal.invariant-loop-vrf
invariant-loop-vrf l =
    All (λ vrf. IsOctets vrf.rd.0) (take l.vrf-index l.vrfs) × All (λ vrf. All (λ target. IsOctets target.0.0) vrf.targets) (take l.vrf-index l.vrfs)
