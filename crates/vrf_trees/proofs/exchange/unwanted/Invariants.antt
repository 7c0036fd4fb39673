use Rattle.std.proofs.Common.{◌≡◌, ◌++◌, drop, filter, not}
use Rattle.vrf_trees.specs.Wants.{is_in, tunnels_in}
use Rattle.vrf_trees.proofs.exchange.unwanted.Given as goal

abbrev pub invariant-loop-fec : goal.invariant-loop-fec
invariant-loop-fec l =
    l.left ++ filter (λ fec. not (is_in fec (tunnels_in l.wants.entries))) (drop l.fec-index l.fecs)
    ≡ filter (λ fec. not (is_in fec (tunnels_in l.wants.entries))) l.fecs
