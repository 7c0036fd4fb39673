use Rattle.std.proofs.Common.{◌≡◌, ◌++◌, map, filter, drop}
use Rattle.vrf_words.specs.tree_defs.Flows.{is_outside}
use Rattle.vrf_flows.specs.State.{iface_in}
use Rattle.vrf_flows.proofs.state.leaving.Given as goal

abbrev pub invariant-loop-own : goal.invariant-loop-own
invariant-loop-own l =
    l.outs ++ map iface_in (filter (is_outside l.from) (drop l.own-index l.ifaces)) ≡ map iface_in (filter (is_outside l.from) l.ifaces)
