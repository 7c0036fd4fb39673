use Rattle.std.proofs.Common.{◌≡◌, ◌++◌, drop}
use Rattle.network_events.specs.Places.{vrfs_of}
use Rattle.network_events.proofs.places.vrfs_of.Given as goal

abbrev pub invariant-loop-iface : goal.invariant-loop-iface
invariant-loop-iface l = l.vrfs ++ vrfs_of l.site (drop l.iface-index l.ifaces) ≡ vrfs_of l.site l.ifaces
