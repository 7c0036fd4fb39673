use Rattle.std.proofs.Common.{take}
use Rattle.edge_tables.specs.Tables.{EachPeer}
use Rattle.held_tables.specs.Starting.{home_place}
use Rattle.held_tables.proofs.StartLemmas.{Given, vrf_routes}
use Rattle.held_tables.proofs.starting.hold_vrfs.Given as goal

abbrev pub invariant-loop-own : goal.invariant-loop-own
invariant-loop-own l = EachPeer (Given (vrf_routes (home_place l.home) (take l.own-index l.vrfs))) l.fn.tables l.tables
