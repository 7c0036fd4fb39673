use Rattle.std.proofs.Common.{◌≡◌, take}
use Rattle.std.specs.List.{filter}
use Rattle.std.specs.FinSet as sets
use Rattle.mv_base.specs.core_walks.Core.{Core}
use Rattle.edge_defs.specs.Tunnels.{leaves}
use Rattle.edge_routes.specs.edge_home.Home.{place_of}
use Rattle.control_laws.specs.Control.{control_of}
use Rattle.edge_routing.proofs.edge_leaves.wanted.wanted_of.Given as goal

abbrev pub invariant-loop-fec : goal.invariant-loop-fec
invariant-loop-fec l =
    (core : Core) → l.found.items ≡ filter (λ fec. sets.contains (leaves (place_of l.control.home core) (control_of l.control)) fec)
    (take l.fec-index l.fecs)
