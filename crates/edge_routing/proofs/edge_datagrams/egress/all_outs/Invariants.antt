use Rattle.std.proofs.Common.{◌≡◌, take}
use Rattle.std.specs.List.{flat_map}
use Rattle.mv_base.specs.core_walks.Core.{Core, IsCoreOf}
use Rattle.edge_defs.specs.Datagrams.{outs_at}
use Rattle.edge_routes.specs.edge_home.Home.{place_of}
use Rattle.control_laws.specs.Control.{control_of}
use Rattle.edge_control.specs.Places.{vrfs_of}
use Rattle.edge_routing.proofs.edge_datagrams.egress.all_outs.Given as goal

abbrev pub invariant-loop-place : goal.invariant-loop-place
invariant-loop-place l = (walks : Core) → IsCoreOf l.core.nodes l.core.links walks
    → l.outs.items ≡ flat_map (outs_at (place_of l.control.home walks) l.now (control_of l.control) l.fec l.flow.source l.flow.group)
    (take l.place (vrfs_of l.control.home))
