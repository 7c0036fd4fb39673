use Rattle.std.proofs.Common.{◌≡◌, subst}
use Rattle.mv_base.specs.Lists.{Among}
use Rattle.mv_base.specs.core_walks.Core.{Core}
use Rattle.edge_defs.specs.Place.{OwnVrf}
use Rattle.edge_routes.specs.edge_home.Home.{place_of}
use Rattle.edge_routing.specs.vrf_words.tree_laws.Imports.{imports}
use Rattle.edge_routing.specs.edge_control.Places.{vrfs_of}
use Rattle.edge_core.specs.State.{data_of, home_of}
use Rattle.edge_core.specs.View.{EdgeView}
use Rattle.edge_core.proofs.edge.Edge.imports_tunnel.Goals as goal

pub returns : goal.returns
returns c = subst (λ (e : EdgeView). (walks : Core) (own : OwnVrf) → Among own (vrfs_of (home_of e)) → own.id ≡ c.args.vrf
    → c.imports.result ≡ imports (place_of (home_of e) walks) (data_of e).control own c.args.edge c.args.fec.now) c.self.view_is c.imports.ensures
