use Rattle.std.proofs.Common.{sym, ap, subst, ◌∙◌}
use Rattle.mv_base.specs.Lists.{Among}
use Rattle.mv_base.specs.declared.ids.VrfId.{VrfId}
use Rattle.edge_defs.specs.Place.{OwnVrf, own_vrfs}
use Rattle.edge_routes.specs.edge_home.Home.{Home, as_own, place_of}
use Rattle.edge_words.proofs.calm_laws.Vrfs.{one_number}
use Rattle.vrf_words.specs.tree_laws.Imports.{imports}
use Rattle.control_laws.specs.Control.{control_of}
use Rattle.edge_routing.proofs.edge_datagrams.imported.imports.Goals as goal

pub returns : goal.returns
returns c = λ core own a id.
    let found = as_own c.own_of_vrf.result.now in
    let among = subst (λ (home : Home). Among found (own_vrfs (place_of home core))) c.home.ensures.home (c.own_of_vrf.ensures.among core) in
    let same = one_number (place_of c.args.control.now.home core) found own among a (ap (λ (v : VrfId). v.0) (c.own_of_vrf.ensures.of ∙ sym id)) in
    c.imports_at.ensures core
    ∙ ap (λ (o : OwnVrf). imports (place_of c.args.control.now.home core) (control_of c.args.control.now) o c.args.edge c.args.fec.now) same
