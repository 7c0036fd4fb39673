use Rattle.std.proofs.Common.{◌≡◌, refl, slice_get, Some, sym, ap, subst, ◌∙◌}
use Rattle.std.proofs.lemmas.Option.{same_Some}
use Rattle.mv_base.specs.declared.ids.NodeId.{NodeId}
use Rattle.vrf_words.specs.declared.tree_defs.flow.Origin.TheVariants as origins
use Rattle.vrf_words.specs.tree_defs.Flows.{outgoing}
use Rattle.edge_defs.specs.Place.{OwnVrf}
use Rattle.edge_routes.specs.edge_home.Home.{Home, as_own, place_of}
use Rattle.edge_words.proofs.calm_laws.Lists.{not_both}
use Rattle.vrf_words.specs.tree_laws.Imports.{imports}
use Rattle.control_laws.specs.Control.{control_of}
use Rattle.edge_control.specs.Places.{vrfs_of}
use Rattle.edge_routing.proofs.edge_datagrams.CoreLemmas.{home_costs, place_core}
use Rattle.edge_routing.proofs.edge_datagrams.LeavingLemmas.{leave_all, leave_empty, leave_none, tree_read, tree_there, within_trees}
use Rattle.edge_routing.proofs.edge_datagrams.egress.outs_at.Goals as goal
use Rattle.edge_routing.proofs.edge_datagrams.egress.outs_at.Goals.{then-is_empty, else-is_empty}

pub outgoing-requires-clause-peers : goal.outgoing-requires-clause-peers
outgoing-requires-clause-peers c =
    let within = within_trees c.args.control.now c.home-home.ensures.sound c.args.control.now.trees c.args.place refl c.requires.place in
    place_core c.args.control.now c.home-home.ensures.sound c.args.core.now.nodes c.requires.core c.args.place c.index-trees-place.result
    (tree_read c.trees.result.now c.args.control.now.trees c.args.place c.index-trees-place.result c.trees.ensures within c.index-trees-place.is)

pub returns-then-imports_to : goal.returns-then-imports_to
returns-then-imports_to c = λ walks own is at.
    let me = c.me.ensures ∙ ap (λ (home : Home). home.me) c.home-home.ensures.home in
    let told =
    c.in_ok-outs.ensures (walks.cost c.me.result)
    (home_costs c.args.control.now.home c.args.core.now walks c.me.result c.home-home.ensures.sound.home c.requires.core is me)
    ∙ ap (λ (n : NodeId). outgoing c.index-trees-place.result.vrf (walks.cost n) c.args.now c.args.flow (origins.Edge c.args.root)) me in
    let within = within_trees c.args.control.now c.home-home.ensures.sound c.args.control.now.trees c.args.place refl c.requires.place in
    let tree =
    tree_read c.trees.result.now c.args.control.now.trees c.args.place c.index-trees-place.result c.trees.ensures within c.index-trees-place.is in
    let own_at =
    subst (λ (home : Home). slice_get (vrfs_of home) c.args.place ≡ Some (as_own c.own_at-own.result.now)) c.home-home.ensures.home
    c.own_at-own.ensures in
    let same = same_Some (as_own c.own_at-own.result.now) own (sym own_at ∙ at) in
    elim c.if-is_empty.branch [
      | then-is_empty w ↦ leave_empty c.args.control.now c.home-home.ensures.sound walks c.args.now c.args.fec.now c.args.flow c.are_of_octets.ensures
          c.args.root c.requires.root c.requires.rooted
          c.args.place own c.index-trees-place.result at tree c.in_ok-outs.outs told (c.is_empty.ensures.0 w.if-is_empty.true)
      | else-is_empty w ↦ leave_all c.args.control.now c.home-home.ensures.sound walks c.args.now c.args.fec.now c.args.flow c.are_of_octets.ensures
          c.args.root c.requires.root c.requires.rooted
          c.args.place own c.index-trees-place.result at tree c.in_ok-outs.outs w.imports_to.result told
          (w.imports_to.ensures walks
          (tree_there c.args.control.now c.home-home.ensures.sound walks c.args.now c.args.fec.now c.args.flow c.are_of_octets.ensures
          c.args.root c.requires.root c.requires.rooted c.args.place (as_own c.own_at-own.result.now) c.index-trees-place.result own_at tree)
          ∙ ap (λ (o : OwnVrf). imports (place_of c.args.control.now.home walks) (control_of c.args.control.now) o
          c.args.root c.args.fec.now) same)
          (sym w.value-is ∙ c.if-imports_to.true)
    ]

pub returns-else-imports_to : goal.returns-else-imports_to
returns-else-imports_to c = λ walks own is at.
    let within = within_trees c.args.control.now c.home-home.ensures.sound c.args.control.now.trees c.args.place refl c.requires.place in
    let tree =
    tree_read c.trees.result.now c.args.control.now.trees c.args.place c.index-trees-place.result c.trees.ensures within c.index-trees-place.is in
    let own_at =
    subst (λ (home : Home). slice_get (vrfs_of home) c.args.place ≡ Some (as_own c.own_at-own.result.now)) c.home-home.ensures.home
    c.own_at-own.ensures in
    let same = same_Some (as_own c.own_at-own.result.now) own (sym own_at ∙ at) in
    elim c.if-is_empty.branch [
      | then-is_empty w ↦ absurd (not_both c.if-is_empty.value (w.value-is ∙ w.if-is_empty.true) c.if-imports_to.false)
      | else-is_empty w ↦ leave_none c.args.control.now c.home-home.ensures.sound walks c.args.now c.args.fec.now c.args.flow c.are_of_octets.ensures
          c.args.root c.requires.root c.requires.rooted
          c.args.place own c.index-trees-place.result at tree c.new.result w.imports_to.result c.new.ensures
          (w.imports_to.ensures walks
          (tree_there c.args.control.now c.home-home.ensures.sound walks c.args.now c.args.fec.now c.args.flow c.are_of_octets.ensures
          c.args.root c.requires.root c.requires.rooted c.args.place (as_own c.own_at-own.result.now) c.index-trees-place.result own_at tree)
          ∙ ap (λ (o : OwnVrf). imports (place_of c.args.control.now.home walks) (control_of c.args.control.now) o
          c.args.root c.args.fec.now) same)
          (sym w.value-is ∙ c.if-imports_to.false)
    ]
