use Rattle.std.proofs.Common.{ap, sym, subst, List, ◌∙◌, get_or, slice_set, refl}
use Rattle.network_defs.specs.declared.session_defs.direction.Direction.{Direction}
use Rattle.network_acts.specs.control_plane.Acted.{HandsOutAt, IsSomeMidway}
use Rattle.network_acts.specs.control_plane.PlaneView.{PlaneView}
use Rattle.network_acts.proofs.control_plane.HandLemmas.{hand_made, hand_peers, hand_unspent}
use Rattle.network_acts.proofs.control_plane.PlaceLemmas.{act_places, no_change}
use Rattle.network_acts.proofs.control_plane.plane.ControlPlane.hand_out.Goals as goal

pub hand_out-requires-clause-peers : goal.hand_out-requires-clause-peers
hand_out-requires-clause-peers c =
    let inside = c.self.inside in
    let plane : PlaneView =
    record { nodes = inside.nodes.items; ways = inside.ways; transit = inside.transit; core = inside.core; clock = inside.clock } in
    hand_peers c.args.n plane c.from-at.result c.from-at.ensures c.index_mut.result.now _ c.index_mut.ensures.value c.as_slice-ways.result.now
    c.index-as_slice-at.result
    (c.as_slice-ways.ensures ∙ (c.index-as_slice-at.is
    ∙ ap (λ (l : List (List Direction)). get_or l c.from-at.result c.index-as_slice-at.result) c.as_slice.ensures))
    (subst (IsSomeMidway c.args.n) (sym c.self.view_is) c.requires)

pub hand_out-requires-clause-unspent : goal.hand_out-requires-clause-unspent
hand_out-requires-clause-unspent c =
    let inside = c.self.inside in
    let plane : PlaneView =
    record { nodes = inside.nodes.items; ways = inside.ways; transit = inside.transit; core = inside.core; clock = inside.clock } in
    hand_unspent c.args.n plane c.from-at.result c.from-at.ensures c.index_mut.result.now _ c.index_mut.ensures.value c.as_slice-ways.result.now
    c.index-as_slice-at.result
    (c.as_slice-ways.ensures ∙ (c.index-as_slice-at.is
    ∙ ap (λ (l : List (List Direction)). get_or l c.from-at.result c.index-as_slice-at.result) c.as_slice.ensures))
    (subst (IsSomeMidway c.args.n) (sym c.self.view_is) c.requires)

pub returns-clause-acts : goal.returns-clause-acts
returns-clause-acts c =
    let inside = c.self.inside in
    let plane : PlaneView =
    record { nodes = inside.nodes.items; ways = inside.ways; transit = inside.transit; core = inside.core; clock = inside.clock } in
    let new : PlaneView =
    record plane { nodes = slice_set inside.nodes.items c.from-at.result c.hand_out.new.node; transit = c.hand_out.new.transit } in
    subst (λ (p : PlaneView). HandsOutAt c.args.n p new c.args.lines.now c.hand_out.new.lines c.hand_out.result) c.self.view_is
    (hand_made c.args.n plane c.from-at.result c.from-at.ensures c.index_mut.result.now _ c.index_mut.ensures.value c.as_slice-ways.result.now
    c.index-as_slice-at.result
    (c.as_slice-ways.ensures ∙ (c.index-as_slice-at.is
    ∙ ap (λ (l : List (List Direction)). get_or l c.from-at.result c.index-as_slice-at.result) c.as_slice.ensures))
    c.hand_out.new.node c.hand_out.new.transit c.args.lines.now c.hand_out.new.lines c.hand_out.result c.hand_out.ensures.handed
    c.hand_out.ensures.placed c.hand_out.ensures.unspent c.hand_out.ensures.waits)

pub returns-clause-places : goal.returns-clause-places
returns-clause-places c =
    let inside = c.self.inside in
    let new : PlaneView =
    record {
      nodes = slice_set inside.nodes.items c.from-at.result c.hand_out.new.node;
      ways = inside.ways;
      transit =
          c.hand_out.new.transit;
      core = inside.core;
      clock = inside.clock;
    } in
    act_places _ c.args.self.now c.self.view_is c.from-at.result c.index_mut.result.now c.index_mut.result.now c.hand_out.new.node
    c.index_mut.ensures.value c.hand_out.ensures.placed new new refl (no_change new)
