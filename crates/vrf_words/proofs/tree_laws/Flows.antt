-- The flows of the edge, looked up in the tree of their VRF.
use Rattle.std.proofs.Common.{◌≡◌, ℕ, Bool, true, false, cond, Option, Some, None, option_map, refl, sym, ap, ◌∙◌}
use Rattle.std.specs.FinMap as maps
use Rattle.mv_base.specs.Lists.{Among}
use Rattle.mv_base.specs.declared.ids.VrfId.{VrfId}
use Rattle.scenario_defs.specs.Rules.{Rules}
use Rattle.umh_select.specs.declared.route.Choice.{Choice}
use Rattle.vrf_words.specs.declared.tree_defs.flow.Flow.{Flow}
use Rattle.vrf_words.specs.tree_defs.Flows.{chosen_for, flow_of}
use Rattle.vrf_words.specs.tree_defs.Trees.{TreeData}
use Rattle.edge_words.specs.edge_defs.Edge.{Upstream, Control}
use Rattle.edge_words.specs.edge_defs.Flows.{flows_at, ifaces_of, is_asking, is_flow}
use Rattle.edge_words.specs.edge_defs.Place.{EdgePlace, OwnVrf, own_vrfs}
use Rattle.edge_words.specs.edge_defs.Upstream.{known_routes, upstream_for}
use Rattle.edge_words.proofs.calm_laws.Lists.{any_from, any_among, not_both}
use Rattle.edge_words.proofs.calm_laws.Vrfs.{one_number}
use Rattle.edge_words.specs.Known.{AreNodes}
use Rattle.edge_words.specs.Asked.{IsAsked}
use Rattle.edge_words.proofs.Flows.{asks_is, is_asks, is_asked, asked_is}
use Rattle.edge_words.proofs.Members.{ifaces_from, ifaces_to}
use Rattle.vrf_words.specs.tree_laws.TreeOf.{IsTreeOf, choice_of, flow_in, flow_route}
use Rattle.vrf_words.specs.tree_laws.Whole.{AreWhole}
use Rattle.vrf_words.proofs.tree_laws.Asking.{one_flow}
use Rattle.vrf_words.proofs.tree_laws.Choices.{choice_is}

module _ (place : EdgePlace) (now : ℕ) (control : Control) (own : OwnVrf) (flow : Flow) (among : Among own (own_vrfs place)) where
  abbrev up : Option Upstream
  up = upstream_for place control own flow.source flow.group

  -- a flow that is asked for is one that the edge has
  asked : is_flow place now control own (flow_route flow) ≡ true → IsAsked place now control (flow_in own.id flow) up
  asked h =
      let found = any_among (is_asking place now control own flow.source flow.group) (ifaces_of place own) h in
      record {
        own = own;
        of_edge = among;
        of_flow = refl;
        iface = found.0;
        of_vrf = ifaces_from place.scenario own.id found.0 found.1;
        asks = asks_is place now control own flow.source flow.group found.0 found.2;
        choice = refl;
      }

  is_there : (found : Option Upstream) → IsAsked place now control (flow_in own.id flow) found
      → is_flow place now control own (flow_route flow) ≡ true
  is_there found is =
      let one = one_number place is.own own is.of_edge among (ap (λ (v : VrfId). v.0) is.of_flow) in
      ap (λ (o : OwnVrf). is_flow place now control o (flow_route flow)) (sym one)
      ∙ any_from (is_asking place now control is.own flow.source flow.group) is.iface (ifaces_of place is.own)
      (ifaces_to place.scenario is.own.id is.iface is.of_vrf)
      (is_asks place now control is.own flow.source flow.group is.iface is.asks)

  not_there : (found : Option (Option Upstream)) → maps.get (flows_at place now control) (flow_in own.id flow) ≡ found
      → is_flow place now control own (flow_route flow) ≡ false → found ≡ None
  not_there None e h = refl
  not_there (Some found) e h =
      absurd (not_both (is_flow place now control own (flow_route flow)) (is_there found (is_asked place now control (flow_in own.id flow) found e))
      h)

  pub edge_flow : maps.get (flows_at place now control) (flow_in own.id flow) ≡ cond (is_flow place now control own (flow_route flow)) (Some up) None
  edge_flow = by (is_flow place now control own (flow_route flow)) refl
    where
      by : (b : Bool) → is_flow place now control own (flow_route flow) ≡ b
          → maps.get (flows_at place now control) (flow_in own.id flow) ≡ cond b (Some up) None
      by true h = asked_is place now control (flow_in own.id flow) up (asked h)
      by false h = not_there (maps.get (flows_at place now control) (flow_in own.id flow)) refl h

chosen_where : (b : Bool) (choice : Choice) (found : Option Upstream) → choice ≡ choice_of found
    → cond b (Some choice) None ≡ option_map choice_of (cond b (Some found) None)
chosen_where true choice found e = ap (λ (c : Choice). Some c) e
chosen_where false choice found e = refl

pub looked_up : (place : EdgePlace) (now : ℕ) (control : Control) (own : OwnVrf) (tree : TreeData) (flow : Flow) → Among own (own_vrfs place)
    → IsTreeOf place control own tree
    → Rules place.scenario → AreNodes place control → AreWhole (known_routes place control own)
    → flow_of tree.vrf (place.core.cost place.me) now flow ≡ option_map choice_of (maps.get (flows_at place now control) (flow_in own.id flow))
looked_up place now control own tree flow among is rules nodes whole =
    let choice : Choice = chosen_for tree.vrf.routes (place.core.cost place.me) flow in
    ap (λ (b : Bool). cond b (Some choice) None) (one_flow place control own tree is flow now)
    ∙ chosen_where (is_flow place now control own (flow_route flow)) choice (upstream_for place control own flow.source flow.group)
    (choice_is place control own tree is whole rules nodes flow)
    ∙ sym (ap (option_map choice_of) (edge_flow place now control own flow among))
