-- The tree of a VRF after a refresh of the flows.
use Rattle.std.proofs.Common.{◌≡◌, ◌↔◌, ℕ, Option, None, Some, option_map, refl, sym, ◌∙◌}
use Rattle.std.specs.FinMap as maps
use Rattle.std.specs.FinMap.{FinMap, get-empty}
use Rattle.mv_base.specs.Lists.{Among}
use Rattle.scenario_defs.specs.Rules.{Rules}
use Rattle.selective.specs.declared.route_key.Learned.{Learned}
use Rattle.selective.specs.declared.route_key.Place.{Place}
use Rattle.selective.specs.declared.route_key.Place.TheVariants.{First, Of, Last}
use Rattle.selective.specs.declared.route_key.RouteKey.{RouteKey}
use Rattle.umh_select.specs.declared.route.Choice.{Choice}
use Rattle.vrf_words.specs.declared.tree_defs.flow.ActiveRoute.{ActiveRoute}
use Rattle.vrf_words.specs.declared.tree_defs.flow.Flow.{Flow}
use Rattle.vrf_words.specs.declared.tree_defs.flow.TakenJoin.{TakenJoin}
use Rattle.vrf_words.specs.tree_defs.Flows.{flow_of}
use Rattle.vrf_words.specs.tree_defs.Keys as tree_keys
use Rattle.vrf_words.specs.tree_defs.Trees.{TreeData}
use Rattle.edge_words.specs.edge_defs.Edge.{Control, Upstream, VrfFlow, flow_cmp, no_control}
use Rattle.edge_words.specs.edge_defs.Flows.{flows_at}
use Rattle.edge_words.specs.edge_defs.Place.{EdgePlace, OwnVrf, own_vrfs}
use Rattle.edge_words.specs.edge_defs.Steps.{refreshed}
use Rattle.edge_words.specs.edge_defs.Upstream.{known_routes}
use Rattle.edge_words.specs.Known.{AreNodes}
use Rattle.edge_words.proofs.Flows.{is_asked}
use Rattle.vrf_words.specs.tree_laws.Joins.{AreOfVrfs}
use Rattle.vrf_words.specs.tree_laws.Refreshed.{with_flows}
use Rattle.vrf_words.specs.tree_laws.TreeOf.{IsActiveTaken, IsJoinTaken, IsSelectiveAt, IsTreeOf, choice_of, flow_in}
use Rattle.vrf_words.specs.tree_laws.Whole.{AreWhole}
use Rattle.vrf_words.proofs.tree_laws.Flows.{looked_up}

-- the other data of an edge with these flows
abbrev flowing : Control → FinMap flow_cmp (Option Upstream) → Control
flowing control flows = record control { flows = flows }

module _ (place : EdgePlace) (control : Control) (own : OwnVrf) (flows : FinMap flow_cmp (Option Upstream)) where
  active_too : (route : ActiveRoute) → IsActiveTaken control own route → IsActiveTaken (flowing control flows) own route
  active_too route t = record { afi = t.afi; taken = t.taken; at = t.at; imported = t.imported }

  active_back : (route : ActiveRoute) → IsActiveTaken (flowing control flows) own route → IsActiveTaken control own route
  active_back route t = record { afi = t.afi; taken = t.taken; at = t.at; imported = t.imported }

  join_too : (join : TakenJoin) → IsJoinTaken place control own join → IsJoinTaken place (flowing control flows) own join
  join_too join t = record { key = t.key; taken = t.taken; at = t.at; used = t.used }

  join_back : (join : TakenJoin) → IsJoinTaken place (flowing control flows) own join → IsJoinTaken place control own join
  join_back join t = record { key = t.key; taken = t.taken; at = t.at; used = t.used }

  selective_too : (key : RouteKey) (learned : Learned) → IsSelectiveAt place control own key learned
      → IsSelectiveAt place (flowing control flows) own key learned
  selective_too key learned = by key.place
    where
      by : (spot : Place) → IsSelectiveAt place control own (record { peer = key.peer; pattern = key.pattern; place = spot }) learned
          → IsSelectiveAt place (flowing control flows) own (record { peer = key.peer; pattern = key.pattern; place = spot }) learned
      by First h = h
      by Last h = h
      by (Of rd) t = record { key = t.key; taken = t.taken; imported = t.imported; at = t.at; is = t.is; of_rd = t.of_rd; learned_as = t.learned_as }

  selective_back : (key : RouteKey) (learned : Learned) → IsSelectiveAt place (flowing control flows) own key learned
      → IsSelectiveAt place control own key learned
  selective_back key learned = by key.place
    where
      by : (spot : Place) → IsSelectiveAt place (flowing control flows) own (record { peer = key.peer; pattern = key.pattern; place = spot }) learned
          → IsSelectiveAt place control own (record { peer = key.peer; pattern = key.pattern; place = spot }) learned
      by First h = h
      by Last h = h
      by (Of rd) t = record { key = t.key; taken = t.taken; imported = t.imported; at = t.at; is = t.is; of_rd = t.of_rd; learned_as = t.learned_as }

  -- a tree of the VRF is one with other flows, where these are those of the edge
  flows_change : (tree : TreeData) (tree_flows : FinMap tree_keys.flow_cmp Choice) → IsTreeOf place control own tree
      → ((flow : Flow) → maps.get tree_flows flow ≡ option_map choice_of (maps.get flows (flow_in own.id flow)))
      → IsTreeOf place (flowing control flows) own (with_flows tree tree_flows)
  flows_change tree tree_flows is h = record {
    ifaces = is.ifaces;
    entries = is.entries;
    notes = is.notes;
    actives = λ route. (λ e. active_too route ((is.actives route).0 e), λ t. (is.actives route).1 (active_back route t));
    joined = λ join. (λ e. join_too join ((is.joined join).0 e), λ t. (is.joined join).1 (join_back join t));
    rule = is.rule;
    learned = is.learned;
    attached = is.attached;
    flows = h;
    number = is.number;
    delay = is.delay;
    selections = is.selections;
    leaf_delay = is.leaf_delay;
    selective =
        λ key learned. (
          λ e. selective_too key learned ((is.selective key learned).0 e),
          λ t. (is.selective key learned).1 (selective_back key learned t),
        );
    wants = refl;
  }

pub refreshed_tree : (place : EdgePlace) (now : ℕ) (control : Control) (own : OwnVrf) (tree : TreeData) (flows : FinMap tree_keys.flow_cmp Choice)
    → Among own (own_vrfs place) → IsTreeOf place control own tree
    → Rules place.scenario → AreNodes place control → AreWhole (known_routes place control own)
    → ((flow : Flow) → maps.get flows flow ≡ flow_of tree.vrf (place.core.cost place.me) now flow)
    → IsTreeOf place (refreshed place now control) own (with_flows tree flows)
refreshed_tree place now control own tree flows among is rules nodes whole h =
    flows_change place control own (flows_at place now control) tree flows is
    (λ flow. h flow ∙ looked_up place now control own tree flow among is rules nodes whole)

pub flows_of_vrfs : (place : EdgePlace) (now : ℕ) (control : Control) → AreOfVrfs place (refreshed place now control)
flows_of_vrfs place now control flow up h = let asked = is_asked place now control flow up h in (asked.own, asked.of_edge, asked.of_flow)

none_some : {A B : Type 0} (x : A) → None ≡ Some x → B
none_some x h = absurd cc

pub no_flows : (place : EdgePlace) → AreOfVrfs place no_control
no_flows place flow up h = none_some up (sym (get-empty flow_cmp flow) ∙ h)
