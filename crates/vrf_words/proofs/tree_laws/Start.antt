-- The tree of a VRF before anything has happened.
use Rattle.std.proofs.Common.{◌≡◌, ◌↔◌, ◌==◌, ◌&&◌, Bool, true, false, cond, List, [], map, Option, Some, None, option_map, refl, sym, ap, subst, ◌∙◌}
use Rattle.std.specs.List.{filter, flat_map}
use Rattle.std.specs.FinMap as maps
use Rattle.std.specs.FinMap.{FinMap, get-empty}
use Rattle.std.specs.FinSet as sets
use Rattle.mv_base.specs.Lists.{Among}
use Rattle.mv_base.specs.Number.{◌>>?◌}
use Rattle.mv_base.specs.declared.ids.NodeId.{NodeId}
use Rattle.mv_base.specs.declared.ids.SiteId.{SiteId}
use Rattle.mv_base.specs.declared.prefix.Prefix.{Prefix}
use Rattle.edge_words.specs.bgp_messages.declared.bgp_attributes.key.Key.{Key}
use Rattle.edge_words.specs.bgp_messages.declared.bgp_attributes.key.Key.TheVariants.{Unicast}
use Rattle.edge_words.specs.label_defs.Keys.{fec_cmp}
use Rattle.selective_defs.specs.declared.selection.Selection.{Selection}
use Rattle.selective.specs.Order.{route_cmp}
use Rattle.selective.specs.declared.route_key.Learned.{Learned}
use Rattle.selective.specs.declared.route_key.Place as selective_places
use Rattle.selective.specs.declared.route_key.Place.TheVariants as selective_kinds
use Rattle.selective.specs.declared.route_key.RouteKey as selective_keys
use Rattle.umh_select.specs.Order.{key_cmp}
use Rattle.umh_select.specs.declared.key.Place.{Place}
use Rattle.umh_select.specs.declared.key.Place.TheVariants.{First, From, Here, Last}
use Rattle.umh_select.specs.declared.key.RouteKey.{RouteKey}
use Rattle.umh_select.specs.declared.route.Choice.{Choice}
use Rattle.vrf_words.specs.declared.tree_defs.flow.ActiveRoute.{ActiveRoute}
use Rattle.vrf_words.specs.declared.tree_defs.flow.Flow.{Flow}
use Rattle.vrf_words.specs.declared.tree_defs.flow.TakenJoin.{TakenJoin}
use Rattle.vrf_words.specs.tree_defs.Keys as tree_keys
use Rattle.vrf_words.specs.tree_defs.Keys.{active_cmp, note_cmp}
use Rattle.vrf_words.specs.tree_defs.Trees.{flow_wants, join_cmp}
use Rattle.edge_words.specs.edge_defs.pim_defs.Entries.{entry_cmp}
use Rattle.edge_words.specs.edge_defs.Edge as edges
use Rattle.edge_words.specs.edge_defs.Edge.{Selected, Taken, TakenRoute, VrfPattern, flow_cmp, no_control, pattern_cmp}
use Rattle.edge_words.specs.edge_defs.Imported.{taken_from}
use Rattle.edge_words.specs.edge_defs.Keys as edge_keys
use Rattle.edge_words.specs.edge_defs.Originated.{is_iface_of}
use Rattle.edge_words.specs.edge_defs.Place.{EdgePlace, OwnVrf}
use Rattle.edge_words.specs.edge_defs.Tunnels.{selection_of, selections_of}
use Rattle.edge_words.specs.label_defs.Keys.{node_cmp}
use Rattle.edge_words.proofs.calm_laws.Maps.{empty_entries}
use Rattle.vrf_words.specs.tree_laws.TreeOf.{IsActiveTaken, IsAttachedAt, IsJoinTaken, IsSelectiveAt, IsTreeOf, choice_of, edge_note, flow_in, held_at, held_from, start_tree}

none_some : {A B : Type 0} (x : A) → None ≡ Some x → B
none_some x h = absurd cc

not_true : {A : Type 0} → false ≡ true → A
not_true h = absurd cc

either_none : {A : Type 0} (b : Bool) → cond {A = Option A} b None None ≡ None
either_none true = refl
either_none false = refl

neither : (b : Bool) → (b && false) ≡ false
neither true = refl
neither false = refl

-- ---- nothing was taken

nothing_taken : (peer : NodeId) (key : Key) → maps.get (taken_from no_control peer) key ≡ None
nothing_taken peer key =
    ap (λ (o : Option Taken). maps.get {R = edge_keys.key_cmp} (elim o [ None ↦ maps.empty | Some taken ↦ taken ]) key) (get-empty node_cmp peer)
    ∙ get-empty edge_keys.key_cmp key

was_taken : {A : Type 0} (peer : NodeId) (key : Key) (taken : TakenRoute) → maps.get (taken_from no_control peer) key ≡ Some taken → A
was_taken peer key taken h = none_some taken (sym (nothing_taken peer key) ∙ h)

module _ (place : EdgePlace) (own : OwnVrf) where
  no_held : (prefix : Prefix) (spot : Place) → held_at place no_control own prefix spot ≡ None
  no_held prefix First = refl
  no_held prefix Here = refl
  no_held prefix Last = refl
  no_held prefix (From peer rd) =
      ap (λ (o : Option TakenRoute). o >>? λ taken. held_from place own.vrf peer taken.value) (nothing_taken peer (Unicast rd prefix))

  no_active : {A : Type 0} (route : ActiveRoute) → IsActiveTaken no_control own route → A
  no_active route t = was_taken route.peer _ t.taken t.at

  no_join : {A : Type 0} (join : TakenJoin) → IsJoinTaken place no_control own join → A
  no_join join t = was_taken join.peer t.key t.taken t.at

  no_selective : (key : selective_keys.RouteKey) (learned : Learned) → IsSelectiveAt place no_control own key learned → ⊥
  no_selective key learned h = by key.place (subst_place h)
    where
      subst_place : IsSelectiveAt place no_control own key learned
          → IsSelectiveAt place no_control own (record { peer = key.peer; pattern = key.pattern; place = key.place }) learned
      subst_place g = g

      by : (spot : selective_places.Place) → IsSelectiveAt place no_control own (record { peer = key.peer; pattern = key.pattern; place = spot })
          learned → ⊥
      by selective_kinds.First g = g
      by selective_kinds.Last g = g
      by (selective_kinds.Of rd) g = was_taken key.peer g.key g.taken g.at

  no_selections : selections_of no_control own.id ≡ []
  no_selections =
      ap (λ (es : List (VrfPattern × Selected)). map selection_of (filter (λ (entry : VrfPattern × Selected). entry.0.vrf.0 == own.id.0) es))
      (empty_entries pattern_cmp)

  pub started : (attached : FinMap key_cmp SiteId)
      → ((key : RouteKey) (site : SiteId) → (maps.get attached key ≡ Some site) ↔ IsAttachedAt place.scenario own key.prefix key.place site)
      → IsTreeOf place no_control own (start_tree place own attached)
  started attached h = record {
    ifaces = refl;
    entries = λ at. get-empty entry_cmp at
        ∙ sym (ap (λ (o : Option _). cond (is_iface_of place.scenario own.id at.iface) o None) (get-empty entry_cmp at)
        ∙ either_none (is_iface_of place.scenario own.id at.iface));
    notes = λ note. sets.contains-empty note_cmp note
        ∙ sym (ap (λ (b : Bool). is_iface_of place.scenario own.id note.iface && b) (sets.contains-empty edges.note_cmp (edge_note note))
        ∙ neither (is_iface_of place.scenario own.id note.iface));
    actives = λ route. (λ e. not_true (sym (sets.contains-empty active_cmp route) ∙ e), no_active route);
    joined = λ join. (λ e. not_true (sym (sets.contains-empty join_cmp join) ∙ e), no_join join);
    rule = refl;
    learned = λ key. get-empty key_cmp key ∙ sym (no_held key.prefix key.place);
    attached = h;
    flows = λ flow. get-empty tree_keys.flow_cmp flow ∙ sym (ap (option_map choice_of) (get-empty flow_cmp (flow_in own.id flow)));
    number = refl;
    delay = refl;
    selections = λ selection. (λ a. absurd a, λ a. subst (λ (all : List Selection). Among selection all) no_selections a);
    leaf_delay = refl;
    selective = λ key learned. (λ e. none_some learned (sym (get-empty route_cmp key) ∙ e), λ is. absurd (no_selective key learned is));
    wants = sym (ap (λ (es : List (Flow × Choice)). sets.from_list {R = fec_cmp}
        (flat_map (λ (entry : Flow × Choice). flow_wants (record { delay = place.scenario.delay; routes = maps.empty }) entry.0 entry.1) es))
        (empty_entries tree_keys.flow_cmp));
  }
