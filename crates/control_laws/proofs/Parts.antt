-- What the tree of a VRF keeps by itself, and by the peers: trees that each keep that are those of what they make together.
use Rattle.std.proofs.Common.{◌≡◌, ◌↔◌, ℕ, ◌==◌, ◌&&◌, Bool, true, false, cond, inl, inr, List, [], ◌∷◌, map, find, filter, Option, Some, None, option_map, refl, sym, ap, subst, ◌∙◌}
use Rattle.std.specs.FinMap as maps
use Rattle.std.specs.FinMap.{FinMap}
use Rattle.std.specs.FinSet as sets
use Rattle.std.specs.FinSet.{FinSet}
use Rattle.std.proofs.lemmas.Bool.{eq-eqb, eqb-true}
use Rattle.mv_base.specs.Lists.{Among}
use Rattle.mv_base.specs.declared.ids.IfaceId.{IfaceId}
use Rattle.mv_base.specs.declared.ids.NodeId.{NodeId}
use Rattle.mv_base.specs.declared.ids.SiteId.{SiteId}
use Rattle.mv_base.specs.declared.ids.VrfId.{VrfId}
use Rattle.mv_base.specs.declared.pattern.Pattern.{Pattern}
use Rattle.mv_base.specs.declared.prefix.Prefix.{Prefix}
use Rattle.mv_base.specs.core_walks.Core.{Core}
use Rattle.scenario_defs.specs.declared.event.IfaceEntry.{IfaceEntry}
use Rattle.scenario_defs.specs.declared.scenario.Iface.{Iface}
use Rattle.scenario_defs.specs.declared.scenario.Scenario.{Scenario}
use Rattle.selective_defs.specs.Selective.{AreDistinct}
use Rattle.selective_defs.specs.declared.selection.Selection.{Selection}
use Rattle.selective.specs.Leaves.{Leaf}
use Rattle.selective.specs.Roots.{is_of}
use Rattle.selective.specs.declared.route_key.Learned.{Learned}
use Rattle.selective.specs.declared.route_key.RouteKey as selective_keys
use Rattle.selective.specs.declared.route_key.Place as selective_places
use Rattle.selective.specs.declared.route_key.Place.TheVariants as selective_kinds
use Rattle.selective.proofs.RootLemmas.{one_pattern, pattern_itself}
use Rattle.umh_select.specs.Routes.{Routes}
use Rattle.umh_select.specs.declared.key.Place.{Place}
use Rattle.umh_select.specs.declared.key.Place.TheVariants.{First, Here, From, Last}
use Rattle.umh_select.specs.declared.key.RouteKey.{RouteKey}
use Rattle.umh_select.specs.declared.route.Choice.{Choice}
use Rattle.umh_select.specs.declared.route.Choice.TheVariants as choices
use Rattle.label_defs.specs.Keys.{fec_cmp, node_cmp}
use Rattle.vrf_words.specs.declared.tree_defs.flow.ActiveRoute.{ActiveRoute}
use Rattle.vrf_words.specs.declared.tree_defs.flow.Flow.{Flow}
use Rattle.vrf_words.specs.declared.tree_defs.flow.Note.{Note}
use Rattle.vrf_words.specs.declared.tree_defs.flow.SiteIface.{SiteIface}
use Rattle.vrf_words.specs.declared.tree_defs.flow.TakenJoin.{TakenJoin}
use Rattle.vrf_words.specs.tree_defs.Keys.{active_cmp}
use Rattle.vrf_words.specs.tree_defs.Trees.{TreeData, join_cmp, wanted_by}
use Rattle.edge_defs.specs.Edge.{VrfPattern, Selected, VrfFlow, Taken, Control, no_control}
use Rattle.edge_defs.specs.Originated.{is_iface_of}
use Rattle.edge_defs.specs.Place.{EdgePlace, OwnVrf, vrfs_from}
use Rattle.edge_defs.specs.Tunnels.{selection_of, selections_of}
use Rattle.edge_defs.proofs.KeyLemmas.{pattern_total, pattern_exact}
use Rattle.edge_routes.specs.edge_home.Home.{Home, place_of}
use Rattle.vrf_words.proofs.edge_words.calm_laws.Lists.{among_map, map_among, among_filter, filter_among}
use Rattle.vrf_words.proofs.edge_words.calm_laws.Maps.{entry_get, get_entry}
use Rattle.vrf_words.proofs.edge_words.Members.{iface_of}
use Rattle.vrf_words.specs.tree_laws.TreeOf.{IsTreeOf, IsActiveTaken, IsJoinTaken, IsAttachedAt, IsSelectiveAt, edge_note, flow_in, choice_of, held_at, site_ifaces}
use Rattle.control_laws.specs.Control.{Kept, OwnTree, trees_of, upstream_by, control_of, AreTrees}
use Rattle.control_laws.proofs.Gathered.{options, truths}
use Rattle.control_laws.proofs.Owned.{AreApart, apart_from, of_each, each_of, IsOfOne, of_number, IsOwned, all_none, all_of}
use Rattle.control_laws.proofs.Together.{flow_of, selected_of, entry_in, note_in, choice_in, selected_in, entries_gathered, notes_gathered, flows_gathered, selections_gathered}

-- ---- what is kept of peers, and by the scenario

-- these tables, and nothing of customers
abbrev pub only_peers : FinMap node_cmp Taken → Control
only_peers peers = record no_control { peers = peers }

-- These parts of the tree of a VRF are what the scenario says of the VRF, and what the tables of the peers say.
pub record IsDerived (place : EdgePlace) (peers : FinMap node_cmp Taken) (own : OwnVrf) (site_list : List SiteIface) (active_set : FinSet active_cmp)
    (routes : Routes)
    (joins : FinSet join_cmp) (vrf_number root_delay : ℕ) (leaf : Leaf) : Type 0 where
  pub ifaces : site_list ≡ site_ifaces own.id 0 place.scenario.ifaces
  pub actives : (route : ActiveRoute) → (sets.contains active_set route ≡ true) ↔ IsActiveTaken (only_peers peers) own route
  pub joined : (join : TakenJoin) → (sets.contains joins join ≡ true) ↔ IsJoinTaken place (only_peers peers) own join
  pub rule : routes.rule ≡ own.vrf.rule
  pub learned : (key : RouteKey) → maps.get routes.learned key ≡ held_at place (only_peers peers) own key.prefix key.place
  pub attached : (key : RouteKey) (site : SiteId)
      → (maps.get routes.attached key ≡ Some site) ↔ IsAttachedAt place.scenario own key.prefix key.place site
  pub number : vrf_number ≡ own.vrf.number
  pub delay : root_delay ≡ place.scenario.delay
  pub leaf_delay : leaf.delay ≡ place.scenario.delay
  pub selective : (key : selective_keys.RouteKey) (learned : Learned)
      → (maps.get leaf.routes key ≡ Some learned) ↔ IsSelectiveAt place (only_peers peers) own key learned

-- The tree of a VRF keeps entries and notes at the VRF's interfaces alone, no two selections of one pattern, and what the scenario and
-- the peers say.
pub record IsPart (home : Home) (peers : FinMap node_cmp Taken) (it : OwnTree) : Type 0 where
  pub entries : (at : IfaceEntry) → is_iface_of home.scenario it.own.id at.iface ≡ false → maps.get it.tree.vrf.entries at ≡ None
  pub notes : (note : Note) → is_iface_of home.scenario it.own.id note.iface ≡ false → sets.contains it.tree.vrf.notes note ≡ false
  pub selections : AreDistinct it.tree.root.selections
  pub derived : (core : Core) →
      IsDerived (place_of home core) peers it.own it.tree.vrf.ifaces it.tree.vrf.actives it.tree.vrf.routes it.tree.joined it.tree.root.number
      it.tree.root.delay it.tree.leaf

-- After a refresh it also keeps which tunnels its flows want.
abbrev pub Wants : OwnTree → Type 0
Wants it = it.tree.wants ≡ sets.from_list (wanted_by it.tree.leaf it.tree.vrf.flows)

-- ---- of the peers alone

active_peers : (control : Control) (own : OwnVrf) (route : ActiveRoute)
    → IsActiveTaken control own route ↔ IsActiveTaken (only_peers control.peers) own route
active_peers control own route = (
  λ h. record { afi = h.afi; taken = h.taken; at = h.at; imported = h.imported },
  λ h. record { afi = h.afi; taken = h.taken; at = h.at; imported = h.imported },
)

join_peers : (place : EdgePlace) (control : Control) (own : OwnVrf) (join : TakenJoin)
    → IsJoinTaken place control own join ↔ IsJoinTaken place (only_peers control.peers) own join
join_peers place control own join = (
  λ h. record { key = h.key; taken = h.taken; at = h.at; used = h.used },
  λ h. record { key = h.key; taken = h.taken; at = h.at; used = h.used },
)

held_peers : (place : EdgePlace) (control : Control) (own : OwnVrf) (prefix : Prefix) (from : Place)
    → held_at place control own prefix from ≡ held_at place (only_peers control.peers) own prefix from
held_peers place control own prefix First = refl
held_peers place control own prefix Here = refl
held_peers place control own prefix (From peer rd) = refl
held_peers place control own prefix Last = refl

selective_peers : (place : EdgePlace) (control : Control) (own : OwnVrf) (peer : NodeId) (pattern : Pattern) (kind : selective_places.Place)
    (learned : Learned)
    → IsSelectiveAt place control own (record { peer = peer; pattern = pattern; place = kind }) learned
    ↔ IsSelectiveAt place (only_peers control.peers) own (record { peer = peer; pattern = pattern; place = kind }) learned
selective_peers place control own peer pattern selective_kinds.First learned = (λ h. h, λ h. h)
selective_peers place control own peer pattern (selective_kinds.Of rd) learned = (
  λ h. record { key = h.key; taken = h.taken; imported = h.imported; at = h.at; is = h.is; of_rd = h.of_rd; learned_as = h.learned_as },
  λ h. record { key = h.key; taken = h.taken; imported = h.imported; at = h.at; is = h.is; of_rd = h.of_rd; learned_as = h.learned_as },
)
selective_peers place control own peer pattern selective_kinds.Last learned = (λ h. h, λ h. h)

through : {A B C : Type 0} → A ↔ B → B ↔ C → A ↔ C
through f g = (λ a. g.0 (f.0 a), λ c. f.1 (g.1 c))

back : {A B : Type 0} → A ↔ B → B ↔ A
back f = (f.1, f.0)

pub derived_of : (place : EdgePlace) (control : Control) (own : OwnVrf) (tree : TreeData) → IsTreeOf place control own tree
    → IsDerived place control.peers own tree.vrf.ifaces tree.vrf.actives tree.vrf.routes tree.joined tree.root.number tree.root.delay tree.leaf
derived_of place control own tree is = record {
  ifaces = is.ifaces;
  actives = λ route. through (is.actives route) (active_peers control own route);
  joined = λ join. through (is.joined join) (join_peers place control own join);
  rule = is.rule;
  learned = λ key. is.learned key ∙ held_peers place control own key.prefix key.place;
  attached = is.attached;
  number = is.number;
  delay = is.delay;
  leaf_delay = is.leaf_delay;
  selective = λ key learned. through (is.selective key learned) (selective_peers place control own key.peer key.pattern key.place learned);
}

-- ---- selections

-- a selection of a VRF is what the edge keeps at its pattern
pub selection_kept : (control : Control) (vrf : VrfId) (selection : Selection) → Among selection (selections_of control vrf)
    → maps.get control.selections (record { vrf = vrf; pattern = selection.pattern }) ≡ Some (selected_of selection)
selection_kept control vrf selection a =
    let (entry, among, is) =
    map_among selection_of selection (filter (λ (entry : VrfPattern × Selected). entry.0.vrf.0 == vrf.0) (maps.entries control.selections)) a in
    let kept = filter_among (λ (entry : VrfPattern × Selected). entry.0.vrf.0 == vrf.0) entry (maps.entries control.selections) among in
    let number = eqb-true entry.0.vrf.0 vrf.0 kept.1 in
    let at : record { vrf = vrf; pattern = selection.pattern } ≡ entry.0 =
    λ i. record { vrf = record { 0 = sym number i }; pattern = (is i).pattern } in
    let value : entry.1 ≡ selected_of selection = λ i. selected_of (sym is i) in
    ap (maps.get control.selections) at ∙ entry_get pattern_total control.selections entry.0 entry.1 kept.0 ∙ ap (λ (s : Selected). Some s) value

pub kept_selection : (control : Control) (vrf : VrfId) (selection : Selection)
    → maps.get control.selections (record { vrf = vrf; pattern = selection.pattern }) ≡ Some (selected_of selection)
    → Among selection (selections_of control vrf)
kept_selection control vrf selection h =
    let entry : VrfPattern × Selected = (record { vrf = vrf; pattern = selection.pattern }, selected_of selection) in
    among_map selection_of entry (filter (λ (e : VrfPattern × Selected). e.0.vrf.0 == vrf.0) (maps.entries control.selections))
    (among_filter (λ (e : VrfPattern × Selected). e.0.vrf.0 == vrf.0) entry (maps.entries control.selections) (eq-eqb vrf.0 vrf.0 refl)
    (get_entry pattern_exact control.selections entry.0 entry.1 h))

-- what is found by its pattern
pub find_is : (pattern : Pattern) (selections : List Selection) (selection : Selection) → find (is_of pattern) selections ≡ Some selection
    → Among selection selections × (selection.pattern ≡ pattern)
find_is pattern [] selection h = absurd cc
find_is pattern (one ∷ more) selection h = by (is_of pattern one) refl h (find_is pattern more selection)
  where
    by : (b : Bool) → is_of pattern one ≡ b → cond b (Some one) (find (is_of pattern) more) ≡ Some selection
        → (find (is_of pattern) more ≡ Some selection → Among selection more × (selection.pattern ≡ pattern))
        → Among selection (one ∷ more) × (selection.pattern ≡ pattern)
    by true t e rest = (let same : selection ≡ one = cc in (inl same, ap (λ (s : Selection). s.pattern) same ∙ one_pattern one.pattern pattern t))
    by false t e rest = (let found = rest e in (inr found.0, found.1))

pub is_found : (selections : List Selection) (selection : Selection) → AreDistinct selections → Among selection selections
    → find (is_of selection.pattern) selections ≡ Some selection
is_found selections selection distinct a = by (find (is_of selection.pattern) selections) refl
  where
    some : (xs : List Selection) → Among selection xs → find (is_of selection.pattern) xs ≡ None → ⊥
    some [] b e = b
    some (one ∷ more) (inl same) e =
        absurd (let bad : Some one ≡ None =
        ap (λ (b : Bool). cond b (Some one) (find (is_of selection.pattern) more))
        (sym (ap (λ (s : Selection). is_of selection.pattern s) (sym same) ∙ pattern_itself selection.pattern)) ∙ e in cc)
    some (one ∷ more) (inr b) e = some_more (is_of selection.pattern one) (some more b) e
      where
        some_more : (t : Bool) → (find (is_of selection.pattern) more ≡ None → ⊥) → cond t (Some one) (find (is_of selection.pattern) more) ≡ None → ⊥
        some_more true k h = absurd cc
        some_more false k h = k h

    by : (o : Option Selection) → find (is_of selection.pattern) selections ≡ o → o ≡ Some selection
    by None e = absurd (some selections a e)
    by (Some found) e = let is = find_is selection.pattern selections found e in ap (λ (s : Selection). Some s) (distinct found selection is.0 a is.1)

-- ---- an interface is of one VRF

pub of_iface : (scenario : Scenario) (iface : IfaceId) → IsOfOne (λ (own : OwnVrf). is_iface_of scenario own.id iface)
of_iface scenario iface = record { one = one }
  where
    one : (own other : OwnVrf) → is_iface_of scenario own.id iface ≡ true → is_iface_of scenario other.id iface ≡ true → own.id.0 ≡ other.id.0
    one own other h k =
        let a = iface_of scenario own.id iface h in
        let b = iface_of scenario other.id iface k in
        let found : Some a.found ≡ Some b.found = sym a.at ∙ b.at in
        let same : a.found ≡ b.found = cc in
        sym a.of_vrf ∙ ap (λ (i : Iface). i.vrf.0) same ∙ b.of_vrf

-- ---- look-ups

-- so of each tree
abbrev pub AreParts : Kept → Type 0
AreParts kept = (it : OwnTree) → Among it (trees_of kept) → IsPart kept.home kept.peers it

abbrev pub AreWanting : Kept → Type 0
AreWanting kept = (it : OwnTree) → Among it (trees_of kept) → Wants it

where_not : {X : Type 0} (b : Bool) (x y : X) → b ≡ false → cond b x y ≡ y
where_not b x y h = ap (λ (c : Bool). cond c x y) h

where_so : {X : Type 0} (b : Bool) (x y : X) → b ≡ true → cond b x y ≡ x
where_so b x y h = ap (λ (c : Bool). cond c x y) h

module _ (kept : Kept) where
  pub apart : AreApart (trees_of kept)
  apart = apart_from kept.home.me 0 kept.home.scenario.vrfs kept.trees

  module _ (parts : AreParts kept) where
    abbrev scenario : Scenario
    scenario = kept.home.scenario

    abbrev its_iface : IfaceId → OwnVrf → Bool
    its_iface iface own = is_iface_of scenario own.id iface

    -- an entry at an interface of a VRF is the one of its tree; at an interface of none there is none
    pub entry_at : (it : OwnTree) → Among it (trees_of kept) → (at : IfaceEntry) → is_iface_of scenario it.own.id at.iface ≡ true
        → maps.get (control_of kept).entries at ≡ maps.get it.tree.vrf.entries at
    entry_at it a at h =
        entries_gathered kept at ∙ all_of options (its_iface at.iface) (of_iface scenario at.iface) (entry_in at) (trees_of kept) it a apart
        (λ other b. (parts other b).entries at) h

    pub entry_nowhere : (at : IfaceEntry) → ((it : OwnTree) → Among it (trees_of kept) → is_iface_of scenario it.own.id at.iface ≡ false)
        → maps.get (control_of kept).entries at ≡ None
    entry_nowhere at h =
        entries_gathered kept at ∙ all_none options (its_iface at.iface) (of_iface scenario at.iface) (entry_in at) (trees_of kept)
        (λ other b. (parts other b).entries at) h

    -- so of a note
    pub note_at : (it : OwnTree) → Among it (trees_of kept) → (note : Note) → is_iface_of scenario it.own.id note.iface ≡ true
        → sets.contains (control_of kept).notes (edge_note note) ≡ sets.contains it.tree.vrf.notes note
    note_at it a note h =
        notes_gathered kept (edge_note note)
        ∙ all_of truths (its_iface note.iface) (of_iface scenario note.iface) (note_in note) (trees_of kept) it a apart
        (λ other b. (parts other b).notes note) h

    pub note_nowhere : (note : Note) → ((it : OwnTree) → Among it (trees_of kept) → is_iface_of scenario it.own.id note.iface ≡ false)
        → sets.contains (control_of kept).notes (edge_note note) ≡ false
    note_nowhere note h =
        notes_gathered kept (edge_note note) ∙ all_none truths (its_iface note.iface) (of_iface scenario note.iface) (note_in note) (trees_of kept)
        (λ other b. (parts other b).notes note) h

    -- a flow of a VRF is the one of its tree, with its upstream; of another VRF there is none
    abbrev by_flow : VrfFlow → OwnVrf → Bool
    by_flow key own = own.id.0 == key.vrf.0

    pub no_flow : (key : VrfFlow) (other : OwnTree) → IsOwned options (by_flow key) (of_number key.vrf.0) (choice_in key) other
    no_flow key other h = where_not (other.own.id.0 == key.vrf.0) (option_map upstream_by (maps.get other.tree.vrf.flows (flow_of key))) None h

    pub flow_at : (it : OwnTree) → Among it (trees_of kept) → (flow : Flow)
        → maps.get (control_of kept).flows (flow_in it.own.id flow) ≡ option_map upstream_by (maps.get it.tree.vrf.flows flow)
    flow_at it a flow =
        let key : VrfFlow = flow_in it.own.id flow in
        let own = eq-eqb it.own.id.0 it.own.id.0 refl in
        flows_gathered kept key ∙ all_of options (by_flow key) (of_number key.vrf.0) (choice_in key) (trees_of kept) it a apart
        (λ other b. no_flow key other) own
        ∙ where_so (it.own.id.0 == it.own.id.0) (option_map upstream_by (maps.get it.tree.vrf.flows flow)) None own

    pub flow_nowhere : (key : VrfFlow) → ((it : OwnTree) → Among it (trees_of kept) → (it.own.id.0 == key.vrf.0) ≡ false)
        → maps.get (control_of kept).flows key ≡ None
    flow_nowhere key h =
        flows_gathered kept key ∙ all_none options (by_flow key) (of_number key.vrf.0) (choice_in key) (trees_of kept) (λ other b. no_flow key other)
        h

    -- a selection of a VRF is the one of its tree; of another VRF there is none
    abbrev by_pattern : VrfPattern → OwnVrf → Bool
    by_pattern key own = own.id.0 == key.vrf.0

    pub no_selection : (key : VrfPattern) (other : OwnTree) → IsOwned options (by_pattern key) (of_number key.vrf.0) (selected_in key) other
    no_selection key other h =
        where_not (other.own.id.0 == key.vrf.0) (option_map selected_of (find (is_of key.pattern) other.tree.root.selections)) None h

    pub selection_at : (it : OwnTree) → Among it (trees_of kept) → (pattern : Pattern)
        → maps.get (control_of kept).selections (record { vrf = it.own.id; pattern = pattern })
        ≡ option_map selected_of (find (is_of pattern) it.tree.root.selections)
    selection_at it a pattern =
        let key : VrfPattern = record { vrf = it.own.id; pattern = pattern } in
        let own = eq-eqb it.own.id.0 it.own.id.0 refl in
        selections_gathered kept key ∙ all_of options (by_pattern key) (of_number key.vrf.0) (selected_in key) (trees_of kept) it a apart
        (λ other b. no_selection key other) own
        ∙ where_so (it.own.id.0 == it.own.id.0) (option_map selected_of (find (is_of pattern) it.tree.root.selections)) None own

    pub selection_nowhere : (key : VrfPattern) → ((it : OwnTree) → Among it (trees_of kept) → (it.own.id.0 == key.vrf.0) ≡ false)
        → maps.get (control_of kept).selections key ≡ None
    selection_nowhere key h =
        selections_gathered kept key ∙ all_none options (by_pattern key) (of_number key.vrf.0) (selected_in key) (trees_of kept)
        (λ other b. no_selection key other) h

    -- the selections of a VRF are those of its tree
    pub selections_among : (it : OwnTree) → Among it (trees_of kept) → (selection : Selection)
        → Among selection it.tree.root.selections ↔ Among selection (selections_of (control_of kept) it.own.id)
    selections_among it a selection = (
      λ b. kept_selection (control_of kept) it.own.id selection
          (selection_at it a selection.pattern ∙ ap (option_map selected_of) (is_found it.tree.root.selections selection (parts it a).selections b)),
      λ b. found_among (find (is_of selection.pattern) it.tree.root.selections) refl
          (sym (selection_at it a selection.pattern) ∙ selection_kept (control_of kept) it.own.id selection b),
    )
      where
        found_among : (o : Option Selection) → find (is_of selection.pattern) it.tree.root.selections ≡ o
            → option_map selected_of o ≡ Some (selected_of selection) → Among selection it.tree.root.selections
        found_among None e h = absurd cc
        found_among (Some found) e h =
            let is = find_is selection.pattern it.tree.root.selections found e in
            let value : selected_of found ≡ selected_of selection = cc in
            let one : found ≡ selection = λ i. record { pattern = is.1 i; number = (value i).number; since = (value i).since; run = (value i).run } in
            subst (λ (s : Selection). Among s it.tree.root.selections) one is.0

-- ---- each tree by itself, and all of them

pub choice_back : (choice : Choice) → choice_of (upstream_by choice) ≡ choice
choice_back choices.None = refl
choice_back (choices.Local site) = refl
choice_back (choices.Remote edge rd import source_as) = refl

choice_again : (o : Option Choice) → option_map choice_of (option_map upstream_by o) ≡ o
choice_again None = refl
choice_again (Some choice) = ap (λ (c : Choice). Some c) (choice_back choice)

where_owned : {X : Type 0} (b : Bool) (x y : Option X) → (b ≡ true → x ≡ y) → (b ≡ false → x ≡ None) → x ≡ cond b y None
where_owned true x y h k = h refl
where_owned false x y h k = k refl

both_true : (b x y : Bool) → (b ≡ true → x ≡ y) → (b ≡ false → x ≡ false) → x ≡ (b && y)
both_true true x y h k = h refl
both_true false x y h k = k refl

module _ (kept : Kept) (parts : AreParts kept) (core : Core) (it : OwnTree) (a : Among it (trees_of kept)) where
  abbrev home : Scenario
  home = kept.home.scenario

  -- the tree with what its flows want
  pub is_tree_with : (tunnels : FinSet fec_cmp) → tunnels ≡ sets.from_list (wanted_by it.tree.leaf it.tree.vrf.flows)
      → IsTreeOf (place_of kept.home core) (control_of kept) it.own (record it.tree { wants = tunnels })
  is_tree_with tunnels wants =
      let part = parts it a in
      let d = part.derived core in
      let place = place_of kept.home core in
      record {
        ifaces = d.ifaces;
        entries =
            λ at. where_owned (is_iface_of home it.own.id at.iface) (maps.get it.tree.vrf.entries at) (maps.get (control_of kept).entries at)
            (λ h. sym (entry_at kept parts it a at h)) (part.entries at);
        notes = λ note. both_true (is_iface_of home it.own.id note.iface) (sets.contains it.tree.vrf.notes note)
            (sets.contains (control_of kept).notes (edge_note note)) (λ h. sym (note_at kept parts it a note h)) (part.notes note);
        actives = λ route. through (d.actives route) (back (active_peers (control_of kept) it.own route));
        joined = λ join. through (d.joined join) (back (join_peers place (control_of kept) it.own join));
        rule = d.rule;
        learned = λ key. d.learned key ∙ sym (held_peers place (control_of kept) it.own key.prefix key.place);
        attached = d.attached;
        flows = λ flow. sym (choice_again (maps.get it.tree.vrf.flows flow)) ∙ ap (option_map choice_of) (sym (flow_at kept parts it a flow));
        number = d.number;
        delay = d.delay;
        selections = selections_among kept parts it a;
        leaf_delay = d.leaf_delay;
        selective =
            λ key learned. through (d.selective key learned)
            (back (selective_peers place (control_of kept) it.own key.peer key.pattern key.place learned));
        wants = wants;
      }

  pub is_tree : Wants it → IsTreeOf (place_of kept.home core) (control_of kept) it.own it.tree
  is_tree = is_tree_with it.tree.wants

-- there is a tree for each VRF
pub record AreFull (kept : Kept) : Type 0 where
  pub full : map (λ (it : OwnTree). it.tree) (trees_of kept) ≡ kept.trees
  pub all : map (λ (it : OwnTree). it.own) (trees_of kept) ≡ vrfs_from kept.home.me 0 kept.home.scenario.vrfs

-- trees that are parts each are those of what they make together
pub trees_together : (kept : Kept) → AreFull kept → AreParts kept → AreWanting kept → AreTrees kept
trees_together kept full parts wants = record {
  each = λ core. each_of (λ (it : OwnTree). IsTreeOf (place_of kept.home core) (control_of kept) it.own it.tree) (trees_of kept)
      (λ it a. is_tree kept parts core it a (wants it a));
  full = full.full;
  all = full.all;
}

-- ---- and back

-- a core of no links
abbrev pub no_core : Core
no_core = record { cost = λ from to. 0; toward = λ from to. None }

pub selections_distinct : (place : EdgePlace) (control : Control) (own : OwnVrf) (tree : TreeData) → IsTreeOf place control own tree
    → AreDistinct tree.root.selections
selections_distinct place control own tree is one other a b e =
    let first = selection_kept control own.id one ((is.selections one).0 a) in
    let second = selection_kept control own.id other ((is.selections other).0 b) in
    let at : ◌≡◌ {A = VrfPattern} (record { vrf = own.id; pattern = one.pattern }) (record { vrf = own.id; pattern = other.pattern }) =
    λ i. record { vrf = own.id; pattern = e i } in
    let both : Some (selected_of one) ≡ Some (selected_of other) = sym first ∙ ap (maps.get control.selections) at ∙ second in
    let value : selected_of one ≡ selected_of other = cc in
    λ i. record { pattern = e i; number = (value i).number; since = (value i).since; run = (value i).run }

pub tree_at : (kept : Kept) → AreTrees kept → (core : Core) (it : OwnTree) → Among it (trees_of kept)
    → IsTreeOf (place_of kept.home core) (control_of kept) it.own it.tree
tree_at kept trees core it a =
    of_each (λ (other : OwnTree). IsTreeOf (place_of kept.home core) (control_of kept) other.own other.tree) (trees_of kept) (trees.each core) it a

pub parts_of : (kept : Kept) → AreTrees kept → AreParts kept
parts_of kept trees it a =
    let is = tree_at kept trees no_core it a in
    let place = place_of kept.home no_core in
    record {
      entries = λ at h. is.entries at ∙ where_not (is_iface_of kept.home.scenario it.own.id at.iface) (maps.get (control_of kept).entries at) None h;
      notes = λ note h. is.notes note ∙ ap (λ (b : Bool). b && sets.contains (control_of kept).notes (edge_note note)) h;
      selections = selections_distinct place (control_of kept) it.own it.tree is;
      derived = λ core. derived_of (place_of kept.home core) (control_of kept) it.own it.tree (tree_at kept trees core it a);
    }

pub wants_of : (kept : Kept) → AreTrees kept → AreWanting kept
wants_of kept trees it a = (tree_at kept trees no_core it a).wants

pub full_of : (kept : Kept) → AreTrees kept → AreFull kept
full_of kept trees = record { full = trees.full; all = trees.all }
