-- An egress is in step with the root on a calm session.
use Rattle.std.proofs.Common.{◌≡◌, ℕ, ◌+◌, ◌≤◌, ◌==◌, Bool, true, false, cond, ◌⊎◌, inl, inr, List, [], ◌∷◌, Option, Some, None, refl, sym, ap, subst, ◌∙◌, append-nil}
use Rattle.std.specs.List.{filter}
use Rattle.std.specs.Ordering.{eq_by_cmp}
use Rattle.std.specs.Cmp.{Equal-is}
use Rattle.std.specs.FinMap as maps
use Rattle.std.proofs.lemmas.Bool.{eq-eqb}
use Rattle.mv_base.specs.declared.ids.NodeId.{NodeId}
use Rattle.mv_base.specs.declared.pattern.Pattern.{Pattern}
use Rattle.bgp_messages.specs.bgp_values.declared.mvpn_nlri.route.Route.TheVariants as routes
use Rattle.bgp_messages.specs.declared.bgp_attributes.key.Key.{Key}
use Rattle.bgp_messages.specs.declared.bgp_attributes.key.Key.TheVariants.{Mcast}
use Rattle.scenario_defs.specs.Rules.{Rules}
use Rattle.mv_base.specs.route_targets.Targets.{same}
use Rattle.mv_base.specs.declared.route_targets.communities.ExtComm.{ExtComm}
use Rattle.selective_defs.specs.Selective.{Among, IsDue, InStep}
use Rattle.selective_defs.specs.declared.learned_route.LearnedRoute.{LearnedRoute}
use Rattle.selective_defs.specs.declared.selection.Selection.{Selection}
use Rattle.edge_defs.specs.Edge.{VrfPattern, Selected, TakenRoute, Control}
use Rattle.edge_defs.specs.Imported.{is_admitted, taken_from}
use Rattle.edge_defs.specs.Keys.{Value, key_cmp}
use Rattle.edge_defs.specs.Originated.{selective_key, tunnel_value, target_comms}
use Rattle.edge_defs.specs.Place.{EdgePlace, OwnVrf, own_vrfs, own_addr, lsp, tunnel_number}
use Rattle.edge_defs.specs.Tunnels.{selection_of, selections_of, learned_route, learned_routes}
use Rattle.edge_defs.proofs.KeyLemmas.{key_total, key_exact, pattern_total, pattern_exact}
use Rattle.mv_base.specs.table_defs.Changes.{values_at}
use Rattle.edge_words.specs.edge_laws.Network.{EdgeNetwork, place_of}
use Rattle.edge_words.specs.edge_laws.Rule.{Rule, selected_in, first_selected, selected_at, ViewAt}
use Rattle.label_defs.proofs.KeyLemmas.{ties}
use Rattle.edge_words.specs.calm_laws.Calm.{CalmSession, NoneDue, AreOfOneVpn}
use Rattle.edge_words.proofs.calm_laws.Lists.{map_among, among_map, among_filter, filter_among, found_among, among_found}
use Rattle.edge_words.proofs.calm_laws.Maps.{entry_get, get_entry}
use Rattle.edge_words.proofs.calm_laws.Tables.{near_up, held_taken, taken_held}
use Rattle.edge_words.proofs.calm_laws.Targets.{admitted_target, among_comms, shares_by, vpn_admits}
use Rattle.edge_words.proofs.calm_laws.Vrfs.{one_rd, one_in_vpn, own_rules, shared_vpn}
use Rattle.edge_words.proofs.calm_laws.Entries.{of_vrf}
use Rattle.edge_words.proofs.calm_laws.Originated.{SelectiveHeld, selective_held, selective_value}
use Rattle.edge_words.proofs.calm_laws.Imports.{learns, IsLearnedOf, learned_of}

-- ---- selections

abbrev pub key_at : OwnVrf → Pattern → VrfPattern
key_at own pattern = record { vrf = own.id; pattern = pattern }

pub record IsSelection (control : Control) (own : OwnVrf) (selection : Selection) : Type 0 where
  pub selected : Selected
  pub at : maps.get control.selections (key_at own selection.pattern) ≡ Some selected
  pub number : selection.number ≡ selected.number
  pub since : selection.since ≡ selected.since
  pub run : selection.run ≡ selected.run

pub is_selection : (control : Control) (own : OwnVrf) (selection : Selection) → Among selection (selections_of control own.id)
    → IsSelection control own selection
is_selection control own selection a =
    let by = map_among selection_of selection (filter (λ (entry : VrfPattern × Selected). entry.0.vrf.0 == own.id.0)
    (maps.entries control.selections)) a in
    let passing = filter_among (λ (entry : VrfPattern × Selected). entry.0.vrf.0 == own.id.0) by.0 (maps.entries control.selections) by.1 in
    let key : by.0.0 ≡ key_at own selection.pattern = of_vrf own.id by.0.0 passing.1 ∙ ap (λ (s : Selection). key_at own s.pattern) (sym by.2) in
    record {
      selected = by.0.1;
      at = subst (λ (k : VrfPattern). maps.get control.selections k ≡ Some by.0.1) key
          (entry_get pattern_total control.selections by.0.0 by.0.1 passing.0);
      number = ap (λ (s : Selection). s.number) by.2;
      since = ap (λ (s : Selection). s.since) by.2;
      run = ap (λ (s : Selection). s.run) by.2;
    }

among_selections : (control : Control) (own : OwnVrf) (pattern : Pattern) (selected : Selected)
    → maps.get control.selections (key_at own pattern) ≡ Some selected
    → Among (selection_of (key_at own pattern, selected)) (selections_of control own.id)
among_selections control own pattern selected h =
    among_map selection_of (key_at own pattern, selected)
    (filter (λ (entry : VrfPattern × Selected). entry.0.vrf.0 == own.id.0) (maps.entries control.selections))
    (among_filter (λ (entry : VrfPattern × Selected). entry.0.vrf.0 == own.id.0) (key_at own pattern, selected) (maps.entries control.selections)
    (eq-eqb own.id.0 own.id.0 refl) (get_entry pattern_exact control.selections (key_at own pattern) selected h))

-- ---- the selection of a key

abbrev IsOr : Option Selected → Selected → Type 0
IsOr picked selected = (picked ≡ None) ⊎ (picked ≡ Some selected)

first_is : (place : EdgePlace) (control : Control) (key : Key) (selected : Selected) (own : OwnVrf) (owns : List OwnVrf) → Among own owns
    → selected_in place control key own ≡ Some selected
    → ((other : OwnVrf) → Among other owns → IsOr (selected_in place control key other) selected)
    → first_selected place control key owns ≡ Some selected
first_is place control key selected own [] a h each = absurd a
first_is place control key selected own (other ∷ more) (inl e) h each =
    ap (λ (o : Option Selected). elim o [ None ↦ first_selected place control key more | Some found ↦ Some found ])
    (ap (selected_in place control key) (sym e) ∙ h)
first_is place control key selected own (other ∷ more) (inr a) h each = elim (each other (inl refl)) [
  | inr e ↦ ap (λ (o : Option Selected). elim o [ None ↦ first_selected place control key more | Some found ↦ Some found ]) e
  | inl e ↦ ap (λ (o : Option Selected). elim o [ None ↦ first_selected place control key more | Some found ↦ Some found ]) e
      ∙ first_is place control key selected own more a h (λ o b. each o (inr b))
]

picked_or : (place : EdgePlace) (control : Control) (own other : OwnVrf) (pattern : Pattern) (selected : Selected) → Rules place.scenario
    → Among own (own_vrfs place) → Among other (own_vrfs place) → maps.get control.selections (key_at own pattern) ≡ Some selected
    → (b : Bool) → eq_by_cmp key_cmp (selective_key place own.vrf pattern) (selective_key place other.vrf pattern) ≡ b
    → IsOr (cond b (maps.get control.selections (key_at other pattern)) None) selected
picked_or place control own other pattern selected rules a b h false e = inl refl
picked_or place control own other pattern selected rules a b h true e =
    let keys : selective_key place own.vrf pattern ≡ selective_key place other.vrf pattern =
    key_exact _ _ ((Equal-is (key_cmp (selective_key place own.vrf pattern) (selective_key place other.vrf pattern))).0 e) in
    let rds : own.vrf.rd ≡ other.vrf.rd = cc in
    let one : own ≡ other = one_rd place own other rules a b rds in
    inr (ap (λ (o : OwnVrf). maps.get control.selections (key_at o pattern)) (sym one) ∙ h)

pub picked : (place : EdgePlace) (control : Control) (own : OwnVrf) (pattern : Pattern) (selected : Selected) → Rules place.scenario
    → Among own (own_vrfs place) → maps.get control.selections (key_at own pattern) ≡ Some selected
    → selected_at place control (selective_key place own.vrf pattern) ≡ Some selected
picked place control own pattern selected rules a h =
    first_is place control (selective_key place own.vrf pattern) selected own (own_vrfs place) a
    (ap (λ (b : Bool). cond b (maps.get control.selections (key_at own pattern)) None)
    (ties key_cmp key_total (selective_key place own.vrf pattern) (selective_key place own.vrf pattern) refl) ∙ h)
    (λ other b. picked_or place control own other pattern selected rules a b h
    (eq_by_cmp key_cmp (selective_key place own.vrf pattern) (selective_key place other.vrf pattern)) refl)

-- ---- routes that are learned

-- A route that the egress has learned of the root: the selection of its VRF with that pattern, and the route that was taken.
pub record IsLearned (network : EdgeNetwork) (root egress : NodeId) (root_vrf : OwnVrf) (route : LearnedRoute) : Type 0 where
  pub selected : Selected
  pub at : maps.get (network.node root).selections (key_at root_vrf route.pattern) ≡ Some selected
  pub taken : TakenRoute
  pub from : maps.get (taken_from (network.node egress) root) (selective_key (place_of network root) root_vrf.vrf route.pattern) ≡ Some taken
  pub value : taken.value ≡ tunnel_value (place_of network root) root_vrf.vrf (tunnel_number root_vrf.vrf selected.number)
  pub since : route.since ≡ taken.since
  pub run : route.run ≡ taken.run
  pub fec : route.fec ≡ lsp (own_addr (place_of network root)) (tunnel_number root_vrf.vrf selected.number)

-- what a VRF of the egress admits of the root is of its VPN
pub admitted_vpn : (network : EdgeNetwork) (root egress : NodeId) (root_vrf own : OwnVrf) (comms : List ExtComm) → Rules network.scenario
    → Among root_vrf (own_vrfs (place_of network root)) → Among own (own_vrfs (place_of network egress))
    → comms ≡ target_comms root_vrf.vrf → is_admitted own.vrf comms ≡ true → same root_vrf.vrf.targets own.vrf.targets ≡ true
admitted_vpn network root egress root_vrf own comms rules a b e h =
    let by = admitted_target own.vrf comms h in
    let shared : Among by.0 root_vrf.vrf.targets = among_comms root_vrf.vrf by.0 (subst (λ (cs : List ExtComm). Among by.0.0 cs) e by.1) in
    shared_vpn (place_of network root) (place_of network egress) root_vrf own rules refl a b
    (shares_by root_vrf.vrf.targets own.vrf.targets by.0 shared by.2)

-- a VRF of the egress admits what the root's VRF of its VPN originates for a tunnel
pub vpn_tunnel : (network : EdgeNetwork) (root : NodeId) (root_vrf own : OwnVrf) (number : ℕ) → Rules network.scenario
    → Among root_vrf (own_vrfs (place_of network root)) → AreOfOneVpn root_vrf own
    → is_admitted own.vrf (tunnel_value (place_of network root) root_vrf.vrf number).comms ≡ true
vpn_tunnel network root root_vrf own number rules a vpn =
    subst (λ (cs : List ExtComm). is_admitted own.vrf cs ≡ true) (append-nil (target_comms root_vrf.vrf))
    (vpn_admits root_vrf.vrf own.vrf [] (own_rules (place_of network root) root_vrf rules a).some vpn)

learned_here : (network : EdgeNetwork) (root egress : NodeId) (root_vrf own : OwnVrf) (route : LearnedRoute) (key : Key) (taken : TakenRoute)
    → Rule network → AreOfOneVpn root_vrf own
    → Among root_vrf (own_vrfs (place_of network root)) → Among own (own_vrfs (place_of network egress))
    → learned_route (place_of network egress) own root (key, taken) ≡ Some route → maps.get (taken_from (network.node egress) root) key ≡ Some taken
    → (of : IsLearnedOf own.vrf key taken route)
    → SelectiveHeld (place_of network root) (network.node root) of.afi of.rd route.pattern.source route.pattern.group of.originator taken.value
    → IsLearned network root egress root_vrf route
learned_here network root egress root_vrf own route key taken rule vpn a b h from of held =
    let place : EdgePlace = place_of network root in
    let same_vpn =
    admitted_vpn network root egress held.own own taken.value.comms rule.scenario held.among b (ap (λ (v : Value). v.comms) held.is) of.admitted
    in
    let one : held.own ≡ root_vrf = one_in_vpn place held.own root_vrf own.vrf rule.scenario held.among a same_vpn vpn in
    let keys : key ≡ selective_key place root_vrf.vrf route.pattern =
    of.is ∙ (λ i. Mcast (held.family i) (routes.Selective (held.distinguisher i) route.pattern.source route.pattern.group (held.from i)))
    ∙ ap (λ (o : OwnVrf). selective_key place o.vrf route.pattern) one in
    let value : taken.value ≡ tunnel_value place root_vrf.vrf (tunnel_number root_vrf.vrf held.selected.number) =
    held.is ∙ ap (λ (o : OwnVrf). tunnel_value place o.vrf (tunnel_number o.vrf held.selected.number)) one in
    let read =
    learns place (place_of network egress) own root_vrf.vrf route.pattern (tunnel_number root_vrf.vrf held.selected.number) taken refl value
    (vpn_tunnel network root root_vrf own (tunnel_number root_vrf.vrf held.selected.number) rule.scenario a vpn) in
    let made : LearnedRoute =
    record {
      pattern = route.pattern;
      fec = lsp (own_addr place) (tunnel_number root_vrf.vrf held.selected.number);
      since = taken.since;
      run =
          taken.run;
    } in
    let both : Some route ≡ Some made = sym h ∙ ap (λ (k : Key). learned_route (place_of network egress) own root (k, taken)) keys ∙ read in
    let is : route ≡ made = cc in
    record {
      selected = held.selected;
      at = ap (λ (o : OwnVrf). maps.get (network.node root).selections (key_at o route.pattern)) (sym one) ∙ held.at;
      taken = taken;
      from = ap (maps.get (taken_from (network.node egress) root)) (sym keys) ∙ from;
      value = value;
      since = of.since;
      run = of.run;
      fec = ap (λ (r : LearnedRoute). r.fec) is;
    }

pub is_learned : (network : EdgeNetwork) (root egress : NodeId) (root_vrf own : OwnVrf) (route : LearnedRoute) → Rule network
    → CalmSession network root egress → AreOfOneVpn root_vrf own
    → Among root_vrf (own_vrfs (place_of network root)) → Among own (own_vrfs (place_of network egress))
    → Among route (learned_routes (place_of network egress) (network.node egress) own root) → IsLearned network root egress root_vrf route
is_learned network root egress root_vrf own route rule calm vpn a b among =
    let by = found_among (learned_route (place_of network egress) own root) route (maps.entries (taken_from (network.node egress) root)) among in
    let from = entry_get key_total (taken_from (network.node egress) root) by.0.0 by.0.1 by.1 in
    let of = learned_of (place_of network egress) own root by.0.0 by.0.1 route by.2 in
    let at : maps.get (taken_from (network.node egress) root)
    (Mcast of.afi (routes.Selective of.rd route.pattern.source route.pattern.group of.originator)) ≡ Some by.0.1 =
    ap (maps.get (taken_from (network.node egress) root)) (sym of.is) ∙ from in
    let held =
    selective_held (place_of network root) (network.node root) egress of.afi of.rd route.pattern.source route.pattern.group of.originator
    by.0.1.value (taken_held network root egress _ by.0.1 rule calm at) in
    learned_here network root egress root_vrf own route by.0.0 by.0.1 rule vpn a b by.2 from of held

-- each selection of the root's VRF is learned
learned_selection : (network : EdgeNetwork) (root egress : NodeId) (root_vrf own : OwnVrf) (pattern : Pattern) (selected : Selected) → Rule network
    → CalmSession network root egress → AreOfOneVpn root_vrf own
    → Among root_vrf (own_vrfs (place_of network root)) → maps.get (network.node root).selections (key_at root_vrf pattern) ≡ Some selected
    → (route : LearnedRoute) × (Among route (learned_routes (place_of network egress) (network.node egress) own root)) × (route.pattern ≡ pattern)
learned_selection network root egress root_vrf own pattern selected rule calm vpn a h =
    let place : EdgePlace = place_of network root in
    let number : ℕ = tunnel_number root_vrf.vrf selected.number in
    let by = held_taken network root egress (selective_key place root_vrf.vrf pattern) (tunnel_value place root_vrf.vrf number) rule calm
    (selective_value place (network.node root) egress root_vrf pattern selected rule.scenario a h) in
    let route : LearnedRoute = record { pattern = pattern; fec = lsp (own_addr place) number; since = by.0.since; run = by.0.run } in (
      route,
      among_found (learned_route (place_of network egress) own root) (selective_key place root_vrf.vrf pattern, by.0) route
          (maps.entries (taken_from (network.node egress) root))
          (get_entry key_exact (taken_from (network.node egress) root) (selective_key place root_vrf.vrf pattern) by.0 by.1)
          (learns place (place_of network egress) own root_vrf.vrf pattern number by.0 refl by.2
          (vpn_tunnel network root root_vrf own number rule.scenario a vpn)),
      refl,
    )

-- ---- in step

-- a route was learned no earlier than its selection was made
not_earlier : (network : EdgeNetwork) (root egress : NodeId) (root_vrf : OwnVrf) (route : LearnedRoute)
    (l : IsLearned network root egress root_vrf route) → Rule network → CalmSession network root egress
    → Among root_vrf (own_vrfs (place_of network root)) → l.selected.since ≤ route.since
not_earlier network root egress root_vrf route l rule calm a =
    let key : Key = selective_key (place_of network root) root_vrf.vrf route.pattern in
    let view : ViewAt network root egress key = rule.view root egress key calm.two in
    let timely =
    view.timely l.selected l.taken calm.joined (near_up network root egress rule calm) (ap (values_at key_cmp key) calm.quiet)
    (picked (place_of network root) (network.node root) root_vrf route.pattern l.selected rule.scenario a l.at) l.from in
    subst (λ (n : ℕ). l.selected.since ≤ n) (sym l.since) timely

pub one_selected : (control : Control) (key : VrfPattern) (one other : Selected) → maps.get control.selections key ≡ Some one
    → maps.get control.selections key ≡ Some other → one ≡ other
one_selected control key one other h k = let both : Some one ≡ Some other = sym h ∙ k in cc

pub in_step : (network : EdgeNetwork) (root egress : NodeId) (root_vrf own : OwnVrf) → Rule network → CalmSession network root egress
    → NoneDue network root
    → Among root_vrf (own_vrfs (place_of network root)) → Among own (own_vrfs (place_of network egress)) → AreOfOneVpn root_vrf own
    → InStep network.scenario.delay network.clock (selections_of (network.node root) root_vrf.id)
    (learned_routes (place_of network egress) (network.node egress) own root)
in_step network root egress root_vrf own rule calm none a b vpn = record {
  learned = λ selection s. let is = is_selection (network.node root) root_vrf selection s in
      learned_selection network root egress root_vrf own selection.pattern is.selected rule calm vpn a is.at;
  selected = λ route r. let l = is_learned network root egress root_vrf own route rule calm vpn a b r in
      (selection_of (key_at root_vrf route.pattern, l.selected), among_selections (network.node root) root_vrf route.pattern l.selected l.at, refl);
  later = λ selection route s r e.
      let is = is_selection (network.node root) root_vrf selection s in
      let l = is_learned network root egress root_vrf own route rule calm vpn a b r in
      let one =
      one_selected (network.node root) (key_at root_vrf route.pattern) is.selected l.selected
      (subst (λ (p : Pattern). maps.get (network.node root).selections (key_at root_vrf p) ≡ Some is.selected) e is.at) l.at in
      subst (λ (n : ℕ). n ≤ route.since) (sym (is.since ∙ ap (λ (x : Selected). x.since) one))
      (not_earlier network root egress root_vrf route l rule calm a);
  over = λ route r t.
      let l = is_learned network root egress root_vrf own route rule calm vpn a b r in
      let key : Key = selective_key (place_of network root) root_vrf.vrf route.pattern in
      let view : ViewAt network root egress key = rule.view root egress key calm.two in
      subst (λ (n : ℕ). n + network.scenario.delay ≤ network.clock) (sym l.since) (view.due l.taken l.from (sym l.run ∙ t));
  run = λ selection s due.
      let is = is_selection (network.node root) root_vrf selection s in
      is.run ∙ none (key_at root_vrf selection.pattern) is.selected is.at
      (subst (λ (n : ℕ). IsDue network.scenario.delay network.clock n) is.since due);
}
