-- After its timers no timer of an edge is due, and while the clock stands still none becomes due.
use Rattle.std.proofs.Common.{◌≡◌, ◌≤◌, ℕ, ◌+◌, ◌&&◌, ◌||◌, not, nat_le, Bool, true, false, cond, inl, inr, List, [], ◌∷◌, map, fold, Option, Some, None, is_some, refl, sym, ap, subst, ◌∙◌, arith}
use Rattle.std.specs.List.{list_any, sum_by, count_by}
use Rattle.std.specs.FinMap as maps
use Rattle.std.specs.FinMap.{FinMap, get-insert, get-remove, get-from_entries, get-retain_keys}
use Rattle.std.specs.Ordering.{eq_by_cmp}
use Rattle.std.proofs.lemmas.Bool.{leb-true, or_left, or_right}
use Rattle.mv_base.specs.declared.ids.NodeId.{NodeId}
use Rattle.pim_defs.specs.Entries as entries
use Rattle.pim_defs.specs.Expiry.{is_after, counts}
use Rattle.pim_defs.specs.declared.expiry.Expiry.{Expiry}
use Rattle.pim_defs.proofs.KeyLemmas.{entry_cmp_total, entry_cmp_exact}
use Rattle.scenario_defs.specs.declared.event.IfaceEntry.{IfaceEntry}
use Rattle.bgp_messages.specs.declared.bgp_attributes.key.Key.{Key}
use Rattle.bgp_messages.specs.declared.bgp_attributes.update.Change.{Change}
use Rattle.bgp_messages.specs.declared.bgp_attributes.update.Change.TheVariants as updates
use Rattle.bgp_messages.specs.declared.bgp_attributes.update.Message.{Message}
use Rattle.bgp_messages.specs.bgp_update.Table.{changes_of}
use Rattle.label_defs.specs.Keys.{node_cmp}
use Rattle.label_defs.proofs.KeyLemmas.{node_cmp_total, node_cmp_exact}
use Rattle.selective_defs.specs.Selective.{Among}
use Rattle.table_laws.proofs.CompareLemmas.{one_key}
use Rattle.edge_defs.specs.Edge.{VrfPattern, pattern_cmp, Selected, TakenRoute, Taken, Control}
use Rattle.edge_defs.specs.Due.{is_selection_due, due_delays, due_from}
use Rattle.edge_defs.specs.Imported.{imported_selective}
use Rattle.edge_defs.specs.Keys.{Value, key_cmp, same_value}
use Rattle.edge_defs.specs.Place.{EdgePlace, OwnVrf, addr_of, own_vrfs}
use Rattle.edge_defs.specs.Steps as steps
use Rattle.edge_defs.specs.Steps.{learned, taken_change, with_update, selection_run, selections_run, is_imported, route_run, taken_run, peers_run, control_step, refreshed}
use Rattle.edge_defs.proofs.KeyLemmas.{key_total, key_exact, pattern_total, pattern_exact}
use Rattle.edge_words.proofs.calm_laws.Lists.{map_among}
use Rattle.edge_words.proofs.calm_laws.Maps.{entry_get, found_stands}
use Rattle.settle_laws.proofs.LabelsDue.{sum_zero, count_zero}

-- ---- what is not due

-- no delay of a route of a table is due
abbrev pub TakenRests : EdgePlace → ℕ → NodeId → Taken → Type 0
TakenRests place now peer taken = (key : Key) (route : TakenRoute) → maps.get taken key ≡ Some route → due_delays place now peer (key, route) ≡ 0

pub record ControlRests (place : EdgePlace) (now : ℕ) (control : Control) : Type 0 where
  pub entries : (at : IfaceEntry) (expiry : Expiry) → maps.get control.entries at ≡ Some expiry → is_after expiry now ≡ true
  pub selections : (key : VrfPattern) (selected : Selected) → maps.get control.selections key ≡ Some selected
      → is_selection_due place.scenario.delay now selected ≡ false
  pub routes : (peer : NodeId) (taken : Taken) → maps.get control.peers peer ≡ Some taken → TakenRests place now peer taken

-- what is counted of customers and of BGP
abbrev pub control_due : EdgePlace → ℕ → Control → ℕ
control_due place now control =
    entries.due control.entries now + (count_by (is_selection_due place.scenario.delay now) (maps.values control.selections) + sum_by
    (due_from place now) (maps.entries control.peers))

pub no_control_due : (place : EdgePlace) (now : ℕ) (control : Control) → ControlRests place now control → control_due place now control ≡ 0
no_control_due place now control r =
    let first = count_zero (λ expiry. not (is_after expiry now)) (maps.values control.entries) (λ expiry a.
    let by = map_among (λ (e : IfaceEntry × Expiry). e.1) expiry (maps.entries control.entries) a in
    ap (λ (x : Expiry). not (is_after x now)) by.2 ∙ ap not (r.entries by.0.0 by.0.1 (entry_get entry_cmp_total control.entries by.0.0 by.0.1 by.1)))
    in
    let second = count_zero (is_selection_due place.scenario.delay now) (maps.values control.selections) (λ selected a.
    let by = map_among (λ (e : VrfPattern × Selected). e.1) selected (maps.entries control.selections) a in
    ap (is_selection_due place.scenario.delay now) by.2 ∙ r.selections by.0.0 by.0.1 (entry_get pattern_total control.selections by.0.0 by.0.1 by.1))
    in
    let third = sum_zero (due_from place now) (maps.entries control.peers) (λ peer a.
    sum_zero (due_delays place now peer.0) (maps.entries peer.1) (λ entry b.
    r.routes peer.0 peer.1 (entry_get node_cmp_total control.peers peer.0 peer.1 a) entry.0 entry.1 (entry_get key_total peer.1 entry.0 entry.1 b)))
    in
    omega (arith, first, second, third)

-- ---- routes that are taken

is_late : (now delay : ℕ) → 1 ≤ delay → nat_le (now + delay) now ≡ false
is_late now delay le = by (nat_le (now + delay) now) refl
  where
    by : (b : Bool) → nat_le (now + delay) now ≡ b → b ≡ false
    by true e = let before = leb-true (now + delay) now e in absurd (omega (arith, before, le))
    by false e = refl

new_rests : (place : EdgePlace) (now : ℕ) (peer : NodeId) (key : Key) (value : Value) → 1 ≤ place.scenario.delay
    → due_delays place now peer (key, record { value = value; since = now; run = false }) ≡ 0
new_rests place now peer key value le =
    ap (λ (b : Bool). cond b (count_by (λ own. is_some
    (imported_selective own.vrf (addr_of place.scenario peer) (key, record { value = value; since = now; run = false }))) (own_vrfs place)) 0)
    (is_late now place.scenario.delay le)

learned_rests : (place : EdgePlace) (now : ℕ) (peer : NodeId) (key : Key) (value : Value) (o : Option TakenRoute) → 1 ≤ place.scenario.delay
    → ((route : TakenRoute) → o ≡ Some route → due_delays place now peer (key, route) ≡ 0)
    → due_delays place now peer (key, learned now value o) ≡ 0
learned_rests place now peer key value None le h = new_rests place now peer key value le
learned_rests place now peer key value (Some old) le h =
    elim (same_value old.value value) as (λ b. due_delays place now peer (key, cond b old (record { value = value; since = now; run = false })) ≡ 0) [
      | true ↦ h old refl
      | false ↦ new_rests place now peer key value le
    ]

put_rests : (place : EdgePlace) (now : ℕ) (peer : NodeId) (taken : Taken) (own : Key) (new : TakenRoute) → due_delays place now peer (own, new) ≡ 0
    → TakenRests place now peer taken
    → (key : Key) (route : TakenRoute) (b : Bool) → eq_by_cmp key_cmp key own ≡ b → cond b (Some new) (maps.get taken key) ≡ Some route
    → due_delays place now peer (key, route) ≡ 0
put_rests place now peer taken own new fine rests key route true e at =
    let same : new ≡ route = cc in
    (λ i. due_delays place now peer (one_key key_exact key own e i, sym same i)) ∙ fine
put_rests place now peer taken own new fine rests key route false e at = rests key route at

cut_rests : (place : EdgePlace) (now : ℕ) (peer : NodeId) (taken : Taken) → TakenRests place now peer taken
    → (key : Key) (route : TakenRoute) (b : Bool) → cond b None (maps.get taken key) ≡ Some route → due_delays place now peer (key, route) ≡ 0
cut_rests place now peer taken rests key route true at = absurd cc
cut_rests place now peer taken rests key route false at = rests key route at

change_rests : (place : EdgePlace) (now : ℕ) (peer : NodeId) (taken : Taken) (change : Change) → 1 ≤ place.scenario.delay
    → TakenRests place now peer taken → TakenRests place now peer (taken_change now taken change)
change_rests place now peer taken (updates.Reach advert) le rests key route at =
    let value : Value = record { next_hop = advert.next_hop; comms = advert.comms; pmsi = advert.pmsi } in
    let new : TakenRoute = learned now value (maps.get taken advert.key) in
    put_rests place now peer taken advert.key new
    (learned_rests place now peer advert.key value (maps.get taken advert.key) le (λ old is. rests advert.key old is)) rests key route
    (eq_by_cmp key_cmp key advert.key) refl
    (sym (get-insert key_total taken advert.key new key) ∙ at)
change_rests place now peer taken (updates.Unreach own) le rests key route at =
    cut_rests place now peer taken rests key route (eq_by_cmp key_cmp key own) (sym (get-remove key_total taken own key) ∙ at)

all_rest : (place : EdgePlace) (now : ℕ) (peer : NodeId) (all : List Change) (taken : Taken) → 1 ≤ place.scenario.delay
    → TakenRests place now peer taken → TakenRests place now peer (fold (taken_change now) taken all)
all_rest place now peer [] taken le rests = rests
all_rest place now peer (change ∷ more) taken le rests =
    all_rest place now peer more (taken_change now taken change) le (change_rests place now peer taken change le rests)

peer_rests : (place : EdgePlace) (now : ℕ) (peers : FinMap node_cmp Taken) (own : NodeId) (new : Taken) → TakenRests place now own new
    → ((peer : NodeId) (taken : Taken) → maps.get peers peer ≡ Some taken → TakenRests place now peer taken)
    → (peer : NodeId) (taken : Taken) (b : Bool) → eq_by_cmp node_cmp peer own ≡ b → cond b (Some new) (maps.get peers peer) ≡ Some taken
    → TakenRests place now peer taken
peer_rests place now peers own new fine rests peer taken true e at =
    let same : new ≡ taken = cc in
    subst (λ (n : NodeId). TakenRests place now n taken) (sym (one_key node_cmp_exact peer own e)) (subst (TakenRests place now own) same fine)
peer_rests place now peers own new fine rests peer taken false e at = rests peer taken at

update_rests : (place : EdgePlace) (now : ℕ) (old : Control) (peer : NodeId) (message : Message) → 1 ≤ place.scenario.delay
    → ControlRests place now old → ControlRests place now (with_update now peer message old)
update_rests place now old peer message le r = by (maps.get old.peers peer) refl
  where
    by : (o : Option Taken) → maps.get old.peers peer ≡ o → ControlRests place now (elim o [
      | None ↦ old
      | Some taken ↦ record old { peers = maps.insert old.peers peer (fold (taken_change now) taken (changes_of message)) }
    ])
    by None at = r
    by (Some taken) at =
        let new : Taken = fold (taken_change now) taken (changes_of message) in
        record {
          entries = r.entries;
          selections = r.selections;
          routes = λ q found is. peer_rests place now old.peers peer new
              (all_rest place now peer (changes_of message) taken le (r.routes peer taken at)) r.routes q found (eq_by_cmp node_cmp q peer) refl
              (sym (get-insert node_cmp_total old.peers peer new q) ∙ is);
        }

refreshed_rests : (place : EdgePlace) (now : ℕ) (control : Control) → ControlRests place now control
    → ControlRests place now (refreshed place now control)
refreshed_rests place now control r = record { entries = r.entries; selections = r.selections; routes = r.routes }

pub taken_control_rests : (place : EdgePlace) (now : ℕ) (old : Control) (peer : NodeId) (message : Message) → 1 ≤ place.scenario.delay
    → ControlRests place now old → ControlRests place now (control_step place now old (steps.Update peer message))
taken_control_rests place now old peer message le r =
    refreshed_rests place now (with_update now peer message old) (update_rests place now old peer message le r)

-- ---- timers

kept_rests : (now : ℕ) (o : Option Expiry) (expiry : Expiry) → cond (counts now o) o None ≡ Some expiry → is_after expiry now ≡ true
kept_rests now None expiry e = absurd cc
kept_rests now (Some own) expiry e = by (is_after own now) refl e
  where
    by : (b : Bool) → is_after own now ≡ b → cond b (Some own) None ≡ Some expiry → is_after expiry now ≡ true
    by true is same = let one : own ≡ expiry = cc in ap (λ (x : Expiry). is_after x now) (sym one) ∙ is
    by false is same = absurd cc

selection_rests : (delay now : ℕ) (selected : Selected) → is_selection_due delay now (selection_run delay now selected) ≡ false
selection_rests delay now selected = by selected.run (nat_le (selected.since + delay) now)
  where
    by : (run late : Bool) → (not (run || late) && late) ≡ false
    by true late = refl
    by false true = refl
    by false false = refl

none_counted : {X : Type 0} (p : X → Bool) (xs : List X) → list_any p xs ≡ false → count_by p xs ≡ 0
none_counted p xs e = count_zero p xs (λ x a. none p xs x a e)
  where
    no : (b : Bool) → (b ≡ true → ⊥) → b ≡ false
    no true h = absurd (h refl)
    no false h = refl

    holds : {Y : Type 0} (q : Y → Bool) (ys : List Y) (y : Y) → Among y ys → q y ≡ true → list_any q ys ≡ true
    holds q [] y a h = absurd a
    holds q (z ∷ ys) y (inl e) h = or_left (q z) (list_any q ys) (ap q (sym e) ∙ h)
    holds q (z ∷ ys) y (inr a) h = or_right (q z) (list_any q ys) (holds q ys y a h)

    none : {Y : Type 0} (q : Y → Bool) (ys : List Y) (y : Y) → Among y ys → list_any q ys ≡ false → q y ≡ false
    none q ys y a h = no (q y) (λ t. let x : list_any q ys ≡ true = holds q ys y a t in let bad : true ≡ false = sym x ∙ h in absurd cc)

route_rests : (place : EdgePlace) (now : ℕ) (peer : NodeId) (entry : Key × TakenRoute)
    → due_delays place now peer (route_run place now peer entry) ≡ 0
route_rests place now peer entry =
    by entry.1.run (is_imported place peer entry) (nat_le (entry.1.since + place.scenario.delay) now) (λ e. none_counted imports (own_vrfs place) e)
  where
    imports : OwnVrf → Bool
    imports own = is_some (imported_selective own.vrf (addr_of place.scenario peer) entry)

    by : (run used late : Bool) → (used ≡ false → count_by imports (own_vrfs place) ≡ 0)
        → cond (not (run || (used && late)) && late) (count_by imports (own_vrfs place)) 0 ≡ 0
    by true used late h = refl
    by false true true h = refl
    by false true false h = refl
    by false false true h = h refl
    by false false false h = refl

peers_rest : (place : EdgePlace) (now : ℕ) (peers : FinMap node_cmp Taken) (peer : NodeId) (taken : Taken)
    → maps.get (peers_run place now peers) peer ≡ Some taken → TakenRests place now peer taken
peers_rest place now peers peer taken at key route is =
    let list = map (taken_run place now) (maps.entries peers) in
    let a : Among (peer, taken) list = found_stands node_cmp_exact peer taken list (sym (get-from_entries node_cmp_total list peer) ∙ at) in
    let by = map_among (taken_run place now) (peer, taken) (maps.entries peers) a in
    let own : NodeId × Taken = by.0 in
    let routes = map (route_run place now own.0) (maps.entries own.1) in
    let table : taken ≡ maps.from_entries routes = ap (λ (x : NodeId × Taken). x.1) by.2 in
    let b : Among (key, route) routes =
    found_stands key_exact key route routes (sym (get-from_entries key_total routes key) ∙ ap (λ (t : Taken). maps.get t key) (sym table) ∙ is) in
    let one = map_among (route_run place now own.0) (key, route) (maps.entries own.1) b in
    ap (λ (n : NodeId). due_delays place now n (key, route)) (ap (λ (x : NodeId × Taken). x.0) by.2) ∙ ap (due_delays place now own.0) one.2
    ∙ route_rests place now own.0 one.0

selections_rest : (delay now : ℕ) (old : FinMap pattern_cmp Selected) (key : VrfPattern) (selected : Selected)
    → maps.get (selections_run delay now old) key ≡ Some selected → is_selection_due delay now selected ≡ false
selections_rest delay now old key selected at =
    let list = map (λ (entry : VrfPattern × Selected). (entry.0, selection_run delay now entry.1)) (maps.entries old) in
    let a : Among (key, selected) list = found_stands pattern_exact key selected list (sym (get-from_entries pattern_total list key) ∙ at) in
    let by = map_among (λ (entry : VrfPattern × Selected). (entry.0, selection_run delay now entry.1)) (key, selected) (maps.entries old) a in
    ap (λ (x : VrfPattern × Selected). is_selection_due delay now x.1) by.2 ∙ selection_rests delay now by.0.1

pub timed_control_rests : (place : EdgePlace) (now : ℕ) (old : Control) → ControlRests place now (control_step place now old steps.Timers)
timed_control_rests place now old = record {
  entries =
      λ at expiry is. kept_rests now (maps.get old.entries at) expiry
      (sym (get-retain_keys old.entries (λ x. counts now (maps.get old.entries x)) at
      (λ x e. ap (counts now) (ap (maps.get old.entries) (sym (entry_cmp_exact at x e))))) ∙ is);
  selections = selections_rest place.scenario.delay now old.selections;
  routes = peers_rest place now old.peers;
}
