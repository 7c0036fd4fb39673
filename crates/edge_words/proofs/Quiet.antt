-- Which timers are due, and that a run of the timers leaves none due.
use Rattle.std.specs.Prelude.{count_by, sum_by}
use Rattle.std.proofs.Common.{◌≡◌, ◌↔◌, ℕ, zero, suc, ◌+◌, ◌<◌, ◌&&◌, ◌||◌, nat_le, Bool, true, false, cond, not, ◌⊎◌, inl, inr, List, [], ◌∷◌, map, slice_get, Option, Some, None, is_some, option_map, refl, sym, ap, subst, ◌∙◌, arith}
use Rattle.std.specs.FinMap as maps
use Rattle.std.specs.FinMap.{FinMap, IsAntisymmetric, get-entries, get-from_entries}
use Rattle.std.specs.declared.cmp.Ordering.{Ordering}
use Rattle.std.specs.Cmp.{IsTotalOrder}
use Rattle.std.proofs.lemmas.Bool.Decides.{nat_tests}
use Rattle.std.proofs.lemmas.List.Sums.{sum_by-cons}
use Rattle.mv_base.specs.declared.ids.NodeId.{NodeId}
use Rattle.bgp_messages.specs.declared.bgp_attributes.key.Key.{Key}
use Rattle.edge_defs.specs.pim_defs.Entries as entries
use Rattle.edge_defs.specs.pim_defs.Expiry.{is_after, remaining}
use Rattle.edge_defs.specs.pim_defs.declared.expiry.Expiry.{Expiry}
use Rattle.edge_defs.proofs.pim_defs.EntriesLemmas.{get-kept}
use Rattle.edge_defs.proofs.pim_defs.KeyLemmas.{entry_cmp_total, entry_cmp_exact}
use Rattle.label_defs.specs.LabelData as labels
use Rattle.label_defs.specs.LabelData.{is_rested, is_hold_due}
use Rattle.label_defs.specs.Steps as label_steps
use Rattle.label_defs.specs.Steps.{woken, hold_run}
use Rattle.label_defs.specs.declared.end.End.{End}
use Rattle.label_defs.specs.declared.label_use.LabelUse.{LabelUse}
use Rattle.label_defs.specs.declared.label_use.LabelUse.TheVariants as uses
use Rattle.label_defs.proofs.KeyLemmas.{node_cmp_total, node_cmp_exact}
use Rattle.label_defs.proofs.MemberLemmas.{count-cons}
use Rattle.selective_defs.specs.Selective.{Among}
use Rattle.edge_defs.specs.Due.{is_selection_due, due_delays, due_from, due}
use Rattle.edge_defs.specs.Edge.{Selected, TakenRoute, Taken, EdgeData}
use Rattle.edge_defs.specs.Imported.{ImportedSelective, taken_from, imported_selective}
use Rattle.edge_defs.specs.Place.{EdgePlace, OwnVrf, addr_of, own_vrfs, label_place}
use Rattle.edge_defs.specs.Steps.{selection_run, is_imported, timed}
use Rattle.edge_defs.proofs.KeyLemmas.{pattern_total, pattern_exact}
use Rattle.edge_words.proofs.edge_laws.Taken.{run_at, table_in, get-peers_run, run_taken}
use Rattle.edge_words.proofs.calm_laws.Lists.{among_map, map_among, any_from}
use Rattle.edge_words.proofs.calm_laws.Maps.{entry_get, get_entry, find-map}
use Rattle.edge_words.specs.Quiet.{NoneDue}
use Rattle.edge_words.proofs.Members.{taken_of, table_of}

-- ---- counts and sums that are zero

bit_none : (b : Bool) → cond {A = ℕ} b 1 0 ≡ 0 → b ≡ false
bit_none true h = absurd (omega (arith, h))
bit_none false h = refl

module _ {X : Type 0} where
  none_passes : (p : X → Bool) (xs : List X) → count_by p xs ≡ 0 → (x : X) → Among x xs → p x ≡ false
  none_passes p [] h x a = absurd a
  none_passes p (y ∷ ys) h x (inl e) = ap p e ∙ bit_none (p y) (let s = count-cons p y ys in omega (arith, s, h))
  none_passes p (y ∷ ys) h x (inr a) = none_passes p ys (let s = count-cons p y ys in omega (arith, s, h)) x a

  passes_none : (p : X → Bool) (xs : List X) → ((x : X) → Among x xs → p x ≡ false) → count_by p xs ≡ 0
  passes_none p [] h = refl
  passes_none p (y ∷ ys) h =
      let rest = passes_none p ys (λ x a. h x (inr a)) in
      let here : cond {A = ℕ} (p y) 1 0 ≡ 0 = ap (λ (b : Bool). cond {A = ℕ} b 1 0) (h y (inl refl)) in
      let s = count-cons p y ys in
      omega (arith, s, rest, here)

  each_nothing : (f : X → ℕ) (xs : List X) → sum_by f xs ≡ 0 → (x : X) → Among x xs → f x ≡ 0
  each_nothing f [] h x a = absurd a
  each_nothing f (y ∷ ys) h x (inl e) = ap f e ∙ (let s = sum_by-cons f y ys in omega (arith, s, h))
  each_nothing f (y ∷ ys) h x (inr a) = each_nothing f ys (let s = sum_by-cons f y ys in omega (arith, s, h)) x a

  nothing_each : (f : X → ℕ) (xs : List X) → ((x : X) → Among x xs → f x ≡ 0) → sum_by f xs ≡ 0
  nothing_each f [] h = refl
  nothing_each f (y ∷ ys) h =
      let rest = nothing_each f ys (λ x a. h x (inr a)) in
      let here = h y (inl refl) in
      let s = sum_by-cons f y ys in
      omega (arith, s, rest, here)

  at_place : (xs : List X) (k : ℕ) (x : X) → slice_get xs k ≡ Some x → Among x xs
  at_place [] k x h = absurd cc
  at_place (y ∷ ys) zero x h = inl (let same : x ≡ y = cc in same)
  at_place (y ∷ ys) (suc k) x h = inr (at_place ys k x h)

  place_of : (xs : List X) (x : X) → Among x xs → (k : ℕ) × (slice_get xs k ≡ Some x)
  place_of [] x a = absurd a
  place_of (y ∷ ys) x (inl e) = (zero, ap (λ (z : X). Some z) (sym e))
  place_of (y ∷ ys) x (inr a) = (let rest = place_of ys x a in (suc rest.0, rest.1))

-- ---- moments

later : (moment now : ℕ) → nat_le moment now ≡ false → now < moment
later moment now h = grind (arith, nat_tests)

not_later : (moment now : ℕ) → now < moment → nat_le moment now ≡ false
not_later moment now h = grind (arith, nat_tests)

-- a delay that is not due was run, or its end is to come
run_or_later : (run : Bool) (moment now : ℕ) → (not run && nat_le moment now) ≡ false → (run ≡ true) ⊎ (now < moment)
run_or_later true moment now h = inl refl
run_or_later false moment now h = inr (later moment now h)

not_due : (run : Bool) (moment now : ℕ) → (run ≡ true) ⊎ (now < moment) → (not run && nat_le moment now) ≡ false
not_due true moment now h = refl
not_due false moment now (inl h) = absurd cc
not_due false moment now (inr h) = not_later moment now h

not_not : (b : Bool) → not b ≡ false → b ≡ true
not_not true h = refl
not_not false h = absurd cc

not_true : (b : Bool) → b ≡ true → not b ≡ false
not_true b h = ap not h

-- ---- maps

module _ {K V : Type 0} {R : K → K → Ordering} (total : IsTotalOrder R) (exact : IsAntisymmetric R) where
  of_values : (m : FinMap R V) (v : V) → Among v (maps.values m) → (k : K) × (maps.get m k ≡ Some v)
  of_values m v a =
      let e = map_among (λ (x : K × V). x.1) v (maps.entries m) a in
      (e.0.0, entry_get total m e.0.0 e.0.1 e.1 ∙ ap (λ (x : V). Some x) (sym e.2))

  to_values : (m : FinMap R V) (k : K) (v : V) → maps.get m k ≡ Some v → Among v (maps.values m)
  to_values m k v h = among_map (λ (x : K × V). x.1) (k, v) (maps.entries m) (get_entry exact m k v h)

  get_mapped : (f : V → V) (m : FinMap R V) (k : K)
      → maps.get (maps.from_entries {R = R} (map (λ (e : K × V). (e.0, f e.1)) (maps.entries m))) k ≡ option_map f (maps.get m k)
  get_mapped f m k =
      get-from_entries total (map (λ (e : K × V). (e.0, f e.1)) (maps.entries m)) k ∙ find-map R f k (maps.entries m)
      ∙ ap (option_map f) (sym (get-entries m k))

-- ---- what is due

module _ (place : EdgePlace) (now : ℕ) (edge : EdgeData) where
  abbrev life : ℕ
  life = place.scenario.life

  abbrev delay : ℕ
  delay = place.scenario.delay

  rested : (usage : LabelUse) → is_rested now usage ≡ false → (until : ℕ) → usage ≡ uses.Resting until → now < until
  rested usage h until e = later until now (ap (is_rested now) (sym e) ∙ h)

  not_rested : (usage : LabelUse) → ((until : ℕ) → usage ≡ uses.Resting until → now < until) → is_rested now usage ≡ false
  not_rested (uses.Mapped fec upstream) h = refl
  not_rested (uses.Leaving fec upstream) h = refl
  not_rested (uses.Resting until) h = not_later until now (h until refl)
  not_rested uses.Free h = refl

  abbrev labels_due : ℕ
  labels_due = labels.due (label_place place.scenario place.core place.me) now edge.part

  abbrev entries_due : ℕ
  entries_due = entries.due edge.control.entries now

  abbrev selections_due : ℕ
  selections_due = count_by (is_selection_due delay now) (maps.values edge.control.selections)

  abbrev routes_due : ℕ
  routes_due = sum_by (due_from place now) (maps.entries edge.control.peers)

  -- the delays of one route
  route_quiet : (peer : NodeId) (key : Key) (route : TakenRoute) → due_delays place now peer (key, route) ≡ 0
      → (own : OwnVrf) (imported : ImportedSelective) → Among own (own_vrfs place)
      → imported_selective own.vrf (addr_of place.scenario peer) (key, route) ≡ Some imported → (route.run ≡ true) ⊎ (now < route.since + delay)
  route_quiet peer key route h own imported a is =
      run_or_later route.run (route.since + delay) now (by (not route.run && nat_le (route.since + delay) now) refl h)
    where
      imports : OwnVrf → Bool
      imports o = is_some (imported_selective o.vrf (addr_of place.scenario peer) (key, route))

      by : (b : Bool) → (not route.run && nat_le (route.since + delay) now) ≡ b
          → cond b (count_by (λ o. is_some (imported_selective o.vrf (addr_of place.scenario peer) (key, route))) (own_vrfs place)) 0 ≡ 0
          → (not route.run && nat_le (route.since + delay) now) ≡ false
      by false e k = e
      by true e k =
          let none =
          none_passes (λ (o : OwnVrf). is_some (imported_selective o.vrf (addr_of place.scenario peer) (key, route))) (own_vrfs place) k own a in
          let some : is_some (imported_selective own.vrf (addr_of place.scenario peer) (key, route)) ≡ true =
          ap (λ (o : Option ImportedSelective). is_some o) is in
          absurd (let bad : true ≡ false = sym some ∙ none in cc)

  quiet_route : (peer : NodeId) (key : Key) (route : TakenRoute)
      → ((own : OwnVrf) (imported : ImportedSelective) → Among own (own_vrfs place)
      → imported_selective own.vrf (addr_of place.scenario peer) (key, route) ≡ Some imported → (route.run ≡ true) ⊎ (now < route.since + delay))
      → due_delays place now peer (key, route) ≡ 0
  quiet_route peer key route h = by (not route.run && nat_le (route.since + delay) now) refl
    where
      none : (not route.run && nat_le (route.since + delay) now) ≡ true → (own : OwnVrf) → Among own (own_vrfs place) → (o : Option ImportedSelective)
          → imported_selective own.vrf (addr_of place.scenario peer) (key, route) ≡ o
          → is_some o ≡ false
      none t own a None e = refl
      none t own a (Some imported) e =
          absurd (let bad : true ≡ false = sym t ∙ not_due route.run (route.since + delay) now (h own imported a e) in cc)

      by : (b : Bool) → (not route.run && nat_le (route.since + delay) now) ≡ b
          → cond b (count_by (λ o. is_some (imported_selective o.vrf (addr_of place.scenario peer) (key, route))) (own_vrfs place)) 0 ≡ 0
      by false e = refl
      by true e =
          passes_none (λ (o : OwnVrf). is_some (imported_selective o.vrf (addr_of place.scenario peer) (key, route))) (own_vrfs place)
          (λ own a. none e own a (imported_selective own.vrf (addr_of place.scenario peer) (key, route)) refl)

  quiet : labels_due ≡ 0 → entries_due ≡ 0 → selections_due ≡ 0 → routes_due ≡ 0 → NoneDue place now edge
  quiet l e s r = record {
    labels = λ number until at. rested (uses.Resting until)
        (none_passes (is_rested now) edge.part.labels (omega (arith, l)) (uses.Resting until)
        (at_place edge.part.labels number (uses.Resting until) at)) until refl;
    holds = λ node end at. run_or_later end.held (end.raised + life + 1) now
        (none_passes (is_hold_due life now) (maps.values edge.part.ends) (omega (arith, l)) end
        (to_values node_cmp_total node_cmp_exact edge.part.ends node end at));
    entries = λ at expiry here. not_not (is_after expiry now)
        (none_passes (λ (x : Expiry). not (is_after x now)) (maps.values edge.control.entries) e expiry
        (to_values entry_cmp_total entry_cmp_exact edge.control.entries at expiry here));
    selections = λ key selected at. run_or_later selected.run (selected.since + delay) now
        (none_passes (is_selection_due delay now) (maps.values edge.control.selections) s selected
        (to_values pattern_total pattern_exact edge.control.selections key selected at));
    routes = λ peer key route own imported at a is. (let t = table_of edge.control peer key route at in
        route_quiet peer key route (each_nothing (due_delays place now peer) (maps.entries t.table)
        (each_nothing (due_from place now) (maps.entries edge.control.peers) r (peer, t.table) t.of_peer) (key, route) t.among) own imported a
        is);
  }

  some_use : (usage : LabelUse) → Among usage edge.part.labels → NoneDue place now edge → is_rested now usage ≡ false
  some_use usage a none =
      (let at = place_of edge.part.labels usage a in not_rested usage (λ until e. none.labels at.0 until (at.1 ∙ ap (λ (x : LabelUse). Some x) e)))

  all_quiet : NoneDue place now edge → due place now edge ≡ 0
  all_quiet none =
      let rests = passes_none (is_rested now) edge.part.labels (λ usage a. some_use usage a none) in
      let holds =
      passes_none (is_hold_due life now) (maps.values edge.part.ends)
      (λ end a. (let at = of_values node_cmp_total node_cmp_exact edge.part.ends end a in
      not_due end.held (end.raised + life + 1) now (none.holds at.0 end at.1))) in
      let own_entries =
      passes_none (λ (x : Expiry). not (is_after x now)) (maps.values edge.control.entries)
      (λ expiry a. (let at = of_values entry_cmp_total entry_cmp_exact edge.control.entries expiry a in
      not_true (is_after expiry now) (none.entries at.0 expiry at.1))) in
      let own_selections =
      passes_none (is_selection_due delay now) (maps.values edge.control.selections)
      (λ selected a. (let at = of_values pattern_total pattern_exact edge.control.selections selected a in
      not_due selected.run (selected.since + delay) now (none.selections at.0 selected at.1))) in
      let own_routes =
      nothing_each (due_from place now) (maps.entries edge.control.peers)
      (λ peer a. nothing_each (due_delays place now peer.0) (maps.entries peer.1) (λ entry b.
      quiet_route peer.0 entry.0 entry.1 (λ own imported c is. none.routes peer.0 entry.0 entry.1 own imported
      (taken_of edge.control peer.0 peer.1 entry.0 entry.1 a b) c is))) in
      omega (arith, rests, holds, own_entries, own_selections, own_routes)

  pub due_is : (due place now edge ≡ 0) ↔ NoneDue place now edge
  due_is = (λ h. quiet (omega (arith, h)) (omega (arith, h)) (omega (arith, h)) (omega (arith, h)), all_quiet)

-- ---- a run of the timers

module _ (place : EdgePlace) (now : ℕ) (edge : EdgeData) where
  -- the edge after its timers, before its trees settle
  abbrev thereafter : EdgeData
  thereafter = record edge {
    control = timed place now edge.control;
    part =
        label_steps.timed (label_place place.scenario place.core place.me) now edge.part;
  }

  woken_later : (usage : LabelUse) (until : ℕ) → woken now usage ≡ uses.Resting until → now < until
  woken_later (uses.Mapped fec upstream) until h = absurd cc
  woken_later (uses.Leaving fec upstream) until h = absurd cc
  woken_later (uses.Resting own) until h = by (nat_le own now) refl h
    where
      by : (b : Bool) → nat_le own now ≡ b → cond b uses.Free (uses.Resting own) ≡ uses.Resting until → now < until
      by true e k = absurd cc
      by false e k = (let same : own ≡ until = cc in subst (λ (m : ℕ). now < m) same (later own now e))
  woken_later uses.Free until h = absurd cc

  woken_at : (all : List LabelUse) (number until : ℕ) → slice_get (map (woken now) all) number ≡ Some (uses.Resting until) → now < until
  woken_at [] number until h = absurd cc
  woken_at (usage ∷ more) zero until h = woken_later usage until (let same : woken now usage ≡ uses.Resting until = cc in same)
  woken_at (usage ∷ more) (suc number) until h = woken_at more number until h

  mapped_from : {V : Type 0} (f : V → V) (o : Option V) (v : V) → option_map f o ≡ Some v → (w : V) × (o ≡ Some w) × (v ≡ f w)
  mapped_from f None v h = absurd cc
  mapped_from f (Some w) v h = (w, refl, (let same : v ≡ f w = cc in same))

  -- what is run where it is due is not due any more
  held_or_later : (held : Bool) (moment : ℕ) → ((held || (not held && nat_le moment now)) ≡ true) ⊎ (now < moment)
  held_or_later true moment = inl refl
  held_or_later false moment = by (nat_le moment now) refl
    where
      by : (b : Bool) → nat_le moment now ≡ b → (b ≡ true) ⊎ (now < moment)
      by true e = inl refl
      by false e = inr (later moment now e)

  run_over : (run : Bool) (moment : ℕ) → ((run || nat_le moment now) ≡ true) ⊎ (now < moment)
  run_over true moment = inl refl
  run_over false moment = by (nat_le moment now) refl
    where
      by : (b : Bool) → nat_le moment now ≡ b → (b ≡ true) ⊎ (now < moment)
      by true e = inl refl
      by false e = inr (later moment now e)

  left : (o : Option Expiry) (expiry : Expiry) → remaining now o ≡ Some expiry → is_after expiry now ≡ true
  left None expiry h = absurd cc
  left (Some own) expiry h = by (is_after own now) refl h
    where
      by : (b : Bool) → is_after own now ≡ b → cond b (Some own) None ≡ Some expiry → is_after expiry now ≡ true
      by true e k = (let same : own ≡ expiry = cc in ap (λ (x : Expiry). is_after x now) (sym same) ∙ e)
      by false e k = absurd cc

  route_later : (peer : NodeId) (key : Key) (old : TakenRoute) → is_imported place peer (key, old) ≡ true
      → ((run_at place now peer key old).run ≡ true) ⊎ (now < old.since + place.scenario.delay)
  route_later peer key old t =
      subst (λ (b : Bool). ((old.run || (b && nat_le (old.since + place.scenario.delay) now)) ≡ true) ⊎ (now < old.since + place.scenario.delay))
      (sym t) (run_over old.run (old.since + place.scenario.delay))

  pub none_left : NoneDue place now thereafter
  none_left = record {
    labels = λ number until at. woken_at edge.part.labels number until at;
    holds = λ node end at. (let by = mapped_from (hold_run place.scenario.life now) (maps.get edge.part.ends node) end
        (sym (get_mapped node_cmp_total node_cmp_exact (hold_run place.scenario.life now) edge.part.ends node) ∙ at) in
        subst (λ (e : End). (e.held ≡ true) ⊎ (now < e.raised + place.scenario.life + 1)) (sym by.2)
        (held_or_later by.0.held (by.0.raised + place.scenario.life + 1)));
    entries = λ at expiry here. left (maps.get edge.control.entries at) expiry (sym (get-kept edge.control.entries now at) ∙ here);
    selections = λ key selected at. (let by = mapped_from (selection_run place.scenario.delay now) (maps.get edge.control.selections key) selected
        (sym (get_mapped pattern_total pattern_exact (selection_run place.scenario.delay now) edge.control.selections key) ∙ at) in
        subst (λ (s : Selected). (s.run ≡ true) ⊎ (now < s.since + place.scenario.delay)) (sym by.2)
        (run_over by.0.run (by.0.since + place.scenario.delay)));
    routes = λ peer key route own imported at a is. (
        let got : maps.get (taken_from thereafter.control peer) key
        ≡ option_map (run_at place now peer key) (maps.get (taken_from edge.control peer) key) =
        ap (λ (o : Option Taken). maps.get (table_in o) key) (get-peers_run place now edge.control.peers peer)
        ∙ run_taken place now peer key (maps.get edge.control.peers peer) in
        let by = mapped_from (run_at place now peer key) (maps.get (taken_from edge.control peer) key) route (sym got ∙ at) in
        let old : imported_selective own.vrf (addr_of place.scenario peer) (key, by.0) ≡ Some imported =
        ap (λ (r : TakenRoute). imported_selective own.vrf (addr_of place.scenario peer) (key, r)) (sym by.2) ∙ is in
        let imports : is_imported place peer (key, by.0) ≡ true =
        any_from (λ (o : OwnVrf). is_some (imported_selective o.vrf (addr_of place.scenario peer) (key, by.0))) own (own_vrfs place) a
        (ap (λ (o : Option ImportedSelective). is_some o) old) in
        subst (λ (r : TakenRoute). (r.run ≡ true) ⊎ (now < r.since + place.scenario.delay)) (sym by.2) (route_later peer key by.0 imports));
  }
