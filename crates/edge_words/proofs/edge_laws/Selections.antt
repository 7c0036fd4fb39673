-- How the selections of an edge may change, and so the selection whose route has a key.
use Rattle.std.proofs.Common.{arith, ◌≡◌, ◌≢◌, ℕ, zero, suc, ◌+◌, ◌≤◌, ◌==◌, Bool, true, false, cond, ◌⊎◌, inl, inr, List, [], ◌∷◌, Option, Some, None, refl, sym, ap, subst, ◌∙◌}
use Rattle.std.specs.Prelude.{map, option_map, All, AllPairs}
use Rattle.std.specs.List.{AllByRecursion, list_any}
use Rattle.std.specs.Ordering.{eq_by_cmp}
use Rattle.std.specs.FinMap as maps
use Rattle.std.specs.FinMap.{FinMap, find, get-insert, get-remove, get-empty, get-entries, get-from_entries, get_tied}
use Rattle.std.proofs.lemmas.Bool.{eqb-true}
use Rattle.std.proofs.lemmas.List.Elements.{recursion_from_All}
use Rattle.mv_base.specs.declared.addr.Addr.{Addr}
use Rattle.mv_base.specs.declared.ids.NodeId.{NodeId}
use Rattle.mv_base.specs.declared.ids.VrfId.{VrfId}
use Rattle.mv_base.specs.declared.pattern.Pattern.{Pattern}
use Rattle.mv_base.specs.declared.rd.Rd.{Rd}
use Rattle.bgp_messages.specs.bgp_values.declared.mvpn_nlri.route.Afi.{Afi}
use Rattle.bgp_messages.specs.bgp_values.declared.mvpn_nlri.route.Route.TheVariants as routes
use Rattle.bgp_messages.specs.declared.bgp_attributes.key.Key.{Key}
use Rattle.bgp_messages.specs.declared.bgp_attributes.key.Key.TheVariants.{Mcast}
use Rattle.scenario_defs.specs.declared.scenario.Vrf.{Vrf}
use Rattle.scenario_defs.specs.Rules.{AreApart}
use Rattle.edge_defs.proofs.table_laws.CompareLemmas.{equal, one_key}
use Rattle.edge_defs.specs.Edge.{VrfPattern, pattern_cmp, Selected, Control}
use Rattle.edge_defs.specs.Keys.{key_cmp}
use Rattle.edge_defs.specs.Originated.{selective_key}
use Rattle.edge_defs.specs.Place.{EdgePlace, OwnVrf, vrfs_from}
use Rattle.selective_defs.specs.Selective.{free_number}
use Rattle.edge_defs.specs.Steps.{with_selection, is_used, selection_run, selections_run}
use Rattle.edge_defs.proofs.KeyLemmas.{key_exact, pattern_total}
use Rattle.edge_words.specs.edge_laws.Rule.{selected_in, first_selected}

-- ---- one selection

-- the selection was made when the one before it was, or it is new
abbrev pub Follows : ℕ → Option Selected → Option Selected → Type 0
Follows clock old new =
    (selected : Selected) → new ≡ Some selected → ((before : Selected) × (old ≡ Some before) × (before.since ≡ selected.since))
    ⊎ ((old ≡ None) × (selected.since ≤ clock))

-- so of each pattern
abbrev pub AllFollow : ℕ → FinMap pattern_cmp Selected → FinMap pattern_cmp Selected → Type 0
AllFollow clock old new = (pattern : VrfPattern) → Follows clock (maps.get old pattern) (maps.get new pattern)

pub stays : (clock : ℕ) (old : Option Selected) → Follows clock old old
stays clock old selected e = inl (selected, e, refl)

pub gone : (clock : ℕ) (old new : Option Selected) → new ≡ None → Follows clock old new
gone clock old new none selected e = absurd cc

made : (clock : ℕ) (old : Option Selected) (new : Selected) (b : Bool) → new.since ≡ clock → (b ≡ true → old ≡ None)
    → Follows clock old (cond b (Some new) old)
made clock old new false since none selected e = stays clock old selected e
made clock old new true since none selected e = inr (none refl, (let i : selected.since ≡ clock = cc in omega arith))

-- a pattern that is not selected is selected
pub selects : (clock : ℕ) (vrf : VrfId) (pattern : Pattern) (old : FinMap pattern_cmp Selected)
    → maps.get old (record { vrf = vrf; pattern = pattern }) ≡ None → AllFollow clock old (with_selection clock vrf pattern old)
selects clock vrf pattern old none own =
    let at : VrfPattern = record { vrf = vrf; pattern = pattern } in
    let new : Selected =
    record { number = free_number (λ number. list_any (is_used vrf number) (maps.entries old)) (maps.len old) 1; since = clock; run = false } in
    subst (Follows clock (maps.get old own)) (sym (get-insert pattern_total old at new own))
    (made clock (maps.get old own) new (eq_by_cmp pattern_cmp own at) refl
    (λ e. sym (get_tied pattern_total old own at (equal (pattern_cmp own at) e)) ∙ none))

removed : (clock : ℕ) (old : Option Selected) (b : Bool) → Follows clock old (cond b None old)
removed clock old true = gone clock old None refl
removed clock old false = stays clock old

pub unselects : (clock : ℕ) (at : VrfPattern) (old : FinMap pattern_cmp Selected) → AllFollow clock old (maps.remove old at)
unselects clock at old own =
    subst (Follows clock (maps.get old own)) (sym (get-remove pattern_total old at own))
    (removed clock (maps.get old own) (eq_by_cmp pattern_cmp own at))

-- an entry of a map whose values are changed
mapped_head : {V W : Type 0} (b : Bool) (value : V) (f : V → W) (rest : Option V)
    → cond b (Some (f value)) (option_map f rest) ≡ option_map f (cond b (Some value) rest)
mapped_head true value f rest = refl
mapped_head false value f rest = refl

find_run : (delay clock : ℕ) (own : VrfPattern) (es : List (VrfPattern × Selected))
    → find pattern_cmp own (map (λ (entry : VrfPattern × Selected). (entry.0, selection_run delay clock entry.1)) es)
    ≡ option_map (selection_run delay clock) (find pattern_cmp own es)
find_run delay clock own [] = refl
find_run delay clock own (e ∷ es) =
    ap (cond (eq_by_cmp pattern_cmp own e.0) (Some (selection_run delay clock e.1))) (find_run delay clock own es)
    ∙ mapped_head (eq_by_cmp pattern_cmp own e.0) e.1 (selection_run delay clock) (find pattern_cmp own es)

runs_one : (clock delay now : ℕ) (old : Option Selected) → Follows clock old (option_map (selection_run delay now) old)
runs_one clock delay now None selected e = absurd cc
runs_one clock delay now (Some before) selected e = inl (before, refl, (let i : before.since ≡ selected.since = cc in i))

-- timers change no clock
pub runs : (clock delay now : ℕ) (old : FinMap pattern_cmp Selected) → AllFollow clock old (selections_run delay now old)
runs clock delay now old own =
    subst (Follows clock (maps.get old own))
    (sym (get-from_entries pattern_total (map (λ (entry : VrfPattern × Selected). (entry.0, selection_run delay now entry.1)) (maps.entries old)) own
    ∙ find_run delay now own (maps.entries old)
    ∙ ap (option_map (selection_run delay now)) (sym (get-entries old own))))
    (runs_one clock delay now (maps.get old own))

pub empties : (clock : ℕ) (old : FinMap pattern_cmp Selected) → AllFollow clock old maps.empty
empties clock old own = gone clock (maps.get old own) (maps.get maps.empty own) (get-empty pattern_cmp own)

-- ---- VRFs of one edge

-- no two of them have one route distinguisher
abbrev pub Distinct : List OwnVrf → Type 0
Distinct [] = Unit {0}
Distinct (own ∷ more) = AllByRecursion (λ (other : OwnVrf). own.vrf.rd ≢ other.vrf.rd) more × Distinct more

apart_from : (me : NodeId) (vrf : Vrf) → vrf.edge.0 ≡ me.0 → (vrfs : List Vrf) → AllByRecursion (AreApart vrf) vrfs → (number : ℕ)
    → AllByRecursion (λ (other : OwnVrf). vrf.rd ≢ other.vrf.rd) (vrfs_from me number vrfs)
apart_from me vrf is [] h number = tt
apart_from me vrf is (next ∷ more) h number =
    elim (next.edge.0 == me.0) as (λ b. (next.edge.0 == me.0) ≡ b
    → AllByRecursion (λ (other : OwnVrf). vrf.rd ≢ other.vrf.rd)
    (cond b (record { id = record { 0 = number }; vrf = next } ∷ vrfs_from me (number + 1) more) (vrfs_from me (number + 1) more))) [
      | true ↦ λ e. (h.0.rds (is ∙ sym (eqb-true next.edge.0 me.0 e)), apart_from me vrf is more h.1 (number + 1))
      | false ↦ λ e. apart_from me vrf is more h.1 (number + 1)
    ] refl

pub own_distinct : (me : NodeId) (vrfs : List Vrf) → AllPairs AreApart vrfs → (number : ℕ) → Distinct (vrfs_from me number vrfs)
own_distinct me [] h number = tt
own_distinct me (vrf ∷ more) h number =
    let rest = own_distinct me more (λ i j d below within. h (suc i) (suc j) d (omega arith) (omega arith)) (number + 1) in
    let all : All (AreApart vrf) more = λ j d within. h zero (suc j) d (omega arith) (omega arith) in
    elim (vrf.edge.0 == me.0) as (λ b. (vrf.edge.0 == me.0) ≡ b
    → Distinct (cond b (record { id = record { 0 = number }; vrf = vrf } ∷ vrfs_from me (number + 1) more) (vrfs_from me (number + 1) more))) [
      | true ↦ λ e. (apart_from me vrf (eqb-true vrf.edge.0 me.0 e) more (recursion_from_All (AreApart vrf) more all) (number + 1), rest)
      | false ↦ λ e. rest
    ] refl

-- ---- the selection whose route has a key

module _ (place : EdgePlace) (afi : Afi) (rd : Rd) (source group : Option Addr) (originator : Addr) where
  abbrev route_key : Key
  route_key = Mcast afi (routes.Selective rd source group originator)

  abbrev pattern : Pattern
  pattern = record { source = source; group = group }

  abbrev is_of : OwnVrf → Bool
  is_of own = eq_by_cmp key_cmp route_key (selective_key place own.vrf pattern)

  one_rd : (own : OwnVrf) → is_of own ≡ true → rd ≡ own.vrf.rd
  one_rd own e = (let i : route_key ≡ selective_key place own.vrf pattern = one_key key_exact route_key (selective_key place own.vrf pattern) e in cc)

  not_of : (own other : OwnVrf) → is_of own ≡ true → own.vrf.rd ≢ other.vrf.rd → is_of other ≡ false
  not_of own other e ne =
      elim (is_of other) as (λ b. is_of other ≡ b → b ≡ false) [ true ↦ λ i. absurd (ne (sym (one_rd own e) ∙ one_rd other i)) | false ↦ λ i. refl ]
      refl

  none_among : (control : Control) (own : OwnVrf) → is_of own ≡ true → (owns : List OwnVrf)
      → AllByRecursion (λ (other : OwnVrf). own.vrf.rd ≢ other.vrf.rd) owns → first_selected place control route_key owns ≡ None
  none_among control own e [] h = refl
  none_among control own e (other ∷ more) h =
      ap (λ b. elim (cond b (maps.get control.selections (record { vrf = other.id; pattern = pattern })) None)
      [ None ↦ first_selected place control route_key more | Some found ↦ Some found ]) (not_of own other e h.0)
      ∙ none_among control own e more h.1

  or_none : (o : Option Selected) → elim o [ None ↦ None | Some found ↦ Some found ] ≡ o
  or_none None = refl
  or_none (Some found) = refl

  pub first_follows : (clock : ℕ) (old new : Control) (owns : List OwnVrf) → Distinct owns → AllFollow clock old.selections new.selections
      → Follows clock (first_selected place old route_key owns) (first_selected place new route_key owns)
  first_follows clock old new [] distinct follow = stays clock None
  first_follows clock old new (own ∷ more) distinct follow =
      let at : VrfPattern = record { vrf = own.id; pattern = pattern } in
      elim (is_of own) as (λ b. is_of own ≡ b →
      Follows clock (elim (cond b (maps.get old.selections at) None) [ None ↦ first_selected place old route_key more | Some found ↦ Some found ])
      (elim (cond b (maps.get new.selections at) None) [ None ↦ first_selected place new route_key more | Some found ↦ Some found ])) [
        | false ↦ λ e. first_follows clock old new more distinct.1 follow
        | true ↦ λ e.
            (let h : Follows clock (elim (maps.get old.selections at) [ None ↦ None | Some found ↦ Some found ])
            (elim (maps.get new.selections at) [ None ↦ None | Some found ↦ Some found ]) =
            subst (λ o. Follows clock o (elim (maps.get new.selections at) [ None ↦ None | Some found ↦ Some found ]))
            (sym (or_none (maps.get old.selections at)))
            (subst (Follows clock (maps.get old.selections at)) (sym (or_none (maps.get new.selections at))) (follow at)) in
            subst (λ o. Follows clock (elim (maps.get old.selections at) [ None ↦ o | Some found ↦ Some found ])
            (elim (maps.get new.selections at) [ None ↦ first_selected place new route_key more | Some found ↦ Some found ]))
            (sym (none_among old own e more distinct.0))
            (subst (λ o. Follows clock (elim (maps.get old.selections at) [ None ↦ None | Some found ↦ Some found ])
            (elim (maps.get new.selections at) [ None ↦ o | Some found ↦ Some found ])) (sym (none_among new own e more distinct.0)) h))
      ] refl

-- keys of other kinds have none
pub none_selected : (place : EdgePlace) (control : Control) (key : Key) → ((own : OwnVrf) → selected_in place control key own ≡ None)
    → (owns : List OwnVrf) → first_selected place control key owns ≡ None
none_selected place control key none [] = refl
none_selected place control key none (own ∷ more) =
    ap (λ o. elim o [ None ↦ first_selected place control key more | Some found ↦ Some found ]) (none own) ∙ none_selected place control key none more
