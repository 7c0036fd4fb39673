-- An edge holds a selective route exactly for each selection, and what it tells changes where a selection is new.
use Rattle.std.proofs.Common.{◌≡◌, ◌≢◌, ◌==◌, Bool, true, false, cond, ◌&&◌, ◌||◌, inl, inr, List, [], ◌∷◌, ◌++◌, Option, Some, None, refl, sym, ap, ◌∙◌}
use Rattle.std.proofs.lemmas.Bool.{cases_Bool, eqb-true, eq-eqb}
use Rattle.std.specs.Prelude.{map, is_some}
use Rattle.std.specs.List.{filter, flat_map}
use Rattle.std.specs.Ordering.{eq_by_cmp}
use Rattle.std.specs.FinMap as maps
use Rattle.std.specs.FinMap.{find, get-entries, get-from_entries}
use Rattle.mv_base.specs.declared.addr.Addr.{Addr}
use Rattle.mv_base.specs.declared.ids.NodeId.{NodeId}
use Rattle.mv_base.specs.declared.pattern.Pattern.{Pattern}
use Rattle.mv_base.specs.declared.rd.Rd.{Rd}
use Rattle.bgp_messages.specs.bgp_values.declared.mvpn_nlri.route.Afi.{Afi}
use Rattle.bgp_messages.specs.bgp_values.declared.mvpn_nlri.route.Route.TheVariants as routes
use Rattle.bgp_messages.specs.declared.bgp_attributes.key.Key.{Key}
use Rattle.bgp_messages.specs.declared.bgp_attributes.key.Key.TheVariants.{Mcast, Unicast}
use Rattle.scenario_defs.specs.Home.{local_routes}
use Rattle.edge_defs.proofs.table_laws.CompareLemmas.{own_key, one_key, other_key}
use Rattle.edge_defs.specs.Edge.{VrfPattern, pattern_cmp, Selected, VrfFlow, Upstream, Site, Remote, Control}
use Rattle.edge_defs.specs.Held.{held_for, join_route, join_routes}
use Rattle.edge_defs.specs.Imported.{found_in}
use Rattle.edge_defs.specs.Keys.{Value, key_cmp}
use Rattle.edge_defs.specs.Originated.{selective_key, tunnel_value, plain_value, unicast_value, active_key, inclusive_route, unicast_routes, selective_routes, active_routes, routes_of, originated, notes_of}
use Rattle.edge_defs.specs.Place.{EdgePlace, OwnVrf, own_vrfs, tunnel_number}
use Rattle.edge_defs.proofs.KeyLemmas.{key_total, key_exact, pattern_total, pattern_exact}
use Rattle.edge_words.specs.edge_laws.Rule.{selected_in, first_selected, selected_at}

-- ---- whether a list has a key

abbrev has : Key → List (Key × Value) → Bool
has key es = is_some (find key_cmp key es)

has_head : {V : Type 0} (b : Bool) (value : V) (rest : Option V) → is_some (cond b (Some value) rest) ≡ (b || is_some rest)
has_head true value rest = refl
has_head false value rest = refl

or_again : (a b c : Bool) → (a || (b || c)) ≡ ((a || b) || c)
or_again true b c = refl
or_again false b c = refl

or_nothing : (a : Bool) → (a || false) ≡ a
or_nothing true = refl
or_nothing false = refl

has_both : (key : Key) (xs ys : List (Key × Value)) → has key (xs ++ ys) ≡ (has key xs || has key ys)
has_both key [] ys = refl
has_both key (e ∷ xs) ys =
    has_head (eq_by_cmp key_cmp key e.0) e.1 (find key_cmp key (xs ++ ys))
    ∙ ap (λ b. eq_by_cmp key_cmp key e.0 || b) (has_both key xs ys)
    ∙ or_again (eq_by_cmp key_cmp key e.0) (has key xs) (has key ys)
    ∙ ap (λ b. b || has key ys) (sym (has_head (eq_by_cmp key_cmp key e.0) e.1 (find key_cmp key xs)))

none_mapped : {A : Type 0} (key : Key) (f : A → Key × Value) → ((x : A) → key ≢ (f x).0) → (xs : List A) → has key (map f xs) ≡ false
none_mapped key f ne [] = refl
none_mapped key f ne (x ∷ xs) =
    ap (λ b. is_some (cond b (Some (f x).1) (find key_cmp key (map f xs)))) (other_key key_exact key (f x).0 (ne x)) ∙ none_mapped key f ne xs

abbrev IsOther : Key → Option (Key × Value) → Type 0
IsOther key None = Unit {0}
IsOther key (Some found) = key ≢ found.0

none_one : (key : Key) (o : Option (Key × Value)) (rest : List (Key × Value)) → IsOther key o → has key rest ≡ false
    → has key (elim o [ None ↦ rest | Some found ↦ found ∷ rest ]) ≡ false
none_one key None rest h e = e
none_one key (Some found) rest h e = ap (λ b. is_some (cond b (Some found.1) (find key_cmp key rest))) (other_key key_exact key found.0 h) ∙ e

none_found : {A : Type 0} (key : Key) (f : A → Option (Key × Value)) → ((x : A) → IsOther key (f x)) → (xs : List A) → has key (found_in f xs) ≡ false
none_found key f other [] = refl
none_found key f other (x ∷ xs) = none_one key (f x) (found_in f xs) (other x) (none_found key f other xs)

other_cond : (key : Key) (b : Bool) (found : Key × Value) → key ≢ found.0 → IsOther key (cond b (Some found) None)
other_cond key true found ne = ne
other_cond key false found ne = tt

-- ---- selective routes

split_and : (a b c : Bool) → ((a && b) || (a && c)) ≡ (a && (b || c))
split_and true b c = refl
split_and false b c = refl

filtered_head : (key : Key) (b : Bool) (found : Key × Value) (rest : List (Key × Value))
    → has key (cond b (found ∷ rest) rest) ≡ (cond b (eq_by_cmp key_cmp key found.0) false || has key rest)
filtered_head key true found rest = has_head (eq_by_cmp key_cmp key found.0) found.1 (find key_cmp key rest)
filtered_head key false found rest = refl

map_head : {A B : Type 0} (f : A → B) (b : Bool) (x : A) (rest : List A) → map f (cond b (x ∷ rest) rest) ≡ cond b (f x ∷ map f rest) (map f rest)
map_head f true x rest = refl
map_head f false x rest = refl

never : (a b : Bool) → (a ≡ true → b ≡ true → ⊥) → cond a b false ≡ false
never true true ne = absurd (ne refl refl)
never true false ne = refl
never false b ne = refl

and_nothing : (a : Bool) → (a && false) ≡ false
and_nothing true = refl
and_nothing false = refl

and_all : (a : Bool) → (a && true) ≡ a
and_all true = refl
and_all false = refl

module _ (place : EdgePlace) (afi : Afi) (rd : Rd) (source group : Option Addr) (originator : Addr) where
  abbrev route_key : Key
  route_key = Mcast afi (routes.Selective rd source group originator)

  abbrev pattern : Pattern
  pattern = record { source = source; group = group }

  abbrev at : OwnVrf → VrfPattern
  at own = record { vrf = own.id; pattern = pattern }

  abbrev is_of : OwnVrf → Pattern → Bool
  is_of own other = eq_by_cmp key_cmp route_key (selective_key place own.vrf other)

  one_pattern : (own : OwnVrf) (other : Pattern) → is_of own other ≡ true → other ≡ pattern
  one_pattern own other e =
      let i : route_key ≡ selective_key place own.vrf other = one_key key_exact route_key (selective_key place own.vrf other) e in
      let s : other.source ≡ source = cc in
      let g : other.group ≡ group = cc in
      λ j. record { source = s j; group = g j }

  one_at : (own : OwnVrf) (entry : VrfPattern) → (entry.vrf.0 == own.id.0) ≡ true → is_of own entry.pattern ≡ true → at own ≡ entry
  one_at own entry e f =
      let v = eqb-true entry.vrf.0 own.id.0 e in
      let p = one_pattern own entry.pattern f in
      λ j. record { vrf = record { 0 = sym v j }; pattern = sym p j }

  -- an entry gives a route of the key where it is the selection of the VRF whose route has the key
  entry_is : (own : OwnVrf) (entry : VrfPattern)
      → cond (entry.vrf.0 == own.id.0) (is_of own entry.pattern) false ≡ (is_of own pattern && eq_by_cmp pattern_cmp (at own) entry)
  entry_is own entry =
      elim (cases_Bool (eq_by_cmp pattern_cmp (at own) entry)) [
        | inl e ↦
            (let same : at own ≡ entry = one_key pattern_exact (at own) entry e in
            ap (λ (x : VrfPattern). cond (x.vrf.0 == own.id.0) (is_of own x.pattern) false) (sym same)
            ∙ ap (λ b. cond b (is_of own pattern) false) (eq-eqb own.id.0 own.id.0 refl)
            ∙ sym (and_all (is_of own pattern)) ∙ ap (λ b. is_of own pattern && b) (sym e))
        | inr e ↦
            never (entry.vrf.0 == own.id.0) (is_of own entry.pattern)
            (λ v p. (let i = ap (eq_by_cmp pattern_cmp (at own)) (sym (one_at own entry v p)) ∙ own_key pattern_total (at own) in absurd (cc)))
            ∙ sym (and_nothing (is_of own pattern)) ∙ ap (λ b. is_of own pattern && b) (sym e)
      ]

  abbrev route_by : OwnVrf → VrfPattern × Selected → Key × Value
  route_by own entry = (selective_key place own.vrf entry.0.pattern, tunnel_value place own.vrf (tunnel_number own.vrf entry.1.number))

  selective_has : (own : OwnVrf) (es : List (VrfPattern × Selected))
      → has route_key (map (route_by own) (filter (λ (entry : VrfPattern × Selected). entry.0.vrf.0 == own.id.0) es))
      ≡ (is_of own pattern && is_some (find pattern_cmp (at own) es))
  selective_has own [] = sym (and_nothing (is_of own pattern))
  selective_has own (e ∷ es) =
      let rest : List (VrfPattern × Selected) = filter (λ (entry : VrfPattern × Selected). entry.0.vrf.0 == own.id.0) es in
      ap (has route_key) (map_head (route_by own) (e.0.vrf.0 == own.id.0) e rest)
      ∙ filtered_head route_key (e.0.vrf.0 == own.id.0) (route_by own e) (map (route_by own) rest)
      ∙ ap (λ b. b || has route_key (map (route_by own) rest)) (entry_is own e.0)
      ∙ ap (λ b. (is_of own pattern && eq_by_cmp pattern_cmp (at own) e.0) || b) (selective_has own es)
      ∙ split_and (is_of own pattern) (eq_by_cmp pattern_cmp (at own) e.0) (is_some (find pattern_cmp (at own) es))
      ∙ ap (λ b. is_of own pattern && b) (sym (has_head (eq_by_cmp pattern_cmp (at own) e.0) e.1 (find pattern_cmp (at own) es)))

  some_cond : {V : Type 0} (b : Bool) (o : Option V) → (b && is_some o) ≡ is_some (cond b o None)
  some_cond true o = refl
  some_cond false o = refl

  own_has : (control : Control) (own : OwnVrf) → has route_key (routes_of place control own) ≡ is_some (selected_in place control route_key own)
  own_has control own =
      ap (λ b. is_some (cond b (Some (inclusive_route place own).1)
      (find key_cmp route_key (unicast_routes place own ++ (selective_routes place control own ++ active_routes place control own)))))
      (other_key key_exact route_key (inclusive_route place own).0 (λ e. absurd cc))
      ∙ has_both route_key (unicast_routes place own) (selective_routes place control own ++ active_routes place control own)
      ∙ ap (λ b. b || has route_key (selective_routes place control own ++ active_routes place control own))
      (none_mapped route_key (λ route. (Unicast own.vrf.rd route.prefix, unicast_value place own.vrf)) (λ route e. absurd cc)
      (local_routes place.scenario own.id))
      ∙ has_both route_key (selective_routes place control own) (active_routes place control own)
      ∙ ap (λ b. has route_key (selective_routes place control own) || b)
      (none_mapped route_key (λ note. (active_key own.vrf note.source note.group, plain_value place own.vrf)) (λ note e. absurd cc)
      (notes_of place control own.id))
      ∙ or_nothing (has route_key (selective_routes place control own))
      ∙ selective_has own (maps.entries control.selections)
      ∙ ap (λ o. is_of own pattern && is_some o) (sym (get-entries control.selections (at own)))
      ∙ some_cond (is_of own pattern) (maps.get control.selections (at own))

  first_some : (o rest : Option Selected) → (is_some o || is_some rest) ≡ is_some (elim o [ None ↦ rest | Some found ↦ Some found ])
  first_some None rest = refl
  first_some (Some found) rest = refl

  all_has : (control : Control) (owns : List OwnVrf)
      → has route_key (flat_map (routes_of place control) owns) ≡ is_some (first_selected place control route_key owns)
  all_has control [] = refl
  all_has control (own ∷ more) =
      has_both route_key (routes_of place control own) (flat_map (routes_of place control) more)
      ∙ ap (λ b. b || has route_key (flat_map (routes_of place control) more)) (own_has control own)
      ∙ ap (λ b. is_some (selected_in place control route_key own) || b) (all_has control more)
      ∙ first_some (selected_in place control route_key own) (first_selected place control route_key more)

  other_join : (peer : NodeId) (flow : VrfFlow × Option Upstream) → IsOther route_key (join_route place peer flow)
  other_join peer (flow, None) = tt
  other_join peer (flow, Some (Site site)) = tt
  other_join peer (flow, Some (Remote edge own import source_as)) = other_cond route_key (edge.0 == peer.0) _ (λ e. absurd cc)

  -- the table has the key exactly where a selection has it
  pub held_has : (control : Control) (peer : NodeId)
      → is_some (maps.get (held_for place control peer) route_key) ≡ is_some (selected_at place control route_key)
  held_has control peer =
      ap is_some (get-from_entries key_total (originated place control ++ join_routes place control peer) route_key)
      ∙ has_both route_key (originated place control) (join_routes place control peer)
      ∙ ap (λ b. has route_key (originated place control) || b)
      (none_found route_key (join_route place peer) (other_join peer) (maps.entries control.flows))
      ∙ or_nothing (has route_key (originated place control))
      ∙ all_has control (own_vrfs place)
