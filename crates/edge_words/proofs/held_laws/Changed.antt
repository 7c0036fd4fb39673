-- What an edge holds towards a peer once one route more is originated, or one less.
use Rattle.std.proofs.Common.{◌≡◌, ◌≢◌, ◌==◌, Bool, true, false, cond, inl, inr, [], ◌∷◌, ◌++◌, List, Option, Some, None, refl, sym, ap, ◌∙◌}
use Rattle.std.specs.Ordering.{eq_by_cmp}
use Rattle.std.specs.FinMap as maps
use Rattle.std.specs.FinMap.{find}
use Rattle.std.proofs.lemmas.Bool.{cases_Bool}
use Rattle.mv_base.specs.declared.ids.NodeId.{NodeId}
use Rattle.bgp_messages.specs.declared.bgp_attributes.key.Key.{Key}
use Rattle.scenario_defs.specs.Rules.{Rules}
use Rattle.selective_defs.specs.Selective.{Among}
use Rattle.edge_defs.proofs.table_laws.CompareLemmas.{one_key, own_key, other_key}
use Rattle.edge_defs.specs.Edge.{Control}
use Rattle.edge_defs.specs.Held.{held_for, join_routes}
use Rattle.edge_defs.specs.Keys.{Value, key_cmp}
use Rattle.edge_defs.specs.Originated.{routes_of, unicast_routes, selective_routes, active_routes, originated}
use Rattle.edge_defs.specs.Place.{EdgePlace, OwnVrf, own_vrfs}
use Rattle.edge_defs.proofs.KeyLemmas.{key_total, key_exact}
use Rattle.edge_words.proofs.calm_laws.Lists.{among_either, flat_map_among}
use Rattle.edge_words.proofs.calm_laws.Entries.{Entry, kind_of}
use Rattle.edge_words.specs.held_laws.Held.{IsOriginated, Inclusive, Originates}
use Rattle.edge_words.proofs.held_laws.Originated.{unicast_from, selective_from, active_from, is_no_join, held_is, is_what_is_held}

-- ---- joins stand after all else

in_routes : (place : EdgePlace) (control : Control) (own : OwnVrf) (entry : Entry) → Among entry (routes_of place control own)
    → IsOriginated place control own entry.0 entry.1
in_routes place control own entry (inl e) = Inclusive (ap (λ (x : Entry). x.0) e) (ap (λ (x : Entry). x.1) e)
in_routes place control own entry (inr b) =
    elim (among_either entry (unicast_routes place own) (selective_routes place control own ++ active_routes place control own) b) [
      | inl c ↦ unicast_from place control own entry c
      | inr c ↦ elim (among_either entry (selective_routes place control own) (active_routes place control own) c) [
        | inl d ↦ selective_from place control own entry d
        | inr d ↦ active_from place control own entry d
      ]
    ]

find_after : (key : Key) (xs ys : List Entry) → ((entry : Entry) → Among entry xs → key ≢ entry.0)
    → find key_cmp key (xs ++ ys) ≡ find key_cmp key ys
find_after key [] ys none = refl
find_after key (x ∷ xs) ys none =
    ap (λ (b : Bool). cond b (Some x.1) (find key_cmp key (xs ++ ys))) (other_key key_exact key x.0 (none x (inl refl)))
    ∙ find_after key xs ys (λ entry a. none entry (inr a))

pub held_join : (place : EdgePlace) (control : Control) (peer : NodeId) (key : Key) → (kind_of key == 7) ≡ true
    → maps.get (held_for place control peer) key ≡ find key_cmp key (join_routes place control peer)
held_join place control peer key is =
    maps.get-from_entries key_total (originated place control ++ join_routes place control peer) key
    ∙ find_after key (originated place control) (join_routes place control peer) (λ entry a same.
    let by = flat_map_among (routes_of place control) entry (own_vrfs place) a in
    let not = is_no_join place control by.0 entry.0 entry.1 (in_routes place control by.0 entry by.2) in
    let bad : true ≡ false = sym is ∙ ap (λ (k : Key). kind_of k == 7) same ∙ not in cc)

-- ---- all but one route stay

-- at each key but that one the same routes are originated
pub record AlikeBut (place : EdgePlace) (key : Key) (old new : Control) : Type 0 where
  pub there : (q : Key) (w : Value) → q ≢ key → Originates place old q w → Originates place new q w
  pub back : (q : Key) (w : Value) → q ≢ key → Originates place new q w → Originates place old q w

same_options : {V : Type 0} (a b : Option V) → ((v : V) → a ≡ Some v → b ≡ Some v) → ((v : V) → b ≡ Some v → a ≡ Some v) → a ≡ b
same_options None None there back = refl
same_options None (Some v) there back = back v refl
same_options (Some v) b there back = sym (there v refl)

module _ (place : EdgePlace) (rules : Rules place.scenario) (peer : NodeId) (old new : Control) (flows : new.flows ≡ old.flows) where
  joins_stay : (q : Key) → (kind_of q == 7) ≡ true → maps.get (held_for place new peer) q ≡ maps.get (held_for place old peer) q
  joins_stay q is =
      held_join place new peer q is
      ∙ ap (λ f. find key_cmp q (join_routes place (record old { flows = f }) peer)) flows ∙ sym (held_join place old peer q is)

  others_stay : (key : Key) → AlikeBut place key old new → (q : Key) → q ≢ key
      → maps.get (held_for place new peer) q ≡ maps.get (held_for place old peer) q
  others_stay key alike q ne = elim (cases_Bool (kind_of q == 7)) [
    | inl is ↦ joins_stay q is
    | inr not ↦ same_options (maps.get (held_for place new peer) q) (maps.get (held_for place old peer) q)
        (λ w h. is_what_is_held place old peer q w rules (alike.back q w ne (held_is place new peer q w not h)))
        (λ w h. is_what_is_held place new peer q w rules (alike.there q w ne (held_is place old peer q w not h)))
  ]

  -- one route more, or another in its place
  pub held_more : (key : Key) (value : Value) → AlikeBut place key old new → Originates place new key value
      → held_for place new peer ≡ maps.insert (held_for place old peer) key value
  held_more key value alike by =
      maps.same_map key_total key_exact (held_for place new peer) (maps.insert (held_for place old peer) key value) (λ q.
      elim (cases_Bool (eq_by_cmp key_cmp q key)) [
        | inl tied ↦
            (let one : q ≡ key = one_key key_exact q key tied in
            ap (maps.get (held_for place new peer)) one ∙ is_what_is_held place new peer key value rules by
            ∙ sym (maps.get-insert key_total (held_for place old peer) key value q
            ∙ ap (λ (b : Bool). cond b (Some value) (maps.get (held_for place old peer) q)) tied))
        | inr apart ↦
            others_stay key alike q (λ one. let bad : true ≡ false =
            sym (ap (λ (x : Key). eq_by_cmp key_cmp x key) one ∙ own_key key_total key) ∙ apart in cc)
            ∙ sym (maps.get-insert key_total (held_for place old peer) key value q
            ∙ ap (λ (b : Bool). cond b (Some value) (maps.get (held_for place old peer) q)) apart)
      ])

  -- one route less
  pub held_less : (key : Key) → (kind_of key == 7) ≡ false → AlikeBut place key old new → ((value : Value) → Originates place new key value → ⊥)
      → held_for place new peer ≡ maps.remove (held_for place old peer) key
  held_less key not alike none =
      maps.same_map key_total key_exact (held_for place new peer) (maps.remove (held_for place old peer) key) (λ q.
      elim (cases_Bool (eq_by_cmp key_cmp q key)) [
        | inl tied ↦
            (let one : q ≡ key = one_key key_exact q key tied in
            ap (maps.get (held_for place new peer)) one
            ∙ same_options (maps.get (held_for place new peer) key) None (λ w h. absurd (none w (held_is place new peer key w not h)))
            (λ w h. absurd cc)
            ∙ sym (maps.get-remove key_total (held_for place old peer) key q
            ∙ ap (λ (b : Bool). cond b None (maps.get (held_for place old peer) q)) tied))
        | inr apart ↦
            others_stay key alike q (λ one. let bad : true ≡ false =
            sym (ap (λ (x : Key). eq_by_cmp key_cmp x key) one ∙ own_key key_total key) ∙ apart in cc)
            ∙ sym (maps.get-remove key_total (held_for place old peer) key q
            ∙ ap (λ (b : Bool). cond b None (maps.get (held_for place old peer) q)) apart)
      ])

  -- the same routes
  pub held_same : ((q : Key) (w : Value) → Originates place old q w → Originates place new q w)
      → ((q : Key) (w : Value) → Originates place new q w → Originates place old q w)
      → held_for place new peer ≡ held_for place old peer
  held_same there back =
      maps.same_map key_total key_exact (held_for place new peer) (held_for place old peer) (λ q. elim (cases_Bool (kind_of q == 7)) [
        | inl is ↦ joins_stay q is
        | inr not ↦ same_options (maps.get (held_for place new peer) q) (maps.get (held_for place old peer) q)
            (λ w h. is_what_is_held place old peer q w rules (back q w (held_is place new peer q w not h)))
            (λ w h. is_what_is_held place new peer q w rules (there q w (held_is place old peer q w not h)))
      ])
