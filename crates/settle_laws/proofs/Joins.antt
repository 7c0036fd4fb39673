-- What an edge puts over BGP in answer to a route: joins alone.
use Rattle.std.proofs.Common.{◌≡◌, ℕ, ◌==◌, Bool, true, false, cond, ◌⊎◌, inl, inr, List, [], ◌∷◌, ◌++◌, Option, Some, None, is_some, refl, sym, ap, ◌∙◌, fold}
use Rattle.std.specs.List.{AllByRecursion}
use Rattle.std.specs.FinMap as maps
use Rattle.std.specs.FinMap.{FinMap, find, get-insert, get-from_entries}
use Rattle.std.specs.Ordering.{eq_by_cmp}
use Rattle.std.specs.Option.{option_eq}
use Rattle.std.proofs.lemmas.Bool.{cases_Bool, eqb-true}
use Rattle.mv_base.specs.declared.ids.NodeId.{NodeId}
use Rattle.bgp_messages.specs.declared.bgp_attributes.key.Key.{Key}
use Rattle.bgp_messages.specs.declared.bgp_attributes.key.Key.TheVariants.{Mcast}
use Rattle.bgp_values.specs.declared.mvpn_nlri.route.Route.TheVariants as routes
use Rattle.bgp_messages.specs.declared.bgp_attributes.update.Message.{Message}
use Rattle.bgp_messages.specs.bgp_update.Table.{changes_of}
use Rattle.label_defs.specs.Keys.{node_cmp}
use Rattle.label_defs.proofs.KeyLemmas.{node_cmp_total, node_cmp_exact}
use Rattle.mv_base.specs.declared.table_defs.change.Change.{Change}
use Rattle.mv_base.specs.table_defs.Changes.{key_of, value_of, changes, values_at, difference}
use Rattle.table_laws.proofs.CompareLemmas.{own_key, one_key, other_key}
use Rattle.table_laws.proofs.KeyLemmas.{values_at-changes}
use Rattle.edge_defs.specs.Edge.{VrfFlow, Upstream, Site, Remote, Taken, Control}
use Rattle.edge_defs.specs.Held.{join_route, join_routes, held_for, told, put_to}
use Rattle.edge_defs.specs.Imported.{found_in}
use Rattle.edge_defs.specs.Keys.{Value, Table, key_cmp, same_value}
use Rattle.bgp_messages.specs.bgp_update.Written.{afi_of}
use Rattle.edge_defs.specs.Originated.{import_target, originated}
use Rattle.edge_defs.specs.Place.{EdgePlace, own_addr}
use Rattle.edge_defs.specs.Steps as steps
use Rattle.edge_defs.specs.Steps.{taken_change, control_step, refreshed}
use Rattle.edge_defs.proofs.KeyLemmas.{key_total, key_exact, value_exact}
use Rattle.settle_laws.specs.Ranks.{kind_of, IsJoin}

-- ---- the changes of two tables that agree but for some keys

none_at : {X : Type 0} (b : Bool) (x : X) (xs : List X) → cond b (x ∷ xs) xs ≡ [] → xs ≡ []
none_at true x xs e = absurd cc
none_at false x xs e = e

all_within : (P : Key → Type 0) (all : List (Change Key Value)) → ((key : Key) → (values_at key_cmp key all ≡ []) ⊎ P key)
    → AllByRecursion (λ change. P (key_of change)) all
all_within P [] h = tt
all_within P (change ∷ more) h = (
  elim (h (key_of change)) [
    | inl none ↦ absurd (let bad : value_of change ∷ values_at key_cmp (key_of change) more ≡ [] =
        ap (λ (b : Bool). cond b (value_of change ∷ values_at key_cmp (key_of change) more) (values_at key_cmp (key_of change) more))
        (sym (own_key key_total (key_of change))) ∙ none in cc)
    | inr is ↦ is
  ],
  all_within P more (λ key. elim (h key) [
    | inl none ↦ inl (none_at (eq_by_cmp key_cmp key (key_of change)) (value_of change) (values_at key_cmp key more) none)
    | inr is ↦ inr is
  ]),
)

same_values : (o : Option Value) → option_eq same_value o o ≡ true
same_values None = refl
same_values (Some value) = (value_exact value value).1 refl

no_difference : (old new : Option Value) → old ≡ new → difference same_value old new ≡ []
no_difference old new same = ap (difference same_value old) (sym same) ∙ ap (λ (b : Bool). cond b [] (old ∷ [])) (same_values old)

changes_within : (P : Key → Type 0) (old new : Table) → ((key : Key) → (maps.get old key ≡ maps.get new key) ⊎ P key)
    → AllByRecursion (λ change. P (key_of change)) (changes same_value old new)
changes_within P old new h = all_within P (changes same_value old new) (λ key. elim (h key) [
  | inl same ↦ inl (values_at-changes key_total same_value old new key ∙ no_difference (maps.get old key) (maps.get new key) same)
  | inr is ↦ inr is
])

-- ---- tables for peers

joins_all : (place : EdgePlace) (peer : NodeId) (flows : List (VrfFlow × Option Upstream))
    → AllByRecursion (λ (entry : Key × Value). kind_of entry.0 ≡ 7) (found_in (join_route place peer) flows)
joins_all place peer [] = tt
joins_all place peer ((flow, None) ∷ more) = joins_all place peer more
joins_all place peer ((flow, Some (Site site)) ∷ more) = joins_all place peer more
joins_all place peer ((flow, Some (Remote edge rd import source_as)) ∷ more) =
    let rest = joins_all place peer more in
    let entry : Key × Value = (
      Mcast (afi_of flow.source) (routes.SourceJoin rd source_as flow.source flow.group),
      record { next_hop = own_addr place; comms = import_target import ∷ []; pmsi = None },
    ) in
    elim (edge.0 == peer.0) as (λ b. AllByRecursion (λ (entry : Key × Value). kind_of entry.0 ≡ 7)
    (elim (cond b (Some entry) None) [
      | None ↦ found_in (join_route place peer) more
      | Some found ↦
          found ∷ found_in (join_route place peer) more
    ])) [
      | true ↦ (refl, rest)
      | false ↦ rest
    ]

other : (key own : Key) → (kind_of key == 7) ≡ false → kind_of own ≡ 7 → eq_by_cmp key_cmp key own ≡ false
other key own not is =
    other_key key_exact key own (λ same. let x : (kind_of key == 7) ≡ true = ap (λ (n : ℕ). n == 7) (ap kind_of same ∙ is) in let bad : true ≡ false =
    sym x ∙ not in absurd cc)

not_found : (key : Key) → (kind_of key == 7) ≡ false → (es : List (Key × Value)) → AllByRecursion (λ (entry : Key × Value). kind_of entry.0 ≡ 7) es
    → find key_cmp key es ≡ None
not_found key not [] all = refl
not_found key not (e ∷ es) all = ap (λ (b : Bool). cond b (Some e.1) (find key_cmp key es)) (other key e.0 not all.0) ∙ not_found key not es all.1

find_front : (key : Key) (xs ys : List (Key × Value)) → find key_cmp key ys ≡ None → find key_cmp key (xs ++ ys) ≡ find key_cmp key xs
find_front key [] ys none = none
find_front key (x ∷ xs) ys none = ap (cond (eq_by_cmp key_cmp key x.0) (Some x.1)) (find_front key xs ys none)

-- what is held at a key that is no join
held_at : (place : EdgePlace) (control : Control) (peer : NodeId) (key : Key) → (kind_of key == 7) ≡ false
    → maps.get (held_for place control peer) key ≡ find key_cmp key (originated place control)
held_at place control peer key not =
    get-from_entries key_total (originated place control ++ join_routes place control peer) key
    ∙ find_front key (originated place control) (join_routes place control peer)
    (not_found key not (join_routes place control peer) (joins_all place peer (maps.entries control.flows)))

both_tables : (b c : Bool) (x y : Table) (key : Key) → b ≡ c → maps.get x key ≡ maps.get y key
    → maps.get (cond b x maps.empty) key ≡ maps.get (cond c y maps.empty) key
both_tables true true x y key e h = h
both_tables false false x y key e h = refl
both_tables true false x y key e h = absurd cc
both_tables false true x y key e h = absurd cc

-- two controls that originate the same, with the same peers up, differ in joins alone
pub told_apart : (place : EdgePlace) (old new : Control) (peer : NodeId) → is_some (maps.get old.peers peer) ≡ is_some (maps.get new.peers peer)
    → originated place old ≡ originated place new → AllByRecursion IsJoin (put_to place old new peer)
told_apart place old new peer ups same =
    elim (is_some (maps.get new.peers peer)) as (λ b. AllByRecursion IsJoin
    (cond b (changes same_value (told place old peer) (told place new peer)) [])) [
      | false ↦ tt
      | true ↦ changes_within (λ key. kind_of key ≡ 7) (told place old peer) (told place new peer) (λ key. elim (cases_Bool (kind_of key == 7)) [
        | inl is ↦ inr (eqb-true (kind_of key) 7 is)
        | inr not ↦ inl (both_tables (is_some (maps.get old.peers peer)) (is_some (maps.get new.peers peer)) (held_for place old peer)
            (held_for place new peer) key ups
            (held_at place old peer key not ∙ ap (find key_cmp key) same ∙ sym (held_at place new peer key not)))
      ])
    ]

put_up : (b : Bool) (taken : Taken) (o : Option Taken) → (b ≡ true → is_some o ≡ true) → is_some o ≡ is_some (cond b (Some taken) o)
put_up true taken o h = h refl
put_up false taken o h = refl

up_kept : (peers : FinMap node_cmp Taken) (peer : NodeId) (old new : Taken) → maps.get peers peer ≡ Some old → (q : NodeId)
    → is_some (maps.get peers q) ≡ is_some (maps.get (maps.insert peers peer new) q)
up_kept peers peer old new at q =
    put_up (eq_by_cmp node_cmp q peer) new (maps.get peers q) (λ e. ap is_some (ap (maps.get peers) (one_key node_cmp_exact q peer e) ∙ at))
    ∙ ap is_some (sym (get-insert node_cmp_total peers peer new q))

-- A route that is taken is answered over BGP by joins alone.
pub routes_answered : (place : EdgePlace) (now : ℕ) (old : Control) (peer : NodeId) (message : Message) (to : NodeId)
    → AllByRecursion IsJoin (put_to place old (control_step place now old (steps.Update peer message)) to)
routes_answered place now old peer message to = by (maps.get old.peers peer) refl
  where
    by : (o : Option Taken) → maps.get old.peers peer ≡ o → AllByRecursion IsJoin (put_to place old (refreshed place now (elim o [
      | None ↦ old
      | Some taken ↦ record old { peers = maps.insert old.peers peer (fold (taken_change now) taken (changes_of message)) }
    ])) to)
    by None at = told_apart place old (refreshed place now old) to refl refl
    by (Some taken) at =
        let new : Taken = fold (taken_change now) taken (changes_of message) in
        told_apart place old (refreshed place now (record old { peers = maps.insert old.peers peer new })) to (up_kept old.peers peer taken new at to)
        refl
