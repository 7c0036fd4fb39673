-- What edges say of themselves: it stays, its tunnels are among the trees, and its selective routes have no wildcard.
use Rattle.std.proofs.Common.{◌≡◌, ℕ, Bool, true, false, cond, not, List, [], is_some, is_none, Option, Some, None, ◌⊎◌, inl, inr, refl, sym, ap, subst, ◌∙◌}
use Rattle.std.specs.List.{AllByRecursion}
use Rattle.std.specs.Option.{option_eq}
use Rattle.std.specs.FinMap as maps
use Rattle.std.specs.FinSet as sets
use Rattle.std.proofs.lemmas.Option.{same_Some, none-some}
use Rattle.mv_base.specs.Lists.{Among}
use Rattle.mv_base.specs.Pattern.{rank}
use Rattle.mv_base.specs.declared.ids.NodeId.{NodeId}
use Rattle.mv_base.specs.declared.pattern.Pattern.{Pattern}
use Rattle.mldp.specs.declared.mldp_fec.fec.Fec.{Fec}
use Rattle.bgp_values.specs.declared.mvpn_nlri.route.Route.TheVariants as routes
use Rattle.bgp_messages.specs.declared.bgp_attributes.key.Key.{Key}
use Rattle.bgp_messages.specs.declared.bgp_attributes.key.Key.TheVariants as keys
use Rattle.scenario_defs.specs.Rules.{Rules}
use Rattle.mv_base.specs.table_defs.Changes.{lost, news, withdrawals, advertisements, changes}
use Rattle.mv_base.specs.declared.table_defs.change.Change.{Change}
use Rattle.mv_base.specs.declared.table_defs.change.Change.TheVariants.{Reach, Unreach}
use Rattle.edge_defs.specs.Edge.{Note, VrfPattern, Selected, Control}
use Rattle.edge_defs.specs.Held.{held_for, told, put_to}
use Rattle.edge_defs.specs.Imported.{lsp_of}
use Rattle.edge_defs.specs.Keys.{Value, Table, key_cmp, same_value}
use Rattle.edge_defs.specs.Originated.{tunnel_value}
use Rattle.edge_defs.specs.Place.{EdgePlace, OwnVrf, own_addr, own_vrfs, lsp, tunnel_number}
use Rattle.edge_defs.proofs.KeyLemmas.{key_total, key_exact}
use Rattle.edge_words.specs.held_laws.Held.{IsJoinKey, IsOriginated, Inclusive, Unicast, Selective, Active, Originates}
use Rattle.edge_words.proofs.held_laws.Originated.{held_both}
use Rattle.network_laws.proofs.Lists.{each_append, each_map}
use Rattle.network_laws.proofs.Maps.{all_entries, kept_is}
use Rattle.growth_laws.specs.Edges.{IsNarrow}

-- ---- what stays

-- Selections keep their numbers, and notes stay.
pub record SaysOn (old new : Control) : Type 0 where
  pub selections : (key : VrfPattern) (selected : Selected) → maps.get old.selections key ≡ Some selected
      → (next : Selected) × (maps.get new.selections key ≡ Some next) × (next.number ≡ selected.number)
  pub notes : (note : Note) → sets.contains old.notes note ≡ true → sets.contains new.notes note ≡ true

is_on : (place : EdgePlace) (old new : Control) (own : OwnVrf) (key : Key) (value : Value) → SaysOn old new → IsOriginated place old own key value
    → IsOriginated place new own key value
is_on place old new own key value on (Inclusive k v) = Inclusive k v
is_on place old new own key value on (Unicast prefix site among k v) = Unicast prefix site among k v
is_on place old new own key value on (Selective pattern selected at k v) =
    let next = on.selections (record { vrf = own.id; pattern = pattern }) selected at in
    Selective pattern next.0 next.1 k (v ∙ ap (λ (n : ℕ). tunnel_value place own.vrf (tunnel_number own.vrf n)) (sym next.2))
is_on place old new own key value on (Active iface source group of noted k v) =
    Active iface source group of (on.notes (record { iface = iface; source = source; group = group }) noted) k v

pub says_on : (place : EdgePlace) (old new : Control) (key : Key) (value : Value) → SaysOn old new → Originates place old key value
    → Originates place new key value
says_on place old new key value on by = record { own = by.own; among = by.among; is = is_on place old new by.own key value on by.is }

pub says_itself : (control : Control) → SaysOn control control
says_itself control = record { selections = λ key selected h. (selected, h, refl); notes = λ note h. h }

-- ---- selective routes

-- each selection of a VRF of the edge is of one source and one group, and its tunnel is among the trees
abbrev pub IsPicked : List Fec → EdgePlace → Control → Type 0
IsPicked trees place control = (own : OwnVrf) (pattern : Pattern) (selected : Selected) → Among own (own_vrfs place)
    → maps.get control.selections (record { vrf = own.id; pattern = pattern }) ≡ Some selected
    → (rank pattern ≡ 4) × Among (lsp (own_addr place) (tunnel_number own.vrf selected.number)) trees

-- the inclusive tunnels of the edge are among the trees
abbrev pub HasInclusive : List Fec → EdgePlace → Type 0
HasInclusive trees place = (own : OwnVrf) → Among own (own_vrfs place) → Among (lsp (own_addr place) (tunnel_number own.vrf 0)) trees

pub told_narrow : (trees : List Fec) (place : EdgePlace) (control : Control) (key : Key) (value : Value) → IsPicked trees place control
    → Originates place control key value → IsNarrow key
told_narrow trees place control key value picked by = of by.is
  where
    of : IsOriginated place control by.own key value → IsNarrow key
    of (Inclusive k v) = subst IsNarrow (sym k) tt
    of (Unicast prefix site among k v) = subst IsNarrow (sym k) tt
    of (Selective pattern selected at k v) = subst IsNarrow (sym k) (picked by.own pattern selected by.among at).0
    of (Active iface source group mine noted k v) = subst IsNarrow (sym k) tt

-- any key is, if it is so where it is no join
pub any_narrow : (key : Key) → ((IsJoinKey key → ⊥) → IsNarrow key) → IsNarrow key
any_narrow (keys.Unicast rd prefix) h = tt
any_narrow (keys.Mcast afi (routes.Intra rd originator)) h = tt
any_narrow (keys.Mcast afi (routes.Inter rd source_as)) h = tt
any_narrow (keys.Mcast afi (routes.Selective rd source group originator)) h = h (λ join. join)
any_narrow (keys.Mcast afi (routes.Leaf key originator)) h = tt
any_narrow (keys.Mcast afi (routes.Active rd source group)) h = tt
any_narrow (keys.Mcast afi (routes.SharedJoin rd source_as source group)) h = tt
any_narrow (keys.Mcast afi (routes.SourceJoin rd source_as source group)) h = tt
any_narrow (keys.Mcast afi (routes.Other kind octets)) h = tt

-- ---- tunnels

pub told_tunnel : (trees : List Fec) (place : EdgePlace) (control : Control) (key : Key) (value : Value) (fec : Fec) → HasInclusive trees place
    → IsPicked trees place control → Originates place control key value → lsp_of value.pmsi ≡ Some fec → Among fec trees
told_tunnel trees place control key value fec inclusive picked by h = of by.is
  where
    with_tunnel : (number : ℕ) → value ≡ tunnel_value place by.own.vrf number → lsp (own_addr place) number ≡ fec
    with_tunnel number v = same_Some (lsp (own_addr place) number) fec (sym (ap (λ (x : Value). lsp_of x.pmsi) v) ∙ h)

    of : IsOriginated place control by.own key value → Among fec trees
    of (Inclusive k v) = subst (λ (f : Fec). Among f trees) (with_tunnel (tunnel_number by.own.vrf 0) v) (inclusive by.own by.among)
    of (Unicast prefix site among k v) = absurd (none-some fec (sym (ap (λ (x : Value). lsp_of x.pmsi) v) ∙ h))
    of (Selective pattern selected at k v) =
        subst (λ (f : Fec). Among f trees) (with_tunnel (tunnel_number by.own.vrf selected.number) v) (picked by.own pattern selected by.among at).1
    of (Active iface source group mine noted k v) = absurd (none-some fec (sym (ap (λ (x : Value). lsp_of x.pmsi) v) ∙ h))

-- ---- what is put

-- the change is true of what the edge says, Source Tree Joins aside; nothing but these is withdrawn
abbrev pub IsTrue : EdgePlace → Control → Change Key Value → Type 0
IsTrue place control (Reach key value) = (IsJoinKey key → ⊥) → Originates place control key value
IsTrue place control (Unreach key) = IsJoinKey key

pub true_on : (place : EdgePlace) (old new : Control) (change : Change Key Value) → SaysOn old new → IsTrue place old change → IsTrue place new change
true_on place old new (Reach key value) on h = λ not. says_on place old new key value on (h not)
true_on place old new (Unreach key) on h = h

-- whether a key is that of a join
join_cases : (key : Key) → IsJoinKey key ⊎ (IsJoinKey key → ⊥)
join_cases (keys.Unicast rd prefix) = inr (λ h. h)
join_cases (keys.Mcast afi (routes.Intra rd originator)) = inr (λ h. h)
join_cases (keys.Mcast afi (routes.Inter rd source_as)) = inr (λ h. h)
join_cases (keys.Mcast afi (routes.Selective rd source group originator)) = inr (λ h. h)
join_cases (keys.Mcast afi (routes.Leaf key originator)) = inr (λ h. h)
join_cases (keys.Mcast afi (routes.Active rd source group)) = inr (λ h. h)
join_cases (keys.Mcast afi (routes.SharedJoin rd source_as source group)) = inr (λ h. h)
join_cases (keys.Mcast afi (routes.SourceJoin rd source_as source group)) = inl tt
join_cases (keys.Mcast afi (routes.Other kind octets)) = inr (λ h. h)

module _ (place : EdgePlace) (old new : Control) (rules : Rules place.scenario) (on : SaysOn old new) (peer : NodeId) where
  -- what is sent is originated
  told_is : (control : Control) (b : Bool) (key : Key) (value : Value) → (IsJoinKey key → ⊥)
      → maps.get (cond b (held_for place control peer) maps.empty) key ≡ Some value → Originates place control key value
  told_is control true key value not h = (held_both place control peer key value rules not).0 h
  told_is control false key value not h = absurd (none-some value (sym (maps.get-empty key_cmp key) ∙ h))

  not_lost : (key : Key) (value : Value) → maps.get (lost (told place old peer) (held_for place new peer)) key ≡ Some value → IsJoinKey key
  not_lost key value h = elim (join_cases key) [
    | inl join ↦ join
    | inr not ↦
        let was = kept_is key_exact (told place old peer) (λ (k : Key). is_none (maps.get (held_for place new peer) k)) key value h in
        let by = told_is old (is_some (maps.get old.peers peer)) key value not was in
        let there : maps.get (held_for place new peer) key ≡ Some value =
        (held_both place new peer key value rules not).1 (says_on place old new key value on by) in
        absurd (gone value there h)
  ]
    where
      gone : (v : Value) → maps.get (held_for place new peer) key ≡ Some v
          → maps.get (maps.retain_keys (told place old peer) (λ (k : Key). is_none (maps.get (held_for place new peer) k))) key ≡ Some value → ⊥
      gone v there k =
          let x = maps.get-retain_keys (told place old peer) (λ (k : Key). is_none (maps.get (held_for place new peer) k)) key
          (λ y e. ap (λ (k : Key). is_none (maps.get (held_for place new peer) k)) (sym (key_exact key y e))) in
          none-some value (sym (ap (λ (o : Option Value). cond (is_none o) (maps.get (told place old peer) key) None) there) ∙ sym x ∙ k)

  all_true : (b : Bool) → AllByRecursion (IsTrue place new)
      (cond b (changes same_value (told place old peer) (cond b (held_for place new peer) maps.empty)) [])
  all_true false = tt
  all_true true =
      let before : Table = told place old peer in
      let after : Table = held_for place new peer in
      each_append (IsTrue place new) (withdrawals (lost before after)) (advertisements (news same_value before after))
      (each_map (IsTrue place new) (λ (entry : Key × Value). Unreach entry.0) (maps.entries (lost before after))
      (all_entries key_total (λ (key : Key) (value : Value). IsTrue place new (Unreach key)) (lost before after) not_lost))
      (each_map (IsTrue place new) (λ (entry : Key × Value). Reach entry.0 entry.1) (maps.entries (news same_value before after))
      (all_entries key_total (λ (key : Key) (value : Value). IsTrue place new (Reach key value)) (news same_value before after)
      (λ key value h no_join. told_is new true key value no_join
      (kept_is key_exact after (λ (k : Key). not (option_eq same_value (maps.get before k) (maps.get after k))) key value h))))

  pub puts_are_true : AllByRecursion (IsTrue place new) (put_to place old new peer)
  puts_are_true = all_true (is_some (maps.get new.peers peer))
