-- The selection of a key changes together with what is told at the key.
use Rattle.std.proofs.Common.{◌≡◌, ◌≢◌, ℕ, Bool, true, false, ◌&&◌, inl, inr, List, [], Option, Some, None, refl, ap, ◌∙◌}
use Rattle.std.proofs.lemmas.Bool.{cond-true, and_parts}
use Rattle.std.specs.Prelude.{is_some}
use Rattle.std.specs.FinMap as maps
use Rattle.mv_base.specs.declared.ids.NodeId.{NodeId}
use Rattle.bgp_messages.specs.bgp_values.declared.mvpn_nlri.route.Route.TheVariants as routes
use Rattle.bgp_messages.specs.declared.bgp_attributes.key.Key.{Key}
use Rattle.bgp_messages.specs.declared.bgp_attributes.key.Key.TheVariants.{Mcast, Unicast}
use Rattle.scenario_defs.specs.Rules.{Rules}
use Rattle.mv_base.specs.table_defs.Changes.{difference}
use Rattle.edge_defs.specs.Edge.{Selected, Control}
use Rattle.edge_defs.specs.Held.{held_for, told}
use Rattle.edge_defs.specs.Keys.{Value, Table, same_value}
use Rattle.edge_defs.specs.Place.{EdgePlace, own_vrfs}
use Rattle.edge_words.specs.edge_laws.Acts.{is_up}
use Rattle.edge_words.specs.edge_laws.Rule.{selected_in, selected_at}
use Rattle.edge_words.proofs.edge_laws.Local.{Picks}
use Rattle.edge_words.proofs.edge_laws.Selections.{AllFollow, own_distinct, first_follows, none_selected}
use Rattle.edge_words.proofs.edge_laws.Held.{held_has}

appears : (old new : Option Value) → is_some old ≡ false → is_some new ≡ true → difference same_value old new ≢ []
appears None None e f none = absurd cc
appears None (Some value) e f none = absurd cc
appears (Some value) new e f none = absurd cc

pub told_up : (place : EdgePlace) (control : Control) (peer : NodeId) (key : Key) → is_up control peer ≡ true
    → maps.get (told place control peer) key ≡ maps.get (held_for place control peer) key
told_up place control peer key up =
    ap (λ (table : Table). maps.get table key) (cond-true (is_up control peer) (held_for place control peer) maps.empty up)

no_pick : (clock : ℕ) (near : Bool) (old new : Option Selected) (change : List (Option Value)) → new ≡ None → Picks clock near old new change
no_pick clock near old new change none selected e = absurd cc

module _ (place : EdgePlace) (old new : Control) (clock : ℕ) (peer : NodeId) (rules : Rules place.scenario)
    (follow : AllFollow clock old.selections new.selections) where
  none_at : (key : Key) → ((own : _) → selected_in place new key own ≡ None)
      → Picks clock (is_up old peer && is_up new peer) (selected_at place old key) (selected_at place new key)
      (difference same_value (maps.get (told place old peer) key) (maps.get (told place new peer) key))
  none_at key none = no_pick clock _ _ _ _ (none_selected place new key none (own_vrfs place))

  pub picks : (key : Key) → Picks clock (is_up old peer && is_up new peer) (selected_at place old key) (selected_at place new key)
      (difference same_value (maps.get (told place old peer) key) (maps.get (told place new peer) key))
  picks (Mcast afi (routes.Selective rd source group originator)) selected e =
      let key : Key = Mcast afi (routes.Selective rd source group originator) in
      elim (first_follows place afi rd source group originator clock old new (own_vrfs place)
      (own_distinct place.me place.scenario.vrfs rules.vrfs.apart 0) follow selected e) [
        | inl before ↦ inl before
        | inr anew ↦ inr (
          anew.1,
          λ both.
              (let up = and_parts (is_up old peer) (is_up new peer) both in
              appears (maps.get (told place old peer) key) (maps.get (told place new peer) key)
              (ap is_some (told_up place old peer key up.0) ∙ held_has place afi rd source group originator old peer ∙ ap is_some anew.0)
              (ap is_some (told_up place new peer key up.1) ∙ held_has place afi rd source group originator new peer ∙ ap is_some e)),
        )
      ]
  picks (Mcast afi (routes.Intra rd originator)) selected e = none_at (Mcast afi (routes.Intra rd originator)) (λ own. refl) selected e
  picks (Mcast afi (routes.Inter rd source_as)) selected e = none_at (Mcast afi (routes.Inter rd source_as)) (λ own. refl) selected e
  picks (Mcast afi (routes.Leaf key originator)) selected e = none_at (Mcast afi (routes.Leaf key originator)) (λ own. refl) selected e
  picks (Mcast afi (routes.Active rd source group)) selected e = none_at (Mcast afi (routes.Active rd source group)) (λ own. refl) selected e
  picks (Mcast afi (routes.SharedJoin rd source_as source group)) selected e =
      none_at (Mcast afi (routes.SharedJoin rd source_as source group)) (λ own. refl) selected e
  picks (Mcast afi (routes.SourceJoin rd source_as source group)) selected e =
      none_at (Mcast afi (routes.SourceJoin rd source_as source group)) (λ own. refl) selected e
  picks (Mcast afi (routes.Other kind octets)) selected e = none_at (Mcast afi (routes.Other kind octets)) (λ own. refl) selected e
  picks (Unicast rd prefix) selected e = none_at (Unicast rd prefix) (λ own. refl) selected e
