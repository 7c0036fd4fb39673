-- The first message in transit is taken.
use Rattle.std.proofs.Common.{◌≡◌, ◌≢◌, ◌==◌, Bool, true, false, ◌&&◌, inl, inr, List, [], ◌∷◌, Option, Some, None, refl, sym, ap, subst, ◌∙◌}
use Rattle.std.proofs.lemmas.Bool.{cond-true, cond-false, and_left, and_right, and_from}
use Rattle.std.specs.Prelude.{fold, is_some}
use Rattle.std.specs.FinMap as maps
use Rattle.mv_base.specs.declared.ids.NodeId.{NodeId}
use Rattle.bgp_messages.specs.declared.bgp_attributes.key.Key.{Key}
use Rattle.bgp_messages.specs.bgp_update.Table.{changes_of}
use Rattle.mv_base.specs.declared.table_defs.change.Change.{Change}
use Rattle.mv_base.specs.table_defs.Changes.{value_of, values_at}
use Rattle.label_defs.proofs.KeyLemmas.{node_itself, node_apart, node_cases}
use Rattle.edge_defs.specs.Edge.{Taken, Control}
use Rattle.edge_defs.specs.Held.{told}
use Rattle.edge_defs.specs.Keys.{Value, key_cmp}
use Rattle.edge_defs.specs.Steps as steps
use Rattle.edge_defs.specs.Steps.{taken_change, refreshed, control_step}
use Rattle.edge_words.specs.edge_laws.Network.{EdgeNetwork, place_of, thereafter}
use Rattle.edge_words.specs.edge_laws.Acts.{is_up, message_of, left_in_transit, delivered}
use Rattle.edge_words.specs.edge_laws.Rule.{ViewAt, Rule, selected_at}
use Rattle.edge_words.proofs.edge_laws.Local.{along, taken_view}
use Rattle.edge_words.proofs.edge_laws.Selections.{stays}
use Rattle.edge_words.proofs.edge_laws.Taken.{change_taken, table_in, put_own, put_other, put_down}
use Rattle.edge_words.proofs.edge_laws.Frames.{FarView, Follow, after_views, after_ends}
use Rattle.edge_words.proofs.edge_laws.Steps.{far_same}

module _ (network : EdgeNetwork) (a b : NodeId) (change : Change Key Value) (rest : List (Change Key Value)) (taken : Taken) where
  abbrev left : EdgeNetwork
  left = left_in_transit network a b rest

  abbrev table : Taken
  table = fold (taken_change network.clock) taken (changes_of (message_of change))

  -- the edge once the change is taken
  abbrev after : Control
  after = refreshed (place_of network b) network.clock (record (network.node b) { peers = maps.insert (network.node b).peers a table })

  left_here : (left.direction a b).transit ≡ rest
  left_here =
      cond-true ((a.0 == a.0) && (b.0 == b.0)) rest (network.direction a b).transit
      (and_from (a.0 == a.0) (b.0 == b.0) (node_itself a a refl) (node_itself b b refl))

  left_there : (u v : NodeId) → ((u.0 == a.0) && (v.0 == b.0)) ≡ false → (left.direction u v).transit ≡ (network.direction u v).transit
  left_there u v e = cond-false ((u.0 == a.0) && (v.0 == b.0)) rest (network.direction u v).transit e

  other_view : (u v : NodeId) (key : Key) → ((u.0 == a.0) && (v.0 == b.0)) ≡ false → ViewAt network u v key → ViewAt left u v key
  other_view u v key e view = along refl refl refl refl refl refl (ap (values_at key_cmp key) (left_there u v e)) view

  far_here : maps.get (network.node b).peers a ≡ Some taken → (network.direction a b).transit ≡ change ∷ rest → (key : Key) → ViewAt network a b key
      → FarView left b after a key
  far_here is all key view =
      let e = put_own (network.node b).peers a table in
      along refl refl (ap is_some e) refl refl (ap (λ (o : Option Taken). maps.get (table_in o) key) e ∙ change_taken network.clock taken change key)
      (ap (values_at key_cmp key) left_here)
      (taken_view network.clock network.scenario.delay (network.direction a b).joined (is_up (network.node a) b) _
      (maps.get (told (place_of network a) (network.node a) b) key)
      (selected_at (place_of network a) (network.node a) key) (maps.get taken key) (value_of change) (values_at key_cmp key rest)
      (along refl refl (ap is_some (sym is)) refl refl (ap (λ (o : Option Taken). maps.get (table_in o) key) (sym is))
      (ap (values_at key_cmp key) (sym all)) view))

  follows : Follow left b after
  follows =
      record {
        selections = λ pattern. stays network.clock (maps.get (network.node b).selections pattern);
        ends =
            λ v i e. inl (put_down (network.node b).peers a table v e);
      }

  taken_views : a ≢ b → maps.get (network.node b).peers a ≡ Some taken → (network.direction a b).transit ≡ change ∷ rest → Rule network
      → (u v : NodeId) (key : Key) → u ≢ v → ViewAt (thereafter left b after) u v key
  taken_views ne is all rule =
      after_views left b after rule.scenario follows
      (λ v key i. other_view b v key (and_left (b.0 == a.0) (v.0 == b.0) (node_apart b a (λ e. ne (sym e)))) (rule.view b v key i))
      (λ u key i. elim (node_cases u a) [
        | inl f ↦ subst (λ x. FarView left b after x key) (sym f) (far_here is all key (rule.view a b key ne))
        | inr f ↦ far_same left b after u key (put_other (network.node b).peers a table u f)
            (other_view u b key (and_left (u.0 == a.0) (b.0 == b.0) (node_apart u a f)) (rule.view u b key i))
      ])
      (λ u v key i f g. other_view u v key (and_right (u.0 == a.0) (v.0 == b.0) (node_apart v b g)) (rule.view u v key i))

  step_is : maps.get (network.node b).peers a ≡ Some taken
      → control_step (place_of left b) left.clock (left.node b) (steps.Update a (message_of change)) ≡ after
  step_is is =
      ap (λ (o : Option Taken). refreshed (place_of network b) network.clock
      (elim o [
        | None ↦ network.node b
        | Some own ↦
            record (network.node b) {
              peers = maps.insert (network.node b).peers a
                  (fold (taken_change network.clock) own (changes_of (message_of change)));
            }
      ])) is

  pub taken_rule : a ≢ b → maps.get (network.node b).peers a ≡ Some taken → (network.direction a b).transit ≡ change ∷ rest → Rule network
      → Rule (thereafter left b (control_step (place_of left b) left.clock (left.node b) (steps.Update a (message_of change))))
  taken_rule ne is all rule =
      subst (λ control. Rule (thereafter left b control)) (sym (step_is is))
      (record {
        view = taken_views ne is all rule;
        alike = rule.alike;
        ends = after_ends left b after follows rule.ends;
        scenario =
            rule.scenario;
      })

held_by : {X : Type 0} (o : Option X) → is_some o ≡ true → (x : X) × (o ≡ Some x)
held_by None e = absurd cc
held_by (Some x) e = (x, refl)

pub deliver_rule : (network : EdgeNetwork) (a b : NodeId) (same up : Bool) (list : List (Change Key Value)) → (a.0 == b.0) ≡ same
    → is_up (network.node b) a ≡ up → (network.direction a b).transit ≡ list → Rule network → Rule (delivered network a b same up list)
deliver_rule network a b true up list s u e rule = rule
deliver_rule network a b false false list s u e rule = rule
deliver_rule network a b false true [] s u e rule = rule
deliver_rule network a b false true (change ∷ rest) s u e rule =
    let held = held_by (maps.get (network.node b).peers a) u in
    taken_rule network a b change rest held.0 (λ i. (let t = node_itself a b i in absurd cc)) held.1 e rule
