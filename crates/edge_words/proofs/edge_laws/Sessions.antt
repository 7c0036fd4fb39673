-- Sessions are lost, joined and raised, edges restart, and time passes.
use Rattle.std.proofs.Common.{◌≡◌, ◌≢◌, ℕ, ◌+◌, ◌==◌, Bool, true, false, not, cond, ◌&&◌, ◌||◌, ◌⊎◌, inl, inr, List, [], Option, refl, sym, ap, ◌∙◌}
use Rattle.std.proofs.lemmas.Bool.{and_parts, or_cases}
use Rattle.std.specs.Prelude.{is_some}
use Rattle.std.specs.FinMap as maps
use Rattle.std.specs.FinMap.{get-empty}
use Rattle.mv_base.specs.declared.ids.NodeId.{NodeId}
use Rattle.bgp_messages.specs.declared.bgp_attributes.key.Key.{Key}
use Rattle.scenario_defs.specs.declared.event.Kind.TheVariants as kinds
use Rattle.mv_base.specs.declared.table_defs.change.Change.{Change}
use Rattle.mv_base.specs.table_defs.Changes.{values_at}
use Rattle.label_defs.specs.Keys.{node_cmp}
use Rattle.label_defs.proofs.KeyLemmas.{node_equal, node_itself, node_cases}
use Rattle.edge_defs.specs.Edge.{Taken, Control, no_control}
use Rattle.edge_defs.specs.Held.{told}
use Rattle.edge_defs.specs.Imported.{taken_from}
use Rattle.edge_defs.specs.Keys.{Value, key_cmp}
use Rattle.edge_defs.specs.Steps as steps
use Rattle.edge_words.specs.edge_laws.Network.{EdgeNetwork, place_of, at_node}
use Rattle.label_defs.specs.Between.{is_between, is_either}
use Rattle.label_defs.proofs.BetweenLemmas.{between_swap, either_swap}
use Rattle.edge_words.specs.edge_laws.Acts.{is_up, unjoined, with_joined, noticed, raised, stepped}
use Rattle.edge_words.specs.edge_laws.Rule.{View, ViewAt, Rule, selected_at}
use Rattle.edge_words.proofs.edge_laws.Local.{along, near_view, cut_view, join_view, far_down, tick_view}
use Rattle.edge_words.proofs.edge_laws.Selections.{empties}
use Rattle.edge_words.proofs.edge_laws.Picks.{picks}
use Rattle.edge_words.proofs.edge_laws.Taken.{table_in}
use Rattle.edge_words.proofs.edge_laws.Frames.{NearView, FarView, Views, Ends, views_of, rule_from, node_views, node_there, told_down}
use Rattle.edge_words.proofs.edge_laws.Steps.{raised_kept, raised_own, raised_other, noticed_rule}

-- ---- losses

cut_at : (network : EdgeNetwork) (u v : NodeId) (key : Key) (joined hit : Bool) (transit : List (Change Key Value))
    → (network.direction u v).joined ≡ joined → (network.direction u v).transit ≡ transit → ViewAt network u v key
    → View network.clock network.scenario.delay (joined && not hit) (is_up (network.node u) v) (is_up (network.node v) u)
    (maps.get (told (place_of network u) (network.node u) v) key)
    (selected_at (place_of network u) (network.node u) key) (maps.get (taken_from (network.node v) u) key)
    (values_at key_cmp key (cond hit [] transit))
cut_at network u v key true false transit e f view = along (sym e) refl refl refl refl refl (ap (values_at key_cmp key) (sym f)) view
cut_at network u v key false false transit e f view = along (sym e) refl refl refl refl refl (ap (values_at key_cmp key) (sym f)) view
cut_at network u v key true true transit e f view = cut_view _ _ _ _ _ _ _ _ _ view
cut_at network u v key false true transit e f view = cut_view _ _ _ _ _ _ _ _ _ view

pub cut_rule : (network : EdgeNetwork) (hit : NodeId → NodeId → Bool) → ((u v : NodeId) → hit u v ≡ hit v u) → Rule network
    → Rule (unjoined hit network)
cut_rule network hit turned rule = record {
  view = λ u v key ne. cut_at network u v key (network.direction u v).joined (hit u v) (network.direction u v).transit refl refl
      (rule.view u v key ne);
  alike = λ u v. ap (λ b. b && not (hit u v)) (rule.alike u v) ∙ ap (λ b. (network.direction v u).joined && not b) (turned u v);
  ends = λ u v ne e. rule.ends u v ne (and_parts (network.direction u v).joined (not (hit u v)) e).0;
  scenario = rule.scenario;
}

pub lose_rule : (network : EdgeNetwork) (a b : NodeId) → Rule network → Rule (unjoined (is_between a b) network)
lose_rule network a b rule = cut_rule network (is_between a b) (between_swap a b) rule

none_left : (x y : Bool) → (x || y) ≡ false → (x ≡ false) × (y ≡ false)
none_left true y e = absurd cc
none_left false y e = (refl, e)

pub notice_rule : (network : EdgeNetwork) (a b : NodeId) (joined up : Bool)
    → ((network.direction a b).joined || (network.direction b a).joined) ≡ joined → Rule network → Rule (noticed network a b joined up)
notice_rule network a b true up e rule = rule
notice_rule network a b false false e rule = rule
notice_rule network a b false true e rule =
    (let off = none_left (network.direction a b).joined (network.direction b a).joined e in noticed_rule network a b off.0 off.1 rule)

-- ---- raises

join_at : (network : EdgeNetwork) (u v : NodeId) (key : Key) (joined hit : Bool) → (network.direction u v).joined ≡ joined
    → (hit ≡ true → (is_up (network.node u) v ≡ false) × (is_up (network.node v) u ≡ false)) → ViewAt network u v key
    → View network.clock network.scenario.delay (joined || hit) (is_up (network.node u) v) (is_up (network.node v) u)
    (maps.get (told (place_of network u) (network.node u) v) key)
    (selected_at (place_of network u) (network.node u) key) (maps.get (taken_from (network.node v) u) key)
    (values_at key_cmp key (network.direction u v).transit)
join_at network u v key true hit e off view = along (sym e) refl refl refl refl refl refl view
join_at network u v key false false e off view = along (sym e) refl refl refl refl refl refl view
join_at network u v key false true e off view =
    let down = off refl in
    along refl down.0 down.1 refl refl refl refl (join_view _ _ _ _ _ _ _ (along refl (sym down.0) (sym down.1) refl refl refl refl view))

pair_off : (network : EdgeNetwork) (a b u v : NodeId) → is_up (network.node a) b ≡ false → is_up (network.node b) a ≡ false
    → is_between a b u v ≡ true → (is_up (network.node u) v ≡ false) × (is_up (network.node v) u ≡ false)
pair_off network a b u v p r e =
    elim (or_cases ((u.0 == a.0) && (v.0 == b.0)) ((u.0 == b.0) && (v.0 == a.0)) e) [
      | inl x ↦
          (let y = and_parts (u.0 == a.0) (v.0 == b.0) x in
          let i = node_equal u a y.0 in
          let j = node_equal v b y.1 in (
            ap (λ z. is_up (network.node z) v) i ∙ ap (λ z. is_up (network.node a) z) j ∙ p,
            ap (λ z. is_up (network.node z) u) j
                ∙ ap (λ z. is_up (network.node b) z) i ∙ r,
          ))
      | inr x ↦
          (let y = and_parts (u.0 == b.0) (v.0 == a.0) x in
          let i = node_equal u b y.0 in
          let j = node_equal v a y.1 in (
            ap (λ z. is_up (network.node z) v) i ∙ ap (λ z. is_up (network.node b) z) j ∙ r,
            ap (λ z. is_up (network.node z) u) j
                ∙ ap (λ z. is_up (network.node a) z) i ∙ p,
          ))
    ]

join_kept : (network : EdgeNetwork) (a b : NodeId) → is_up (network.node a) b ≡ false → is_up (network.node b) a ≡ false → Views network
    → Views (with_joined a b network)
join_kept network a b p r views = record {
  view = λ u v key ne. join_at network u v key (network.direction u v).joined (is_between a b u v) refl (pair_off network a b u v p r)
      (views.view u v key ne);
  alike = λ u v. ap (λ x. x || is_between a b u v) (views.alike u v) ∙ ap (λ x. (network.direction v u).joined || x) (between_swap a b u v);
  scenario = views.scenario;
}

-- both ends of the session come up, and no other one goes down
raise_ends : (network : EdgeNetwork) (a b : NodeId) → Ends network
    → Ends (stepped (stepped (with_joined a b network) a (steps.Raised kinds.Bgp b)) b (steps.Raised kinds.Bgp a))
raise_ends network a b ends u v ne e =
    let joined : EdgeNetwork = with_joined a b network in
    let first : EdgeNetwork = stepped joined a (steps.Raised kinds.Bgp b) in
    let second : EdgeNetwork = stepped first b (steps.Raised kinds.Bgp a) in
    elim (or_cases (network.direction u v).joined (is_between a b u v) e) [
      | inl on ↦ raised_other first b a u v (raised_other joined a b u v (ends u v ne on))
      | inr new ↦ elim (or_cases ((u.0 == a.0) && (v.0 == b.0)) ((u.0 == b.0) && (v.0 == a.0)) new) [
        | inl x ↦
            (let y = and_parts (u.0 == a.0) (v.0 == b.0) x in
            ap (λ z. is_up (second.node z) v) (node_equal u a y.0) ∙ ap (λ z. is_up (second.node a) z) (node_equal v b y.1)
            ∙ raised_other first b a a b (raised_own joined a b))
        | inr x ↦
            (let y = and_parts (u.0 == b.0) (v.0 == a.0) x in
            ap (λ z. is_up (second.node z) v) (node_equal u b y.0) ∙ ap (λ z. is_up (second.node b) z) (node_equal v a y.1) ∙ raised_own first b a)
      ]
    ]

pub raise_rule : (network : EdgeNetwork) (a b : NodeId) (same up other : Bool) → (a.0 == b.0) ≡ same → is_up (network.node a) b ≡ up
    → is_up (network.node b) a ≡ other → Rule network → Rule (raised network a b same up other)
raise_rule network a b true up other s p r rule = rule
raise_rule network a b false true other s p r rule = rule
raise_rule network a b false false true s p r rule = rule
raise_rule network a b false false false s p r rule =
    let joined : EdgeNetwork = with_joined a b network in
    let first : EdgeNetwork = stepped joined a (steps.Raised kinds.Bgp b) in
    let ne : b ≢ a = λ e. (let t = node_itself a b (sym e) in absurd cc) in
    let off : is_up (first.node b) a ≡ false = ap (λ (control : Control). is_up control a) (node_there a _ joined.node b ne) ∙ r in
    rule_from _ (raised_kept first b a off (raised_kept joined a b p (join_kept network a b p r (views_of network rule))))
    (raise_ends network a b rule.ends)

-- ---- restarts

down : (peer : NodeId) → is_up no_control peer ≡ false
down peer = ap is_some (get-empty node_cmp peer)

either : (x y : Bool) → (x ≡ true) ⊎ (y ≡ true) → (x || y) ≡ true
either true y e = refl
either false y (inl e) = absurd cc
either false y (inr e) = e

cut_off : (joined hit : Bool) → hit ≡ true → (joined && not hit) ≡ false
cut_off true true e = refl
cut_off false hit e = refl
cut_off true false e = absurd cc

module _ (network : EdgeNetwork) (n : NodeId) (rule : Rule network) where
  abbrev cut : EdgeNetwork
  cut = unjoined (is_either n) network

  cut_kept : Rule cut
  cut_kept = cut_rule network (is_either n) (either_swap n) rule

  off_from : (b : NodeId) → (cut.direction n b).joined ≡ false
  off_from b = cut_off (network.direction n b).joined (is_either n n b) (either (n.0 == n.0) (b.0 == n.0) (inl (node_itself n n refl)))

  off_to : (a : NodeId) → (cut.direction a n).joined ≡ false
  off_to a = cut_off (network.direction a n).joined (is_either n a n) (either (a.0 == n.0) (n.0 == n.0) (inr (node_itself n n refl)))

  near : (b : NodeId) (key : Key) → n ≢ b → NearView cut n no_control b key
  near b key ne =
      along (off_from b) refl refl refl refl refl refl
      (near_view network.clock network.scenario.delay false (is_up (network.node n) b) (is_up no_control b) (is_up (network.node b) n)
      (maps.get (told (place_of network n) (network.node n) b) key)
      (maps.get (told (place_of network n) no_control b) key) (selected_at (place_of network n) (network.node n) key)
      (selected_at (place_of network n) no_control key)
      (maps.get (taken_from (network.node b) n) key) (values_at key_cmp key (cut.direction n b).transit) []
      (picks (place_of network n) (network.node n) no_control network.clock b rule.scenario (empties network.clock (network.node n).selections) key)
      (told_down network n (network.node n) b key)
      (λ e. (let f = down b in absurd cc)) (λ e. refl) (λ e. inr refl)
      (along (sym (off_from b)) refl refl refl refl refl refl (cut_kept.view n b key ne)))

  far : (a : NodeId) (key : Key) → a ≢ n → FarView cut n no_control a key
  far a key ne =
      along (off_to a) refl refl refl refl (ap (λ (o : Option Taken). maps.get (table_in o) key) (get-empty node_cmp a) ∙ get-empty key_cmp key) refl
      (far_down _ _ _ _ (is_up no_control a) _ _ _ _ (along (sym (off_to a)) refl refl refl refl refl refl (cut_kept.view a n key ne)))

  ends : Ends (record cut { node = at_node n no_control cut.node })
  ends u v ne e = elim (node_cases u n) [
    | inl f ↦ (let i = off_from v in let j : (cut.direction n v).joined ≡ true = ap (λ x. (cut.direction x v).joined) (sym f) ∙ e in absurd cc)
    | inr f ↦ ap (λ (control : Control). is_up control v) (node_there n no_control cut.node u f) ∙ cut_kept.ends u v ne e
  ]

  pub restart_rule : Rule (record cut { node = at_node n no_control cut.node })
  restart_rule = record {
    view = node_views cut n no_control near far (λ a b key ne e f. cut_kept.view a b key ne);
    alike = cut_kept.alike;
    ends = ends;
    scenario = rule.scenario;
  }

-- ---- the clock

pub tick_rule : (network : EdgeNetwork) (ticks : ℕ) → Rule network → Rule (record network { clock = network.clock + ticks })
tick_rule network ticks rule = record {
  view = λ u v key ne. tick_view network.clock ticks network.scenario.delay _ _ _ _ _ _ _ (rule.view u v key ne);
  alike = rule.alike;
  ends = rule.ends;
  scenario = rule.scenario;
}
