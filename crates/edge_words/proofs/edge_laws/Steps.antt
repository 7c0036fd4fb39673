-- Each step of an edge keeps the rule.
use Rattle.std.proofs.Common.{◌≡◌, Bool, true, false, inl, inr, Option, Some, None, refl, sym, ap, subst, ◌∙◌}
use Rattle.std.specs.Prelude.{is_some}
use Rattle.std.specs.FinMap as maps
use Rattle.std.specs.FinMap.{FinMap, get-empty}
use Rattle.mv_base.specs.declared.ids.NodeId.{NodeId}
use Rattle.mv_base.specs.declared.ids.VrfId.{VrfId}
use Rattle.mv_base.specs.declared.pattern.Pattern.{Pattern}
use Rattle.bgp_messages.specs.declared.bgp_attributes.key.Key.{Key}
use Rattle.scenario_defs.specs.declared.event.Kind.TheVariants as kinds
use Rattle.mv_base.specs.table_defs.Changes.{values_at}
use Rattle.label_defs.specs.Keys.{node_cmp}
use Rattle.label_defs.proofs.KeyLemmas.{node_cases}
use Rattle.edge_defs.specs.Edge.{Taken, Control}
use Rattle.edge_defs.specs.Held.{told}
use Rattle.edge_defs.specs.Imported.{taken_from}
use Rattle.edge_defs.specs.Keys.{key_cmp}
use Rattle.edge_defs.specs.Steps as steps
use Rattle.edge_defs.specs.Steps.{control_step, is_imported}
use Rattle.edge_words.specs.edge_laws.Network.{EdgeNetwork, place_of, at_node, thereafter}
use Rattle.edge_words.specs.edge_laws.Acts.{is_up, stepped, called}
use Rattle.edge_words.specs.edge_laws.Rule.{ViewAt, Rule, selected_at}
use Rattle.edge_words.proofs.edge_laws.Local.{along, far_up, far_down, far_run}
use Rattle.edge_words.proofs.edge_laws.Selections.{AllFollow, stays, selects, unselects, runs}
use Rattle.edge_words.proofs.edge_laws.Taken.{get-peers_run, table_in, run_taken, run_up, put_own, put_other, put_down, taken_off, kept_other}
use Rattle.edge_words.proofs.edge_laws.Frames.{FarView, Views, node_here, node_there, still_up, after_kept, after_rule}

-- ---- steps that take nothing

-- the same is seen where the same was taken
pub far_same : (network : EdgeNetwork) (n : NodeId) (new : Control) (a : NodeId) (key : Key)
    → maps.get new.peers a ≡ maps.get (network.node n).peers a → ViewAt network a n key → FarView network n new a key
far_same network n new a key e view =
    along refl refl (ap is_some e) refl refl (ap (λ (taken : Option Taken). maps.get (table_in taken) key) e) refl view

-- where the peers stay
pub still_rule : (network : EdgeNetwork) (n : NodeId) (new : Control) → new.peers ≡ (network.node n).peers
    → AllFollow network.clock (network.node n).selections new.selections → Rule network → Rule (thereafter network n new)
still_rule network n new same follow rule =
    after_rule network n new rule
    (record { selections = follow; ends = λ b ne e. inl (ap (λ (peers : FinMap node_cmp Taken). is_some (maps.get peers b)) (sym same) ∙ e) })
    (λ a key ne. far_same network n new a key (ap (λ (peers : FinMap node_cmp Taken). maps.get peers a) same) (rule.view a n key ne))

pub select_rule : (network : EdgeNetwork) (n : NodeId) (vrf : VrfId) (pattern : Pattern) (b : Bool)
    → is_some (maps.get (network.node n).selections (record { vrf = vrf; pattern = pattern })) ≡ b → Rule network
    → Rule (called network n (steps.Select vrf pattern) b)
select_rule network n vrf pattern true e rule = rule
select_rule network n vrf pattern false e rule =
    still_rule network n _ refl (selects network.clock vrf pattern (network.node n).selections (none_at _ e)) rule where
      none_at : {X : Type 0} (o : Option X) → is_some o ≡ false → o ≡ None
      none_at None e = refl
      none_at (Some x) e = absurd cc

pub unselect_rule : (network : EdgeNetwork) (n : NodeId) (vrf : VrfId) (pattern : Pattern) → Rule network
    → Rule (stepped network n (steps.Customer (steps.Unselect vrf pattern)))
unselect_rule network n vrf pattern rule =
    still_rule network n _ refl (unselects network.clock (record { vrf = vrf; pattern = pattern }) (network.node n).selections) rule

-- ---- timers

pub timers_rule : (network : EdgeNetwork) (n : NodeId) → Rule network → Rule (stepped network n steps.Timers)
timers_rule network n rule =
    let place = place_of network n in
    let clock = network.clock in
    let old = network.node n in
    let up : (peer : NodeId) → _ =
    λ peer. ap is_some (get-peers_run place clock old.peers peer) ∙ run_up place clock peer (maps.get old.peers peer) in
    after_rule network n (control_step place clock old steps.Timers) rule
    (record { selections = runs clock network.scenario.delay clock old.selections; ends = λ b ne e. inl (sym (up b) ∙ e) })
    (λ a key ne.
    along refl refl (up a) refl refl (ap (λ (taken : Option Taken). maps.get (table_in taken) key) (get-peers_run place clock old.peers a)
    ∙ run_taken place clock a key (maps.get old.peers a)) refl
    (far_run clock network.scenario.delay (network.direction a n).joined (is_up (network.node a) n) (is_up old a)
    (maps.get (told (place_of network a) (network.node a) n) key)
    (selected_at (place_of network a) (network.node a) key) (maps.get (taken_from old a) key) (values_at key_cmp key (network.direction a n).transit)
    (λ route. is_imported place a (key, route)) (rule.view a n key ne)))

-- ---- ends

-- the end comes up
pub raised_kept : (network : EdgeNetwork) (n peer : NodeId) → is_up (network.node n) peer ≡ false → Views network
    → Views (stepped network n (steps.Raised kinds.Bgp peer))
raised_kept network n peer off views =
    let old = network.node n in
    let new : Control = control_step (place_of network n) network.clock old (steps.Raised kinds.Bgp peer) in
    after_kept network n new views
    (record {
      selections = λ pattern. stays network.clock (maps.get old.selections pattern);
      ends =
          λ b ne e. inl (put_down old.peers peer maps.empty b e);
    })
    (λ a key ne. elim (node_cases a peer) [
      | inr f ↦ far_same network n new a key (put_other old.peers peer maps.empty a f) (views.view a n key ne)
      | inl f ↦ subst (λ x. FarView network n new x key) (sym f)
          (let h = views.view peer n key (λ i. ne (f ∙ i)) in
          let e = put_own old.peers peer maps.empty in
          along refl refl (ap is_some e) refl refl (ap (λ (taken : Option Taken). maps.get (table_in taken) key) e ∙ get-empty key_cmp key) refl
          (far_up _ _ _ _ _ _ _ _ (along refl refl (sym off) refl refl refl refl h)))
    ])

pub raised_own : (network : EdgeNetwork) (n peer : NodeId) → is_up ((stepped network n (steps.Raised kinds.Bgp peer)).node n) peer ≡ true
raised_own network n peer =
    let old = network.node n in
    let new : Control = control_step (place_of network n) network.clock old (steps.Raised kinds.Bgp peer) in
    ap (λ (control : Control). is_up control peer) (node_here n new network.node) ∙ ap is_some (put_own old.peers peer maps.empty)

-- ends that are up stay up
pub raised_other : (network : EdgeNetwork) (n peer u v : NodeId) → is_up (network.node u) v ≡ true
    → is_up ((stepped network n (steps.Raised kinds.Bgp peer)).node u) v ≡ true
raised_other network n peer u v up =
    let old = network.node n in
    let new : Control = control_step (place_of network n) network.clock old (steps.Raised kinds.Bgp peer) in
    elim (node_cases u n) [
      | inl e ↦ ap (λ x. is_up (at_node n new network.node x) v) e ∙ ap (λ (control : Control). is_up control v) (node_here n new network.node)
          ∙ still_up (is_up new v) (is_up old v) true (λ i. inl (put_down old.peers peer maps.empty v i))
          (ap (λ x. is_up (network.node x) v) (sym e) ∙ up) refl
      | inr e ↦ ap (λ (control : Control). is_up control v) (node_there n new network.node u e) ∙ up
    ]

-- where the session is not joined, the loss is noticed
pub noticed_rule : (network : EdgeNetwork) (n peer : NodeId) → (network.direction n peer).joined ≡ false → (network.direction peer n).joined ≡ false
    → Rule network → Rule (stepped network n (steps.Noticed kinds.Bgp peer))
noticed_rule network n peer off back rule =
    let old = network.node n in
    let new : Control = control_step (place_of network n) network.clock old (steps.Noticed kinds.Bgp peer) in
    after_rule network n new rule
    (record {
      selections = λ pattern. stays network.clock (maps.get old.selections pattern);
      ends = λ b ne e. elim (node_cases b peer) [
        | inl f ↦ inr (ap (λ x. (network.direction n x).joined) f ∙ off)
        | inr f ↦ inl (ap is_some (sym (kept_other old.peers peer b f)) ∙ e)
      ];
    })
    (λ a key ne. elim (node_cases a peer) [
      | inr f ↦ far_same network n new a key (kept_other old.peers peer a f) (rule.view a n key ne)
      | inl f ↦ subst (λ x. FarView network n new x key) (sym f)
          (let h = rule.view peer n key (λ i. ne (f ∙ i)) in
          let e = taken_off old.peers peer in
          along back refl refl refl refl (ap (λ (taken : Option Taken). maps.get (table_in taken) key) e ∙ get-empty key_cmp key) refl
          (far_down _ _ _ _ (is_up new peer) _ _ _ _ (along (sym back) refl refl refl refl refl refl h)))
    ])
