-- The views of a network in which one edge has changed, and what it puts.
use Rattle.std.proofs.Common.{◌≡◌, ◌≢◌, ◌==◌, Bool, true, false, cond, if◌then◌else◌, ◌&&◌, ◌⊎◌, inl, inr, List, [], ◌++◌, None, refl, sym, ap, subst, ◌∙◌}
use Rattle.std.proofs.lemmas.Bool.{cond-true, cond-false}
use Rattle.std.specs.FinMap as maps
use Rattle.std.specs.FinMap.{get-empty}
use Rattle.mv_base.specs.declared.ids.NodeId.{NodeId}
use Rattle.bgp_messages.specs.declared.bgp_attributes.key.Key.{Key}
use Rattle.scenario_defs.specs.Rules.{Rules}
use Rattle.mv_base.specs.declared.table_defs.change.Change.{Change}
use Rattle.mv_base.specs.table_defs.Changes.{changes, difference, values_at}
use Rattle.edge_defs.proofs.table_laws.KeyLemmas.{values_at-append, values_at-changes}
use Rattle.label_defs.proofs.KeyLemmas.{node_itself, node_apart, node_cases}
use Rattle.edge_defs.specs.Edge.{Control}
use Rattle.edge_defs.specs.Held.{held_for, told, put_to}
use Rattle.edge_defs.specs.Imported.{taken_from}
use Rattle.edge_defs.specs.Keys.{Value, Table, key_cmp, same_value}
use Rattle.edge_defs.proofs.KeyLemmas.{key_total}
use Rattle.edge_words.specs.edge_laws.Network.{EdgeNetwork, place_of, at_node, thereafter}
use Rattle.edge_words.specs.edge_laws.Acts.{is_up}
use Rattle.edge_words.specs.edge_laws.Rule.{View, ViewAt, Rule, selected_at}
use Rattle.edge_words.proofs.edge_laws.Local.{along, near_view}
use Rattle.edge_words.proofs.edge_laws.Selections.{AllFollow}
use Rattle.edge_words.proofs.edge_laws.Picks.{picks}

-- ---- one edge

pub node_here : (n : NodeId) (new : Control) (node : NodeId → Control) → at_node n new node n ≡ new
node_here n new node = cond-true (n.0 == n.0) new (node n) (node_itself n n refl)

pub node_there : (n : NodeId) (new : Control) (node : NodeId → Control) (other : NodeId) → other ≢ n → at_node n new node other ≡ node other
node_there n new node other ne = cond-false (other.0 == n.0) new (node other) (node_apart other n ne)

-- what is seen where the edge is the sender, and where it is the receiver, once it is this
abbrev pub NearView : EdgeNetwork → NodeId → Control → NodeId → Key → Type 0
NearView network n new b key =
    View network.clock network.scenario.delay (network.direction n b).joined (is_up new b) (is_up (network.node b) n)
    (maps.get (told (place_of network n) new b) key)
    (selected_at (place_of network n) new key) (maps.get (taken_from (network.node b) n) key) (values_at key_cmp key (network.direction n b).transit)

abbrev pub FarView : EdgeNetwork → NodeId → Control → NodeId → Key → Type 0
FarView network n new a key =
    View network.clock network.scenario.delay (network.direction a n).joined (is_up (network.node a) n) (is_up new a)
    (maps.get (told (place_of network a) (network.node a) n) key)
    (selected_at (place_of network a) (network.node a) key) (maps.get (taken_from new a) key) (values_at key_cmp key (network.direction a n).transit)

pub node_views : (network : EdgeNetwork) (n : NodeId) (new : Control)
    → ((b : NodeId) (key : Key) → n ≢ b → NearView network n new b key) → ((a : NodeId) (key : Key) → a ≢ n → FarView network n new a key)
    → ((a b : NodeId) (key : Key) → a ≢ b → a ≢ n → b ≢ n → ViewAt network a b key)
    → (a b : NodeId) (key : Key) → a ≢ b → ViewAt (record network { node = at_node n new network.node }) a b key
node_views network n new near far other a b key ne =
    let after : EdgeNetwork = record network { node = at_node n new network.node } in
    elim (node_cases a n) [
      | inl e ↦ subst (λ x. ViewAt after x b key) (sym e)
          (let apart : n ≢ b = λ i. ne (e ∙ i) in
          let here = node_here n new network.node in
          let there = node_there n new network.node b (λ i. apart (sym i)) in
          along refl (ap (λ (control : Control). is_up control b) here) (ap (λ (control : Control). is_up control n) there)
          (ap (λ (control : Control). maps.get (told (place_of network n) control b) key) here)
          (ap (λ (control : Control). selected_at (place_of network n) control key) here)
          (ap (λ (control : Control). maps.get (taken_from control n) key) there) refl (near b key apart))
      | inr e ↦
          (let stays = node_there n new network.node a e in
          elim (node_cases b n) [
            | inl f ↦ subst (λ x. ViewAt after a x key) (sym f)
                (let here = node_here n new network.node in
                along refl (ap (λ (control : Control). is_up control n) stays) (ap (λ (control : Control). is_up control a) here)
                (ap (λ (control : Control). maps.get (told (place_of network a) control n) key) stays)
                (ap (λ (control : Control). selected_at (place_of network a) control key) stays)
                (ap (λ (control : Control). maps.get (taken_from control a) key) here) refl (far a key e))
            | inr f ↦
                (let there = node_there n new network.node b f in
                along refl (ap (λ (control : Control). is_up control b) stays) (ap (λ (control : Control). is_up control a) there)
                (ap (λ (control : Control). maps.get (told (place_of network a) control b) key) stays)
                (ap (λ (control : Control). selected_at (place_of network a) control key) stays)
                (ap (λ (control : Control). maps.get (taken_from control a) key) there) refl (other a b key ne e f))
          ])
    ]

-- ---- what is put

-- what is in transit once the edge has put its changes
abbrev pub put_in : EdgeNetwork → NodeId → Control → EdgeNetwork
put_in network n new =
    record network {
      direction = λ from to. record (network.direction from to) {
        transit =
            if (from.0 == n.0) && (network.direction from to).joined then (network.direction from to).transit
            ++ put_to (place_of network n) (network.node n) new to else (network.direction from to).transit;
      };
    }

values_cond : (key : Key) (b : Bool) (xs ys : List (Change Key Value))
    → values_at key_cmp key (cond b (xs ++ ys) xs) ≡ cond b (values_at key_cmp key xs ++ values_at key_cmp key ys) (values_at key_cmp key xs)
values_cond key true xs ys = values_at-append key_cmp key xs ys
values_cond key false xs ys = refl

put_here : (network : EdgeNetwork) (n : NodeId) (new : Control) (b : NodeId) (key : Key)
    → values_at key_cmp key ((put_in network n new).direction n b).transit
    ≡ cond (network.direction n b).joined (values_at key_cmp key (network.direction n b).transit
    ++ values_at key_cmp key (put_to (place_of network n) (network.node n) new b)) (values_at key_cmp key (network.direction n b).transit)
put_here network n new b key =
    let old = (network.direction n b).transit in
    let put = put_to (place_of network n) (network.node n) new b in
    ap (λ c. values_at key_cmp key (cond (c && (network.direction n b).joined) (old ++ put) old)) (node_itself n n refl)
    ∙ values_cond key (network.direction n b).joined old put

put_there : (network : EdgeNetwork) (n : NodeId) (new : Control) (a b : NodeId) (key : Key) → a ≢ n
    → values_at key_cmp key ((put_in network n new).direction a b).transit ≡ values_at key_cmp key (network.direction a b).transit
put_there network n new a b key ne =
    ap (λ c. values_at key_cmp key (cond (c && (network.direction a b).joined)
    ((network.direction a b).transit ++ put_to (place_of network n) (network.node n) new b) (network.direction a b).transit)) (node_apart a n ne)

module _ (network : EdgeNetwork) (n : NodeId) (new : Control) (b : NodeId) (key : Key) where
  put_up : is_up new b ≡ true → values_at key_cmp key (put_to (place_of network n) (network.node n) new b)
      ≡ difference same_value (maps.get (told (place_of network n) (network.node n) b) key) (maps.get (told (place_of network n) new b) key)
  put_up e =
      let old : Table = told (place_of network n) (network.node n) b in
      let next : Table = told (place_of network n) new b in
      ap (values_at key_cmp key) (cond-true (is_up new b) (changes same_value old next) [] e) ∙ values_at-changes key_total same_value old next key

  put_down : is_up new b ≡ false → values_at key_cmp key (put_to (place_of network n) (network.node n) new b) ≡ []
  put_down e =
      ap (values_at key_cmp key) (cond-false (is_up new b)
      (changes same_value (told (place_of network n) (network.node n) b) (told (place_of network n) new b)) [] e)

pub told_down : (network : EdgeNetwork) (n : NodeId) (control : Control) (b : NodeId) (key : Key) → is_up control b ≡ false
    → maps.get (told (place_of network n) control b) key ≡ None
told_down network n control b key e =
    ap (λ (table : Table). maps.get table key) (cond-false (is_up control b) (held_for (place_of network n) control b) maps.empty e)
    ∙ get-empty key_cmp key

-- ---- a step

-- what an edge that steps has to meet besides what it takes: its selections follow, and no end of a joined session goes down
pub record Follow (network : EdgeNetwork) (n : NodeId) (new : Control) : Type 0 where
  pub selections : AllFollow network.clock (network.node n).selections new.selections
  pub ends : (b : NodeId) → n ≢ b → is_up new b ≡ false → (is_up (network.node n) b ≡ false) ⊎ ((network.direction n b).joined ≡ false)

pub near_put : (network : EdgeNetwork) (n : NodeId) (new : Control) → Rules network.scenario → Follow network n new → (b : NodeId) (key : Key) → n ≢ b
    → ViewAt network n b key → NearView (put_in network n new) n new b key
near_put network n new rules follow b key ne view =
    along refl refl refl refl refl refl (put_here network n new b key)
    (near_view network.clock network.scenario.delay (network.direction n b).joined (is_up (network.node n) b) (is_up new b) (is_up (network.node b) n)
    (maps.get (told (place_of network n) (network.node n) b) key) (maps.get (told (place_of network n) new b) key)
    (selected_at (place_of network n) (network.node n) key) (selected_at (place_of network n) new key)
    (maps.get (taken_from (network.node b) n) key) (values_at key_cmp key (network.direction n b).transit)
    (values_at key_cmp key (put_to (place_of network n) (network.node n) new b))
    (picks (place_of network n) (network.node n) new network.clock b rules follow.selections key) (told_down network n (network.node n) b key)
    (put_up network n new b key) (put_down network n new b key) (follow.ends b ne) view)

-- the views after a step, from those of what the edge takes
pub after_views : (network : EdgeNetwork) (n : NodeId) (new : Control) → Rules network.scenario → Follow network n new
    → ((b : NodeId) (key : Key) → n ≢ b → ViewAt network n b key) → ((a : NodeId) (key : Key) → a ≢ n → FarView network n new a key)
    → ((a b : NodeId) (key : Key) → a ≢ b → a ≢ n → b ≢ n → ViewAt network a b key)
    → (a b : NodeId) (key : Key) → a ≢ b → ViewAt (thereafter network n new) a b key
after_views network n new rules follow near far other =
    node_views (put_in network n new) n new
    (λ b key ne. near_put network n new rules follow b key ne (near b key ne))
    (λ a key ne. along refl refl refl refl refl refl (put_there network n new a n key ne) (far a key ne))
    (λ a b key ne e f. along refl refl refl refl refl refl (put_there network n new a b key e) (other a b key ne e f))

-- What the rule says besides ends: inside a raise a joined session has an end that is down.
pub record Views (network : EdgeNetwork) : Type 0 where
  pub view : (a b : NodeId) (key : Key) → a ≢ b → ViewAt network a b key
  pub alike : (a b : NodeId) → (network.direction a b).joined ≡ (network.direction b a).joined
  pub scenario : Rules network.scenario

abbrev pub Ends : EdgeNetwork → Type 0
Ends network = (a b : NodeId) → a ≢ b → (network.direction a b).joined ≡ true → is_up (network.node a) b ≡ true

pub views_of : (network : EdgeNetwork) → Rule network → Views network
views_of network rule = record { view = rule.view; alike = rule.alike; scenario = rule.scenario }

pub rule_from : (network : EdgeNetwork) → Views network → Ends network → Rule network
rule_from network views ends = record { view = views.view; alike = views.alike; ends = ends; scenario = views.scenario }

pub after_kept : (network : EdgeNetwork) (n : NodeId) (new : Control) → Views network → Follow network n new
    → ((a : NodeId) (key : Key) → a ≢ n → FarView network n new a key) → Views (thereafter network n new)
after_kept network n new views follow far = record {
  view = after_views network n new views.scenario follow (λ b key ne. views.view n b key ne) far (λ a b key ne e f. views.view a b key ne);
  alike = views.alike;
  scenario = views.scenario;
}

-- an end that is not let down stays up
pub still_up : (new old joined : Bool) → (new ≡ false → (old ≡ false) ⊎ (joined ≡ false)) → old ≡ true → joined ≡ true → new ≡ true
still_up true old joined down up on = refl
still_up false old joined down up on = elim (down refl) [ inl e ↦ absurd cc | inr e ↦ absurd cc ]

pub after_ends : (network : EdgeNetwork) (n : NodeId) (new : Control) → Follow network n new → Ends network → Ends (thereafter network n new)
after_ends network n new follow ends a b ne joined = elim (node_cases a n) [
  | inl e ↦
      (let apart : n ≢ b = λ i. ne (e ∙ i) in
      let on : (network.direction n b).joined ≡ true = ap (λ x. (network.direction x b).joined) (sym e) ∙ joined in
      ap (λ x. is_up (at_node n new network.node x) b) e ∙ ap (λ (control : Control). is_up control b) (node_here n new network.node)
      ∙ still_up (is_up new b) (is_up (network.node n) b) (network.direction n b).joined (follow.ends b apart) (ends n b apart on) on)
  | inr e ↦ ap (λ (control : Control). is_up control b) (node_there n new network.node a e) ∙ ends a b ne joined
]

-- a step of an edge of a network that meets the rule
pub after_rule : (network : EdgeNetwork) (n : NodeId) (new : Control) → Rule network → Follow network n new
    → ((a : NodeId) (key : Key) → a ≢ n → FarView network n new a key) → Rule (thereafter network n new)
after_rule network n new rule follow far =
    rule_from (thereafter network n new) (after_kept network n new (views_of network rule) follow far) (after_ends network n new follow rule.ends)
