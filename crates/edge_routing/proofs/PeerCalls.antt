-- What the calls of peers make before flows are refreshed.
use Rattle.std.proofs.Common.{option_map, ◌≡◌, ◌≢◌, inl, inr, ℕ, Bool, true, false, cond, List, [], Option, None, Some, is_some, refl, sym, ap, subst, ◌∙◌}
use Rattle.std.specs.Ordering.{eq_by_cmp}
use Rattle.std.specs.List.{fold}
use Rattle.std.specs.FinMap as maps
use Rattle.std.specs.FinMap.{FinMap}
use Rattle.mv_base.specs.Lists.{Among}
use Rattle.mv_base.specs.declared.ids.NodeId.{NodeId}
use Rattle.mv_base.specs.core_walks.Core.{Core}
use Rattle.mldp.specs.declared.mldp_fec.fec.Fec.{Fec}
use Rattle.bgp_messages.specs.declared.bgp_attributes.key.Key.{Key}
use Rattle.bgp_messages.specs.declared.bgp_attributes.update.Message.{Message}
use Rattle.bgp_messages.specs.bgp_update.Table.{changes_of}
use Rattle.table_laws.proofs.CompareLemmas.{one_key, other_key, own_key}
use Rattle.label_defs.specs.Keys.{node_cmp}
use Rattle.label_defs.proofs.KeyLemmas.{node_apart, node_cases, node_cmp_exact, node_cmp_total, node_itself}
use Rattle.scenario_defs.specs.declared.event.Kind.TheVariants as kinds
use Rattle.edge_defs.specs.Edge.{Control, Taken, TakenRoute}
use Rattle.edge_defs.specs.Keys.{key_cmp}
use Rattle.edge_defs.specs.Held.{held_for, told}
use Rattle.edge_defs.specs.Place.{EdgePlace}
use Rattle.edge_defs.specs.Steps.{Call, Noticed, Raised, Rerouted, Timers, Update, effect, peers_run, taken_change, timed, with_update}
use Rattle.edge_words.proofs.edge_laws.Taken.{get-peers_run, table_in, table_run}
use Rattle.edge_routes.specs.edge_home.Home.{Home, peers_of, place_of}
use Rattle.edge_control.specs.edge_tables.Tables.{AtPeer, Both, IsBetween, PeerTable, Tables, downed, raised, waiting_at, waiting_of}
use Rattle.held_tables.proofs.RunLemmas.{held_run}
use Rattle.vrf_words.specs.tree_laws.Joins.{AreOfVrfs}
use Rattle.control_laws.specs.Control.{Kept, control_of}
use Rattle.control_laws.proofs.PeersTimers.{with_run}
use Rattle.edge_control.specs.Sound.{wants_of}
use Rattle.edge_routing.proofs.edge_joins.TurnLemmas.{all_alike}
use Rattle.edge_routing.specs.edge_updates.Changed.{changed_by}
use Rattle.edge_routing.specs.edge_updates.Inclusive.{AreTunnels, HasAllFrom}
use Rattle.edge_routing.proofs.edge_updates.TakenLemmas.{update_is}
use Rattle.edge_routing.proofs.edge_updates.TunnelLemmas.{alike_tunnels, lost_tunnels, raised_tunnels, run_tunnels}
use Rattle.control_laws.specs.group_laws.Groups.{HaveGroups, IsAllowed}
use Rattle.control_laws.proofs.group_laws.Effects.{effect_groups}
use Rattle.edge_labels.specs.node_laws.Waits.{kept_for}
use Rattle.edge_routing.specs.declared.routing.EdgeRouting.{EdgeRouting}
use Rattle.edge_routing.specs.Routing.{AreBetween, IsInStep, IsOnWay}
use Rattle.edge_routing.proofs.Calls.{HasMade}
use Rattle.edge_routing.proofs.CustomerCalls.{held_in}

abbrev Peers : Type 0
Peers = FinMap node_cmp Taken

-- ---- which peers are up

-- where the table of a peer becomes another one
up_put : (peers : Peers) (peer : NodeId) (was is : Taken) (q : NodeId) → maps.get peers peer ≡ Some was
    → is_some (maps.get (maps.insert peers peer is) q) ≡ is_some (maps.get peers q)
up_put peers peer was is q e = ap is_some (maps.get-insert node_cmp_total peers peer is q) ∙ by (eq_by_cmp node_cmp q peer) refl
  where
    by : (b : Bool) → eq_by_cmp node_cmp q peer ≡ b → is_some (cond b (Some is) (maps.get peers q)) ≡ is_some (maps.get peers q)
    by true t = sym (ap is_some (ap (maps.get peers) (one_key node_cmp_exact q peer t) ∙ e))
    by false f = refl

-- where delays are run
up_run : (place : EdgePlace) (now : ℕ) (peers : Peers) (q : NodeId) → is_some (maps.get (peers_run place now peers) q) ≡ is_some (maps.get peers q)
up_run place now peers q = ap is_some (get-peers_run place now peers q) ∙ by (maps.get peers q)
  where
    by : (o : Option Taken) → is_some (option_map (table_run place now q) o) ≡ is_some o
    by None = refl
    by (Some taken) = refl

-- ---- calls that change no peer's end

module _ (call : Call) (now : ℕ) (old : EdgeRouting) (control : Kept) (tunnels : List Fec) (step : IsInStep old)
    (home : control.home ≡ old.control.home)
    (made : (core : Core) → control_of control ≡ effect (place_of old.control.home core) now (control_of old.control) call)
    (wants : wants_of control.trees ≡ wants_of old.control.trees) where
  abbrev thereafter : Core → Control
  thereafter core = effect (place_of old.control.home core) now (control_of old.control) call

  -- where each peer is to have what it was to have
  pub silent_made : IsAllowed call → ((core : Core) → (thereafter core).flows ≡ (control_of old.control).flows)
      → ((core : Core) (peer : NodeId) → is_some (maps.get (thereafter core).peers peer) ≡ is_some (maps.get old.control.peers peer))
      → ((core : Core) (peer : NodeId) → held_for (place_of old.control.home core) (thereafter core) peer
      ≡ held_for (place_of old.control.home core) (control_of old.control) peer)
      → ((peer : NodeId) (octets : List ℕ) → kept_for call peer octets ≡ octets)
      → ((core : Core) → AreTunnels (place_of old.control.home core) (control_of old.control) (thereafter core) tunnels)
      → HasMade call now old control old.tables tunnels
  silent_made allowed flows up held keeps told = record {
    home = home;
    made = made;
    wants = wants;
    allowed = allowed;
    flows = flows;
    up = up;
    hold = λ core peer table at. held_in old step core peer table at ∙ sym (held core peer);
    alike = all_alike old.tables;
    keeps = keeps;
    told = λ core. subst (λ (c : Control). AreTunnels (place_of old.control.home core) (control_of old.control) c tunnels) (sym (made core))
        (told core);
  }

-- ---- an UPDATE message

module _ (now : ℕ) (peer : NodeId) (message : Message) (old : Control) where
  by_changes : Control
  by_changes = changed_by now peer (changes_of message) old

  update_flows : (with_update now peer message old).flows ≡ old.flows
  update_flows = sym (ap (λ (c : Control). c.flows) (update_is now peer message old))

  update_held : (place : EdgePlace) (q : NodeId) → held_for place (with_update now peer message old) q ≡ held_for place old q
  update_held place q = sym (ap (λ (c : Control). held_for place c q) (update_is now peer message old))

  update_up : (q : NodeId) → is_some (maps.get (with_update now peer message old).peers q) ≡ is_some (maps.get old.peers q)
  update_up q = sym (ap (λ (c : Control). is_some (maps.get c.peers q)) (update_is now peer message old)) ∙ by (maps.get old.peers peer) refl
    where
      by : (o : Option Taken) → maps.get old.peers peer ≡ o
          → is_some (maps.get (elim o [
            | None ↦ old.peers
            | Some taken ↦
                maps.insert old.peers peer (fold (taken_change now) taken (changes_of message))
          ]) q) ≡ is_some (maps.get old.peers q)
      by None e = refl
      by (Some taken) e = up_put old.peers peer taken (fold (taken_change now) taken (changes_of message)) q e

pub update_made : (now : ℕ) (peer : NodeId) (message : Message) (old : EdgeRouting) (control : Kept) (tunnels : List Fec) → IsInStep old
    → control.home ≡ old.control.home
    → ((core : Core) → control_of control ≡ effect (place_of old.control.home core) now (control_of old.control) (Update peer message))
    → wants_of control.trees ≡ wants_of old.control.trees
    → ((core : Core) → AreTunnels (place_of old.control.home core) (control_of old.control) (control_of control) tunnels)
    → HasMade (Update peer message) now old control old.tables tunnels
update_made now peer message old control tunnels step home made wants told =
    let was = control_of old.control in
    silent_made (Update peer message) now old control tunnels step home made wants tt (λ core. update_flows now peer message was)
    (λ core q. update_up now peer message was q)
    (λ core q. update_held now peer message was (place_of old.control.home core) q) (λ q octets. refl)
    (λ core. subst (λ (c : Control). AreTunnels (place_of old.control.home core) was c tunnels) (made core) (told core))

-- ---- timers

run_told : (place : EdgePlace) (now : ℕ) (old : Control) (tunnels : List Fec) → AreTunnels place old (timed place now old) tunnels
run_told place now old tunnels fec none =
    let run = run_tunnels place now old tunnels fec none in
    let rest = alike_tunnels place (with_run place now old) (timed place now old) tunnels refl fec none in
    ((λ i. rest.0 (run.0 i)), (λ i. run.1 (rest.1 i)))

pub timers_made : (now : ℕ) (old : EdgeRouting) (control : Kept) (tunnels : List Fec) → IsInStep old → control.home ≡ old.control.home
    → ((core : Core) → control_of control ≡ effect (place_of old.control.home core) now (control_of old.control) Timers)
    → wants_of control.trees ≡ wants_of old.control.trees
    → HasMade Timers now old control old.tables tunnels
timers_made now old control tunnels step home made wants =
    let was = control_of old.control in
    silent_made Timers now old control tunnels step home made wants tt (λ core. refl)
    (λ core q. up_run (place_of old.control.home core) now was.peers q)
    (λ core q. held_run (place_of old.control.home core) was old.control.home.scenario.delay now q) (λ q octets. refl)
    (λ core. run_told (place_of old.control.home core) now was tunnels)

-- ---- a step without an effect of its own

pub rerouted_made : (now : ℕ) (old : EdgeRouting) (tunnels : List Fec) → IsInStep old → HasMade Rerouted now old old.control old.tables tunnels
rerouted_made now old tunnels step =
    silent_made Rerouted now old old.control tunnels step refl (λ core. refl) refl tt (λ core. refl) (λ core q. refl) (λ core q. refl)
    (λ q octets. refl)
    (λ core. alike_tunnels (place_of old.control.home core) (control_of old.control) (control_of old.control) tunnels refl)

-- ---- what happens at one peer

both_keys : (f : PeerTable → PeerTable) (o n : Option PeerTable) → Both (λ own next. next ≡ f own) o n → is_some n ≡ is_some o
both_keys f None None b = refl
both_keys f None (Some table) b = absurd b
both_keys f (Some table) None b = absurd b
both_keys f (Some table) (Some next) b = refl

-- a table after the call is that of one before it
both_there : (f : PeerTable → PeerTable) (o n : Option PeerTable) (table : PeerTable) → Both (λ own next. next ≡ f own) o n → n ≡ Some table
    → (t : PeerTable) × (o ≡ Some t) × (table ≡ f t)
both_there f None None table b e = absurd cc
both_there f None (Some next) table b e = absurd b
both_there f (Some t) None table b e = absurd b
both_there f (Some t) (Some next) table b e = (t, refl, sym (some_same next table e) ∙ b)
  where
    some_same : (x y : PeerTable) → Some x ≡ Some y → x ≡ y
    some_same x y h = cc

module _ (peer : NodeId) (before after : Tables) (f : PeerTable → PeerTable) (change : AtPeer peer (λ own next. next ≡ f own) before after) where
  here : (q : NodeId) → q ≡ peer → Both (λ own next. next ≡ f own) (maps.get before q) (maps.get after q)
  here q e = subst (λ (x : NodeId). Both (λ own next. next ≡ f own) (maps.get before x) (maps.get after x)) (sym e) change.0

  one_keys : (q : NodeId) → is_some (maps.get after q) ≡ is_some (maps.get before q)
  one_keys q =
      elim (node_cases q peer) [ inl e ↦ both_keys f (maps.get before q) (maps.get after q) (here q e) | inr ne ↦ ap is_some (change.1 q ne) ]

  -- Where the others' ends stay, and that of the peer is as the call makes it, the tables are between.
  one_between : (place : EdgePlace) (old new : Control) → AreBetween place old old before
      → ((q : NodeId) → held_for place new q ≡ held_for place old q)
      → ((q : NodeId) → q ≢ peer → is_some (maps.get new.peers q) ≡ is_some (maps.get old.peers q))
      → ((table : PeerTable) → IsBetween place old old peer table → IsBetween place old new peer (f table)) → AreBetween place old new after
  one_between place old new are held up own q table at = elim (node_cases q peer) [
    | inl e ↦
        let was = both_there f (maps.get before q) (maps.get after q) table (here q e) at in
        subst (λ (t : PeerTable). IsBetween place old new q t) (sym was.2) (subst (λ (x : NodeId). IsBetween place old new x (f was.0)) (sym e)
        (own was.0 (subst (λ (x : NodeId). IsBetween place old old x was.0) e (are q was.0 was.1))))
    | inr ne ↦
        let was = are q table (sym (change.1 q ne) ∙ at) in
        record { up = was.up ∙ sym (up q ne); set = was.set ∙ sym (held q); told = was.told }
  ]

-- What a call at the end of one peer's session is known to have made.
pub record HasTurned (call : Call) (peer : NodeId) (f : PeerTable → PeerTable) (now : ℕ) (old : EdgeRouting) (control : Kept) (tables : Tables)
    (tunnels : List Fec) : Type 0 where
  pub home : control.home ≡ old.control.home
  pub made : (core : Core) → control_of control ≡ effect (place_of old.control.home core) now (control_of old.control) call
  pub wants : wants_of control.trees ≡ wants_of old.control.trees
  pub change : AtPeer peer (λ own next. next ≡ f own) old.tables tables
  pub allowed : IsAllowed call
  pub flows : (core : Core) → (effect (place_of old.control.home core) now (control_of old.control) call).flows ≡ (control_of old.control).flows
  pub held : (core : Core) (q : NodeId) → held_for (place_of old.control.home core)
      (effect (place_of old.control.home core) now (control_of old.control) call) q
      ≡ held_for (place_of old.control.home core) (control_of old.control) q
  pub others : (core : Core) (q : NodeId) → q ≢ peer
      → is_some (maps.get (effect (place_of old.control.home core) now (control_of old.control) call).peers q)
      ≡ is_some (maps.get old.control.peers q)
  pub own : (core : Core) (table : PeerTable) → IsBetween (place_of old.control.home core) (control_of old.control) (control_of old.control) peer
      table
      → IsBetween (place_of old.control.home core) (control_of old.control)
      (effect (place_of old.control.home core) now (control_of old.control) call) peer (f table)
  pub waits : (table : PeerTable) → (f table).waiting ≡ kept_for call peer table.waiting
  pub none : kept_for call peer [] ≡ []
  pub keeps : (q : NodeId) → q ≢ peer → (octets : List ℕ) → kept_for call q octets ≡ octets
  pub up : is_some (maps.get control.peers peer) ≡ true → is_some (maps.get old.tables peer) ≡ true
  pub told : (core : Core) → AreTunnels (place_of old.control.home core) (control_of old.control)
      (effect (place_of old.control.home core) now (control_of old.control) call) tunnels

module _ (call : Call) (peer : NodeId) (f : PeerTable → PeerTable) (now : ℕ) (old : EdgeRouting) (control : Kept) (tables : Tables)
    (tunnels : List Fec) (any : Core) (step : IsInStep old)
    (has : HasTurned call peer f now old control tables tunnels) where
  -- of what the call makes, and at the place of what is kept now
  moved : (Is : Home → Control → Type 0) (core : Core)
      → Is old.control.home (effect (place_of old.control.home core) now (control_of old.control) call) → Is control.home (control_of control)
  moved Is core is =
      subst (λ (x : Home). Is x (control_of control)) (sym has.home) (subst (λ (c : Control). Is old.control.home c) (sym (has.made core)) is)

  turned_waits : (q : NodeId) → waiting_at tables q ≡ kept_for call q (waiting_at old.tables q)
  turned_waits q = elim (node_cases q peer) [
    | inl e ↦ subst (λ (x : NodeId). waiting_at tables x ≡ kept_for call x (waiting_at old.tables x)) (sym e)
        (by (maps.get old.tables peer) (maps.get tables peer) has.change.0)
    | inr ne ↦ ap waiting_of (has.change.1 q ne) ∙ sym (has.keeps q ne (waiting_at old.tables q))
  ]
    where
      by : (o n : Option PeerTable) → Both (λ own next. next ≡ f own) o n → waiting_of n ≡ kept_for call peer (waiting_of o)
      by None None b = sym has.none
      by None (Some table) b = absurd b
      by (Some table) None b = absurd b
      by (Some table) (Some next) b = ap (λ (t : PeerTable). t.waiting) b ∙ has.waits table

  turned_up : (q : NodeId) → is_some (maps.get control.peers q) ≡ true → is_some (maps.get old.tables q) ≡ true
  turned_up q h = elim (node_cases q peer) [
    | inl e ↦ subst (λ (x : NodeId). is_some (maps.get old.tables x) ≡ true) (sym e)
        (has.up (subst (λ (x : NodeId). is_some (maps.get control.peers x) ≡ true) e h))
    | inr ne ↦ step.up q (sym (ap (λ (c : Control). is_some (maps.get c.peers q)) (has.made any) ∙ has.others any q ne) ∙ h)
  ]

  pub turned_way : IsOnWay call now old (record { control = control; tables = tables }) tunnels
  turned_way = record {
    home = has.home;
    control =
        λ core. subst (λ (x : Home). control_of control ≡ effect (place_of x core) now (control_of old.control) call) (sym has.home) (has.made core);
    wants = has.wants;
    groups = subst HaveGroups (sym (has.made any))
        (effect_groups (place_of old.control.home any) now (control_of old.control) call step.groups has.allowed);
    vrfs = λ core. moved (λ x c. AreOfVrfs (place_of x core) c) core
        (λ flow up h. step.vrfs core flow up (sym (ap (λ (flows : _). maps.get flows flow) (has.flows core)) ∙ h));
    tables = λ core. moved (λ x c. AreBetween (place_of x core) (control_of old.control) c tables) core
        (one_between peer old.tables tables f has.change (place_of old.control.home core) (control_of old.control)
        (effect (place_of old.control.home core) now (control_of old.control) call) (step.tables core) (has.held core) (has.others core)
        (has.own core));
    waiting = turned_waits;
    peers = one_keys peer old.tables tables f has.change;
    up = λ q h. one_keys peer old.tables tables f has.change q ∙ turned_up q h;
    tunnels = λ core. moved (λ x c. AreTunnels (place_of x core) (control_of old.control) c tunnels) core (has.told core);
  }

-- ---- the end of the session with a peer comes up

up_other : (peers : Peers) (peer q : NodeId) (table : Taken) → q ≢ peer
    → is_some (maps.get (maps.insert peers peer table) q) ≡ is_some (maps.get peers q)
up_other peers peer q table ne =
    ap is_some (maps.get-insert node_cmp_total peers peer table q
    ∙ ap (λ (b : Bool). cond b (Some table) (maps.get peers q)) (other_key node_cmp_exact q peer ne))

up_here : (peers : Peers) (peer : NodeId) (table : Taken) → is_some (maps.get (maps.insert peers peer table) peer) ≡ true
up_here peers peer table =
    ap is_some (maps.get-insert node_cmp_total peers peer table peer
    ∙ ap (λ (b : Bool). cond b (Some table) (maps.get peers peer)) (own_key node_cmp_total peer))

none_from : (place : EdgePlace) (control : Control) (peer : NodeId) (tunnels : List Fec) → maps.get control.peers peer ≡ None
    → HasAllFrom place control peer tunnels
none_from place control peer tunnels down fec is =
    absurd (empty_at is.key is.route (sym (ap (λ (o : Option Taken). maps.get (table_in o) is.key) down) ∙ is.taken))
  where
    empty_at : (key : Key) (route : TakenRoute) → maps.get {R = key_cmp} maps.empty key ≡ Some route → ⊥
    empty_at key route e = (let none = sym (maps.get-empty key_cmp key) ∙ e in absurd cc)

pub raise_made : (peer : NodeId) (now : ℕ) (old : EdgeRouting) (control : Kept) (tables : Tables) (tunnels : List Fec) → IsInStep old
    → control.home ≡ old.control.home
    → ((core : Core) → control_of control ≡ effect (place_of old.control.home core) now (control_of old.control) (Raised kinds.Bgp peer))
    → wants_of control.trees ≡ wants_of old.control.trees → AtPeer peer (λ own next. next ≡ raised own) old.tables tables
    → Among peer (peers_of old.control.home)
    → maps.get old.control.peers peer ≡ None → HasTurned (Raised kinds.Bgp peer) peer raised now old control tables tunnels
raise_made peer now old control tables tunnels step home made wants change among down = record {
  home = home;
  made = made;
  wants = wants;
  change = change;
  allowed = tt;
  flows = λ core. refl;
  held = λ core q. refl;
  others = λ core q ne. up_other old.control.peers peer q maps.empty ne;
  own = λ core table is. record {
    up = sym (up_here old.control.peers peer maps.empty);
    set = is.set;
    told = sym (ap (λ (o : Option Taken). cond (is_some o) (held_for (place_of old.control.home core) (control_of old.control) peer) maps.empty)
        down);
  };
  waits = λ table. refl;
  none = refl;
  keeps = λ q ne octets. refl;
  up = λ h. (step.peers peer).1 among;
  told = λ core. raised_tunnels (place_of old.control.home core) (control_of old.control) peer tunnels
      (none_from (place_of old.control.home core) (control_of old.control) peer tunnels down);
}

-- ---- the loss of the session with a peer is noticed

down_other : (peers : Peers) (peer q : NodeId) → q ≢ peer → is_some (maps.get (maps.remove peers peer) q) ≡ is_some (maps.get peers q)
down_other peers peer q ne =
    ap is_some (maps.get-remove node_cmp_total peers peer q ∙ ap (λ (b : Bool). cond b None (maps.get peers q)) (other_key node_cmp_exact q peer ne))

down_here : (peers : Peers) (peer : NodeId) → is_some (maps.get (maps.remove peers peer) peer) ≡ false
down_here peers peer =
    ap is_some (maps.get-remove node_cmp_total peers peer peer ∙ ap (λ (b : Bool). cond b None (maps.get peers peer)) (own_key node_cmp_total peer))

pub lose_made : (peer : NodeId) (now : ℕ) (old : EdgeRouting) (control : Kept) (tables : Tables) (tunnels : List Fec) → IsInStep old
    → control.home ≡ old.control.home
    → ((core : Core) → control_of control ≡ effect (place_of old.control.home core) now (control_of old.control) (Noticed kinds.Bgp peer))
    → wants_of control.trees ≡ wants_of old.control.trees → AtPeer peer (λ own next. next ≡ downed own) old.tables tables
    → ((core : Core) → HasAllFrom (place_of old.control.home core) (control_of old.control) peer tunnels) → (core : Core)
    → HasTurned (Noticed kinds.Bgp peer) peer downed now old control tables tunnels
lose_made peer now old control tables tunnels step home made wants change listed any = record {
  home = home;
  made = made;
  wants = wants;
  change = change;
  allowed = tt;
  flows = λ core. refl;
  held = λ core q. refl;
  others = λ core q ne. down_other old.control.peers peer q ne;
  own = λ core table is. record { up = sym (down_here old.control.peers peer); set = is.set; told = refl };
  waits = λ table. sym (ap (λ (b : Bool). cond b [] table.waiting) (node_itself peer peer refl));
  none = ap (λ (b : Bool). cond b [] []) (node_itself peer peer refl);
  keeps = λ q ne octets. ap (λ (b : Bool). cond b [] octets) (node_apart peer q (λ e. ne (sym e)));
  up = λ h. (let down = sym (ap (λ (c : Control). is_some (maps.get c.peers peer)) (made any) ∙ down_here old.control.peers peer) ∙ h in absurd cc);
  told = λ core. lost_tunnels (place_of old.control.home core) (control_of old.control) peer tunnels (listed core);
}
