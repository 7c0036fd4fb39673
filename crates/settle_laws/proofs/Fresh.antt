-- What a step of an edge whose flows are those asked for at the clock puts over BGP, and which leaves it changes.
use Rattle.std.proofs.Common.{◌≡◌, ℕ, ◌==◌, Bool, true, false, cond, List, [], ◌∷◌, ◌++◌, map, Option, Some, None, is_some, refl, sym, ap, ◌∙◌, fold, flat_map}
use Rattle.std.specs.List.{filter, list_any}
use Rattle.std.specs.FinMap as maps
use Rattle.std.specs.FinSet as sets
use Rattle.std.specs.FinMap.{get-insert, get-remove}
use Rattle.std.specs.Ordering.{eq_by_cmp}
use Rattle.std.proofs.lemmas.Bool.{and_parts, eqb-true}
use Rattle.mv_base.specs.Number.{◌>>?◌}
use Rattle.mv_base.specs.declared.addr.Addr.{Addr}
use Rattle.mv_base.specs.declared.addr.Addr.TheVariants.{V4}
use Rattle.mv_base.specs.declared.ids.NodeId.{NodeId}
use Rattle.mv_base.specs.declared.prefix.Prefix.{Prefix}
use Rattle.mv_base.specs.declared.rd.Rd.{Rd}
use Rattle.bgp_values.specs.declared.mvpn_nlri.route.Afi.TheVariants.{Ipv4, Ipv6}
use Rattle.bgp_values.specs.declared.mvpn_nlri.route.Route.TheVariants as routes
use Rattle.bgp_messages.specs.declared.bgp_attributes.key.Key.{Key}
use Rattle.bgp_messages.specs.declared.bgp_attributes.key.Key.TheVariants.{Mcast, Unicast}
use Rattle.bgp_messages.specs.declared.bgp_attributes.update.Change.{Change}
use Rattle.bgp_messages.specs.declared.bgp_attributes.update.Change.TheVariants as updates
use Rattle.bgp_messages.specs.declared.bgp_attributes.update.Message.{Message}
use Rattle.bgp_messages.specs.bgp_update.Table.{key_of, changes_of}
use Rattle.label_defs.specs.Keys.{node_cmp}
use Rattle.label_defs.proofs.KeyLemmas.{node_cmp_total, node_cmp_exact}
use Rattle.mv_base.specs.table_defs.Changes.{changes}
use Rattle.table_laws.proofs.CompareLemmas.{one_key, other_key}
use Rattle.table_laws.proofs.OrderLemmas.{none_are}
use Rattle.choice_defs.specs.Choice.{best_route, of_site}
use Rattle.choice_defs.specs.declared.known_route.KnownRoute.{KnownRoute}
use Rattle.choice_defs.specs.declared.origin.Origin.TheVariants as origins
use Rattle.edge_defs.specs.Edge.{VrfFlow, Upstream, Site, Remote, TakenRoute, Taken, Control}
use Rattle.edge_defs.specs.Flows.{noted_flow, active_from, same_flow, ifaces_of, joined_by, vrf_flows, flows_at}
use Rattle.pim_defs.specs.Entries.{asks}
use Rattle.scenario_defs.specs.Home.{local_routes}
use Rattle.selective_defs.specs.Selective.{wanted}
use Rattle.selective_defs.specs.declared.learned_route.LearnedRoute.{LearnedRoute}
use Rattle.mldp.specs.declared.mldp_msgs.message.LabelMessage.{LabelMessage}
use Rattle.edge_defs.specs.Held.{join_route, told, put_to}
use Rattle.edge_defs.specs.Imported.{FlowRoute, join_by, found_in, taken_from, imported_active, imported_inclusive, imported_selective}
use Rattle.edge_defs.specs.Keys.{Table, key_cmp, same_value}
use Rattle.edge_defs.specs.Originated.{notes_of, originated}
use Rattle.edge_defs.specs.Place.{EdgePlace, OwnVrf, addr_of, own_vrfs}
use Rattle.edge_defs.specs.Steps as steps
use Rattle.edge_defs.specs.Steps.{learned, taken_change, control_step, refreshed}
use Rattle.edge_defs.specs.Tunnels.{inclusive_tunnels, flow_tunnels, learned_route, learned_routes, leaves}
use Rattle.edge_defs.specs.Upstream.{costs_of, known_route, known_from, upstream_for}
use Rattle.edge_defs.proofs.KeyLemmas.{key_total, key_exact, value_exact}
use Rattle.settle_laws.specs.Ranks.{IsFresh, kind_of, joins_only}
use Rattle.settle_laws.proofs.Entries.{found_insert, found_remove, read_insert}

-- ---- one table taken

-- nothing is read of joins
abbrev PassesJoins : {B : Type 0} → (Key × TakenRoute → Option B) → Type 0
PassesJoins f = (key : Key) (route : TakenRoute) → kind_of key ≡ 7 → f (key, route) ≡ None

any_route : TakenRoute
any_route = record { value = record { next_hop = V4 []; comms = []; pmsi = None }; since = 0; run = false }

change_found : {B : Type 0} (f : Key × TakenRoute → Option B) → PassesJoins f → (now : ℕ) (taken : Taken) (change : Change)
    → kind_of (key_of change) ≡ 7 → found_in f (maps.entries (taken_change now taken change)) ≡ found_in f (maps.entries taken)
change_found f none now taken (updates.Reach advert) is =
    found_insert key_total key_exact f taken advert.key
    (learned now (record { next_hop = advert.next_hop; comms = advert.comms; pmsi = advert.pmsi }) (maps.get taken advert.key))
    (λ w. none advert.key w is)
change_found f none now taken (updates.Unreach key) is = found_remove key_total key_exact f taken key any_route (λ w. none key w is)

apart : (rd : Rd) (prefix : Prefix) (key : Key) → kind_of key ≡ 7 → eq_by_cmp key_cmp (Unicast rd prefix) key ≡ false
apart rd prefix key is = other_key key_exact (Unicast rd prefix) key (λ same. let bad : 0 ≡ 7 = ap kind_of same ∙ is in absurd cc)

change_get : (now : ℕ) (taken : Taken) (change : Change) → kind_of (key_of change) ≡ 7 → (rd : Rd) (prefix : Prefix)
    → maps.get (taken_change now taken change) (Unicast rd prefix) ≡ maps.get taken (Unicast rd prefix)
change_get now taken (updates.Reach advert) is rd prefix =
    let route = learned now (record { next_hop = advert.next_hop; comms = advert.comms; pmsi = advert.pmsi }) (maps.get taken advert.key) in
    get-insert key_total taken advert.key route (Unicast rd prefix)
    ∙ ap (λ (b : Bool). cond b (Some route) (maps.get taken (Unicast rd prefix))) (apart rd prefix advert.key is)
change_get now taken (updates.Unreach key) is rd prefix =
    get-remove key_total taken key (Unicast rd prefix) ∙ ap (λ (b : Bool). cond b None (maps.get taken (Unicast rd prefix))) (apart rd prefix key is)

is_join : (change : Change) (more : List Change) → joins_only (change ∷ more) ≡ true → (kind_of (key_of change) ≡ 7) × (joins_only more ≡ true)
is_join change more h = let parts = and_parts (kind_of (key_of change) == 7) (joins_only more) h in
    (eqb-true (kind_of (key_of change)) 7 parts.0, parts.1)

all_found : {B : Type 0} (f : Key × TakenRoute → Option B) → PassesJoins f → (now : ℕ) (all : List Change) (taken : Taken) → joins_only all ≡ true
    → found_in f (maps.entries (fold (taken_change now) taken all)) ≡ found_in f (maps.entries taken)
all_found f none now [] taken is = refl
all_found f none now (change ∷ more) taken is = let j = is_join change more is in
    all_found f none now more (taken_change now taken change) j.1 ∙ change_found f none now taken change j.0

all_get : (now : ℕ) (all : List Change) (taken : Taken) → joins_only all ≡ true → (rd : Rd) (prefix : Prefix)
    → maps.get (fold (taken_change now) taken all) (Unicast rd prefix) ≡ maps.get taken (Unicast rd prefix)
all_get now [] taken is rd prefix = refl
all_get now (change ∷ more) taken is rd prefix = let j = is_join change more is in
    all_get now more (taken_change now taken change) j.1 rd prefix ∙ change_get now taken change j.0 rd prefix

-- ---- what is not read of joins

bad_kind : (n : ℕ) → n ≡ 7 → (n == 7) ≡ false → ⊥
bad_kind n e h = let x : (7 == 7) ≡ false = ap (λ (m : ℕ). m == 7) (sym e) ∙ h in absurd cc

no_known : (place : EdgePlace) (own : OwnVrf) (peer : NodeId) → PassesJoins (known_route place own.vrf peer)
no_known place own peer (Unicast rd prefix) route is = absurd (bad_kind 0 is refl)
no_known place own peer (Mcast afi one) route is = refl

no_active : (own : OwnVrf) → PassesJoins (imported_active own.vrf)
no_active own (Unicast rd prefix) route is = refl
no_active own (Mcast afi (routes.Active rd source group)) route is = absurd (bad_kind 5 is refl)
no_active own (Mcast afi (routes.Intra rd originator)) route is = refl
no_active own (Mcast afi (routes.Inter rd source_as)) route is = refl
no_active own (Mcast afi (routes.Selective rd source group originator)) route is = refl
no_active own (Mcast afi (routes.Leaf key originator)) route is = refl
no_active own (Mcast afi (routes.SharedJoin rd source_as source group)) route is = refl
no_active own (Mcast afi (routes.SourceJoin rd source_as source group)) route is = refl
no_active own (Mcast afi (routes.Other kind octets)) route is = refl

no_inclusive : (own : OwnVrf) (peer : Addr) → PassesJoins (imported_inclusive own.vrf peer)
no_inclusive own peer (Unicast rd prefix) route is = refl
no_inclusive own peer (Mcast Ipv4 (routes.Intra rd originator)) route is = absurd (bad_kind 1 is refl)
no_inclusive own peer (Mcast Ipv6 (routes.Intra rd originator)) route is = refl
no_inclusive own peer (Mcast Ipv4 (routes.SourceJoin rd source_as source group)) route is = refl
no_inclusive own peer (Mcast Ipv6 (routes.SourceJoin rd source_as source group)) route is = refl
no_inclusive own peer (Mcast afi (routes.Inter rd source_as)) route is = absurd (bad_kind 2 is refl)
no_inclusive own peer (Mcast afi (routes.Selective rd source group originator)) route is = absurd (bad_kind 3 is refl)
no_inclusive own peer (Mcast afi (routes.Leaf key originator)) route is = absurd (bad_kind 4 is refl)
no_inclusive own peer (Mcast afi (routes.Active rd source group)) route is = absurd (bad_kind 5 is refl)
no_inclusive own peer (Mcast afi (routes.SharedJoin rd source_as source group)) route is = absurd (bad_kind 6 is refl)
no_inclusive own peer (Mcast afi (routes.Other kind octets)) route is = absurd (bad_kind 8 is refl)

no_selective : (own : OwnVrf) (peer : Addr) → PassesJoins (imported_selective own.vrf peer)
no_selective own peer (Unicast rd prefix) route is = refl
no_selective own peer (Mcast afi (routes.SourceJoin rd source_as source group)) route is = refl
no_selective own peer (Mcast afi (routes.Intra rd originator)) route is = absurd (bad_kind 1 is refl)
no_selective own peer (Mcast afi (routes.Inter rd source_as)) route is = absurd (bad_kind 2 is refl)
no_selective own peer (Mcast afi (routes.Selective rd source group originator)) route is = absurd (bad_kind 3 is refl)
no_selective own peer (Mcast afi (routes.Leaf key originator)) route is = absurd (bad_kind 4 is refl)
no_selective own peer (Mcast afi (routes.Active rd source group)) route is = absurd (bad_kind 5 is refl)
no_selective own peer (Mcast afi (routes.SharedJoin rd source_as source group)) route is = absurd (bad_kind 6 is refl)
no_selective own peer (Mcast afi (routes.Other kind octets)) route is = absurd (bad_kind 8 is refl)

no_learned : (place : EdgePlace) (own : OwnVrf) (peer : NodeId) → PassesJoins (learned_route place own peer)
no_learned place own peer key route is = ap (λ (o : Option _). elim o [
  | None ↦ None
  | Some imported ↦ Some (record {
    pattern = record { source = imported.route.source; group = imported.route.group };
    fec = imported.fec;
    since =
        route.since;
    run = route.run;
  })
]) (no_selective own (addr_of place.scenario peer) key route is)

-- ---- a join that is taken

-- the table of one peer becomes another
abbrev pub with_taken : Control → NodeId → Taken → Control
with_taken old peer taken = record old { peers = maps.insert old.peers peer taken }

module _ (place : EdgePlace) (now : ℕ) (old : Control) (peer : NodeId) (taken : Taken) (all : List Change) (at : maps.get old.peers peer ≡ Some taken)
    (joins : joins_only all ≡ true) where
  abbrev new : Taken
  new = fold (taken_change now) taken all

  found : {B : Type 0} (f : Key × TakenRoute → Option B) → PassesJoins f → found_in f (maps.entries new) ≡ found_in f (maps.entries taken)
  found f none = all_found f none now all taken joins

  gets : (rd : Rd) (prefix : Prefix) → maps.get new (Unicast rd prefix) ≡ maps.get taken (Unicast rd prefix)
  gets rd prefix = all_get now all taken joins rd prefix

  abbrev after : Control
  after = with_taken old peer new

  -- what is read peer by peer
  reads : {B : Type 0} (g : NodeId × Taken → List B) → g (peer, new) ≡ g (peer, taken)
      → flat_map g (maps.entries after.peers) ≡ flat_map g (maps.entries old.peers)
  reads g same = read_insert node_cmp_total node_cmp_exact g old.peers peer new taken at same

  active_same : (own : OwnVrf) → flat_map (active_from own) (maps.entries after.peers) ≡ flat_map (active_from own) (maps.entries old.peers)
  active_same own = reads (active_from own) (found (imported_active own.vrf) (no_active own))

  known_same : (own : OwnVrf) → flat_map (known_from place own.vrf) (maps.entries after.peers)
      ≡ flat_map (known_from place own.vrf) (maps.entries old.peers)
  known_same own = reads (known_from place own.vrf) (found (known_route place own.vrf peer) (no_known place own peer))

  inclusive_same : (own : OwnVrf) → flat_map (inclusive_tunnels place own) (maps.entries after.peers)
      ≡ flat_map (inclusive_tunnels place own) (maps.entries old.peers)
  inclusive_same own =
      reads (inclusive_tunnels place own) (found (imported_inclusive own.vrf (addr_of place.scenario peer))
      (no_inclusive own (addr_of place.scenario peer)))

  abbrev or_none : Option Taken → Taken
  or_none o = elim o [ None ↦ maps.empty | Some own ↦ own ]

  -- what is read of the table of one peer
  of_table : {C : Type 0} (h : Taken → C) → h new ≡ h taken → (q : NodeId) → h (taken_from after q) ≡ h (taken_from old q)
  of_table h same q = by (eq_by_cmp node_cmp q peer) refl
    where
      by : (b : Bool) → eq_by_cmp node_cmp q peer ≡ b → h (taken_from after q) ≡ h (taken_from old q)
      by true e =
          let one : q ≡ peer = one_key node_cmp_exact q peer e in
          let here : maps.get after.peers q ≡ Some new =
          get-insert node_cmp_total old.peers peer new q ∙ ap (λ (b : Bool). cond b (Some new) (maps.get old.peers q)) e in
          let there : maps.get old.peers q ≡ Some taken = ap (maps.get old.peers) one ∙ at in
          ap (λ (o : Option Taken). h (or_none o)) here ∙ same ∙ sym (ap (λ (o : Option Taken). h (or_none o)) there)
      by false e =
          let here : maps.get after.peers q ≡ maps.get old.peers q =
          get-insert node_cmp_total old.peers peer new q ∙ ap (λ (b : Bool). cond b (Some new) (maps.get old.peers q)) e in
          ap (λ (o : Option Taken). h (or_none o)) here

  get_same : (q : NodeId) (rd : Rd) (prefix : Prefix)
      → maps.get (taken_from after q) (Unicast rd prefix) ≡ maps.get (taken_from old q) (Unicast rd prefix)
  get_same q rd prefix = of_table (λ (t : Taken). maps.get t (Unicast rd prefix)) (gets rd prefix) q

  learned_same : (own : OwnVrf) (q : NodeId) → learned_routes place after own q ≡ learned_routes place old own q
  learned_same own q =
      of_table (λ (t : Taken). found_in (learned_route place own q) (maps.entries t)) (found (learned_route place own q) (no_learned place own q)) q

  -- what an edge is known to be up, it still is
  up_same : (q : NodeId) → is_some (maps.get after.peers q) ≡ is_some (maps.get old.peers q)
  up_same q = by (eq_by_cmp node_cmp q peer) refl
    where
      by : (b : Bool) → eq_by_cmp node_cmp q peer ≡ b → is_some (maps.get after.peers q) ≡ is_some (maps.get old.peers q)
      by true e =
          let one : q ≡ peer = one_key node_cmp_exact q peer e in
          let here : maps.get after.peers q ≡ Some new =
          get-insert node_cmp_total old.peers peer new q ∙ ap (λ (b : Bool). cond b (Some new) (maps.get old.peers q)) e in
          let there : maps.get old.peers q ≡ Some taken = ap (maps.get old.peers) one ∙ at in
          ap is_some here ∙ sym (ap is_some there)
      by false e = ap is_some (get-insert node_cmp_total old.peers peer new q ∙ ap (λ (b : Bool). cond b (Some new) (maps.get old.peers q)) e)

  abbrev upstream_with : OwnVrf → Addr → Addr → List KnownRoute → (NodeId → Rd → Prefix → Option TakenRoute) → Option Upstream
  upstream_with own source group known table =
      let routes = map of_site (local_routes place.scenario own.id) ++ known in
      best_route (costs_of place own routes source group) routes source >>? λ route.
      elim route.origin [
        | origins.Local site ↦ Some (Site site)
        | origins.Remote edge address rd ↦
            table edge rd route.prefix >>? λ one.
            join_by address one.value >>? λ by.
            Some (Remote edge rd by.import by.source_as)
      ]

  upstream_same : (own : OwnVrf) (source group : Addr) → upstream_for place after own source group ≡ upstream_for place old own source group
  upstream_same own source group = λ i. upstream_with own source group (known_same own i) (λ q rd prefix. get_same q rd prefix i)

  abbrev flows_with : OwnVrf → List FlowRoute → (Addr → Addr → Option Upstream) → List (VrfFlow × Option Upstream)
  flows_with own known up =
      let active = map noted_flow (notes_of place old own.id) ++ known in
      map (λ flow. (record { vrf = own.id; source = flow.source; group = flow.group }, up flow.source flow.group))
      (filter (λ flow. list_any (λ iface. asks old.entries iface flow.source flow.group (list_any (same_flow flow.source flow.group) active) now)
      (ifaces_of place own))
      (found_in (joined_by place own) (maps.keys old.entries) ++ active))

  vrf_same : (own : OwnVrf) → vrf_flows place now after own ≡ vrf_flows place now old own
  vrf_same own = λ i. flows_with own (active_same own i) (λ source group. upstream_same own source group i)

  flows_same : flows_at place now after ≡ flows_at place now old
  flows_same = λ i. maps.from_entries (flat_map (λ own. vrf_same own i) (own_vrfs place))

  -- the flows that are wanted, and so the leaves
  tunnels_same : (own : OwnVrf) (entry : VrfFlow × Option Upstream) → flow_tunnels place after own entry ≡ flow_tunnels place old own entry
  tunnels_same own (flow, None) = refl
  tunnels_same own (flow, Some (Site site)) = refl
  tunnels_same own (flow, Some (Remote edge rd import source_as)) =
      ap (λ (l : List LearnedRoute). map (λ route. route.fec) (wanted l flow.source flow.group)) (learned_same own edge)

  abbrev later : Control
  later = refreshed place now after

  module _ (fresh : IsFresh place now old) where
    still : later.flows ≡ old.flows
    still = flows_same ∙ sym fresh

    leaves_same : leaves place old ≡ leaves place later
    leaves_same = λ i. sets.from_list (flat_map (λ own. sym (inclusive_same own) i ++ flat_map (λ entry. sym (tunnels_same own entry) i)
        (filter (λ (entry : VrfFlow × Option Upstream). entry.0.vrf.0 == own.id.0) (maps.entries (sym still i)))) (own_vrfs place))

    told_same : (q : NodeId) → told place later q ≡ told place old q
    told_same q =
        λ i. cond (up_same q i) (maps.from_entries (originated place old ++ found_in (join_route place q) (maps.entries (still i)))) maps.empty

none_put : (b : Bool) (table other : Table) → other ≡ table → cond b (changes same_value table other) [] ≡ []
none_put true table other same = ap (changes same_value table) same ∙ none_are key_total key_exact same_value value_exact table
none_put false table other same = refl

-- Nothing is put, and the leaves stay.
pub record IsQuiet (place : EdgePlace) (old new : Control) : Type 0 where
  pub puts : (peer : NodeId) → put_to place old new peer ≡ []
  pub leaves : leaves place old ≡ leaves place new

pub itself_quiet : (place : EdgePlace) (old new : Control) → old ≡ new → IsQuiet place old new
itself_quiet place old new same = record {
  puts = λ peer. none_put (is_some (maps.get new.peers peer)) (told place old peer) (told place new peer)
      (ap (λ (c : Control). told place c peer) (sym same));
  leaves = ap (leaves place) same;
}

-- at its own clock a fresh edge stays as it is
pub refreshed_itself : (place : EdgePlace) (now : ℕ) (old : Control) → IsFresh place now old → old ≡ refreshed place now old
refreshed_itself place now old fresh = λ i. record old { flows = fresh i }

-- A label message that is taken changes nothing of what an edge keeps of customers and of BGP.
pub label_quiet : (place : EdgePlace) (now : ℕ) (old : Control) (from : NodeId) (message : LabelMessage) → IsFresh place now old
    → IsQuiet place old (control_step place now old (steps.Label from message))
label_quiet place now old from message fresh = itself_quiet place old (refreshed place now old) (refreshed_itself place now old fresh)

-- Joins that are taken are answered by nothing.
pub joins_quiet : (place : EdgePlace) (now : ℕ) (old : Control) (peer : NodeId) (message : Message) → IsFresh place now old
    → joins_only (changes_of message) ≡ true → IsQuiet place old (control_step place now old (steps.Update peer message))
joins_quiet place now old peer message fresh joins = by (maps.get old.peers peer) refl
  where
    by : (o : Option Taken) → maps.get old.peers peer ≡ o → IsQuiet place old (refreshed place now (elim o [
      | None ↦ old
      | Some taken ↦ record old { peers = maps.insert old.peers peer (fold (taken_change now) taken (changes_of message)) }
    ]))
    by None at = itself_quiet place old (refreshed place now old) (refreshed_itself place now old fresh)
    by (Some taken) at = record {
      puts = λ q. none_put (is_some (maps.get (later place now old peer taken (changes_of message) at joins).peers q)) (told place old q)
          (told place (later place now old peer taken (changes_of message) at joins) q)
          (told_same place now old peer taken (changes_of message) at joins fresh q);
      leaves = leaves_same place now old peer taken (changes_of message) at joins fresh;
    }
