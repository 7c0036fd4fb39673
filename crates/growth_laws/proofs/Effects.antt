-- What the own effect of each call that takes nothing back makes of what an edge keeps.
use Rattle.std.proofs.Common.{◌≡◌, ℕ, ◌+◌, ◌<◌, ◌≤◌, Bool, true, false, cond, fold, List, is_some, option_map, Option, Some, None, ◌⊎◌, inl, inr, refl, sym, ap, subst, ◌∙◌}
use Rattle.std.specs.Ordering.{eq_by_cmp}
use Rattle.std.specs.FinMap as maps
use Rattle.std.specs.FinMap.{FinMap}
use Rattle.std.proofs.lemmas.Option.{same_Some, none-some}
use Rattle.mv_base.specs.Lists.{Among}
use Rattle.mv_base.specs.Pattern.{rank}
use Rattle.mv_base.specs.declared.addr.Addr.{Addr}
use Rattle.mv_base.specs.declared.ids.IfaceId.{IfaceId}
use Rattle.mv_base.specs.declared.ids.NodeId.{NodeId}
use Rattle.mv_base.specs.declared.ids.VrfId.{VrfId}
use Rattle.mv_base.specs.declared.pattern.Pattern.{Pattern}
use Rattle.mldp.specs.declared.mldp_fec.fec.Fec.{Fec}
use Rattle.bgp_messages.specs.declared.bgp_attributes.key.Key.{Key}
use Rattle.bgp_messages.specs.bgp_update.Table.{changes_of}
use Rattle.scenario_defs.specs.Rules.{Rules}
use Rattle.scenario_defs.specs.declared.event.JoinEntry.TheVariants as entries
use Rattle.mv_base.specs.table_defs.Changes.{key_of, value_of}
use Rattle.mv_base.specs.declared.table_defs.change.Change.{Change}
use Rattle.mv_base.specs.declared.table_defs.change.Change.TheVariants.{Reach, Unreach}
use Rattle.label_defs.specs.Keys.{node_cmp}
use Rattle.label_defs.proofs.KeyLemmas.{node_cases}
use Rattle.label_defs.proofs.SetLemmas.{get-changed}
use Rattle.label_defs.proofs.SetLemmas as sets_of
use Rattle.pim_defs.specs.Single.{join_of}
use Rattle.edge_defs.specs.Edge.{VrfPattern, pattern_cmp, Selected, TakenRoute, Taken, Control}
use Rattle.edge_defs.specs.Keys.{Value, key_cmp, same_value}
use Rattle.edge_defs.specs.Place.{EdgePlace, OwnVrf, own_addr, own_vrfs, lsp, tunnel_number}
use Rattle.edge_defs.specs.Steps as steps
use Rattle.edge_defs.specs.Steps.{learned, taken_change, with_update, selection_run, selections_run, peers_run, effect}
use Rattle.edge_defs.proofs.KeyLemmas.{pattern_total, pattern_exact}
use Rattle.edge_words.specs.edge_laws.Acts.{message_of}
use Rattle.edge_words.proofs.edge_laws.Local.{taken_after}
use Rattle.edge_words.proofs.edge_laws.Taken.{change_taken, table_run, run_at, get-peers_run, table_in, run_taken, put_own, put_other}
use Rattle.edge_words.specs.held_laws.Held.{IsJoinKey, Originates}
use Rattle.edge_words.proofs.held_laws.Originated.{one_value}
use Rattle.table_laws.proofs.CompareLemmas.{one_key}
use Rattle.edge_defs.proofs.KeyLemmas.{key_exact}
use Rattle.growth_laws.specs.Edges.{TakenStays, EntriesStay, AreLasting}
use Rattle.growth_laws.proofs.Entries.{joins_stay, timers_stay}
use Rattle.growth_laws.proofs.Homes.{TakenIsTold}
use Rattle.growth_laws.proofs.Told.{SaysOn, says_itself, IsPicked, IsTrue}

-- What an edge keeps, by what all edges say: its entries are (S,G) joins that last, its selections have their tunnels among the trees,
-- what it took is what others say, and it has no session with itself.
pub record Grown (horizon : ℕ) (trees : List Fec) (at : NodeId → EdgePlace) (kept : NodeId → Control) (n : NodeId) (control : Control) : Type 0 where
  pub lasting : AreLasting horizon control
  pub picked : IsPicked trees (at n) control
  pub told : TakenIsTold at kept control
  pub alone : maps.get control.peers n ≡ None

-- A call's own effect: what the edge keeps is such again, and nothing of it is taken back. The flows are left as they are.
pub record GrowsTo (horizon : ℕ) (trees : List Fec) (at : NodeId → EdgePlace) (kept : NodeId → Control) (n : NodeId) (old new : Control) : Type 0
  where
    pub grown : Grown horizon trees at kept n new
    pub taken : TakenStays old new
    pub entries : EntriesStay old new
    pub says : SaysOn old new
    pub flows : new.flows ≡ old.flows
    pub ups : (peer : NodeId) → is_some (maps.get new.peers peer) ≡ true → is_some (maps.get old.peers peer) ≡ false → ⊥

module _ (horizon : ℕ) (trees : List Fec) (at : NodeId → EdgePlace) (kept : NodeId → Control) (n : NodeId) (old : Control)
    (g : Grown horizon trees at kept n old) where
  taken_itself : TakenStays old old
  taken_itself peer key route not h = (route, h, refl)

  entries_themselves : EntriesStay old old
  entries_themselves at_entry expiry h = (expiry, h)

  both : (b : Bool) → b ≡ true → b ≡ false → ⊥
  both b h k = absurd (let bad : true ≡ false = sym h ∙ k in cc)

  pub itself_grows : GrowsTo horizon trees at kept n old old
  itself_grows =
      record {
        grown = g;
        taken = taken_itself;
        entries = entries_themselves;
        says = says_itself old;
        flows = refl;
        ups =
            λ peer h k. both (is_some (maps.get old.peers peer)) h k;
      }

  -- ---- other peers' tables

  -- tables in which each route that was there is there with its value, and each route that is there is what its peer says
  pub record PeersGrow (peers : FinMap node_cmp Taken) : Type 0 where
    pub stay : (u : NodeId) (key : Key) (route : TakenRoute) → (IsJoinKey key → ⊥) → maps.get (table_in (maps.get old.peers u)) key ≡ Some route
        → (next : TakenRoute) × (maps.get (table_in (maps.get peers u)) key ≡ Some next) × (next.value ≡ route.value)
    pub told : (u : NodeId) (key : Key) (route : TakenRoute) → (IsJoinKey key → ⊥) → maps.get (table_in (maps.get peers u)) key ≡ Some route
        → Originates (at u) (kept u) key route.value
    pub alone : maps.get peers n ≡ None

  with_peers : (peers : FinMap node_cmp Taken) → PeersGrow peers
      → ((peer : NodeId) → is_some (maps.get peers peer) ≡ true → is_some (maps.get old.peers peer) ≡ false → ⊥)
      → GrowsTo horizon trees at kept n old (record old { peers = peers })
  with_peers peers p ups = record {
    grown = record { lasting = g.lasting; picked = g.picked; told = p.told; alone = p.alone };
    taken = p.stay;
    entries = entries_themselves;
    says = record { selections = λ key selected h. (selected, h, refl); notes = λ note h. h };
    flows = refl;
    ups = ups;
  }

  -- ---- a message of a peer

  learned_value : (clock : ℕ) (value : Value) (route : TakenRoute) → value ≡ route.value → (learned clock value (Some route)).value ≡ route.value
  learned_value clock value route e =
      elim (same_value route.value value) as (λ b. (cond b route (record { value = value; since = clock; run = false })).value ≡ route.value)
      [ true ↦ refl | false ↦ e ]

  -- a change that is true of the peer, at a key that is none of a join
  module _ (rules : (u : NodeId) → Rules (at u).scenario) (clock : ℕ) (peer : NodeId) (table : Taken) (change : Change Key Value)
      (is : IsTrue (at peer) (kept peer) change)
      (told : (key : Key) (route : TakenRoute) → (IsJoinKey key → ⊥) → maps.get table key ≡ Some route
      → Originates (at peer) (kept peer) key route.value) where
    abbrev after : Taken
    after = fold (taken_change clock) table (changes_of (message_of change))

    route_stays : (own : Change Key Value) → IsTrue (at peer) (kept peer) own → (key : Key) (route : TakenRoute) → (IsJoinKey key → ⊥)
        → maps.get table key ≡ Some route → (b : Bool) → eq_by_cmp key_cmp key (key_of own) ≡ b
        → (next : TakenRoute) × (cond b (taken_after clock (value_of own) (maps.get table key)) (maps.get table key) ≡ Some next)
        × (next.value ≡ route.value)
    route_stays own true_own key route not h false e = (route, h, refl)
    route_stays (Unreach gone) true_own key route not h true e = absurd (not (subst IsJoinKey (sym (one_key key_exact key gone e)) true_own))
    route_stays (Reach new value) true_own key route not h true e =
        let same : key ≡ new = one_key key_exact key new e in
        let says : Originates (at peer) (kept peer) key value =
        subst (λ (k : Key). Originates (at peer) (kept peer) k value) (sym same) (true_own (λ join. not (subst IsJoinKey (sym same) join))) in
        let one : value ≡ route.value = one_value (at peer) (kept peer) key value route.value (rules peer) says (told key route not h) in
        (learned clock value (Some route), ap (λ (o : Option TakenRoute). Some (learned clock value o)) h, learned_value clock value route one)

    learned_told : (key : Key) (value : Value) (o : Option TakenRoute)
        → ((route : TakenRoute) → o ≡ Some route → Originates (at peer) (kept peer) key route.value) → Originates (at peer) (kept peer) key value
        → Originates (at peer) (kept peer) key (learned clock value o).value
    learned_told key value None was says = says
    learned_told key value (Some route) was says =
        elim (same_value route.value value) as (λ b. Originates (at peer) (kept peer) key
        (cond b route (record { value = value; since = clock; run = false })).value) [
          | true ↦ was route refl
          | false ↦ says
        ]

    route_told : (own : Change Key Value) → IsTrue (at peer) (kept peer) own → (key : Key) (route : TakenRoute) → (IsJoinKey key → ⊥) → (b : Bool)
        → eq_by_cmp key_cmp key (key_of own) ≡ b
        → cond b (taken_after clock (value_of own) (maps.get table key)) (maps.get table key) ≡ Some route
        → Originates (at peer) (kept peer) key route.value
    route_told own true_own key route not false e h = told key route not h
    route_told (Unreach gone) true_own key route not true e h = absurd (none-some route h)
    route_told (Reach new value) true_own key route not true e h =
        let same : key ≡ new = one_key key_exact key new e in
        let says : Originates (at peer) (kept peer) key value =
        subst (λ (k : Key). Originates (at peer) (kept peer) k value) (sym same) (true_own (λ join. not (subst IsJoinKey (sym same) join))) in
        subst (λ (r : TakenRoute). Originates (at peer) (kept peer) key r.value) (same_Some (learned clock value (maps.get table key)) route h)
        (learned_told key value (maps.get table key) (λ own_route k. told key own_route not k) says)

    pub after_stays : (key : Key) (route : TakenRoute) → (IsJoinKey key → ⊥) → maps.get table key ≡ Some route
        → (next : TakenRoute) × (maps.get after key ≡ Some next) × (next.value ≡ route.value)
    after_stays key route not h =
        let x = route_stays change is key route not h (eq_by_cmp key_cmp key (key_of change)) refl in
        (x.0, change_taken clock table change key ∙ x.1, x.2)

    pub after_told : (key : Key) (route : TakenRoute) → (IsJoinKey key → ⊥) → maps.get after key ≡ Some route
        → Originates (at peer) (kept peer) key route.value
    after_told key route not h =
        route_told change is key route not (eq_by_cmp key_cmp key (key_of change)) refl (sym (change_taken clock table change key) ∙ h)

  -- a table of a peer becomes another one
  module _ (peer : NodeId) (table : Taken) (other : peer ≡ n → ⊥)
      (stays : (key : Key) (route : TakenRoute) → (IsJoinKey key → ⊥) → maps.get (table_in (maps.get old.peers peer)) key ≡ Some route
      → (next : TakenRoute) × (maps.get table key ≡ Some next) × (next.value ≡ route.value))
      (told : (key : Key) (route : TakenRoute) → (IsJoinKey key → ⊥) → maps.get table key ≡ Some route
      → Originates (at peer) (kept peer) key route.value) where
    abbrev next_peers : FinMap node_cmp Taken
    next_peers = maps.insert old.peers peer table

    insert_stays : (u : NodeId) (key : Key) (route : TakenRoute) → (IsJoinKey key → ⊥) → maps.get (table_in (maps.get old.peers u)) key ≡ Some route
        → (next : TakenRoute) × (maps.get (table_in (maps.get next_peers u)) key ≡ Some next) × (next.value ≡ route.value)
    insert_stays u key route not h = elim (node_cases u peer) [
      | inl e ↦
          let x = stays key route not (ap (λ (w : NodeId). maps.get (table_in (maps.get old.peers w)) key) (sym e) ∙ h) in (
            x.0,
            ap (λ (w : NodeId). maps.get (table_in (maps.get next_peers w)) key) e
                ∙ ap (λ (o : Option Taken). maps.get (table_in o) key) (put_own old.peers peer table) ∙ x.1,
            x.2,
          )
      | inr ne ↦ (route, ap (λ (o : Option Taken). maps.get (table_in o) key) (put_other old.peers peer table u ne) ∙ h, refl)
    ]

    insert_told : (u : NodeId) (key : Key) (route : TakenRoute) → (IsJoinKey key → ⊥) → maps.get (table_in (maps.get next_peers u)) key ≡ Some route
        → Originates (at u) (kept u) key route.value
    insert_told u key route not h = elim (node_cases u peer) [
      | inl e ↦
          subst (λ (w : NodeId). Originates (at w) (kept w) key route.value) (sym e)
          (told key route not (sym (ap (λ (o : Option Taken). maps.get (table_in o) key) (put_own old.peers peer table))
          ∙ ap (λ (w : NodeId). maps.get (table_in (maps.get next_peers w)) key) (sym e) ∙ h))
      | inr ne ↦ g.told u key route not (sym (ap (λ (o : Option Taken). maps.get (table_in o) key) (put_other old.peers peer table u ne)) ∙ h)
    ]

    pub insert_grows : PeersGrow next_peers
    insert_grows = record { stay = insert_stays; told = insert_told; alone = put_other old.peers peer table n (λ e. other (sym e)) ∙ g.alone }

  -- an end that was up
  not_self : (peer : NodeId) (table : Taken) → maps.get old.peers peer ≡ Some table → peer ≡ n → ⊥
  not_self peer table h e = none-some table (sym g.alone ∙ ap (maps.get old.peers) (sym e) ∙ h)

  ups_there : (peer : NodeId) (table more : Taken) → maps.get old.peers peer ≡ Some table → (u : NodeId)
      → is_some (maps.get (maps.insert old.peers peer more) u) ≡ true → is_some (maps.get old.peers u) ≡ false → ⊥
  ups_there peer table more h u up down = elim (node_cases u peer) [
    | inl e ↦ both (is_some (maps.get old.peers u)) (ap is_some (ap (maps.get old.peers) e ∙ h)) down
    | inr ne ↦ both (is_some (maps.get old.peers u)) (sym (ap is_some (put_other old.peers peer more u ne)) ∙ up) down
  ]

  pub update_grows : (rules : (u : NodeId) → Rules (at u).scenario) (clock : ℕ) (peer : NodeId) (change : Change Key Value)
      → IsTrue (at peer) (kept peer) change → GrowsTo horizon trees at kept n old (with_update clock peer (message_of change) old)
  update_grows rules clock peer change is = by (maps.get old.peers peer) refl
    where
      by : (o : Option Taken) → maps.get old.peers peer ≡ o
          → GrowsTo horizon trees at kept n old (elim o as (λ (o : Option Taken). Control) [
            | None ↦ old
            | Some taken ↦ record old {
              peers =
                  maps.insert old.peers peer (fold (taken_change clock) taken (changes_of (message_of change)));
            }
          ])
      by None e = itself_grows
      by (Some table) e =
          let told : (key : Key) (route : TakenRoute) → (IsJoinKey key → ⊥) → maps.get table key ≡ Some route
          → Originates (at peer) (kept peer) key route.value =
          λ key route not h. g.told peer key route not (ap (λ (o : Option Taken). maps.get (table_in o) key) e ∙ h) in
          let more : Taken = fold (taken_change clock) table (changes_of (message_of change)) in
          with_peers (maps.insert old.peers peer more)
          (insert_grows peer more (not_self peer table e)
          (λ key route not h. after_stays rules clock peer table change is told key route not
          (sym (ap (λ (o : Option Taken). maps.get (table_in o) key) e) ∙ h))
          (after_told rules clock peer table change is told))
          (ups_there peer table more e)

  -- ---- a raise

  -- an end that was down comes up; nothing was taken from its peer, and nothing is
  pub record Raises (peer : NodeId) (new : Control) : Type 0 where
    pub grown : Grown horizon trees at kept n new
    pub taken : TakenStays old new
    pub entries : EntriesStay old new
    pub says : SaysOn old new
    pub flows : new.flows ≡ old.flows
    pub ups : (u : NodeId) → is_some (maps.get new.peers u) ≡ true → (is_some (maps.get old.peers u) ≡ true) ⊎ (u ≡ peer)

  nothing_in : (o : Option Taken) (key : Key) (route : TakenRoute) → is_some o ≡ false → maps.get (table_in o) key ≡ Some route → ⊥
  nothing_in None key route e h = none-some route (sym (maps.get-empty key_cmp key) ∙ h)
  nothing_in (Some table) key route e h = absurd (let bad : true ≡ false = e in cc)

  pub raise_grows : (peer : NodeId) → (peer ≡ n → ⊥) → is_some (maps.get old.peers peer) ≡ false
      → Raises peer (record old { peers = maps.insert old.peers peer maps.empty })
  raise_grows peer other down =
      let p = insert_grows peer maps.empty other (λ key route not h. absurd (nothing_in (maps.get old.peers peer) key route down h))
      (λ key route not h. absurd (none-some route (sym (maps.get-empty key_cmp key) ∙ h))) in
      record {
        grown = record { lasting = g.lasting; picked = g.picked; told = p.told; alone = p.alone };
        taken = p.stay;
        entries = entries_themselves;
        says = record { selections = λ key selected h. (selected, h, refl); notes = λ note h. h };
        flows = refl;
        ups = λ u up. elim (node_cases u peer) [
          | inl e ↦ inr e
          | inr ne ↦ inl (sym (ap is_some (put_other old.peers peer maps.empty u ne)) ∙ up)
        ];
      }

  -- ---- a join

  pub join_grows : (clock : ℕ) (iface : IfaceId) (neighbour source group : Addr) → horizon < clock + 210
      → GrowsTo horizon trees at kept n old (steps.effect (at n) clock old (steps.Customer (steps.Pim iface (join_of neighbour (entries.Source source group)))))
  join_grows clock iface neighbour source group lt = record {
    grown = record {
      lasting = λ own expiry h. (joins_stay old.entries clock horizon (λ x e k. g.lasting x e k) iface neighbour source group own lt).1 expiry h;
      picked = g.picked;
      told = g.told;
      alone = g.alone;
    };
    taken = taken_itself;
    entries = λ own expiry h. (joins_stay old.entries clock horizon (λ x e k. g.lasting x e k) iface neighbour source group own lt).0 expiry h;
    says = record { selections = λ key selected h. (selected, h, refl); notes = λ note h. h };
    flows = refl;
    ups = λ peer h k. both (is_some (maps.get old.peers peer)) h k;
  }

  -- ---- timers

  run_selected : (delay clock : ℕ) (key : VrfPattern)
      → maps.get (selections_run delay clock old.selections) key ≡ option_map (selection_run delay clock) (maps.get old.selections key)
  run_selected delay clock key = get-changed pattern_total pattern_exact (selection_run delay clock) old.selections key

  run_picked : (delay clock : ℕ) (key : VrfPattern) (selected : Selected) → maps.get (selections_run delay clock old.selections) key ≡ Some selected
      → (was : Selected) × (maps.get old.selections key ≡ Some was) × (was.number ≡ selected.number)
  run_picked delay clock key selected h = by (maps.get old.selections key) refl (sym (run_selected delay clock key) ∙ h)
    where
      by : (o : Option Selected) → maps.get old.selections key ≡ o → option_map (selection_run delay clock) o ≡ Some selected
          → (was : Selected) × (maps.get old.selections key ≡ Some was) × (was.number ≡ selected.number)
      by None e k = absurd (none-some selected k)
      by (Some was) e k = (was, e, ap (λ (s : Selected). s.number) (same_Some (selection_run delay clock was) selected k))

  run_stays : (place : EdgePlace) (clock : ℕ) (u : NodeId) (key : Key) (route : TakenRoute)
      → maps.get (table_in (maps.get old.peers u)) key ≡ Some route
      → (next : TakenRoute) × (maps.get (table_in (maps.get (peers_run place clock old.peers) u)) key ≡ Some next) × (next.value ≡ route.value)
  run_stays place clock u key route h = (
    run_at place clock u key route,
    ap (λ (o : Option Taken). maps.get (table_in o) key) (get-peers_run place clock old.peers u) ∙ run_taken place clock u key (maps.get old.peers u)
        ∙ ap (option_map (run_at place clock u key)) h,
    refl,
  )

  run_told : (place : EdgePlace) (clock : ℕ) (u : NodeId) (key : Key) (route : TakenRoute) → (IsJoinKey key → ⊥)
      → maps.get (table_in (maps.get (peers_run place clock old.peers) u)) key ≡ Some route → Originates (at u) (kept u) key route.value
  run_told place clock u key route not h =
      by (maps.get (table_in (maps.get old.peers u)) key) refl
      (sym (ap (λ (o : Option Taken). maps.get (table_in o) key) (get-peers_run place clock old.peers u)
      ∙ run_taken place clock u key (maps.get old.peers u)) ∙ h)
    where
      by : (o : Option TakenRoute) → maps.get (table_in (maps.get old.peers u)) key ≡ o → option_map (run_at place clock u key) o ≡ Some route
          → Originates (at u) (kept u) key route.value
      by None e k = absurd (none-some route k)
      by (Some was) e k =
          subst (λ (r : TakenRoute). Originates (at u) (kept u) key r.value) (same_Some (run_at place clock u key was) route k)
          (g.told u key was not e)

  run_up : (o : Option Taken) (f : Taken → Taken) → is_some (option_map f o) ≡ true → is_some o ≡ true
  run_up None f h = h
  run_up (Some table) f h = refl

  pub timers_grow : (clock : ℕ) → clock ≤ horizon → GrowsTo horizon trees at kept n old (steps.timed (at n) clock old)
  timers_grow clock le = record {
    grown = record {
      lasting = λ own expiry h. (timers_stay old.entries clock horizon (λ x e k. g.lasting x e k) own le).1 expiry h;
      picked = λ own pattern selected a h.
          let was = run_picked (at n).scenario.delay clock (record { vrf = own.id; pattern = pattern }) selected h in
          let is = g.picked own pattern was.0 a was.1 in
          (is.0, subst (λ (number : ℕ). Among (lsp (own_addr (at n)) (tunnel_number own.vrf number)) trees) was.2 is.1);
      told = λ u key route not h. run_told (at n) clock u key route not h;
      alone = get-peers_run (at n) clock old.peers n ∙ ap (option_map (table_run (at n) clock n)) g.alone;
    };
    taken = λ u key route not h. run_stays (at n) clock u key route h;
    entries = λ own expiry h. (timers_stay old.entries clock horizon (λ x e k. g.lasting x e k) own le).0 expiry h;
    says = record {
      selections =
          λ key selected h. (
            selection_run (at n).scenario.delay clock selected,
            run_selected (at n).scenario.delay clock key
                ∙ ap (option_map (selection_run (at n).scenario.delay clock)) h,
            refl,
          );
      notes = λ note h. h;
    };
    flows = refl;
    ups = λ peer h k. both (is_some (maps.get old.peers peer))
        (run_up (maps.get old.peers peer) (table_run (at n) clock peer) (ap is_some (sym (get-peers_run (at n) clock old.peers peer)) ∙ h)) k;
  }

  -- ---- a selection

  -- the selection that is made has its tunnel among the trees, in whatever VRF of the edge it is
  pub select_grows : (vrf : VrfId) (pattern : Pattern) (made : Selected) → rank pattern ≡ 4
      → maps.get old.selections (record { vrf = vrf; pattern = pattern }) ≡ None
      → ((own : OwnVrf) → Among own (own_vrfs (at n)) → own.id ≡ vrf → Among (lsp (own_addr (at n)) (tunnel_number own.vrf made.number)) trees)
      → GrowsTo horizon trees at kept n old (record old { selections = maps.insert old.selections (record { vrf = vrf; pattern = pattern }) made })
  select_grows vrf pattern made narrow free there = record {
    grown = record { lasting = g.lasting; picked = picked; told = g.told; alone = g.alone };
    taken = taken_itself;
    entries = entries_themselves;
    says = record {
      selections = λ key selected h. (selected, other key (λ e. none-some selected (sym free ∙ ap (maps.get old.selections) (sym e) ∙ h)) ∙ h, refl);
      notes = λ note h. h;
    };
    flows = refl;
    ups = λ peer h k. both (is_some (maps.get old.peers peer)) h k;
  }
    where
      new_key : VrfPattern
      new_key = record { vrf = vrf; pattern = pattern }

      other : (key : VrfPattern) → (key ≡ record { vrf = vrf; pattern = pattern } → ⊥)
          → maps.get (maps.insert old.selections (record { vrf = vrf; pattern = pattern }) made) key ≡ maps.get old.selections key
      other key ne = sets_of.put_other pattern_total pattern_exact old.selections (record { vrf = vrf; pattern = pattern }) made key ne

      picked : IsPicked trees (at n) (record old { selections = maps.insert old.selections (record { vrf = vrf; pattern = pattern }) made })
      picked own own_pattern selected a h =
          by (eq_by_cmp pattern_cmp (record { vrf = own.id; pattern = own_pattern }) (record { vrf = vrf; pattern = pattern })) refl
          (sym (maps.get-insert pattern_total old.selections (record { vrf = vrf; pattern = pattern }) made
          (record { vrf = own.id; pattern = own_pattern })) ∙ h)
        where
          by : (b : Bool) → eq_by_cmp pattern_cmp (record { vrf = own.id; pattern = own_pattern }) (record { vrf = vrf; pattern = pattern }) ≡ b
              → cond b (Some made) (maps.get old.selections (record { vrf = own.id; pattern = own_pattern })) ≡ Some selected
              → (rank own_pattern ≡ 4) × Among (lsp (own_addr (at n)) (tunnel_number own.vrf selected.number)) trees
          by false e k = g.picked own own_pattern selected a k
          by true e k =
              let same = one_key pattern_exact (record { vrf = own.id; pattern = own_pattern }) (record { vrf = vrf; pattern = pattern }) e in (
                ap (λ (key : VrfPattern). rank key.pattern) same ∙ narrow,
                subst (λ (s : Selected). Among (lsp (own_addr (at n)) (tunnel_number own.vrf s.number)) trees) (same_Some made selected k)
                    (there own a (ap (λ (key : VrfPattern). key.vrf) same)),
              )
