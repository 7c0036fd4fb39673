-- The table that an edge keeps of a peer is what the messages from there announce, and do not withdraw.
use Rattle.std.specs.Prelude.{fold}
use Rattle.std.proofs.Common.{◌≡◌, ◌≢◌, ◌⊎◌, inl, inr, ℕ, Bool, true, false, cond, flat_map, option_map, List, [], ◌∷◌, ◌++◌, Option, Some, None, refl, sym, ap, subst, ◌∙◌}
use Rattle.std.specs.FinMap as maps
use Rattle.std.specs.FinMap.{FinMap}
use Rattle.std.specs.Ordering.{eq_by_cmp}
use Rattle.std.proofs.lemmas.List.{append-nil, append_assoc}
use Rattle.std.proofs.lemmas.Option.{same_Some, none-some}
use Rattle.mv_base.specs.declared.ids.NodeId.{NodeId}
use Rattle.bgp_messages.specs.declared.bgp_attributes.key.Key.{Key}
use Rattle.bgp_messages.specs.declared.bgp_attributes.update.Advert.{Advert}
use Rattle.bgp_messages.specs.declared.bgp_attributes.update.Change.{Change}
use Rattle.bgp_messages.specs.declared.bgp_attributes.update.Change.TheVariants as updates
use Rattle.bgp_messages.specs.declared.bgp_attributes.update.Message.{Message}
use Rattle.bgp_messages.specs.bgp_update.Table.{key_of, changes_of, AnnouncesLast}
use Rattle.scenario_defs.specs.declared.event.Kind.TheVariants as kinds
use Rattle.label_defs.specs.Keys.{node_cmp}
use Rattle.label_defs.specs.Settling as settling
use Rattle.label_defs.specs.Steps as labels
use Rattle.label_defs.specs.Steps.{label_step}
use Rattle.label_defs.proofs.KeyLemmas.{node_cmp_total, node_cmp_exact, node_cases, node_itself, ties}
use Rattle.label_defs.proofs.SettleLemmas.{bind_some}
use Rattle.network_defs.specs.session_defs.Message.{SessionMessage, Bgp, Label}
use Rattle.network_defs.specs.session_defs.System.{Stepped}
use Rattle.table_laws.proofs.CompareLemmas.{one_key}
use Rattle.edge_defs.proofs.KeyLemmas.{key_total, key_exact, value_exact}
use Rattle.edge_defs.specs.Edge.{TakenRoute, Taken, Control, no_control}
use Rattle.edge_defs.specs.Keys.{Value, key_cmp, same_value}
use Rattle.edge_defs.specs.Place.{EdgePlace, addr_of}
use Rattle.edge_defs.specs.Steps as steps
use Rattle.edge_defs.specs.Steps.{EdgeStepped, LabelStep, learned, taken_change, with_update, effect, control_step, own_label_call, one_call, changed_leaves, label_row, part_after, raised_after, edge_step}
use Rattle.edge_defs.specs.Tunnels.{leaves}
use Rattle.rule_laws.proofs.edge_words.edge_laws.Taken.{run_at, get-peers_run, table_in, run_taken}
use Rattle.network_defs.specs.Nodes.{NodeState, Edge, CoreNode, Nodes, with_node, place_of, label_place_of}
use Rattle.network_defs.specs.node_defs.Puts.{bgp_puts, label_puts}
use Rattle.network_defs.specs.Refusals.{control_of}
use Rattle.network_defs.specs.System.{node_called, core_called, call_of, unchanged}
use Rattle.network_laws.proofs.Lists.{each_append}
use Rattle.rule_laws.proofs.Sessions.{fresh_control}
use Rattle.license_laws.proofs.Hears.{IsOther, IsOfKind, Follower}

-- ---- one table

-- the last change about the key announces it with the communities and the tunnel of the value
pub record HoldsValue (changes : List Change) (key : Key) (value : Value) : Type 0 where
  pub advert : Advert
  pub holds : AnnouncesLast changes key advert
  pub comms : advert.comms ≡ value.comms
  pub pmsi : advert.pmsi ≡ value.pmsi

-- a change about another key
more_holds : (changes : List Change) (change : Change) (key : Key) (value : Value) → key_of change ≢ key → HoldsValue changes key value
    → HoldsValue (changes ++ change ∷ []) key value
more_holds changes change key value ne h = record {
  advert = h.advert;
  holds = record {
    before = h.holds.before;
    after = h.holds.after ++ change ∷ [];
    parts = ap (λ (xs : List Change). xs ++ change ∷ []) h.holds.parts
        ∙ append_assoc h.holds.before (updates.Reach h.advert ∷ h.holds.after) (change ∷ []);
    same = h.holds.same;
    last = each_append (λ (c : Change). key_of c ≢ key) h.holds.after (change ∷ []) h.holds.last (ne, tt);
  };
  comms = h.comms;
  pmsi = h.pmsi;
}

-- each route of the table is announced last
abbrev pub Announced : List Change → Taken → Type 0
Announced changes taken = (key : Key) (route : TakenRoute) → maps.get taken key ≡ Some route → HoldsValue changes key route.value

value_of : Advert → Value
value_of advert = record { next_hop = advert.next_hop; comms = advert.comms; pmsi = advert.pmsi }

one_change : (now : ℕ) (changes : List Change) (taken : Taken) (change : Change) → Announced changes taken
    → Announced (changes ++ change ∷ []) (taken_change now taken change)
one_change now changes taken (updates.Reach advert) h key route e =
    by (eq_by_cmp key_cmp key advert.key) refl (sym
    (maps.get-insert key_total taken advert.key (learned now (record { next_hop = advert.next_hop; comms = advert.comms; pmsi = advert.pmsi })
    (maps.get taken advert.key)) key) ∙ e)
  where
    announces : (value : Value) → key ≡ advert.key → advert.comms ≡ value.comms → advert.pmsi ≡ value.pmsi
        → HoldsValue (changes ++ updates.Reach advert ∷ []) key value
    announces value same comms pmsi =
        record {
          advert = advert;
          holds = record { before = changes; after = []; parts = refl; same = sym same; last = tt };
          comms = comms;
          pmsi =
              pmsi;
        }

    now_held : (old : Option TakenRoute) → key ≡ advert.key
        → HoldsValue (changes ++ updates.Reach advert ∷ []) key
        (learned now (record { next_hop = advert.next_hop; comms = advert.comms; pmsi = advert.pmsi }) old).value
    now_held None same = announces (record { next_hop = advert.next_hop; comms = advert.comms; pmsi = advert.pmsi }) same refl refl
    now_held (Some old) same =
        elim (same_value old.value (record { next_hop = advert.next_hop; comms = advert.comms; pmsi = advert.pmsi })) as
        (λ (b : Bool). same_value old.value (record { next_hop = advert.next_hop; comms = advert.comms; pmsi = advert.pmsi }) ≡ b
        → HoldsValue (changes ++ updates.Reach advert ∷ []) key
        (cond b old (record {
          value = record { next_hop = advert.next_hop; comms = advert.comms; pmsi = advert.pmsi };
          since = now;
          run =
              false;
        })).value) [
          | true ↦ λ t. (let is : old.value ≡ record { next_hop = advert.next_hop; comms = advert.comms; pmsi = advert.pmsi } =
              (value_exact old.value (record { next_hop = advert.next_hop; comms = advert.comms; pmsi = advert.pmsi })).0 t in
              announces old.value same (ap (λ (v : Value). v.comms) (sym is)) (ap (λ (v : Value). v.pmsi) (sym is)))
          | false ↦ λ t. announces (record { next_hop = advert.next_hop; comms = advert.comms; pmsi = advert.pmsi }) same refl refl
        ] refl

    by : (b : Bool) → eq_by_cmp key_cmp key advert.key ≡ b
        → cond b (Some (learned now (record { next_hop = advert.next_hop; comms = advert.comms; pmsi = advert.pmsi }) (maps.get taken advert.key)))
        (maps.get taken key) ≡ Some route → HoldsValue (changes ++ updates.Reach advert ∷ []) key route.value
    by true t f =
        let same : key ≡ advert.key = one_key key_exact key advert.key t in
        subst (λ (r : TakenRoute). HoldsValue (changes ++ updates.Reach advert ∷ []) key r.value)
        (same_Some (learned now (record { next_hop = advert.next_hop; comms = advert.comms; pmsi = advert.pmsi }) (maps.get taken advert.key))
        route f) (now_held (maps.get taken advert.key) same)
    by false t f =
        more_holds changes (updates.Reach advert) key route.value
        (λ same. let x : true ≡ false = sym (ties key_cmp key_total key advert.key (sym same)) ∙ t in absurd cc) (h key route f)
one_change now changes taken (updates.Unreach gone) h key route e =
    by (eq_by_cmp key_cmp key gone) refl (sym (maps.get-remove key_total taken gone key) ∙ e)
  where
    by : (b : Bool) → eq_by_cmp key_cmp key gone ≡ b → cond b None (maps.get taken key) ≡ Some route
        → HoldsValue (changes ++ updates.Unreach gone ∷ []) key route.value
    by true t f = absurd (none-some route f)
    by false t f =
        more_holds changes (updates.Unreach gone) key route.value
        (λ same. let x : true ≡ false = sym (ties key_cmp key_total key gone (sym same)) ∙ t in absurd cc) (h key route f)

all_changes : (now : ℕ) (more changes : List Change) (taken : Taken) → Announced changes taken
    → Announced (changes ++ more) (fold (taken_change now) taken more)
all_changes now [] changes taken h = subst (λ (cs : List Change). Announced cs taken) (sym (append-nil changes)) h
all_changes now (change ∷ more) changes taken h =
    subst (λ (cs : List Change). Announced cs (fold (taken_change now) (taken_change now taken change) more))
    (append_assoc changes (change ∷ []) more) (all_changes now more (changes ++ change ∷ []) (taken_change now taken change)
    (one_change now changes taken change h))

none_announced : (changes : List Change) → Announced changes maps.empty
none_announced changes key route e = absurd (none-some route (sym (maps.get-empty key_cmp key) ∙ e))

-- ---- the tables of peers

-- the table of one peer
abbrev pub PeerHas : NodeId → List Change → FinMap node_cmp Taken → Type 0
PeerHas from changes peers = Announced changes (table_in (maps.get peers from))

insert_other : (from peer : NodeId) (changes : List Change) (peers : FinMap node_cmp Taken) (table : Taken) → (peer ≡ from → Announced changes table)
    → PeerHas from changes peers → PeerHas from changes (maps.insert peers peer table)
insert_other from peer changes peers table own h key route e =
    by (eq_by_cmp node_cmp from peer) refl (ap (λ (o : Option Taken). maps.get (table_in o) key)
    (sym (maps.get-insert node_cmp_total peers peer table from)) ∙ e)
  where
    by : (b : Bool) → eq_by_cmp node_cmp from peer ≡ b → maps.get (table_in (cond b (Some table) (maps.get peers from))) key ≡ Some route
        → HoldsValue changes key route.value
    by true t f = own (sym (one_key node_cmp_exact from peer t)) key route f
    by false t f = h key route f

remove_other : (from peer : NodeId) (changes : List Change) (peers : FinMap node_cmp Taken) → PeerHas from changes peers
    → PeerHas from changes (maps.remove peers peer)
remove_other from peer changes peers h key route e =
    by (eq_by_cmp node_cmp from peer) (ap (λ (o : Option Taken). maps.get (table_in o) key) (sym (maps.get-remove node_cmp_total peers peer from))
    ∙ e)
  where
    by : (b : Bool) → maps.get (table_in (cond b None (maps.get peers from))) key ≡ Some route → HoldsValue changes key route.value
    by true f = absurd (none-some route (sym (maps.get-empty key_cmp key) ∙ f))
    by false f = h key route f

remove_own : (from : NodeId) (changes : List Change) (peers : FinMap node_cmp Taken) → PeerHas from changes (maps.remove peers from)
remove_own from changes peers key route e =
    by (eq_by_cmp node_cmp from from) (ties node_cmp node_cmp_total from from refl)
    (ap (λ (o : Option Taken). maps.get (table_in o) key) (sym (maps.get-remove node_cmp_total peers from from)) ∙ e)
  where
    by : (b : Bool) → b ≡ true → maps.get (table_in (cond b None (maps.get peers from))) key ≡ Some route → HoldsValue changes key route.value
    by true t f = absurd (none-some route (sym (maps.get-empty key_cmp key) ∙ f))
    by false t f = absurd cc

run_other : (place : EdgePlace) (now : ℕ) (from : NodeId) (changes : List Change) (peers : FinMap node_cmp Taken) → PeerHas from changes peers
    → PeerHas from changes (steps.peers_run place now peers)
run_other place now from changes peers h key route e =
    by (maps.get (table_in (maps.get peers from)) key) refl
    (sym (run_taken place now from key (maps.get peers from))
    ∙ (ap (λ (o : Option Taken). maps.get (table_in o) key) (sym (get-peers_run place now peers from)) ∙ e))
  where
    by : (o : Option TakenRoute) → maps.get (table_in (maps.get peers from)) key ≡ o → option_map (run_at place now from key) o ≡ Some route
        → HoldsValue changes key route.value
    by None is f = absurd (none-some route f)
    by (Some old) is f = subst (λ (r : TakenRoute). HoldsValue changes key r.value) (same_Some (run_at place now from key old) route f) (h key old is)

update_has : (now : ℕ) (from peer : NodeId) (message : Message) (changes all : List Change) (old : Control)
    → (peer ≡ from → (taken : Taken) → Announced changes taken → Announced all (fold (taken_change now) taken (changes_of message)))
    → (peer ≢ from → PeerHas from all old.peers) → (peer ≡ from → maps.get old.peers peer ≡ None → PeerHas from all old.peers)
    → PeerHas from changes old.peers → PeerHas from all (with_update now peer message old).peers
update_has now from peer message changes all old own other none h = by (maps.get old.peers peer) refl (node_cases peer from)
  where
    by : (o : Option Taken) → maps.get old.peers peer ≡ o → ((peer ≡ from) ⊎ (peer ≡ from → ⊥)) → PeerHas from all (elim o as (λ _. Control) [
      | None ↦ old
      | Some taken ↦ record old { peers = maps.insert old.peers peer (fold (taken_change now) taken (changes_of message)) }
    ]).peers
    by None e (inl same) = none same e
    by None e (inr ne) = other ne
    by (Some taken) e (inl same) = λ key route f.
        inserted (eq_by_cmp node_cmp from peer) (ties node_cmp node_cmp_total from peer (sym same)) key route
        (ap (λ (o : Option Taken). maps.get (table_in o) key)
        (sym (maps.get-insert node_cmp_total old.peers peer (fold (taken_change now) taken (changes_of message)) from)) ∙ f)
      where
        inserted : (b : Bool) → b ≡ true → (key : Key) (route : TakenRoute)
            → maps.get (table_in (cond b (Some (fold (taken_change now) taken (changes_of message))) (maps.get old.peers from))) key ≡ Some route
            → HoldsValue all key route.value
        inserted true t key route f =
            own same taken (subst (λ (o : Option Taken). Announced changes (table_in o)) (ap (λ (m : NodeId). maps.get old.peers m) (sym same) ∙ e) h)
            key route f
        inserted false t key route f = absurd cc
    by (Some taken) e (inr ne) =
        insert_other from peer all old.peers (fold (taken_change now) taken (changes_of message)) (λ same. absurd (ne same)) (other ne)

effect_has : (place : EdgePlace) (now : ℕ) (from : NodeId) (changes : List Change) (old : Control) (call : steps.Call) → IsOther kinds.Bgp from call
    → PeerHas from changes old.peers → PeerHas from changes (effect place now old call).peers
effect_has place now from changes old (steps.Update peer message) ne h =
    update_has now from peer message changes changes old (λ same. absurd (ne same)) (λ e. h) (λ e n. h) h
effect_has place now from changes old (steps.Label neighbour message) ne h = h
effect_has place now from changes old (steps.Customer call) ne h = h
effect_has place now from changes old (steps.Raised kinds.Bgp peer) ne h =
    insert_other from peer changes old.peers maps.empty (λ same. none_announced changes) h
effect_has place now from changes old (steps.Raised kinds.Ldp peer) ne h = h
effect_has place now from changes old (steps.Noticed kinds.Bgp peer) ne h = remove_other from peer changes old.peers h
effect_has place now from changes old (steps.Noticed kinds.Ldp peer) ne h = h
effect_has place now from changes old steps.Timers ne h = run_other place now from changes old.peers h
effect_has place now from changes old steps.Rerouted ne h = h

-- ---- a node

abbrev pub updates_in : List SessionMessage → List Message
updates_in [] = []
updates_in (Bgp message ∷ more) = message ∷ updates_in more
updates_in (Label message ∷ more) = updates_in more

-- the changes that messages say
abbrev pub changes_in : List SessionMessage → List Change
changes_in [] = []
changes_in (Bgp message ∷ more) = changes_of message ++ changes_in more
changes_in (Label message ∷ more) = changes_in more

abbrev pub Tabled : NodeId → List SessionMessage → NodeState → Type 0
Tabled from ms state = PeerHas from (changes_in ms) (control_of state).peers

-- what the call makes of the control is what the step leaves
node_control : (nodes : Nodes) (n from : NodeId) (changes : List Change) (state : NodeState) (call : steps.Call) (new : Stepped Nodes)
    → nodes.node n ≡ state → node_called nodes n state call ≡ Some new
    → ((edge : _) → state ≡ Edge edge → PeerHas from changes (effect (place_of nodes n) nodes.clock edge.control call).peers)
    → PeerHas from changes (control_of (new.state.node n)).peers
node_control nodes n from changes (Edge edge) call new at e h =
    let place : EdgePlace = place_of nodes n in
    let control : Control = control_step place nodes.clock edge.control call in
    let made : EdgeStepped → Stepped Nodes = λ made. record {
      state = with_node nodes n (Edge made.edge);
      puts = bgp_puts place edge.control made.edge.control
          ++ flat_map (label_puts n (addr_of nodes.scenario n) (label_place_of nodes n) nodes.clock) made.row;
    } in
    let after_row : List LabelStep → EdgeStepped =
    λ row. record {
      edge =
          record { control = control; part = part_after edge.part row; raised = raised_after nodes.clock edge.raised call };
      row = row;
    } in
    let x = bind_some (edge_step place nodes.clock edge call) (λ m. Some (made m)) new e in
    let y = bind_some (label_row place nodes.clock edge.part
    (one_call (own_label_call call) ++ changed_leaves (leaves place edge.control) (leaves place control))) (λ row. Some (after_row row)) x.0 x.1
    in
    let same : made (after_row y.0) ≡ new = ap made (same_Some (after_row y.0) x.0 y.2) ∙ same_Some (made x.0) new x.2 in
    subst (λ (s : Stepped Nodes). PeerHas from changes (control_of (s.state.node n)).peers) same
    (subst (λ (t : Bool). PeerHas from changes (control_of
    (cond t (Edge (record { control = control; part = part_after edge.part y.0; raised = raised_after nodes.clock edge.raised call }))
    (nodes.node n))).peers) (sym (node_itself n n refl))
    (h edge refl))
node_control nodes n from changes (CoreNode part) call new at e h = by (own_label_call call) e
  where
    none : PeerHas from changes no_control.peers
    none key route e =
        absurd (none-some route (sym (ap (λ (o : Option Taken). maps.get (table_in o) key) (maps.get-empty {X = Taken} node_cmp from)
        ∙ maps.get-empty key_cmp key) ∙ e))

    by : (o : Option labels.Call) → core_called nodes n part o ≡ Some new → PeerHas from changes (control_of (new.state.node n)).peers
    by None e =
        subst (λ (s : Stepped Nodes). PeerHas from changes (control_of (s.state.node n)).peers) (same_Some (unchanged nodes) new e)
        (subst (λ (state : NodeState). PeerHas from changes (control_of state).peers) (sym at) none)
    by (Some own) e =
        let made : settling.Stepped → Stepped Nodes = λ next. record {
          state = with_node nodes n (CoreNode next.part);
          puts = label_puts n (addr_of nodes.scenario n) (label_place_of nodes n) nodes.clock (record { old = part; call = own; new = next });
        } in
        let x = bind_some (label_step (label_place_of nodes n) nodes.clock part own) (λ next. Some (made next)) new e in
        subst (λ (s : Stepped Nodes). PeerHas from changes (control_of (s.state.node n)).peers) (same_Some (made x.0) new x.2)
        (subst (λ (t : Bool). PeerHas from changes (control_of (cond t (CoreNode x.0.part) (nodes.node n))).peers) (sym (node_itself n n refl)) none)

pub changes_both : (xs ys : List SessionMessage) → changes_in (xs ++ ys) ≡ changes_in xs ++ changes_in ys
changes_both [] ys = refl
changes_both (Bgp message ∷ xs) ys =
    ap (λ (cs : List Change). changes_of message ++ cs) (changes_both xs ys) ∙ sym (append_assoc (changes_of message) (changes_in xs) (changes_in ys))
changes_both (Label message ∷ xs) ys = changes_both xs ys

pub tabled_follower : (from to : NodeId) → Follower kinds.Bgp from to (Tabled from)
tabled_follower from to = record {
  called = λ ms nodes state call new at other e p.
      node_control nodes to from (changes_in ms) state call new at e
      (λ edge is. effect_has (place_of nodes to) nodes.clock from (changes_in ms) edge.control call other
      (subst (λ (s : NodeState). PeerHas from (changes_in ms) (control_of s).peers) is p));
  taken = λ ms nodes state message new at is e p. taken_by ms nodes state message new at is e p;
  noticed =
      λ nodes state new at e. node_control nodes to from [] state (steps.Noticed kinds.Bgp from) new at e
      (λ edge is. remove_own from [] edge.control.peers);
  fresh = λ ms scenario. subst (λ (c : Control). PeerHas from (changes_in ms) c.peers) (sym (fresh_control scenario to))
      (λ key route e. absurd (none-some route (sym
      (ap (λ (o : Option Taken). maps.get (table_in o) key) (maps.get-empty {X = Taken} node_cmp from) ∙ maps.get-empty key_cmp key) ∙ e)));
}
  where
    taken_by : (ms : List SessionMessage) (nodes : Nodes) (state : NodeState) (message : SessionMessage) (new : Stepped Nodes) → nodes.node to ≡ state
        → IsOfKind kinds.Bgp message → node_called nodes to state (call_of from message) ≡ Some new → Tabled from ms state
        → Tabled from (ms ++ message ∷ []) (new.state.node to)
    taken_by ms nodes state (Label message) new at is e p = absurd is
    taken_by ms nodes state (Bgp message) new at is e p =
        subst (λ (cs : List Change). PeerHas from cs (control_of (new.state.node to)).peers)
        (ap (λ (cs : List Change). changes_in ms ++ cs) (sym (append-nil (changes_of message))) ∙ sym (changes_both ms (Bgp message ∷ [])))
        (node_control nodes to from (changes_in ms ++ changes_of message) state (steps.Update from message) new at e (λ edge is.
        update_has nodes.clock from from message (changes_in ms) (changes_in ms ++ changes_of message) edge.control
        (λ same taken h. all_changes nodes.clock (changes_of message) (changes_in ms) taken h) (λ ne. absurd (ne refl))
        (λ same none key route f. absurd (none-some route
        (sym (ap (λ (o : Option Taken). maps.get (table_in o) key) none ∙ maps.get-empty key_cmp key) ∙ f)))
        (subst (λ (s : NodeState). PeerHas from (changes_in ms) (control_of s).peers) is p)))
