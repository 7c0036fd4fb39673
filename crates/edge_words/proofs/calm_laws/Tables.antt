-- The tables of a calm session.
use Rattle.std.proofs.Common.{◌≡◌, Bool, true, false, cond, List, [], map, is_some, Option, Some, None, refl, sym, ap, subst, ◌∙◌}
use Rattle.std.specs.FinMap as maps
use Rattle.mv_base.specs.declared.ids.NodeId.{NodeId}
use Rattle.bgp_messages.specs.declared.bgp_attributes.key.Key.{Key}
use Rattle.mv_base.specs.table_defs.Changes.{Leads, values_at}
use Rattle.edge_defs.specs.Edge.{Control, TakenRoute, Taken}
use Rattle.edge_defs.specs.Held.{held_for, told}
use Rattle.edge_defs.specs.Imported.{taken_from}
use Rattle.edge_defs.specs.Keys.{Value, Table, key_cmp}
use Rattle.edge_defs.specs.Place.{EdgePlace}
use Rattle.edge_defs.proofs.KeyLemmas.{key_total, key_exact}
use Rattle.edge_words.specs.edge_laws.Network.{EdgeNetwork, place_of}
use Rattle.edge_words.specs.edge_laws.Acts.{is_up}
use Rattle.edge_words.specs.edge_laws.Rule.{Rule, value_in, taken_values}
use Rattle.label_defs.proofs.KeyLemmas.{node_cmp_total, node_cmp_exact}
use Rattle.selective_defs.specs.Selective.{Among}
use Rattle.edge_words.specs.calm_laws.Calm.{CalmSession}
use Rattle.edge_words.proofs.calm_laws.Maps.{find-map, get_entry, entry_get}

-- the session is calm from the other end as well
pub turned : (network : EdgeNetwork) (a b : NodeId) → CalmSession network a b → CalmSession network b a
turned network a b calm = record {
  two = λ e. calm.two (sym e);
  joined = calm.joined_back;
  joined_back = calm.joined;
  quiet = calm.quiet_back;
  quiet_back = calm.quiet;
}

-- both ends are up
pub near_up : (network : EdgeNetwork) (a b : NodeId) → Rule network → CalmSession network a b → is_up (network.node a) b ≡ true
near_up network a b rule calm = rule.ends a b calm.two calm.joined

pub far_up : (network : EdgeNetwork) (a b : NodeId) → Rule network → CalmSession network a b → is_up (network.node b) a ≡ true
far_up network a b rule calm = near_up network b a rule (turned network a b calm)

taken_value : (control : Control) (peer : NodeId) (key : Key)
    → maps.get (taken_values control peer) key ≡ value_in (maps.get (taken_from control peer) key)
taken_value control peer key =
    maps.get-from_entries key_total (map (λ (entry : Key × TakenRoute). (entry.0, entry.1.value)) (maps.entries (taken_from control peer))) key
    ∙ find-map key_cmp (λ (route : TakenRoute). route.value) key (maps.entries (taken_from control peer))
    ∙ ap value_in (sym (maps.get-entries (taken_from control peer) key))

told_up : (place : EdgePlace) (control : Control) (peer : NodeId) → is_some (maps.get control.peers peer) ≡ true
    → told place control peer ≡ held_for place control peer
told_up place control peer up = ap (λ (b : Bool). cond b (held_for place control peer) maps.empty) up

nothing_pending : (from to : Option Value) (pending : List (Option Value)) → pending ≡ [] → Leads from pending to → from ≡ to
nothing_pending from to pending e h = subst (λ (values : List (Option Value)). Leads from values to) e h

-- at each key the receiver has what the sender holds
pub calm_key : (network : EdgeNetwork) (root egress : NodeId) → Rule network → CalmSession network root egress → (key : Key) →
    value_in (maps.get (taken_from (network.node egress) root) key) ≡ maps.get (held_for (place_of network root) (network.node root) egress) key
calm_key network root egress rule calm key =
    nothing_pending (value_in (maps.get (taken_from (network.node egress) root) key))
    (maps.get (told (place_of network root) (network.node root) egress) key)
    (values_at key_cmp key (network.direction root egress).transit) (ap (values_at key_cmp key) calm.quiet)
    ((rule.view root egress key calm.two).leads calm.joined (near_up network root egress rule calm))
    ∙ ap (λ (table : Table). maps.get table key) (told_up (place_of network root) (network.node root) egress (near_up network root egress rule calm))

pub calm_tables : (network : EdgeNetwork) (root egress : NodeId) → Rule network → CalmSession network root egress →
    taken_values (network.node egress) root ≡ held_for (place_of network root) (network.node root) egress
calm_tables network root egress rule calm =
    maps.same_map key_total key_exact (taken_values (network.node egress) root) (held_for (place_of network root) (network.node root) egress)
    (λ key. taken_value (network.node egress) root key ∙ calm_key network root egress rule calm key)

-- ---- what was taken, and what is held

some_value : (taken : Option TakenRoute) (value : Value) → value_in taken ≡ Some value
    → (route : TakenRoute) × (taken ≡ Some route) × (route.value ≡ value)
some_value None value e = absurd cc
some_value (Some route) value e = (route, refl, cc)

-- what is held was taken
pub held_taken : (network : EdgeNetwork) (root egress : NodeId) (key : Key) (value : Value) → Rule network → CalmSession network root egress
    → maps.get (held_for (place_of network root) (network.node root) egress) key ≡ Some value →
    (route : TakenRoute) × (maps.get (taken_from (network.node egress) root) key ≡ Some route) × (route.value ≡ value)
held_taken network root egress key value rule calm h =
    some_value (maps.get (taken_from (network.node egress) root) key) value (calm_key network root egress rule calm key ∙ h)

-- what was taken is held
pub taken_held : (network : EdgeNetwork) (root egress : NodeId) (key : Key) (route : TakenRoute) → Rule network → CalmSession network root egress
    → maps.get (taken_from (network.node egress) root) key ≡ Some route →
    maps.get (held_for (place_of network root) (network.node root) egress) key ≡ Some route.value
taken_held network root egress key route rule calm h = sym (calm_key network root egress rule calm key) ∙ ap value_in h

-- ---- the table of a peer

taken_by : (table : Option Taken) → is_some table ≡ true → (taken : Taken) × (table ≡ Some taken)
taken_by None h = absurd (let bad : false ≡ true = h in cc)
taken_by (Some taken) h = (taken, refl)

pub taken_is : (control : Control) (peer : NodeId) (taken : Taken) → maps.get control.peers peer ≡ Some taken → taken_from control peer ≡ taken
taken_is control peer taken h = ap (λ (table : Option Taken). elim table [ None ↦ maps.empty | Some found ↦ found ]) h

-- where the end is up, the table is one of those of the peers
pub among_peers : (control : Control) (peer : NodeId) → is_some (maps.get control.peers peer) ≡ true
    → Among (peer, taken_from control peer) (maps.entries control.peers)
among_peers control peer up =
    let by = taken_by (maps.get control.peers peer) up in
    subst (λ (taken : Taken). Among (peer, taken) (maps.entries control.peers)) (sym (taken_is control peer by.0 by.1))
    (get_entry node_cmp_exact control.peers peer by.0 by.1)

pub peer_table : (control : Control) (peer : NodeId) (taken : Taken) → Among (peer, taken) (maps.entries control.peers)
    → taken_from control peer ≡ taken
peer_table control peer taken a = taken_is control peer taken (entry_get node_cmp_total control.peers peer taken a)
