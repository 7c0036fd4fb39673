-- The flows of an edge are sound where its entries, its notes and the routes that it took are.
use Rattle.std.proofs.Common.{◌≡◌, ◌<◌, ℕ, Bool, true, false, ◌&&◌, [], ◌∷◌, length, map, take, drop, Option, Some, None, refl, sym, subst, ◌∙◌, arith}
use Rattle.std.specs.Prelude.{nat_eq, if◌then◌else◌}
use Rattle.std.specs.Int.{w16, from_be_bytes}
use Rattle.std.specs.List.{AllByRecursion, filter, flat_map}
use Rattle.std.specs.Cmp.Lexicographic.{pointwise}
use Rattle.std.specs.FinMap as maps
use Rattle.std.specs.FinSet as sets
use Rattle.std.proofs.lemmas.List.{length-take, length-drop}
use Rattle.mv_base.specs.Address.{addr_octets, same_addr}
use Rattle.mv_base.specs.Number.{◌>>?◌, only_if}
use Rattle.mv_base.specs.Octets.{IsOctets}
use Rattle.mv_base.specs.declared.addr.Addr.{Addr}
use Rattle.mv_base.specs.declared.addr.Addr.TheVariants.{V4, V6}
use Rattle.mv_base.specs.declared.ids.NodeId.{NodeId}
use Rattle.mv_base.proofs.Fields.{octets_before, octets_after, wide16}
use Rattle.mv_base.specs.declared.prefix.Prefix.{Prefix}
use Rattle.bgp_values.specs.declared.mvpn_nlri.route.Afi.{Afi}
use Rattle.bgp_values.specs.declared.mvpn_nlri.route.Afi.TheVariants.{Ipv4, Ipv6}
use Rattle.bgp_values.specs.declared.mvpn_nlri.route.Route.TheVariants as routes
use Rattle.bgp_values.specs.mvpn_nlri.Spelling.{IsSource, IsGroup}
use Rattle.mv_base.specs.declared.route_targets.communities.ExtComm.{ExtComm}
use Rattle.bgp_messages.specs.declared.bgp_attributes.key.Key.{Key}
use Rattle.bgp_messages.specs.declared.bgp_attributes.key.Key.TheVariants.{Mcast, Unicast}
use Rattle.scenario_defs.specs.declared.event.IfaceEntry.{IfaceEntry}
use Rattle.scenario_defs.specs.declared.event.JoinEntry.{JoinEntry}
use Rattle.scenario_defs.specs.declared.event.JoinEntry.TheVariants as entries
use Rattle.network_defs.proofs.edge_defs.pim_defs.KeyLemmas.{entry_cmp_total}
use Rattle.label_defs.proofs.KeyLemmas.{node_cmp_total}
use Rattle.label_defs.proofs.MemberLemmas.{each_in_order}
use Rattle.label_defs.specs.Members.{in_order}
use Rattle.network_defs.specs.edge_defs.choice_defs.Choice.{best_route}
use Rattle.network_defs.specs.edge_defs.choice_defs.declared.origin.Origin.{Origin}
use Rattle.network_defs.specs.edge_defs.choice_defs.declared.origin.Origin.TheVariants as origins
use Rattle.network_defs.specs.edge_defs.Edge.{Note, VrfFlow, Import, Upstream, Site, Remote, TakenRoute, Taken, Control}
use Rattle.network_defs.specs.edge_defs.Flows.{flows_at, vrf_flows, with_upstream, possible_flows, joined_by, active_flows, active_from, noted_flow, is_flow}
use Rattle.network_defs.specs.edge_defs.Imported.{FlowRoute, JoinBy, active_of, imported_active, import_in, source_as_in, found_in, only_one, join_by, taken_from, is_admitted}
use Rattle.network_defs.specs.edge_defs.Keys.{Value, key_cmp}
use Rattle.network_defs.specs.edge_defs.Originated.{is_iface_of, notes_of}
use Rattle.network_defs.specs.edge_defs.Place.{EdgePlace, OwnVrf, own_vrfs}
use Rattle.network_defs.specs.edge_defs.Upstream.{costs_of, known_routes, upstream_by, upstream_for}
use Rattle.network_laws.specs.Sound.{IsHost, IsFlow, AreEight, SoundEntry, SoundUpstream, SoundKey, SoundValue, SoundTaken}
use Rattle.network_laws.proofs.Lists.{each_append, each_of, each_map, each_flat, each_weaker, each_filtered, each_found, only_meets}
use Rattle.network_laws.proofs.Maps.{Each, AllEntries, all_entries, made_meets}
use Rattle.network_defs.proofs.edge_defs.KeyLemmas.{key_total, note_total, flow_total, flow_exact}
use Rattle.network_laws.proofs.ControlEntries.{SoundAt}

-- what a peer's table meets
abbrev pub SoundPeer : NodeId → Taken → Type 0
SoundPeer peer taken = SoundTaken taken

abbrev pub SoundRoute : Key → TakenRoute → Type 0
SoundRoute key route = SoundKey key × SoundValue route.value

-- what a note is
abbrev pub SoundNote : Note → Type 0
SoundNote note = IsFlow note.source note.group

-- ---- options

bound : {A B : Type 0} (o : Option A) (next : A → Option B) (b : B) → (o >>? next) ≡ Some b → (a : A) × (o ≡ Some a) × (next a ≡ Some b)
bound None next b e = absurd cc
bound (Some a) next b e = (a, refl, e)

tested : {A : Type 0} (b : Bool) (x y : A) → only_if b x ≡ Some y → x ≡ y
tested true x y e = cc
tested false x y e = absurd cc

-- ---- upstreams

import_sound : (comm : ExtComm) (import : Import) → AreEight comm.0 → import_in comm ≡ Some import → IsHost import.addr × (import.number < 65536)
import_sound comm import eight e =
    let same =
    tested (pointwise nat_eq (take 2 comm.0) (0x01 ∷ 0x0B ∷ []))
    (record { addr = V4 (take 4 (drop 2 comm.0)); number = from_be_bytes w16 (drop 6 comm.0) }) import e in
    let len : length (take 4 (drop 2 comm.0)) ≡ 4 = omega (arith, length-take 4 (drop 2 comm.0), length-drop 2 comm.0, eight.0) in
    subst (λ (own : Import). IsHost own.addr × (own.number < 65536)) same
    ((len, octets_before 4 (drop 2 comm.0) (octets_after 2 comm.0 eight.1)), wide16.below (drop 6 comm.0) (octets_after 6 comm.0 eight.1))

source_as_sound : (comm : ExtComm) (source_as : ℕ) → AreEight comm.0 → source_as_in comm ≡ Some source_as → source_as < 65536
source_as_sound comm source_as eight e =
    let same =
    tested (pointwise nat_eq (take 2 comm.0) (0x00 ∷ 0x09 ∷ []) && pointwise nat_eq (drop 4 comm.0) (0 ∷ 0 ∷ 0 ∷ 0 ∷ []))
    (from_be_bytes w16 (take 2 (drop 2 comm.0))) source_as e in
    subst (λ (n : ℕ). n < 65536) same (wide16.below (take 2 (drop 2 comm.0)) (octets_before 2 (drop 2 comm.0) (octets_after 2 comm.0 eight.1)))

abbrev SoundBy : JoinBy → Type 0
SoundBy by = IsHost by.import.addr × (by.import.number < 65536) × (by.source_as < 65536)

join_sound : (peer : Addr) (value : Value) (by : JoinBy) → SoundValue value → join_by peer value ≡ Some by → SoundBy by
join_sound peer value by sound e =
    let one = bound (only_one (found_in import_in value.comms)) _ by e in
    let two = bound (only_one (found_in source_as_in value.comms)) _ by one.2 in
    let same = tested (same_addr one.0.addr peer && same_addr value.next_hop peer) (record { import = one.0; source_as = two.0 }) by two.2 in
    let imports =
    each_found (λ (comm : ExtComm). AreEight comm.0) (λ (import : Import). IsHost import.addr × (import.number < 65536)) import_in import_sound
    value.comms sound.comms in
    let numbers = each_found (λ (comm : ExtComm). AreEight comm.0) (λ (n : ℕ). n < 65536) source_as_in source_as_sound value.comms sound.comms in
    let import =
    only_meets (λ (import : Import). IsHost import.addr × (import.number < 65536)) (found_in import_in value.comms) one.0 imports one.1 in
    let number = only_meets (λ (n : ℕ). n < 65536) (found_in source_as_in value.comms) two.0 numbers two.1 in
    subst SoundBy same (import.0, import.1, number)

taken_from_sound : (control : Control) (peer : NodeId) → Each SoundPeer control.peers → SoundTaken (taken_from control peer)
taken_from_sound control peer sound = by_found (maps.get control.peers peer) refl
  where
    by_found : (o : Option Taken) → maps.get control.peers peer ≡ o → SoundTaken (elim o [ None ↦ maps.empty | Some taken ↦ taken ])
    by_found None e = λ key route f. let bad : None ≡ Some route = sym (maps.get-empty key_cmp key) ∙ f in absurd cc
    by_found (Some taken) e = sound peer taken e

bind_meets : {A B : Type 0} (P : Option B → Type 0) → P None → (o : Option A) (next : A → Option B) → ((a : A) → o ≡ Some a → P (next a))
    → P (o >>? next)
bind_meets P none None next h = none
bind_meets P none (Some a) next h = h a refl

by_origin : (control : Control) (prefix : Prefix) (origin : Origin) → Each SoundPeer control.peers → SoundUpstream (elim origin [
  | origins.Local site ↦ Some (Site site)
  | origins.Remote edge address rd ↦
      maps.get (taken_from control edge) (Unicast rd prefix) >>? λ taken.
      join_by address taken.value >>? λ by.
      Some (Remote edge rd by.import by.source_as)
])
by_origin control prefix (origins.Local site) sound = tt
by_origin control prefix (origins.Remote edge address rd) sound =
    bind_meets SoundUpstream tt (maps.get (taken_from control edge) (Unicast rd prefix))
    (λ taken. join_by address taken.value >>? λ by. Some (Remote edge rd by.import by.source_as))
    (λ taken e.
    let route = taken_from_sound control edge sound (Unicast rd prefix) taken e in
    bind_meets SoundUpstream tt (join_by address taken.value) (λ by. Some (Remote edge rd by.import by.source_as))
    (λ by f. let met = join_sound address taken.value by route.1 f in (route.0, met.0, met.1, met.2)))

-- The upstream of a source and group is that of a route that was taken.
pub upstream_sound : (place : EdgePlace) (control : Control) (own : OwnVrf) (source group : Addr) → Each SoundPeer control.peers
    → SoundUpstream (upstream_for place control own source group)
upstream_sound place control own source group sound =
    bind_meets SoundUpstream tt (best_route (costs_of place own (known_routes place control own) source group) (known_routes place control own)
    source) (upstream_by place control)
    (λ route e. by_origin control route.prefix route.origin sound)

-- ---- flows

-- a flow's source and group
abbrev SoundFlowRoute : FlowRoute → Type 0
SoundFlowRoute flow = IsFlow flow.source flow.group

routed : (afi : Afi) (source group : Addr) → IsSource afi source → IsGroup afi group → IsOctets (addr_octets source) → IsOctets (addr_octets group)
    → IsFlow source group
routed Ipv4 (V4 s) (V4 g) a b o p = ((a, o), ((b.0, p), b.1), refl)
routed Ipv4 (V6 s) group a b o p = absurd a
routed Ipv4 (V4 s) (V6 g) a b o p = absurd b.0
routed Ipv6 (V6 s) (V6 g) a b o p = ((a, o), ((b.0, p), b.1), refl)
routed Ipv6 (V4 s) group a b o p = absurd a
routed Ipv6 (V6 s) (V4 g) a b o p = absurd b.0

active_sound : (key : Key) (flow : FlowRoute) → SoundKey key → active_of key ≡ Some flow → SoundFlowRoute flow
active_sound (Unicast rd prefix) flow h e = absurd cc
active_sound (Mcast afi (routes.Intra rd originator)) flow h e = absurd cc
active_sound (Mcast afi (routes.Inter rd source_as)) flow h e = absurd cc
active_sound (Mcast afi (routes.Selective rd source group originator)) flow h e = absurd cc
active_sound (Mcast afi (routes.Leaf key originator)) flow h e = absurd cc
active_sound (Mcast afi (routes.SharedJoin rd source_as source group)) flow h e = absurd cc
active_sound (Mcast afi (routes.SourceJoin rd source_as source group)) flow h e = absurd cc
active_sound (Mcast afi (routes.Other kind octets)) flow h e = absurd cc
active_sound (Mcast afi (routes.Active rd source group)) flow h e =
    let same : record { source = source; group = group } ≡ flow = cc in
    subst SoundFlowRoute same (routed afi source group h.0 h.1 h.2 h.3)

imported_sound : (own : OwnVrf) (entry : Key × TakenRoute) (flow : FlowRoute) → SoundRoute entry.0 entry.1 → imported_active own.vrf entry ≡ Some flow
    → SoundFlowRoute flow
imported_sound own entry flow h e =
    let one = bound (active_of entry.0) (λ found. only_if (is_admitted own.vrf entry.1.value.comms) found) flow e in
    subst SoundFlowRoute (tested (is_admitted own.vrf entry.1.value.comms) one.0 flow one.2) (active_sound entry.0 one.0 h.0 one.1)

by_entry : (own : Bool) (entry : JoinEntry) (flow : FlowRoute) → SoundEntry entry → elim entry [
  | entries.Source source group ↦ if own then Some (record { source = source; group = group }) else None
  | entries.Star group ↦ None
  | entries.Rpt source group ↦ None
] ≡ Some flow → SoundFlowRoute flow
by_entry own (entries.Star group) flow h e = absurd cc
by_entry own (entries.Rpt source group) flow h e = absurd cc
by_entry own (entries.Source source group) flow h e = subst SoundFlowRoute (tested own (record { source = source; group = group }) flow e) h

joined_sound : (place : EdgePlace) (own : OwnVrf) (at : IfaceEntry) (flow : FlowRoute) → SoundEntry at.entry → joined_by place own at ≡ Some flow
    → SoundFlowRoute flow
joined_sound place own at = by_entry (is_iface_of place.scenario own.id at.iface) at.entry

peer_sound : (own : OwnVrf) (peer : NodeId × Taken) → SoundTaken peer.1 → AllByRecursion SoundFlowRoute (active_from own peer)
peer_sound own peer sound =
    each_found (λ entry. SoundRoute entry.0 entry.1) SoundFlowRoute (imported_active own.vrf) (imported_sound own) (maps.entries peer.1)
    (all_entries key_total SoundRoute peer.1 sound)

-- The entries, the notes and the tables of the peers are sound.
pub record SoundSources (control : Control) : Type 0 where
  pub entries : Each SoundAt control.entries
  pub notes : (note : Note) → sets.contains control.notes note ≡ true → SoundNote note
  pub peers : Each SoundPeer control.peers

active_flows_sound : (place : EdgePlace) (control : Control) (own : OwnVrf) → SoundSources control
    → AllByRecursion SoundFlowRoute (active_flows place control own)
active_flows_sound place control own sound =
    each_append SoundFlowRoute (map noted_flow (notes_of place control own.id)) (flat_map (active_from own) (maps.entries control.peers))
    (each_map SoundFlowRoute noted_flow (notes_of place control own.id)
    (each_weaker (λ note. SoundNote note × (is_iface_of place.scenario own.id note.iface ≡ true)) (λ note. SoundFlowRoute (noted_flow note))
    (λ note h. h.0) (notes_of place control own.id)
    (each_filtered SoundNote (λ note. is_iface_of place.scenario own.id note.iface) (in_order control.notes)
    (each_in_order note_total SoundNote control.notes sound.notes))))
    (each_flat SoundFlowRoute (active_from own) (maps.entries control.peers)
    (each_weaker (λ peer. SoundPeer peer.0 peer.1) (λ peer. AllByRecursion SoundFlowRoute (active_from own peer)) (peer_sound own)
    (maps.entries control.peers)
    (all_entries node_cmp_total SoundPeer control.peers sound.peers)))

possible_sound : (place : EdgePlace) (control : Control) (own : OwnVrf) → SoundSources control
    → AllByRecursion SoundFlowRoute (possible_flows place control own)
possible_sound place control own sound =
    each_append SoundFlowRoute (found_in (joined_by place own) (maps.keys control.entries)) (active_flows place control own)
    (each_found (λ at. SoundEntry at.entry) SoundFlowRoute (joined_by place own) (joined_sound place own) (maps.keys control.entries)
    (each_map (λ (at : IfaceEntry). SoundEntry at.entry) (λ e. e.0) (maps.entries control.entries)
    (all_entries entry_cmp_total SoundAt control.entries sound.entries)))
    (active_flows_sound place control own sound)

-- what a flow meets, with its upstream
abbrev pub SoundFlow : VrfFlow → Option Upstream → Type 0
SoundFlow flow found = IsFlow flow.source flow.group × SoundUpstream found

vrf_flows_sound : (place : EdgePlace) (now : ℕ) (control : Control) (own : OwnVrf) → SoundSources control
    → AllEntries SoundFlow (vrf_flows place now control own)
vrf_flows_sound place now control own sound =
    each_map (λ entry. SoundFlow entry.0 entry.1) (with_upstream place control own)
    (filter (is_flow place now control own) (possible_flows place control own))
    (each_weaker (λ flow. SoundFlowRoute flow × (is_flow place now control own flow ≡ true))
    (λ flow. IsFlow flow.source flow.group × SoundUpstream (upstream_for place control own flow.source flow.group))
    (λ flow h. (h.0, upstream_sound place control own flow.source flow.group sound.peers))
    (filter (is_flow place now control own) (possible_flows place control own))
    (each_filtered SoundFlowRoute (is_flow place now control own) (possible_flows place control own) (possible_sound place control own sound)))

-- Each flow that some interface asks for is sound, and so is its upstream.
pub flows_are_sound : (place : EdgePlace) (now : ℕ) (control : Control) → SoundSources control → Each SoundFlow (flows_at place now control)
flows_are_sound place now control sound =
    made_meets flow_total flow_exact SoundFlow (flat_map (vrf_flows place now control) (own_vrfs place))
    (each_flat (λ entry. SoundFlow entry.0 entry.1) (vrf_flows place now control) (own_vrfs place)
    (each_of (λ own. AllEntries SoundFlow (vrf_flows place now control own)) (λ own. vrf_flows_sound place now control own sound) (own_vrfs place)))
