-- A datagram leaves an edge at an interface of it, once.
use Rattle.std.proofs.Common.{◌≡◌, ℕ, zero, suc, ◌+◌, ◌<◌, ◌≤◌, Bool, true, false, cond, ◌&&◌, ◌||◌, List, [], ◌∷◌, map, Option, None, Some, refl, ap, inl, inr, ◌∙◌, arith}
use Rattle.std.specs.Prelude.{◌==◌, count_by, slice_get, option_map}
use Rattle.std.specs.List.{filter, flat_map, list_any}
use Rattle.std.specs.FinMap as maps
use Rattle.std.specs.FinMap.{FinMap}
use Rattle.std.specs.FinSet as sets
use Rattle.std.specs.Ordering.{eq_by_cmp}
use Rattle.std.proofs.lemmas.Bool.{cases_Bool, cond_both, cond-true, cond-false, and_parts, eqb-true, eq-eqb, ne_eqb}
use Rattle.mv_base.specs.declared.addr.Addr.{Addr}
use Rattle.mv_base.specs.declared.ids.IfaceId.{IfaceId}
use Rattle.mv_base.specs.declared.ids.NodeId.{NodeId}
use Rattle.mv_base.specs.declared.ids.VrfId.{VrfId}
use Rattle.mldp.specs.declared.mldp_fec.fec.Fec.{Fec}
use Rattle.label_defs.specs.Keys.{node_cmp}
use Rattle.label_defs.specs.LabelData.{branches_of}
use Rattle.label_defs.proofs.KeyLemmas.{node_cmp_total, ties, node_equal}
use Rattle.label_defs.proofs.MemberLemmas.{once_among_keys, count-cons}
use Rattle.scenario_defs.specs.Vpn.{is_of_vrf, ifaces_where}
use Rattle.scenario_defs.specs.declared.scenario.Iface.{Iface}
use Rattle.scenario_defs.specs.declared.scenario.Vrf.{Vrf}
use Rattle.mvpn_model.specs.Past.{is_of_edge}
use Rattle.edge_defs.specs.Datagrams.{Fate, discarded, is_from_site, is_outside, is_from_edge, is_imported_from, outs_from, outs_at, outs_of}
use Rattle.edge_defs.specs.Tunnels.{transmit_tunnel, is_joined_in}
use Rattle.network_defs.specs.session_defs.Octets.{OctetNetwork}
use Rattle.network_defs.specs.Nodes.{NodeState, Edge, CoreNode, Nodes, place_of}
use Rattle.network_defs.specs.World.{Datagram}
use Rattle.delivery_laws.specs.Calm.{node_outs}
use Rattle.edge_defs.specs.Edge.{Upstream, Site, Remote, Taken, Control, EdgeData}
use Rattle.edge_defs.specs.Flows.{is_asking, ifaces_of, asking_ifaces}
use Rattle.edge_defs.specs.Place.{EdgePlace, OwnVrf, vrfs_from, own_vrfs}
use Rattle.edge_defs.specs.Upstream.{upstream_for}
use Rattle.delivery_laws.specs.Leaving.{passes, is_iface_of_vrf}
use Rattle.delivery_laws.specs.Flood.{times_at, fate_of_entry}
use Rattle.delivery_laws.proofs.Totals.{count-append}

-- ---- counts

-- how often an interface is among what each element gives, where only those that pass give it, and once
flat_few : {X : Type 0} (iface : IfaceId) (gives : X → List IfaceId) (test : X → Bool) → ((x : X) → times_at iface (gives x) ≤ cond (test x) 1 0)
    → (xs : List X) → times_at iface (flat_map gives xs) ≤ count_by test xs
flat_few iface gives test h [] = omega arith
flat_few iface gives test h (x ∷ xs) =
    let one = h x in
    let rest = flat_few iface gives test h xs in
    omega (arith, count-append (λ (own : IfaceId). own.0 == iface.0) (gives x) (flat_map gives xs), count-cons test x xs, one, rest)

filter_few : (iface : IfaceId) (test : IfaceId → Bool) (xs : List IfaceId) → times_at iface (filter test xs) ≤ times_at iface xs
filter_few iface test [] = omega arith
filter_few iface test (x ∷ xs) =
    let rest = filter_few iface test xs in
    cond_both (test x) (x ∷ filter test xs) (filter test xs) (λ (l : List IfaceId). times_at iface l ≤ times_at iface (x ∷ xs))
    (λ t. omega (
      arith,
      count-cons (λ (own : IfaceId). own.0 == iface.0) x (filter test xs),
      count-cons (λ (own : IfaceId). own.0 == iface.0) x xs,
      rest,
    ))
    (λ f. omega (arith, count-cons (λ (own : IfaceId). own.0 == iface.0) x xs, rest))

-- ---- interfaces of a VRF

-- those of higher numbers are others
ifaces_above : (test : IfaceId → Iface → Bool) (number : ℕ) (iface : IfaceId) (ifaces : List Iface) → iface.0 < number
    → times_at iface (ifaces_where test number ifaces) ≡ 0
ifaces_above test number iface [] lt = refl
ifaces_above test number iface (own ∷ more) lt =
    let rest = ifaces_above test (number + 1) iface more (omega (arith, lt)) in
    let other : cond {A = ℕ} (number == iface.0) 1 0 ≡ 0 = cond-false (number == iface.0) 1 0 (ne_eqb number iface.0 (λ e. omega (arith, e, lt))) in
    cond_both (test (record { 0 = number }) own) (record { 0 = number } ∷ ifaces_where test (number + 1) more) (ifaces_where test (number + 1) more)
    (λ (l : List IfaceId). times_at iface l ≡ 0)
    (λ t. omega (arith, count-cons (λ (i : IfaceId). i.0 == iface.0) (record { 0 = number }) (ifaces_where test (number + 1) more), other, rest))
    (λ f. rest)

ifaces_few : (test : Iface → Bool) (number : ℕ) (iface : IfaceId) (ifaces : List Iface) (place : ℕ) → iface.0 ≡ number + place
    → times_at iface (ifaces_where (λ n own. test own) number ifaces) ≤ cond (passes test (slice_get ifaces place)) 1 0
ifaces_few test number iface [] place e = omega arith
ifaces_few test number iface (own ∷ more) zero e =
    let rest = ifaces_above (λ n i. test i) (number + 1) iface more (omega (arith, e)) in
    let here : cond {A = ℕ} (number == iface.0) 1 0 ≡ 1 = cond-true (number == iface.0) 1 0 (eq-eqb number iface.0 (omega (arith, e))) in
    elim (cases_Bool (test own)) [
      | inl t ↦
          let listed : times_at iface (cond (test own) (record { 0 = number } ∷ ifaces_where (λ n i. test i) (number + 1) more)
          (ifaces_where (λ n i. test i) (number + 1) more)) ≡ 1 =
          ap (λ b. times_at iface (cond b (record { 0 = number } ∷ ifaces_where (λ n i. test i) (number + 1) more)
          (ifaces_where (λ n i. test i) (number + 1) more))) t
          ∙ omega (
            arith,
            count-cons (λ (i : IfaceId). i.0 == iface.0) (record { 0 = number }) (ifaces_where (λ n i. test i) (number + 1) more),
            here,
            rest,
          ) in
          omega (arith, listed, cond-true {A = ℕ} (test own) 1 0 t)
      | inr f ↦
          let listed : times_at iface (cond (test own) (record { 0 = number } ∷ ifaces_where (λ n i. test i) (number + 1) more)
          (ifaces_where (λ n i. test i) (number + 1) more)) ≡ 0 =
          ap (λ b. times_at iface (cond b (record { 0 = number } ∷ ifaces_where (λ n i. test i) (number + 1) more)
          (ifaces_where (λ n i. test i) (number + 1) more))) f ∙ rest in
          omega (arith, listed)
    ]
ifaces_few test number iface (own ∷ more) (suc place) e =
    let rest = ifaces_few test (number + 1) iface more place (omega (arith, e)) in
    let other : cond {A = ℕ} (number == iface.0) 1 0 ≡ 0 = cond-false (number == iface.0) 1 0 (ne_eqb number iface.0 (λ q. omega (arith, q, e))) in
    cond_both (test own) (record { 0 = number } ∷ ifaces_where (λ n i. test i) (number + 1) more) (ifaces_where (λ n i. test i) (number + 1) more)
    (λ (l : List IfaceId). times_at iface l ≤ cond (passes test (slice_get more place)) 1 0)
    (λ t. omega (
      arith,
      count-cons (λ (i : IfaceId). i.0 == iface.0) (record { 0 = number }) (ifaces_where (λ n i. test i) (number + 1) more),
      other,
      rest,
    )) (λ f. rest)

asking_few : (place : EdgePlace) (now : ℕ) (control : Control) (own : OwnVrf) (source group : Addr) (iface : IfaceId)
    → times_at iface (asking_ifaces place now control own source group) ≤ cond (is_iface_of_vrf place.scenario iface own.id) 1 0
asking_few place now control own source group iface =
    let all = ifaces_few (is_of_vrf own.id) 0 iface place.scenario.ifaces iface.0 (omega arith) in
    omega (arith, filter_few iface (is_asking place now control own source group) (ifaces_of place own), all)

-- ---- VRFs and peers

vrfs_above : (me : NodeId) (number : ℕ) (vrfs : List Vrf) (id : VrfId) → id.0 < number
    → count_by (λ (own : OwnVrf). id.0 == own.id.0) (vrfs_from me number vrfs) ≡ 0
vrfs_above me number [] id lt = refl
vrfs_above me number (vrf ∷ more) id lt =
    let rest = vrfs_above me (number + 1) more id (omega (arith, lt)) in
    let other : cond {A = ℕ} (id.0 == number) 1 0 ≡ 0 = cond-false (id.0 == number) 1 0 (ne_eqb id.0 number (λ e. omega (arith, e, lt))) in
    cond_both (vrf.edge.0 == me.0) (record { id = record { 0 = number }; vrf = vrf } ∷ vrfs_from me (number + 1) more)
    (vrfs_from me (number + 1) more) (λ (l : List OwnVrf). count_by (λ (own : OwnVrf). id.0 == own.id.0) l ≡ 0)
    (λ t. omega (
      arith,
      count-cons (λ (own : OwnVrf). id.0 == own.id.0) (record { id = record { 0 = number }; vrf = vrf })
          (vrfs_from me (number + 1) more),
      other,
      rest,
    )) (λ f. rest)

vrfs_few : (me : NodeId) (number : ℕ) (vrfs : List Vrf) (id : VrfId) → count_by (λ (own : OwnVrf). id.0 == own.id.0) (vrfs_from me number vrfs) ≤ 1
vrfs_few me number [] id = omega arith
vrfs_few me number (vrf ∷ more) id =
    let rest = vrfs_few me (number + 1) more id in
    cond_both (vrf.edge.0 == me.0) (record { id = record { 0 = number }; vrf = vrf } ∷ vrfs_from me (number + 1) more)
    (vrfs_from me (number + 1) more) (λ (l : List OwnVrf). count_by (λ (own : OwnVrf). id.0 == own.id.0) l ≤ 1)
    (λ t. elim (cases_Bool (id.0 == number)) [
      | inl same ↦
          let none = vrfs_above me (number + 1) more id (omega (arith, eqb-true id.0 number same)) in
          let one : cond {A = ℕ} (id.0 == number) 1 0 ≡ 1 = cond-true (id.0 == number) 1 0 same in
          omega (
            arith,
            count-cons (λ (own : OwnVrf). id.0 == own.id.0) (record { id = record { 0 = number }; vrf = vrf })
                (vrfs_from me (number + 1) more),
            one,
            none,
          )
      | inr other ↦
          let none : cond {A = ℕ} (id.0 == number) 1 0 ≡ 0 = cond-false (id.0 == number) 1 0 other in
          omega (
            arith,
            count-cons (λ (own : OwnVrf). id.0 == own.id.0) (record { id = record { 0 = number }; vrf = vrf })
                (vrfs_from me (number + 1) more),
            none,
            rest,
          )
    ]) (λ f. rest)

pub count_false : {X : Type 0} (xs : List X) → count_by (λ x. false) xs ≡ 0
count_false [] = refl
count_false (x ∷ xs) = (let rest = count_false xs in omega (arith, count-cons (λ y. false) x xs, rest))

-- the interface is one of at most one VRF of the edge
vrfs_of_iface : (place : EdgePlace) (o : Option Iface) → count_by (λ (own : OwnVrf). passes (is_of_vrf own.id) o) (own_vrfs place) ≤ 1
vrfs_of_iface place None = (let none = count_false (own_vrfs place) in omega (arith, none))
vrfs_of_iface place (Some found) = vrfs_few place.me 0 place.scenario.vrfs found.vrf

-- the upstream is one peer at most
count_keys : (own : NodeId) (es : List (NodeId × Taken))
    → count_by (λ (peer : NodeId × Taken). own.0 == peer.0.0) es ≤ count_by (eq_by_cmp node_cmp own) (map (λ e. e.0) es)
count_keys own [] = omega arith
count_keys own (e ∷ es) =
    let rest = count_keys own es in
    let one : cond {A = ℕ} (own.0 == e.0.0) 1 0 ≤ cond (eq_by_cmp node_cmp own e.0) 1 0 = elim (cases_Bool (own.0 == e.0.0)) [
      | inl t ↦ (let tied = ties node_cmp node_cmp_total own e.0 (node_equal own e.0 t) in
          omega (arith, cond-true {A = ℕ} (own.0 == e.0.0) 1 0 t, cond-true {A = ℕ} (eq_by_cmp node_cmp own e.0) 1 0 tied))
      | inr f ↦ omega (arith, cond-false {A = ℕ} (own.0 == e.0.0) 1 0 f)
    ] in
    omega (
      arith,
      count-cons (λ (peer : NodeId × Taken). own.0 == peer.0.0) e es,
      count-cons (eq_by_cmp node_cmp own) e.0 (map (λ (x : NodeId × Taken). x.0) es),
      one,
      rest,
    )

peers_few : (peers : FinMap node_cmp Taken) (o : Option Upstream)
    → count_by (λ (peer : NodeId × Taken). is_from_edge peer.0 o) (maps.entries peers) ≤ 1
peers_few peers None = (let none = count_false (maps.entries peers) in omega (arith, none))
peers_few peers (Some (Site site)) = (let none = count_false (maps.entries peers) in omega (arith, none))
peers_few peers (Some (Remote own rd import source_as)) =
    let keys = once_among_keys node_cmp_total peers own in
    let small : cond {A = ℕ} (maps.contains_key peers own) 1 0 ≤ 1 =
    cond_both (maps.contains_key peers own) 1 0 (λ k. k ≤ 1) (λ t. omega arith) (λ f. omega arith) in
    omega (arith, count_keys own (maps.entries peers), keys, small)

-- an interface that is of none of the edge's VRFs
vrfs_none : (me : NodeId) (number place : ℕ) (vrfs : List Vrf) (id : VrfId) → id.0 ≡ number + place
    → (elim (slice_get vrfs place) [ None ↦ false | Some vrf ↦ vrf.edge.0 == me.0 ]) ≡ false
    → count_by (λ (own : OwnVrf). id.0 == own.id.0) (vrfs_from me number vrfs) ≡ 0
vrfs_none me number place [] id e f = refl
vrfs_none me number zero (vrf ∷ more) id e f =
    ap (λ b. count_by (λ (own : OwnVrf). id.0 == own.id.0)
    (cond b (record { id = record { 0 = number }; vrf = vrf } ∷ vrfs_from me (number + 1) more) (vrfs_from me (number + 1) more))) f
    ∙ vrfs_above me (number + 1) more id (omega (arith, e))
vrfs_none me number (suc place) (vrf ∷ more) id e f =
    let rest = vrfs_none me (number + 1) place more id (omega (arith, e)) f in
    let other : cond {A = ℕ} (id.0 == number) 1 0 ≡ 0 = cond-false (id.0 == number) 1 0 (ne_eqb id.0 number (λ q. omega (arith, q, e))) in
    cond_both (vrf.edge.0 == me.0) (record { id = record { 0 = number }; vrf = vrf } ∷ vrfs_from me (number + 1) more)
    (vrfs_from me (number + 1) more) (λ (l : List OwnVrf). count_by (λ (own : OwnVrf). id.0 == own.id.0) l ≡ 0)
    (λ t. omega (
      arith,
      count-cons (λ (own : OwnVrf). id.0 == own.id.0) (record { id = record { 0 = number }; vrf = vrf })
          (vrfs_from me (number + 1) more),
      other,
      rest,
    )) (λ q. rest)

edge_is : (me : NodeId) (o : Option Vrf) → (elim (option_map (λ (vrf : Vrf). vrf.edge) o) [ None ↦ false | Some edge ↦ edge.0 == me.0 ]) ≡ false
    → (elim o [ None ↦ false | Some vrf ↦ vrf.edge.0 == me.0 ]) ≡ false
edge_is me None q = refl
edge_is me (Some vrf) q = q

of_no_vrf : (place : EdgePlace) (iface : IfaceId) → is_of_edge place.scenario place.me iface ≡ false
    → count_by (λ (own : OwnVrf). is_iface_of_vrf place.scenario iface own.id) (own_vrfs place) ≡ 0
of_no_vrf place iface f = by (slice_get place.scenario.ifaces iface.0) f
  where
    by : (o : Option Iface) → (elim (elim o as (λ x. Option NodeId)
        [ None ↦ None | Some found ↦ option_map (λ (vrf : Vrf). vrf.edge) (slice_get place.scenario.vrfs found.vrf.0) ]) as (λ x. Bool)
        [ None ↦ false | Some edge ↦ edge.0 == place.me.0 ]) ≡ false → count_by (λ (own : OwnVrf). passes (is_of_vrf own.id) o) (own_vrfs place) ≡ 0
    by None e = count_false (own_vrfs place)
    by (Some found) e =
        vrfs_none place.me 0 found.vrf.0 place.scenario.vrfs found.vrf (omega arith) (edge_is place.me (slice_get place.scenario.vrfs found.vrf.0) e)

-- ---- what leaves

small : (b : Bool) → cond {A = ℕ} b 1 0 ≤ 1
small true = omega arith
small false = omega arith

module _ (place : EdgePlace) (now : ℕ) (edge : EdgeData) (fec : Fec) (source group : Addr) (iface : IfaceId) where
  from_vrf : (own : OwnVrf) (peer : NodeId × Taken)
      → times_at iface (outs_from place now edge.control own fec source group peer) ≤ cond (is_iface_of_vrf place.scenario iface own.id) 1 0
  from_vrf own peer =
      cond_both (is_imported_from place own fec peer && is_from_edge peer.0 (upstream_for place edge.control own source group))
      (asking_ifaces place now edge.control own source group) []
      (λ (l : List IfaceId). times_at iface l ≤ cond (is_iface_of_vrf place.scenario iface own.id) 1 0)
      (λ t. asking_few place now edge.control own source group iface) (λ f. omega arith)

  from_peer : (own : OwnVrf) (peer : NodeId × Taken)
      → times_at iface (outs_from place now edge.control own fec source group peer) ≤ cond
      (is_from_edge peer.0 (upstream_for place edge.control own source group)) 1 0
  from_peer own peer =
      cond_both (is_imported_from place own fec peer && is_from_edge peer.0 (upstream_for place edge.control own source group))
      (asking_ifaces place now edge.control own source group) []
      (λ (l : List IfaceId). times_at iface l ≤ cond (is_from_edge peer.0 (upstream_for place edge.control own source group)) 1 0)
      (λ t.
      let parts = and_parts (is_imported_from place own fec peer) (is_from_edge peer.0 (upstream_for place edge.control own source group)) t in
      let few = asking_few place now edge.control own source group iface in
      let one = small (is_iface_of_vrf place.scenario iface own.id) in
      omega (arith, cond-true {A = ℕ} (is_from_edge peer.0 (upstream_for place edge.control own source group)) 1 0 parts.1, few, one))
      (λ f. omega arith)

  at_vrf : (own : OwnVrf) → times_at iface (outs_at place now edge.control fec source group own) ≤ cond (is_iface_of_vrf place.scenario iface own.id)
      1 0
  at_vrf own = elim (cases_Bool (is_iface_of_vrf place.scenario iface own.id)) [
    | inl t ↦
        let few =
        flat_few iface (outs_from place now edge.control own fec source group)
        (λ (peer : NodeId × Taken). is_from_edge peer.0 (upstream_for place edge.control own source group)) (from_peer own)
        (maps.entries edge.control.peers) in
        let one = peers_few edge.control.peers (upstream_for place edge.control own source group) in
        omega (arith, few, one, cond-true {A = ℕ} (is_iface_of_vrf place.scenario iface own.id) 1 0 t)
    | inr f ↦
        let none : (peer : NodeId × Taken) → times_at iface (outs_from place now edge.control own fec source group peer) ≤ cond false 1 0 =
        λ peer. (let few = from_vrf own peer in omega (arith, few, cond-false {A = ℕ} (is_iface_of_vrf place.scenario iface own.id) 1 0 f)) in
        let few =
        flat_few iface (outs_from place now edge.control own fec source group) (λ (peer : NodeId × Taken). false) none
        (maps.entries edge.control.peers) in
        omega (arith, few, count_false (maps.entries edge.control.peers))
  ]

  by_vrfs : times_at iface (outs_of place now edge fec source group) ≤ count_by (λ (own : OwnVrf). is_iface_of_vrf place.scenario iface own.id)
      (own_vrfs place)
  by_vrfs =
      cond_both (sets.contains edge.part.leaves fec) (flat_map (outs_at place now edge.control fec source group) (own_vrfs place)) []
      (λ (l : List IfaceId). times_at iface l ≤ count_by (λ (own : OwnVrf). is_iface_of_vrf place.scenario iface own.id) (own_vrfs place))
      (λ t. flat_few iface (outs_at place now edge.control fec source group) (λ (own : OwnVrf). is_iface_of_vrf place.scenario iface own.id) at_vrf
      (own_vrfs place)) (λ f. omega arith)

  -- A copy leaves at an interface once at most, and at interfaces of the edge alone.
  pub outs_few : times_at iface (outs_of place now edge fec source group) ≤ 1
  outs_few = (let all = by_vrfs in let one = vrfs_of_iface place (slice_get place.scenario.ifaces iface.0) in omega (arith, all, one))

  pub outs_of_edge : is_of_edge place.scenario place.me iface ≡ false → times_at iface (outs_of place now edge fec source group) ≡ 0
  outs_of_edge f = (let all = by_vrfs in let none = of_no_vrf place iface f in omega (arith, all, none))

-- how often it is listed, by whether it is
pub few_is : (iface : IfaceId) (xs : List IfaceId) → times_at iface xs ≤ 1 → times_at iface xs ≡ cond (list_any (λ own. own.0 == iface.0) xs) 1 0
few_is iface [] h = refl
few_is iface (x ∷ xs) h = elim (cases_Bool (x.0 == iface.0)) [
  | inl t ↦
      let one : cond {A = ℕ} (x.0 == iface.0) 1 0 ≡ 1 = cond-true (x.0 == iface.0) 1 0 t in
      let there : cond {A = ℕ} ((x.0 == iface.0) || list_any (λ (own : IfaceId). own.0 == iface.0) xs) 1 0 ≡ 1 =
      ap (λ b. cond (b || list_any (λ (own : IfaceId). own.0 == iface.0) xs) 1 0) t in
      omega (arith, count-cons (λ (own : IfaceId). own.0 == iface.0) x xs, one, there, h)
  | inr f ↦
      let none : cond {A = ℕ} (x.0 == iface.0) 1 0 ≡ 0 = cond-false (x.0 == iface.0) 1 0 f in
      let there : cond {A = ℕ} ((x.0 == iface.0) || list_any (λ (own : IfaceId). own.0 == iface.0) xs) 1 0
      ≡ cond (list_any (λ (own : IfaceId). own.0 == iface.0) xs) 1 0 =
      ap (λ b. cond (b || list_any (λ (own : IfaceId). own.0 == iface.0) xs) 1 0) f in
      let rest = few_is iface xs (omega (arith, h, count-cons (λ (own : IfaceId). own.0 == iface.0) x xs, none)) in
      omega (arith, count-cons (λ (own : IfaceId). own.0 == iface.0) x xs, none, there, rest)
]

-- ---- at a node

-- what leaves of a copy on a tree, once and at the node's own interfaces
pub node_few : (network : OctetNetwork Nodes) (datagram : Datagram) (fec : Fec) (n : NodeId) (node : NodeState) (iface : IfaceId)
    → times_at iface (node_outs network datagram fec n node) ≤ 1
node_few network datagram fec n (Edge edge) iface =
    outs_few (place_of network.state n) network.state.clock edge fec datagram.source datagram.group iface
node_few network datagram fec n (CoreNode part) iface = omega arith

pub node_own : (network : OctetNetwork Nodes) (datagram : Datagram) (fec : Fec) (n : NodeId) (node : NodeState) (iface : IfaceId)
    → is_of_edge network.state.scenario n iface ≡ false → times_at iface (node_outs network datagram fec n node) ≡ 0
node_own network datagram fec n (Edge edge) iface f =
    outs_of_edge (place_of network.state n) network.state.clock edge fec datagram.source datagram.group iface f
node_own network datagram fec n (CoreNode part) iface f = refl

-- what leaves as a datagram enters, once
pub entry_few : (network : OctetNetwork Nodes) (datagram : Datagram) (id : VrfId) (vrf : Vrf) (node : NodeState) (iface : IfaceId)
    → times_at iface (fate_of_entry network datagram id vrf node).outs ≤ 1
entry_few network datagram id vrf (CoreNode part) iface = omega arith
entry_few network datagram id vrf (Edge edge) iface =
    let place = place_of network.state vrf.edge in
    let own : OwnVrf = record { id = id; vrf = vrf } in
    let asking = asking_ifaces place network.state.clock edge.control own datagram.source datagram.group in
    let few = asking_few place network.state.clock edge.control own datagram.source datagram.group iface in
    let one = small (is_iface_of_vrf place.scenario iface id) in
    cond_both (is_from_site datagram.site (upstream_for place edge.control own datagram.source datagram.group))
    (record {
      outs = filter (is_outside place.scenario datagram.site) asking;
      branches =
          cond (is_joined_in place edge.control own datagram.source datagram.group)
          (branches_of edge.part (transmit_tunnel place edge.control own datagram.source datagram.group)) [];
    }) discarded
    (λ (fate : Fate). times_at iface fate.outs ≤ 1)
    (λ t. omega (arith, filter_few iface (is_outside place.scenario datagram.site) asking, few, one))
    (λ f. omega arith)
