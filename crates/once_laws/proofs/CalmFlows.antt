-- What an interface asks for at a line of zeros is a flow of its edge.
use Rattle.std.proofs.Common.{◌≡◌, ◌≢◌, ◌⊎◌, ℕ, zero, suc, ◌+◌, ◌≤◌, ◌&&◌, ◌||◌, Bool, true, false, not, cond, List, [], ◌∷◌, slice_get, inl, inr, Option, Some, None, is_some, refl, sym, ap, subst, ◌∙◌, arith}
use Rattle.std.specs.List.{filter, flat_map}
use Rattle.std.specs.FinMap as maps
use Rattle.std.proofs.lemmas.Bool.{true≢false, and_parts, lt-ltb, ltb-true}
use Rattle.std.proofs.lemmas.Option.{none-some}
use Rattle.mv_base.specs.Address.{same_addr, same_addr_equal}
use Rattle.mv_base.specs.declared.addr.Addr.{Addr}
use Rattle.mv_base.specs.declared.ids.IfaceId.{IfaceId}
use Rattle.mv_base.specs.declared.ids.NodeId.{NodeId}
use Rattle.pim_defs.specs.Entries.{expiry_at}
use Rattle.pim_defs.specs.Expiry.{is_after, counts}
use Rattle.pim_defs.specs.declared.expiry.Expiry.{Expiry}
use Rattle.pim_defs.specs.declared.expiry.Expiry.TheVariants.{At, Never}
use Rattle.pim_defs.proofs.KeyLemmas.{entry_cmp_exact}
use Rattle.scenario_defs.specs.Vpn.{is_of_vrf, ifaces_where}
use Rattle.scenario_defs.specs.declared.event.IfaceEntry.{IfaceEntry}
use Rattle.scenario_defs.specs.declared.event.JoinEntry.{JoinEntry}
use Rattle.scenario_defs.specs.declared.event.JoinEntry.TheVariants as join_entries
use Rattle.scenario_defs.specs.declared.scenario.Iface.{Iface}
use Rattle.scenario_defs.specs.declared.scenario.Scenario.{Scenario}
use Rattle.selective_defs.specs.Selective.{Among}
use Rattle.edge_defs.specs.Edge.{VrfFlow, flow_cmp, Upstream, Control}
use Rattle.edge_defs.specs.Flows.{active_flows, same_flow, is_active, is_asking, ifaces_of, is_flow, joined_by, possible_flows, with_upstream, vrf_flows}
use Rattle.edge_defs.specs.Imported.{FlowRoute, found_in}
use Rattle.edge_defs.specs.Originated.{is_iface_of}
use Rattle.edge_defs.specs.Place.{EdgePlace, OwnVrf, own_vrfs}
use Rattle.network_defs.specs.Costs.{Cores}
use Rattle.edge_defs.specs.Upstream.{upstream_for}
use Rattle.edge_defs.proofs.KeyLemmas.{flow_total}
use Rattle.edge_words.specs.edge_laws.Network.{EdgeNetwork, place_of}
use Rattle.edge_words.proofs.calm_laws.Lists.{among_front, among_after, among_map, among_flat_map, among_filter, any_from, any_among, among_found}
use Rattle.edge_words.proofs.calm_laws.Maps.{some_found, get_entry}
use Rattle.edge_words.proofs.calm_laws.Upstreams.{is_flow_of}
use Rattle.edge_words.proofs.calm_laws.Vrfs.{one_number}
use Rattle.delivery_laws.specs.Leaving.{passes, is_iface_of_vrf}
use Rattle.network_defs.specs.Nodes.{NodeState, is_edge}
use Rattle.network_defs.specs.Refusals.{control_of}
use Rattle.network_defs.specs.World.{World, scenario_of}
use Rattle.once_laws.proofs.Behind.{Known}
use Rattle.once_laws.proofs.Edges.{net, flows_stand, calm_edge}

-- ---- interfaces of a VRF

pub among_where : (test : IfaceId → Iface → Bool) (number k : ℕ) (ifaces : List Iface) (found : Iface) → slice_get ifaces k ≡ Some found
    → test (record { 0 = number + k }) found ≡ true → Among (record { 0 = number + k }) (ifaces_where test number ifaces)
among_where test number k [] found e t = absurd (none-some found e)
among_where test number zero (iface ∷ more) found e t =
    let same : iface ≡ found = cc in
    let plain : number + 0 ≡ number = omega arith in
    let is : test (record { 0 = number }) iface ≡ true = (λ i. test (record { 0 = sym plain i }) (same i)) ∙ t in
    subst (λ (b : Bool). Among (record { 0 = number + 0 })
    (cond b (record { 0 = number } ∷ ifaces_where test (number + 1) more) (ifaces_where test (number + 1) more))) (sym is)
    (inl (λ i. record { 0 = plain i }))
among_where test number (suc k) (iface ∷ more) found e t =
    let next : number + 1 + k ≡ number + suc k = omega arith in
    let rest : Among (record { 0 = number + 1 + k }) (ifaces_where test (number + 1) more) =
    among_where test (number + 1) k more found e ((λ i. test (record { 0 = next i }) found) ∙ t) in
    let later : Among (record { 0 = number + suc k }) (ifaces_where test (number + 1) more) =
    subst (λ (m : ℕ). Among (record { 0 = m }) (ifaces_where test (number + 1) more)) next rest in
    elim (test (record { 0 = number }) iface) as
    (λ b. Among (record { 0 = number + suc k })
    (cond b (record { 0 = number } ∷ ifaces_where test (number + 1) more) (ifaces_where test (number + 1) more)))
    [ true ↦ inr later | false ↦ later ]

pub where_among : (test : IfaceId → Iface → Bool) (number : ℕ) (ifaces : List Iface) (x : IfaceId) → Among x (ifaces_where test number ifaces)
    → (place : ℕ) × (found : Iface) × (slice_get ifaces place ≡ Some found) × (x.0 ≡ number + place) × (test x found ≡ true)
where_among test number [] x a = absurd a
where_among test number (own ∷ more) x a = by (test (record { 0 = number }) own) refl (λ b. where_among test (number + 1) more x b) a
  where
    further : ((place : ℕ) × (found : Iface) × (slice_get more place ≡ Some found) × (x.0 ≡ number + 1 + place) × (test x found ≡ true))
        → (place : ℕ) × (found : Iface) × (slice_get (own ∷ more) place ≡ Some found) × (x.0 ≡ number + place) × (test x found ≡ true)
    further r = (suc r.0, r.1, r.2, (let e = r.3 in omega (arith, e)), r.4)

    by : (t : Bool) → test (record { 0 = number }) own ≡ t
        → (Among x (ifaces_where test (number + 1) more)
        → (place : ℕ) × (found : Iface) × (slice_get more place ≡ Some found) × (x.0 ≡ number + 1 + place) × (test x found ≡ true))
        → Among x (cond t (record { 0 = number } ∷ ifaces_where test (number + 1) more) (ifaces_where test (number + 1) more))
        → (place : ℕ) × (found : Iface) × (slice_get (own ∷ more) place ≡ Some found) × (x.0 ≡ number + place) × (test x found ≡ true)
    by true e rest (inl same) = (0, own, refl, ap (λ (v : IfaceId). v.0) same ∙ omega arith, ap (λ (v : IfaceId). test v own) same ∙ e)
    by true e rest (inr b) = further (rest b)
    by false e rest b = further (rest b)

-- an interface of the VRF
pub record OfVrf (scenario : Scenario) (iface : IfaceId) (own : OwnVrf) : Type 0 where
  pub found : Iface
  pub at : slice_get scenario.ifaces iface.0 ≡ Some found
  pub of : is_of_vrf own.id found ≡ true

pub of_vrf : (scenario : Scenario) (iface : IfaceId) (own : OwnVrf) → is_iface_of_vrf scenario iface own.id ≡ true → OfVrf scenario iface own
of_vrf scenario iface own h = by (slice_get scenario.ifaces iface.0) refl h
  where
    by : (o : Option Iface) → slice_get scenario.ifaces iface.0 ≡ o → passes (is_of_vrf own.id) o ≡ true → OfVrf scenario iface own
    by None e t = absurd (true≢false (sym t))
    by (Some found) e t = record { found = found; at = e; of = t }

iface_listed : (place : EdgePlace) (iface : IfaceId) (own : OwnVrf) → OfVrf place.scenario iface own → Among iface (ifaces_of place own)
iface_listed place iface own o =
    subst (λ (m : ℕ). Among (record { 0 = m }) (ifaces_of place own)) (omega arith)
    (among_where (λ number found. is_of_vrf own.id found) 0 iface.0 place.scenario.ifaces o.found o.at o.of)

-- ---- expiries

earlier : (expiry : Expiry) (moment now : ℕ) → moment ≤ now → is_after expiry now ≡ true → is_after expiry moment ≡ true
earlier (At at) moment now le h = (let less = ltb-true now at h in lt-ltb moment at (omega (arith, le, less)))
earlier Never moment now le h = refl

pub record Counted (now : ℕ) (o : Option Expiry) : Type 0 where
  pub expiry : Expiry
  pub is : o ≡ Some expiry
  pub after : is_after expiry now ≡ true

pub counted : (now : ℕ) (o : Option Expiry) → counts now o ≡ true → Counted now o
counted now None h = absurd (true≢false (sym h))
counted now (Some expiry) h = record { expiry = expiry; is = refl; after = h }

-- ---- flows

pub as_flow : (source group : Addr) (flow : FlowRoute) → same_flow source group flow ≡ true → flow ≡ record { source = source; group = group }
as_flow source group flow h =
    let p = and_parts (same_addr flow.source source) (same_addr flow.group group) h in
    let sources = same_addr_equal flow.source source p.0 in
    let groups = same_addr_equal flow.group group p.1 in
    λ i. record { source = sources i; group = groups i }

-- what asks is joined itself, or known to be sent
asked_by : (joined shared pruned active : Bool) → (joined || (shared && not pruned && active)) ≡ true → (joined ≡ true) ⊎ (active ≡ true)
asked_by true shared pruned active h = inl refl
asked_by false shared pruned true h = inr refl
asked_by false true true false h = absurd (true≢false (sym h))
asked_by false true false false h = absurd (true≢false (sym h))
asked_by false false true false h = absurd (true≢false (sym h))
asked_by false false false false h = absurd (true≢false (sym h))

module _ (scenario : Scenario) (cores : Cores) (world : World) (k : Known scenario cores world) where
  abbrev own_net : EdgeNetwork
  own_net = net scenario cores world k

  -- a peer whose end is up is another edge, with a calm session
  pub peer_is : (n : NodeId) → is_edge (scenario_of world) n ≡ true → (p : NodeId) → is_some (maps.get (own_net.node n).peers p) ≡ true
      → (is_edge (scenario_of world) p ≡ true) × (p ≢ n)
  peer_is n h p up =
      let e = calm_edge scenario cores world k n h in
      let f = e.fact.peers p (sym (ap (λ (s : NodeState). is_some (maps.get (control_of s).peers p)) e.at) ∙ up) in
      (f.0, (λ same. f.1 (sym same)))

  -- ---- a flow that is asked for

  -- an entry of an edge counts at each earlier moment as it does now
  counted_before : (n : NodeId) → is_edge (scenario_of world) n ≡ true → (moment : ℕ) → moment ≤ own_net.clock → (iface : IfaceId) (entry : JoinEntry)
      → counts moment (expiry_at (own_net.node n).entries iface entry) ≡ counts own_net.clock (expiry_at (own_net.node n).entries iface entry)
  counted_before n h moment le iface entry = by (maps.get (own_net.node n).entries at) refl
    where
      at : IfaceEntry
      at = record { iface = iface; entry = entry }

      by : (o : Option Expiry) → maps.get (own_net.node n).entries at ≡ o → counts moment o ≡ counts own_net.clock o
      by None e = refl
      by (Some expiry) e =
          let c = calm_edge scenario cores world k n h in
          let alive : is_after expiry own_net.clock ≡ true =
          c.alive at expiry (sym (ap (λ (s : NodeState). maps.get (control_of s).entries at) c.at) ∙ e) in
          earlier expiry moment own_net.clock le alive ∙ sym alive

  -- a flow that is asked for is a possible one: it is joined itself, or known to be sent
  asked_possible : (n : NodeId) (own : OwnVrf) (source group : Addr) (iface : IfaceId) → OfVrf (scenario_of world) iface own
      → is_asking (place_of own_net n) own_net.clock (own_net.node n) own source group iface ≡ true
      → Among (record { source = source; group = group }) (possible_flows (place_of own_net n) (own_net.node n) own)
  asked_possible n own source group iface o asks =
      let place : EdgePlace = place_of own_net n in
      let control : Control = own_net.node n in
      let flow : FlowRoute = record { source = source; group = group } in
      let at : IfaceEntry = record { iface = iface; entry = join_entries.Source source group } in
      let joined = found_in (joined_by place own) (maps.keys control.entries) in
      let is_own : is_iface_of (scenario_of world) own.id iface ≡ true =
      ap (λ (x : Option Iface). elim x as (λ _. Bool) [ None ↦ false | Some found ↦ is_of_vrf own.id found ]) o.at ∙ o.of in
      elim (asked_by (counts own_net.clock (expiry_at control.entries iface (join_entries.Source source group)))
      (counts own_net.clock (expiry_at control.entries iface (join_entries.Star group)))
      (counts own_net.clock (expiry_at control.entries iface (join_entries.Rpt source group))) (is_active place control own source group) asks) [
        | inl t ↦
            let c = counted own_net.clock (expiry_at control.entries iface (join_entries.Source source group)) t in
            let listed : Among at (maps.keys control.entries) =
            among_map (λ (e : IfaceEntry × Expiry). e.0) (at, c.expiry) (maps.entries control.entries)
            (get_entry entry_cmp_exact control.entries at c.expiry c.is) in
            let joins : joined_by place own at ≡ Some flow = ap (λ (b : Bool). cond b (Some flow) None) is_own in
            among_front flow joined (active_flows place control own)
            (among_found (joined_by place own) at flow (maps.keys control.entries) listed joins)
        | inr t ↦
            let found = any_among (same_flow source group) (active_flows place control own) t in
            among_after flow joined (active_flows place control own)
            (subst (λ (f : FlowRoute). Among f (active_flows place control own)) (as_flow source group found.0 found.2) found.1)
      ]

  pub asked_flow : (n : NodeId) → is_edge (scenario_of world) n ≡ true → (own : OwnVrf) → Among own (own_vrfs (place_of own_net n))
      → (source group : Addr) (iface : IfaceId) → is_iface_of_vrf (scenario_of world) iface own.id ≡ true
      → is_asking (place_of own_net n) own_net.clock (own_net.node n) own source group iface ≡ true
      → maps.get (own_net.node n).flows (record { vrf = own.id; source = source; group = group })
      ≡ Some (upstream_for (place_of own_net n) (own_net.node n) own source group)
  asked_flow n h own a source group iface of asks =
      let place : EdgePlace = place_of own_net n in
      let control : Control = own_net.node n in
      let o = of_vrf (scenario_of world) iface own of in
      let stands = flows_stand scenario cores world k n in
      let moment : ℕ = stands.0 in
      let flow : FlowRoute = record { source = source; group = group } in
      let key : VrfFlow = record { vrf = own.id; source = source; group = group } in
      let before : (entry : JoinEntry) → counts moment (expiry_at control.entries iface entry)
      ≡ counts own_net.clock (expiry_at control.entries iface entry) = counted_before n h moment stands.1 iface in
      let active : Bool = is_active place control own source group in
      let then_asks : is_asking place moment control own source group iface ≡ true =
      (λ i. before (join_entries.Source source group) i
      || (before (join_entries.Star group) i && not (before (join_entries.Rpt source group) i) && active)) ∙ asks in
      let possible : Among flow (possible_flows place control own) = asked_possible n own source group iface o asks in
      let is : is_flow place moment control own flow ≡ true =
      any_from (is_asking place moment control own source group) iface (ifaces_of place own) (iface_listed place iface own o) then_asks in
      let up : Option Upstream = upstream_for place control own source group in
      let one : Among (key, up) (vrf_flows place moment control own) =
      among_map (with_upstream place control own) flow (filter (is_flow place moment control own) (possible_flows place control own))
      (among_filter (is_flow place moment control own) flow (possible_flows place control own) is possible) in
      let all : Among (key, up) (flat_map (vrf_flows place moment control) (own_vrfs place)) =
      among_flat_map (vrf_flows place moment control) own (key, up) (own_vrfs place) a one in
      let some = some_found flow_total key up (flat_map (vrf_flows place moment control) (own_vrfs place)) all in
      let got : maps.get control.flows key ≡ Some some.0 =
      ap (λ (m : maps.FinMap flow_cmp (Option Upstream)). maps.get m key) stands.2
      ∙ (maps.get-from_entries flow_total (flat_map (vrf_flows place moment control) (own_vrfs place)) key ∙ some.1) in
      let flow_is = is_flow_of own_net n key some.0 (flows_stand scenario cores world k) got in
      let same : flow_is.own ≡ own = one_number place flow_is.own own flow_is.among a (ap (λ v. v.0) flow_is.id) in
      got ∙ ap (λ (u : Option Upstream). Some u) (flow_is.is ∙ ap (λ (x : OwnVrf). upstream_for place control x source group) same)
