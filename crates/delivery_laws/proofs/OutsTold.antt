-- At which interfaces a datagram leaves an edge.
use Rattle.std.proofs.Common.{◌≡◌, ℕ, zero, suc, ◌+◌, ◌<◌, Bool, true, false, cond, ◌&&◌, ◌||◌, List, [], ◌∷◌, refl, sym, ap, inl, inr, ◌∙◌, arith}
use Rattle.std.specs.Prelude.{◌==◌, slice_get, if◌then◌else◌}
use Rattle.std.specs.List.{filter, flat_map, list_any}
use Rattle.std.specs.FinMap as maps
use Rattle.std.specs.FinSet as sets
use Rattle.std.proofs.lemmas.Bool.{cases_Bool, cond_both, eqb-true, eq-eqb, ne_eqb, and_right}
use Rattle.std.proofs.lemmas.List.Folds.{list_any-append}
use Rattle.mv_base.specs.declared.addr.Addr.{Addr}
use Rattle.mv_base.specs.declared.ids.IfaceId.{IfaceId}
use Rattle.mv_base.specs.declared.ids.NodeId.{NodeId}
use Rattle.mv_base.specs.declared.ids.SiteId.{SiteId}
use Rattle.mldp.specs.declared.mldp_fec.fec.Fec.{Fec}
use Rattle.scenario_defs.specs.Vpn.{is_of_vrf, ifaces_where}
use Rattle.scenario_defs.specs.declared.scenario.Iface.{Iface}
use Rattle.edge_defs.specs.Datagrams.{discarded, is_from_site, is_outside, is_from_edge, is_imported_from, outs_from, outs_at, outs_of, entering_fate}
use Rattle.edge_defs.specs.Edge.{Taken, Control, EdgeData}
use Rattle.edge_defs.specs.Flows.{is_asking, ifaces_of, asking_ifaces}
use Rattle.edge_defs.specs.Place.{EdgePlace, OwnVrf, own_vrfs}
use Rattle.edge_defs.specs.Tunnels.{transmit_tunnel, is_joined_in}
use Rattle.edge_defs.specs.Upstream.{upstream_for}
use Rattle.delivery_laws.specs.Calm.{is_among}
use Rattle.delivery_laws.specs.Leaving.{passes, asks_at, takes_from, leaves_arriving, leaves_entering}
use Rattle.label_defs.specs.LabelData.{branches_of}

-- ---- lists

any_flat : {X Y : Type 0} (test : Y → Bool) (gives : X → List Y) (xs : List X)
    → list_any test (flat_map gives xs) ≡ list_any (λ x. list_any test (gives x)) xs
any_flat test gives [] = refl
any_flat test gives (x ∷ xs) = list_any-append test (gives x) (flat_map gives xs) ∙ ap (λ b. list_any test (gives x) || b) (any_flat test gives xs)

any_same : {X : Type 0} (p q : X → Bool) → ((x : X) → p x ≡ q x) → (xs : List X) → list_any p xs ≡ list_any q xs
any_same p q h xs = ap (λ (f : _ → Bool). list_any f xs) (λ i x. h x i)

-- a test in front of each
any_and : {X : Type 0} (b : Bool) (p : X → Bool) (xs : List X) → list_any (λ x. p x && b) xs ≡ (b && list_any p xs)
any_and b p [] = by b
  where
    by : (c : Bool) → false ≡ (c && false)
    by true = refl
    by false = refl
any_and b p (x ∷ xs) = ap (λ r. (p x && b) || r) (any_and b p xs) ∙ by (p x) b (list_any p xs)
  where
    by : (a c r : Bool) → ((a && c) || (c && r)) ≡ (c && (a || r))
    by true true r = refl
    by true false r = refl
    by false true r = refl
    by false false r = refl

same_iface : (a b : IfaceId) → (a.0 == b.0) ≡ true → a ≡ b
same_iface a b e = ap (λ n. record { 0 = n }) (eqb-true a.0 b.0 e)

among_filter : (iface : IfaceId) (test : IfaceId → Bool) (xs : List IfaceId) → is_among iface (filter test xs) ≡ (is_among iface xs && test iface)
among_filter iface test [] = refl
among_filter iface test (x ∷ xs) = elim (cases_Bool (x.0 == iface.0)) [
  | inl t ↦
      let same : test x ≡ test iface = ap test (same_iface x iface t) in
      let rest = among_filter iface test xs in
      ap (λ b. is_among iface (cond b (x ∷ filter test xs) (filter test xs))) same
      ∙ here (test iface) refl t rest
      ∙ ap (λ b. (b || is_among iface xs) && test iface) (sym t)
  | inr f ↦
      let rest = among_filter iface test xs in
      cond_both (test x) (x ∷ filter test xs) (filter test xs)
      (λ (l : List IfaceId). is_among iface l ≡ (((x.0 == iface.0) || is_among iface xs) && test iface))
      (λ t. ap (λ b. b || is_among iface (filter test xs)) f ∙ rest ∙ ap (λ b. (b || is_among iface xs) && test iface) (sym f))
      (λ q. rest ∙ ap (λ b. (b || is_among iface xs) && test iface) (sym f))
]
  where
    here : (b : Bool) → test iface ≡ b → (x.0 == iface.0) ≡ true → is_among iface (filter test xs) ≡ (is_among iface xs && test iface)
        → is_among iface (cond b (x ∷ filter test xs) (filter test xs)) ≡ b
    here true e t rest = ap (λ c. c || is_among iface (filter test xs)) t
    here false e t rest = rest ∙ and_right (is_among iface xs) (test iface) e

-- ---- interfaces

among_above : (test : Iface → Bool) (number : ℕ) (iface : IfaceId) (ifaces : List Iface) → iface.0 < number
    → is_among iface (ifaces_where (λ n own. test own) number ifaces) ≡ false
among_above test number iface [] lt = refl
among_above test number iface (own ∷ more) lt =
    let rest = among_above test (number + 1) iface more (omega (arith, lt)) in
    let other : (number == iface.0) ≡ false = ne_eqb number iface.0 (λ e. omega (arith, e, lt)) in
    cond_both (test own) (record { 0 = number } ∷ ifaces_where (λ n i. test i) (number + 1) more) (ifaces_where (λ n i. test i) (number + 1) more)
    (λ (l : List IfaceId). is_among iface l ≡ false)
    (λ t. ap (λ b. b || is_among iface (ifaces_where (λ n i. test i) (number + 1) more)) other ∙ rest) (λ f. rest)

among_where : (test : Iface → Bool) (number : ℕ) (iface : IfaceId) (ifaces : List Iface) (place : ℕ) → iface.0 ≡ number + place
    → is_among iface (ifaces_where (λ n own. test own) number ifaces) ≡ passes test (slice_get ifaces place)
among_where test number iface [] place e = refl
among_where test number iface (own ∷ more) zero e =
    let rest = among_above test (number + 1) iface more (omega (arith, e)) in
    let here : (number == iface.0) ≡ true = eq-eqb number iface.0 (omega (arith, e)) in
    elim (cases_Bool (test own)) [
      | inl t ↦ ap (λ b. is_among iface (cond b (record { 0 = number } ∷ ifaces_where (λ n i. test i) (number + 1) more)
          (ifaces_where (λ n i. test i) (number + 1) more))) t ∙ ap (λ b. b || is_among iface (ifaces_where (λ n i. test i) (number + 1) more)) here
          ∙ sym t
      | inr f ↦ ap (λ b. is_among iface (cond b (record { 0 = number } ∷ ifaces_where (λ n i. test i) (number + 1) more)
          (ifaces_where (λ n i. test i) (number + 1) more))) f ∙ rest ∙ sym f
    ]
among_where test number iface (own ∷ more) (suc place) e =
    let rest = among_where test (number + 1) iface more place (omega (arith, e)) in
    let other : (number == iface.0) ≡ false = ne_eqb number iface.0 (λ q. omega (arith, q, e)) in
    cond_both (test own) (record { 0 = number } ∷ ifaces_where (λ n i. test i) (number + 1) more) (ifaces_where (λ n i. test i) (number + 1) more)
    (λ (l : List IfaceId). is_among iface l ≡ passes test (slice_get more place))
    (λ t. ap (λ b. b || is_among iface (ifaces_where (λ n i. test i) (number + 1) more)) other ∙ rest) (λ f. rest)

asking_told : (place : EdgePlace) (now : ℕ) (control : Control) (own : OwnVrf) (source group : Addr) (iface : IfaceId)
    → is_among iface (asking_ifaces place now control own source group) ≡ asks_at place now control source group iface own
asking_told place now control own source group iface =
    among_filter iface (is_asking place now control own source group) (ifaces_of place own)
    ∙ ap (λ b. b && is_asking place now control own source group iface)
    (among_where (is_of_vrf own.id) 0 iface place.scenario.ifaces iface.0 (omega arith))

among_if : (iface : IfaceId) (b : Bool) (xs : List IfaceId) → is_among iface (cond b xs []) ≡ (b && is_among iface xs)
among_if iface true xs = refl
among_if iface false xs = refl

-- ---- what leaves

module _ (place : EdgePlace) (now : ℕ) (edge : EdgeData) (source group : Addr) (iface : IfaceId) where
  at_vrf : (fec : Fec) (own : OwnVrf) → is_among iface (outs_at place now edge.control fec source group own)
      ≡ (asks_at place now edge.control source group iface own && takes_from place edge.control fec source group own)
  at_vrf fec own =
      let takes =
      λ (peer : NodeId × Taken). is_imported_from place own fec peer && is_from_edge peer.0 (upstream_for place edge.control own source group) in
      any_flat (λ (i : IfaceId). i.0 == iface.0) (outs_from place now edge.control own fec source group) (maps.entries edge.control.peers)
      ∙ any_same (λ (peer : NodeId × Taken). is_among iface (outs_from place now edge.control own fec source group peer))
      (λ peer. takes peer && asks_at place now edge.control source group iface own)
      (λ peer. among_if iface (takes peer) (asking_ifaces place now edge.control own source group)
      ∙ ap (λ b. takes peer && b) (asking_told place now edge.control own source group iface)) (maps.entries edge.control.peers)
      ∙ any_and (asks_at place now edge.control source group iface own) takes (maps.entries edge.control.peers)

  -- a copy on a tunnel
  pub arriving_told : (fec : Fec) → is_among iface (outs_of place now edge fec source group) ≡ leaves_arriving place now edge fec source group iface
  arriving_told fec =
      among_if iface (sets.contains edge.part.leaves fec) (flat_map (outs_at place now edge.control fec source group) (own_vrfs place))
      ∙ ap (λ b. sets.contains edge.part.leaves fec && b)
      (any_flat (λ (i : IfaceId). i.0 == iface.0) (outs_at place now edge.control fec source group) (own_vrfs place)
      ∙ any_same (λ (own : OwnVrf). is_among iface (outs_at place now edge.control fec source group own))
      (λ own. asks_at place now edge.control source group iface own && takes_from place edge.control fec source group own) (at_vrf fec)
      (own_vrfs place))

  -- a datagram that enters
  pub entering_told : (own : OwnVrf) (site : SiteId)
      → is_among iface (entering_fate place now edge own site source group).outs ≡ leaves_entering place now edge own site source group iface
  entering_told own site = by (is_from_site site (upstream_for place edge.control own source group))
    where
      by : (b : Bool) → is_among iface (if b then record {
        outs =
            filter (is_outside place.scenario site) (asking_ifaces place now edge.control own source group);
        branches =
            if is_joined_in place edge.control own source group then branches_of edge.part (transmit_tunnel place edge.control own source group)
            else [];
      } else discarded).outs
          ≡ (b && (asks_at place now edge.control source group iface own && is_outside place.scenario site iface))
      by true =
          among_filter iface (is_outside place.scenario site) (asking_ifaces place now edge.control own source group)
          ∙ ap (λ b. b && is_outside place.scenario site iface) (asking_told place now edge.control own source group iface)
      by false = refl

  -- a datagram that enters goes on the branches of one tree, or on none
  pub entering_branches : (own : OwnVrf) (site : SiteId)
      → (entering_fate place now edge own site source group).branches
      ≡ (if is_from_site site (upstream_for place edge.control own source group)
      && is_joined_in place edge.control own source group then branches_of edge.part (transmit_tunnel place edge.control own source group) else [])
  entering_branches own site = by (is_from_site site (upstream_for place edge.control own source group))
    where
      by : (b : Bool) → (if b then record {
        outs =
            filter (is_outside place.scenario site) (asking_ifaces place now edge.control own source group);
        branches =
            if is_joined_in place edge.control own source group then branches_of edge.part (transmit_tunnel place edge.control own source group)
            else [];
      } else discarded).branches
          ≡ (if b && is_joined_in place edge.control own source group then branches_of edge.part (transmit_tunnel place edge.control own source group)
          else [])
      by true = refl
      by false = refl
