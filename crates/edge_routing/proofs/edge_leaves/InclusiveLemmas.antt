-- Looking through the table of a tunnel's root says whether a VRF imports an inclusive route of the tunnel.
use Rattle.std.proofs.Common.{◌≡◌, ◌↔◌, ◌<◌, ◌&&◌, ◌||◌, Bool, true, false, List, [], ◌∷◌, map, length, Option, Some, None, refl, sym, ap, subst, ◌∙◌}
use Rattle.std.specs.List.{list_any}
use Rattle.std.specs.Prelude.{is_some}
use Rattle.std.specs.FinMap as maps
use Rattle.mv_base.specs.Number.{◌>>?◌, only_if}
use Rattle.mv_base.specs.Address.{same_addr}
use Rattle.mv_base.specs.declared.addr.Addr.{Addr}
use Rattle.mv_base.specs.declared.ids.NodeId.{NodeId}
use Rattle.mldp.specs.declared.mldp_fec.fec.Fec.{Fec}
use Rattle.mv_base.specs.core_walks.Core.{Core}
use Rattle.bgp_messages.specs.declared.bgp_attributes.key.Key.{Key}
use Rattle.scenario_defs.specs.declared.scenario.Vrf.{Vrf}
use Rattle.label_defs.specs.LabelData.{same_fec}
use Rattle.label_defs.proofs.KeyLemmas.{same_fec_equal, same_fec_from}
use Rattle.edge_defs.specs.Datagrams.{is_tunnel}
use Rattle.edge_defs.specs.Edge.{Control, TakenRoute}
use Rattle.edge_defs.specs.Imported.{imported_inclusive, inclusive_of, is_admitted, lsp_of, taken_from, tunnel_by}
use Rattle.edge_defs.specs.Keys.{Value}
use Rattle.edge_defs.specs.Place.{EdgePlace, OwnVrf, addr_of, node_with, own_vrfs}
use Rattle.edge_defs.proofs.KeyLemmas.{key_exact, key_total}
use Rattle.edge_routes.specs.edge_home.Home.{AreOwn, as_own, place_of}
use Rattle.edge_routes.specs.declared.edge_home.own_vrf.OwnVrf as home_vrfs
use Rattle.edge_routes.specs.Judged.{inclusive_tunnel}
use Rattle.edge_words.proofs.calm_laws.Lists.{any_among, any_from}
use Rattle.edge_words.proofs.calm_laws.Maps.{entry_get, get_entry}
use Rattle.edge_words.proofs.calm_laws.Upstreams.{chained}
use Rattle.edge_words.specs.Leaf.{IsInclusive}
use Rattle.edge_words.proofs.Known.{one_node}
use Rattle.vrf_words.specs.tree_laws.Imports.{imports_inclusive}
use Rattle.vrf_words.proofs.tree_laws.Leaving.{any_or, root_by}
use Rattle.control_laws.specs.Control.{Kept, control_of}
use Rattle.edge_control.specs.Sound.{IsSound}
use Rattle.edge_routing.proofs.edge_datagrams.CoreLemmas.{taken_node}
use Rattle.edge_routing.proofs.edge_datagrams.LeavingLemmas.{no_root, root_is}

-- ---- tunnels

tunnel_is : (fec : Fec) (o : Option Fec) → is_tunnel fec o ≡ true → o ≡ Some fec
tunnel_is fec None h = absurd cc
tunnel_is fec (Some own) h = ap (λ (f : Fec). Some f) (same_fec_equal own fec h)

is_it : (fec : Fec) (o : Option Fec) → o ≡ Some fec → is_tunnel fec o ≡ true
is_it fec o h = ap (is_tunnel fec) h ∙ same_fec_from fec fec refl

-- an inclusive route is one of the peer that is the tunnel's root
inclusive_root : (own : OwnVrf) (addr : Addr) (key : Key) (route : TakenRoute) (fec : Fec) → imported_inclusive own.vrf addr (key, route) ≡ Some fec
    → fec.root ≡ addr
inclusive_root own addr key route fec h =
    let first =
    chained (inclusive_of key) (λ originator. only_if (is_admitted own.vrf route.value.comms) route.value >>? λ value. tunnel_by addr originator
    value) fec h in
    let second = chained (only_if (is_admitted own.vrf route.value.comms) route.value) (λ value. tunnel_by addr first.0 value) fec first.2 in
    root_by addr first.0 second.0 fec second.2

-- ---- one route, for each VRF that admits it

and_true : (t : Bool) → t ≡ (t && true)
and_true true = refl
and_true false = refl

and_false : (t : Bool) → false ≡ (t && false)
and_false true = refl
and_false false = refl

found_first : (fec : Fec) (from : Option Addr) (own : Option Fec) (may : Addr → Fec → Bool)
    → is_tunnel fec (from >>? λ originator. own >>? λ f. only_if (may originator f) f)
    ≡ (is_tunnel fec own && is_some (from >>? λ originator. own >>? λ f. only_if (may originator f) f))
found_first fec None own may = and_false (is_tunnel fec own)
found_first fec (Some originator) None may = refl
found_first fec (Some originator) (Some f) may = by (may originator f)
  where
    by : (b : Bool) → is_tunnel fec (only_if b f) ≡ (same_fec f fec && is_some (only_if b f))
    by true = and_true (same_fec f fec)
    by false = and_false (same_fec f fec)

-- the tunnel of a route may be looked at before its key
pub tunnel_first : (fec : Fec) (addr : Addr) (key : Key) (value : Value)
    → is_tunnel fec (inclusive_tunnel addr key value) ≡ (is_tunnel fec (lsp_of value.pmsi) && is_some (inclusive_tunnel addr key value))
tunnel_first fec addr key value =
    found_first fec (inclusive_of key) (lsp_of value.pmsi) (λ originator f. same_addr f.root addr && same_addr originator addr)

admitted_only : (fec : Fec) (o : Option Addr) (b : Bool) (value : Value) (tunnel : Addr → Value → Option Fec)
    → is_tunnel fec (o >>? λ originator. only_if b value >>? λ v. tunnel originator v) ≡ (is_tunnel fec (o >>? λ originator. tunnel originator value) && b)
admitted_only fec None b value tunnel = refl
admitted_only fec (Some originator) true value tunnel = and_true (is_tunnel fec (tunnel originator value))
admitted_only fec (Some originator) false value tunnel = and_false (is_tunnel fec (tunnel originator value))

pub tunnel_admitted : (fec : Fec) (addr : Addr) (key : Key) (route : TakenRoute) (vrf : Vrf)
    → is_tunnel fec (imported_inclusive vrf addr (key, route)) ≡ (is_tunnel fec (inclusive_tunnel addr key route.value) && is_admitted vrf route.value.comms)
tunnel_admitted fec addr key route vrf =
    admitted_only fec (inclusive_of key) (is_admitted vrf route.value.comms) route.value (λ originator value. tunnel_by addr originator value)

-- a condition that is the same for all
pub any_where : {X : Type 0} (p q : X → Bool) (b : Bool) (xs : List X) → ((x : X) → p x ≡ (b && q x)) → list_any p xs ≡ (b && list_any q xs)
any_where p q true [] same = refl
any_where p q false [] same = refl
any_where p q true (x ∷ xs) same = (λ i. same x i || any_where p q true xs same i)
any_where p q false (x ∷ xs) same = (λ i. same x i || any_where p q false xs same i)

-- a route, by whether it is one of the tunnel for each VRF that admits it
module _ (fec : Fec) (addr : Addr) (key : Key) (route : TakenRoute) (vrfs : List home_vrfs.OwnVrf) (b : Bool) where
  abbrev passes : home_vrfs.OwnVrf → Bool
  passes own = is_tunnel fec (imported_inclusive (as_own own).vrf addr (key, route))

  abbrev admits : home_vrfs.OwnVrf → Bool
  admits own = is_admitted (as_own own).vrf route.value.comms

  all_of : ((vrf : Vrf) → is_tunnel fec (imported_inclusive vrf addr (key, route)) ≡ (b && is_admitted vrf route.value.comms))
      → list_any passes vrfs ≡ (b && list_any admits vrfs)
  all_of same = any_where passes admits b vrfs (λ own. same (as_own own).vrf)

  pub none_of : ((vrf : Vrf) → is_tunnel fec (imported_inclusive vrf addr (key, route)) ≡ (b && is_admitted vrf route.value.comms))
      → b ≡ false → false ≡ list_any passes vrfs
  none_of same is = sym (all_of same ∙ ap (λ (own : Bool). own && list_any admits vrfs) is)

  pub some_of : ((vrf : Vrf) → is_tunnel fec (imported_inclusive vrf addr (key, route)) ≡ (b && is_admitted vrf route.value.comms))
      → b ≡ true → list_any admits vrfs ≡ list_any passes vrfs
  some_of same is = sym (all_of same ∙ ap (λ (own : Bool). own && list_any admits vrfs) is)

-- ---- routes and VRFs, in either order

no_any : {X : Type 0} (xs : List X) → false ≡ list_any (λ _. false) xs
no_any [] = refl
no_any (x ∷ xs) = no_any xs

pub any_swap : {X Y : Type 0} (p : X → Y → Bool) (xs : List X) (ys : List Y)
    → list_any (λ x. list_any (p x) ys) xs ≡ list_any (λ y. list_any (λ x. p x y) xs) ys
any_swap p [] ys = no_any ys
any_swap p (x ∷ xs) ys =
    ap (λ (b : Bool). list_any (p x) ys || b) (any_swap p xs ys) ∙ sym (any_or (p x) (λ y. list_any (λ x. p x y) xs) ys)

-- ---- all VRFs

-- the VRFs of the edge, as it has them
any_own : (p : OwnVrf → Bool) (vrfs : List home_vrfs.OwnVrf) → list_any (λ own. p (as_own own)) vrfs ≡ list_any p (map as_own vrfs)
any_own p [] = refl
any_own p (own ∷ vrfs) = ap (λ (b : Bool). p (as_own own) || b) (any_own p vrfs)

module _ (kept : Kept) (sound : IsSound kept) (core : Core) (fec : Fec) where
  abbrev place : EdgePlace
  place = place_of kept.home core

  abbrev control : Control
  control = control_of kept

  pub no_inclusive : node_with kept.home.scenario fec.root ≡ None → IsInclusive place control fec → ⊥
  no_inclusive none is =
      no_root kept.home.scenario fec.root none is.peer (taken_node kept sound is.peer is.key is.route is.taken)
      (sym (inclusive_root is.own (addr_of kept.home.scenario is.peer) is.key is.route fec is.imported))

  module _ (root : NodeId) (rooted : node_with kept.home.scenario fec.root ≡ Some root) where
    abbrev imports_one : OwnVrf → Bool
    imports_one own = imports_inclusive place control own root fec

    abbrev test : OwnVrf → Key × TakenRoute → Bool
    test own entry = is_tunnel fec (imported_inclusive own.vrf (addr_of kept.home.scenario root) entry)

    one_root : (peer : NodeId) → peer.0 < length kept.home.scenario.nodes → fec.root ≡ addr_of kept.home.scenario peer → peer ≡ root
    one_root peer within of_peer =
        let at = root_is kept.home.scenario fec.root root rooted in
        one_node kept.home.scenario sound.home.rules peer root within at.0 (sym of_peer ∙ sym at.1)

    inclusive_from : list_any imports_one (own_vrfs place) ≡ true → IsInclusive place control fec
    inclusive_from h =
        let own = any_among imports_one (own_vrfs place) h in
        let entry = any_among (test own.0) (maps.entries (taken_from control root)) own.2 in
        record {
          own = own.0;
          of_edge = own.1;
          peer = root;
          key = entry.0.0;
          route = entry.0.1;
          taken = entry_get key_total (taken_from control root) entry.0.0 entry.0.1 entry.1;
          imported = tunnel_is fec (imported_inclusive own.0.vrf (addr_of kept.home.scenario root) entry.0) entry.2;
        }

    inclusive_to : IsInclusive place control fec → list_any imports_one (own_vrfs place) ≡ true
    inclusive_to is =
        let within = taken_node kept sound is.peer is.key is.route is.taken in
        let same : is.peer ≡ root =
        one_root is.peer within (inclusive_root is.own (addr_of kept.home.scenario is.peer) is.key is.route fec is.imported) in
        let taken : maps.get (taken_from control root) is.key ≡ Some is.route =
        subst (λ (n : NodeId). maps.get (taken_from control n) is.key ≡ Some is.route) same is.taken in
        let imported : imported_inclusive is.own.vrf (addr_of kept.home.scenario root) (is.key, is.route) ≡ Some fec =
        subst (λ (n : NodeId). imported_inclusive is.own.vrf (addr_of kept.home.scenario n) (is.key, is.route) ≡ Some fec) same is.imported in
        any_from imports_one is.own (own_vrfs place) is.of_edge
        (any_from (test is.own) (is.key, is.route) (maps.entries (taken_from control root))
        (get_entry key_exact (taken_from control root) is.key is.route taken)
        (is_it fec (imported_inclusive is.own.vrf (addr_of kept.home.scenario root) (is.key, is.route)) imported))

    pub inclusive_is : (result : Bool) (vrfs : List home_vrfs.OwnVrf) → AreOwn kept.home vrfs
        → result ≡ list_any (λ own. imports_one (as_own own)) vrfs → (result ≡ true) ↔ IsInclusive place control fec
    inclusive_is result vrfs are e =
        let told : result ≡ list_any imports_one (own_vrfs place) = e ∙ any_own imports_one vrfs ∙ ap (list_any imports_one) (are.vrfs core) in
        (λ h. inclusive_from (sym told ∙ h), λ is. told ∙ inclusive_to is)
