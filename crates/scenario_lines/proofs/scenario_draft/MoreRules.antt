-- The rules of a scenario with one more of a kind.
use Rattle.std.proofs.Common.{◌≡◌, ◌+◌, false, [], ◌∷◌, ◌++◌, length, refl, sym, ap, arith, Option, Some, None}
use Rattle.std.proofs.lemmas.List.Elements.{All-push, All-weaker}
use Rattle.mv_base.specs.declared.core_link.Link.{Link}
use Rattle.mv_base.specs.Address.{same_addr}
use Rattle.mv_base.specs.core_walks.Topology.{IsTopology, HasEnds, HasCost, JoinsSamePair}
use Rattle.scenario_defs.specs.declared.scenario.Node.{Node}
use Rattle.scenario_defs.specs.declared.scenario.Vrf.{Vrf}
use Rattle.scenario_defs.specs.declared.scenario.Site.{Site}
use Rattle.scenario_defs.specs.declared.scenario.Iface.{Iface}
use Rattle.scenario_defs.specs.declared.scenario.Scenario.{Scenario}
use Rattle.scenario_defs.specs.Rules.{CoreRules, VrfRules, SiteRules, IfaceRules, IsIpv4, IsUnicast, IsVrf, AreApart, IsSite, IsIface, AreOfVpns}
use Rattle.scenario_lines.specs.scenario_draft.Declaring.{MayBeNode, MayBeLink, MayBeVrf, MayBeSite, MayBeIface}
use Rattle.scenario_lines.proofs.scenario_draft.OneMore.{longer, kept_get, one_more_pair, pairs_with, one_more_counted}
use Rattle.scenario_lines.proofs.scenario_draft.OtherRules.{vrf_still, AreKnown, iface_known}

node_topology : (s : Scenario) (node : Node) → MayBeNode s node → IsTopology (length s.nodes) s.links
    → IsTopology (length (s.nodes ++ node ∷ [])) s.links
node_topology s node may r =
    let more : length (s.nodes ++ node ∷ []) ≡ length s.nodes + 1 = longer s.nodes node in
    record {
      few_nodes = omega (arith, may.few);
      few_links = r.few_links;
      ends = All-weaker (HasEnds (length s.nodes)) (HasEnds (length (s.nodes ++ node ∷ [])))
          (λ link h. record { a = omega (arith, h.a); b = omega (arith, h.b); two = h.two }) s.links r.ends;
      costs = r.costs;
      once = r.once;
    }

pub node_core : (s : Scenario) (node : Node) → MayBeNode s node → CoreRules s → CoreRules (record s { nodes = s.nodes ++ node ∷ [] })
node_core s node may r = record {
  topology = node_topology s node may r.topology;
  few_edges = one_more_counted (λ other. other.edge) 32 s.nodes node r.few_edges may.few_edges;
  ipv4 = All-push (λ other. IsIpv4 other.addr) s.nodes node r.ipv4 may.ipv4;
  unicast = All-push (λ other. IsUnicast other.addr) s.nodes node r.unicast may.unicast;
  addresses = one_more_pair (λ x y. same_addr x.addr y.addr ≡ false) s.nodes node r.addresses may.address;
}

pub link_core : (s : Scenario) (link : Link) → MayBeLink s link → CoreRules s → CoreRules (record s { links = s.links ++ link ∷ [] })
link_core s link may r = record {
  topology = record {
    few_nodes = r.topology.few_nodes;
    few_links = omega (arith, longer s.links link, may.few);
    ends = All-push (HasEnds (length s.nodes)) s.links link r.topology.ends may.ends;
    costs = All-push HasCost s.links link r.topology.costs may.cost;
    once = one_more_pair (λ x y. ¬ (JoinsSamePair x y)) s.links link r.topology.once may.once;
  };
  few_edges = r.few_edges;
  ipv4 = r.ipv4;
  unicast = r.unicast;
  addresses = r.addresses;
}

pub vrf_more : (s : Scenario) (vrf : Vrf) → MayBeVrf s vrf → VrfRules s → VrfRules (record s { vrfs = s.vrfs ++ vrf ∷ [] })
vrf_more s vrf may r =
    let more : Scenario = record s { vrfs = s.vrfs ++ vrf ∷ [] } in
    let still : (other : Vrf) → IsVrf s other → IsVrf more other = vrf_still s more (λ k node h. h) in
    record {
      few = omega (arith, longer s.vrfs vrf, may.few);
      each = All-push (IsVrf more) s.vrfs vrf (All-weaker (IsVrf s) (IsVrf more) still s.vrfs r.each) (still vrf may.own);
      apart = one_more_pair AreApart s.vrfs vrf r.apart may.apart;
    }

pub site_more : (s : Scenario) (site : Site) → MayBeSite s site → SiteRules s → SiteRules (record s { sites = s.sites ++ site ∷ [] })
site_more s site may r = record { few = omega (arith, longer s.sites site, may.few); each = All-push IsSite s.sites site r.each may.own }

pub vrf_known : (s : Scenario) (vrf : Vrf) → AreKnown s (record s { vrfs = s.vrfs ++ vrf ∷ [] })
vrf_known s vrf = record {
  more_vrfs = omega (arith, longer s.vrfs vrf);
  more_sites = omega arith;
  targets = λ id h. ap (λ (o : Option Vrf). elim o [ None ↦ [] | Some found ↦ found.targets ]) (sym (kept_get s.vrfs vrf id.0 h));
  prefixes = λ id h. refl;
}

pub site_known : (s : Scenario) (site : Site) → AreKnown s (record s { sites = s.sites ++ site ∷ [] })
site_known s site = record {
  more_vrfs = omega arith;
  more_sites = omega (arith, longer s.sites site);
  targets = λ id h. refl;
  prefixes = λ id h. ap (λ (o : Option Site). elim o [ None ↦ [] | Some found ↦ found.prefixes ]) (sym (kept_get s.sites site id.0 h));
}

pub iface_more : (s : Scenario) (iface : Iface) → MayBeIface s iface → IfaceRules s → IfaceRules (record s { ifaces = s.ifaces ++ iface ∷ [] })
iface_more s iface may r =
    let more : Scenario = record s { ifaces = s.ifaces ++ iface ∷ [] } in
    let known : AreKnown s more = record { more_vrfs = omega arith; more_sites = omega arith; targets = λ id h. refl; prefixes = λ id h. refl } in
    let still : (other : Iface) → IsIface s other → IsIface more other = iface_known s more known in
    let pair : (x y : Iface) → AreOfVpns s x y → AreOfVpns more x y = λ x y h. record { mixed = h.mixed; taken = h.taken } in
    record {
      few = omega (arith, longer s.ifaces iface, may.few);
      each = All-push (IsIface more) s.ifaces iface (All-weaker (IsIface s) (IsIface more) still s.ifaces r.each) (still iface may.own);
      vpns = one_more_pair (AreOfVpns more) s.ifaces iface
          (pairs_with (IsIface s) (AreOfVpns s) (AreOfVpns more) s.ifaces (λ x y _ _ h. pair x y h) r.each r.vpns)
          (All-weaker _ _ (λ other h. pair other iface h) s.ifaces may.vpns);
    }
