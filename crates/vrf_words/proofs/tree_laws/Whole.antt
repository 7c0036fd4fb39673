-- The prefixes of the routes that a VRF knows are whole.
use Rattle.std.proofs.Common.{◌≡◌, true, inl, inr, sym, ap, subst, ◌∙◌}
use Rattle.std.specs.Prelude.{All}
use Rattle.mv_base.specs.Address.{addr_octets, IsAddr}
use Rattle.mv_base.specs.Lists.{Among}
use Rattle.mv_base.specs.Octets.{IsOctets}
use Rattle.mv_base.specs.Prefix.{IsPrefixOf, covers, same_front}
use Rattle.mv_base.specs.declared.addr.Addr.{Addr}
use Rattle.mv_base.specs.declared.prefix.Prefix.{Prefix}
use Rattle.edge_words.specs.bgp_messages.declared.bgp_attributes.key.Key.TheVariants.{Unicast}
use Rattle.scenario_defs.specs.Rules.{IsSite, IsSitePrefix, Rules}
use Rattle.scenario_defs.specs.Vpn.{is_attached_at}
use Rattle.scenario_defs.specs.declared.scenario.Route.{Route}
use Rattle.scenario_defs.specs.declared.scenario.Scenario.{Scenario}
use Rattle.scenario_defs.specs.declared.scenario.Site.{Site}
use Rattle.scenario_defs.specs.Home.{local_routes}
use Rattle.scenario_defs.proofs.RuleLemmas.{all_at}
use Rattle.edge_words.specs.edge_defs.choice_defs.declared.known_route.KnownRoute.{KnownRoute}
use Rattle.mv_base.specs.declared.ids.VrfId.{VrfId}
use Rattle.edge_words.specs.edge_defs.Edge.{Control}
use Rattle.edge_words.specs.edge_defs.Place.{EdgePlace, OwnVrf}
use Rattle.edge_words.specs.edge_defs.Upstream.{known_routes}
use Rattle.edge_words.proofs.Prefixes.{at_among, covering_one, route_of}
use Rattle.vrf_words.specs.tree_laws.Whole.{AreWhole, HasPrefixes, HaveSpellings}
use Rattle.vrf_words.proofs.tree_laws.Choices.{FromTaken, route_is}

-- a prefix without a bit after its length, of octets
record IsWhole (prefix : Prefix) : Type 0 where
  addr : IsAddr prefix.addr
  bits : IsPrefixOf prefix.addr prefix.bits
  octets : IsOctets (addr_octets prefix.addr)

one_whole : (a b : Prefix) (source : Addr) → IsWhole a → IsWhole b → a.bits ≡ b.bits → covers a source ≡ true → covers b source ≡ true → a ≡ b
one_whole a b source x y e c d =
    let addrs =
    covering_one a.addr b.addr source b.bits x.addr y.addr x.octets y.octets (subst (IsPrefixOf a.addr) e x.bits) y.bits
    (ap (same_front a.addr source) (sym e) ∙ c) d in
    λ i. record { addr = addrs i; bits = e i }

local_whole : (scenario : Scenario) (vrf : VrfId) → Rules scenario → HasPrefixes scenario → (local : Route) → Among local (local_routes scenario vrf)
    → IsWhole local.prefix
local_whole scenario vrf rules octets local a =
    let r = route_of (is_attached_at scenario vrf) 0 scenario.sites local a in
    let at = at_among local.prefix r.site.prefixes r.prefix in
    let is : IsSitePrefix local.prefix =
    all_at IsSitePrefix r.site.prefixes (all_at IsSite scenario.sites rules.sites.each r.place r.site r.at).each at.0 local.prefix at.1 in
    record {
      addr = is.addr;
      bits = is.bits;
      octets = all_at (λ (p : Prefix). IsOctets (addr_octets p.addr)) r.site.prefixes
          (all_at (λ (s : Site). All (λ (p : Prefix). IsOctets (addr_octets p.addr)) s.prefixes) scenario.sites octets r.place r.site r.at) at.0
          local.prefix at.1;
    }

taken_whole : (place : EdgePlace) (control : Control) (own : OwnVrf) (route : KnownRoute) → HaveSpellings control → FromTaken place control own route
    → IsWhole route.prefix
taken_whole place control own route spelled f =
    let s = spelled f.peer (Unicast f.rd route.prefix) f.used.taken f.used.at in
    record { addr = s.0.is_prefix.0; bits = s.0.is_prefix.1; octets = s.1 }

pub prefixes_whole : (place : EdgePlace) (control : Control) (own : OwnVrf) → Rules place.scenario → HasPrefixes place.scenario
    → HaveSpellings control → AreWhole (known_routes place control own)
prefixes_whole place control own rules octets spelled route other source a b e c d =
    one_whole route.prefix other.prefix source (whole route a) (whole other b) e c d
  where
    whole : (known : KnownRoute) → Among known (known_routes place control own) → IsWhole known.prefix
    whole known among = elim (route_is place control own known among) [
      | inl local ↦ subst (λ (r : KnownRoute). IsWhole r.prefix) (sym local.2) (local_whole place.scenario own.id rules octets local.0 local.1)
      | inr far ↦ taken_whole place control own known spelled far
    ]
