use Rattle.std.proofs.Common.{All, subst, sym, ap, ◌∙◌}
use Rattle.mv_base.specs.Address.{addr_octets}
use Rattle.mv_base.specs.Octets.{IsOctets}
use Rattle.mv_base.specs.declared.prefix.Prefix.{Prefix}
use Rattle.scenario_defs.specs.declared.scenario.Scenario.{Scenario}
use Rattle.scenario_defs.specs.declared.scenario.Site.{Site}
use Rattle.edge_defs.specs.Place.{HasPrefixes}
use Rattle.edge_routes.specs.edge_home.Home.{AreOwn, IsHome, home_of, own_from}
use Rattle.edge_routes.proofs.edge_home.HomeLemmas.{are_own}
use Rattle.edge_routes.proofs.edge_home.home.EdgeHome.of.Goals as goal

pub invariant_of-result : goal.invariant_of-result
invariant_of-result c =
    let lent : Scenario = c.lent-scenario.result.now in
    let is : IsHome lent c.args.me =
    subst (λ scenario. IsHome scenario c.args.me) (sym c.lent-scenario.ensures)
    (record { rules = c.requires.rules; edge = c.requires.edge }) in
    let octets : HasPrefixes lent =
    subst (All (λ (site : Site). All (λ (prefix : Prefix). IsOctets (addr_octets prefix.addr)) site.prefixes)) c.as_slice.ensures
    c.sites_have_octets.ensures in
    let own : AreOwn (home_of lent c.args.me) c.in_ok-vrfs.vrfs.items =
    are_own lent c.args.me c.own_octets-addr.result c.in_ok-vrfs.vrfs.items c.own_octets-addr.ensures
    (c.in_ok-vrfs.ensures ∙ ap (own_from c.own_octets-addr.result lent.system c.args.me 0) c.as_slice-2.ensures) in
    subst (λ (scenario : Scenario).
    IsHome scenario c.args.me × (HasPrefixes scenario × AreOwn (home_of scenario c.args.me) c.in_ok-vrfs.vrfs.items))
    (c.lent-scenario.ensures ∙ sym c.in_ok-shared.ensures) (is, (octets, own))
