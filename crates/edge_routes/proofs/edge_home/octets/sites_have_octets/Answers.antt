use Rattle.std.proofs.Common.{All, subst}
use Rattle.std.proofs.lemmas.List.{take_all}
use Rattle.mv_base.specs.Address.{addr_octets}
use Rattle.mv_base.specs.Octets.{IsOctets}
use Rattle.mv_base.specs.declared.prefix.Prefix.{Prefix}
use Rattle.scenario_defs.specs.declared.scenario.Site.{Site}
use Rattle.std.proofs.lemmas.List.Elements.{All-more}
use Rattle.edge_routes.proofs.edge_home.octets.sites_have_octets.Goals as goal

pub loop-site-preserved : goal.loop-site-preserved
loop-site-preserved c =
    All-more (λ (s : Site). All (λ (p : Prefix). IsOctets (addr_octets p.addr)) s.prefixes) c.args.sites.now c.loop-site.site-index c.site-item.result
    c.loop-site-test.true c.loop-site.invariant
    (subst (λ (s : Site). All (λ (p : Prefix). IsOctets (addr_octets p.addr)) s.prefixes) c.site-item.is c.site_has_octets.ensures)

pub returns : goal.returns
returns c =
    subst (All (λ (s : Site). All (λ (p : Prefix). IsOctets (addr_octets p.addr)) s.prefixes))
    (take_all c.loop-site.site-index c.args.sites.now c.loop-site-test.false) c.loop-site.invariant
