use Rattle.std.proofs.Common.{List, ap, ◌∙◌}
use Rattle.std.specs.List.{list_any}
use Rattle.scenario_defs.specs.declared.scenario.Iface.{Iface}
use Rattle.scenario_defs.specs.Vpn.{is_of_site, is_of_vrf}
use Rattle.mvpn_model.proofs.ListLemmas.{any-filtered}
use Rattle.mvpn_model.proofs.routing.is_local.Goals as goal

pub returns : goal.returns
returns c =
    c.has_site.ensures ∙ (ap (λ (ifaces : List Iface). list_any (is_of_site c.args.site) ifaces) c.requires
    ∙ any-filtered (is_of_site c.args.site) (is_of_vrf c.args._vrf) c.args._scenario.now.ifaces)
