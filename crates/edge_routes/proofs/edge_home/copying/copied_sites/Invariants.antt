use Rattle.std.proofs.Common.{◌≡◌, ◌++◌, drop}
use Rattle.edge_routes.proofs.edge_home.copying.copied_sites.Given as goal

abbrev pub invariant-loop-site : goal.invariant-loop-site
invariant-loop-site l = l.copy ++ drop l.site-index l.sites ≡ l.sites
