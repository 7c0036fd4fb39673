use Rattle.std.proofs.Common.{All, take}
use Rattle.mv_base.specs.Address.{addr_octets}
use Rattle.mv_base.specs.Octets.{IsOctets}
use Rattle.edge_routes.proofs.edge_home.octets.sites_have_octets.Given as goal

abbrev pub invariant-loop-site : goal.invariant-loop-site
invariant-loop-site l = All (λ site. All (λ prefix. IsOctets (addr_octets prefix.addr)) site.prefixes) (take l.site-index l.sites)
