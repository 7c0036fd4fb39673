use Rattle.std.proofs.Common.{All, subst}
use Rattle.std.proofs.lemmas.List.{take_all}
use Rattle.mv_base.specs.Address.{addr_octets}
use Rattle.mv_base.specs.Octets.{IsOctets}
use Rattle.mv_base.specs.declared.prefix.Prefix.{Prefix}
use Rattle.std.proofs.lemmas.List.Elements.{All-more}
use Rattle.edge_routes.proofs.edge_home.octets.prefixes_have_octets.Goals as goal

pub loop-prefix-preserved : goal.loop-prefix-preserved
loop-prefix-preserved c =
    All-more (λ (p : Prefix). IsOctets (addr_octets p.addr)) c.args.prefixes.now c.loop-prefix.prefix-index _ c.loop-prefix-test.true
    c.loop-prefix.invariant c.prefix_has_octets.ensures

pub returns : goal.returns
returns c =
    subst (All (λ (p : Prefix). IsOctets (addr_octets p.addr))) (take_all c.loop-prefix.prefix-index c.args.prefixes.now c.loop-prefix-test.false)
    c.loop-prefix.invariant
