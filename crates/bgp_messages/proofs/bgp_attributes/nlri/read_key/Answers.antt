use Rattle.std.proofs.Common.{◌∙◌, sym, arith}
use Rattle.mv_base.specs.Octets.{IsOctets}
use Rattle.bgp_messages.specs.declared.bgp_attributes.family.Family.TheVariants.{Mcast}
use Rattle.bgp_messages.proofs.bgp_attributes.KeyLemmas.{key_len, mcast_near, vpn_len}
use Rattle.bgp_messages.proofs.bgp_attributes.nlri.read_key.Goals as goal

pub returns-in-Mcast-clause-len : goal.returns-in-Mcast-clause-len
returns-in-Mcast-clause-len c =
    let fits : IsOctets c.args.octets.now = λ i. omega (arith, c.type_inv.octets i) in
    key_len (Mcast c.in-Mcast.afi) c.args.octets.now c.read_mcast.result fits c.read_mcast.ensures

pub returns-in-Mcast-clause-offset : goal.returns-in-Mcast-clause-offset
returns-in-Mcast-clause-offset c =
    let fits : IsOctets c.args.octets.now = λ i. omega (arith, c.type_inv.octets i) in
    mcast_near c.in-Mcast.afi c.args.octets.now c.read_mcast.result fits c.read_mcast.ensures

pub returns-in-Some-clause-len : goal.returns-in-Some-clause-len
returns-in-Some-clause-len c = vpn_len c.in-Vpn.afi c.args.octets.now c.in-Some.front (sym c.read_vpn.ensures ∙ c.in-Some.is)
