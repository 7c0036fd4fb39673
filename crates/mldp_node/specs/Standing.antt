-- Where a node stands, with what holds of that.
use Rattle.std.specs.Prelude.{◌<◌, ◌≤◌, ℕ, List, length, refl}
use Rattle.std.specs.Coded.{Coded, code_by, coded×, coded_list, coded_ℕ}
use Rattle.mv_base.specs.declared.addr.Addr.{Addr}
use Rattle.mv_base.specs.contracts.addr.Addr as addresses
use Rattle.mv_base.specs.declared.ids.NodeId.{NodeId}
use Rattle.mv_base.specs.contracts.ids.NodeId as nodes
use Rattle.mldp.specs.mldp_msgs.Spelling.{IsRouter}
use Rattle.label_defs.specs.Node.{NodePlace, addr_in}

abbrev pub place_code : Coded NodePlace
place_code = code_by (NodeId × (List Addr × ℕ)) (coded× nodes.the_row.coded (coded× (coded_list addresses.the_row.coded) coded_ℕ))
    (λ p. (p.me, (p.addrs, p.life))) (λ q. record { me = q.0; addrs = q.1.0; life = q.1.1 }) (λ _. refl)

-- the node is one of the nodes, its own address is one of IPv4, and a copy may be on a link for 1,000 ticks at most
pub record IsPlace (place : NodePlace) : Type 0 where
  pub within : place.me.0 < length place.addrs
  pub router : IsRouter (addr_in place)
  pub short : place.life ≤ 1000
