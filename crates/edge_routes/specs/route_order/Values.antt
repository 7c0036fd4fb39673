-- The values of routes as a table keeps them: communities in 10 places, with zeros after them.
use Rattle.std.specs.Prelude.{◌≡◌, ℕ, ◌-◌, ◌≤◌, List, ◌++◌, length, take, drop, replicate, Option}
use Rattle.std.specs.Cmp.{IsEquivalence, eq_by_cmp_equiv, nat_cmp_total}
use Rattle.std.proofs.Common.{arith, take-append-drop, length-take-le}
use Rattle.std.proofs.lemmas.Cmp.{on_total, lists_total}
use Rattle.mv_base.specs.declared.addr.Addr.{Addr}
use Rattle.bgp_values.specs.declared.pmsi_attr.pmsi.Pmsi.{Pmsi}
use Rattle.bgp_values.specs.declared.mvpn_nlri.route.Afi.TheVariants.{Ipv6}
use Rattle.mv_base.specs.declared.route_targets.communities.ExtComm.{ExtComm}
use Rattle.edge_defs.specs.bgp_messages.declared.bgp_attributes.family.Family.TheVariants.{Vpn}
use Rattle.edge_defs.specs.bgp_messages.bgp_attributes.Spelling.{AreComms}
use Rattle.edge_defs.specs.bgp_messages.bgp_update.Written.{IsNextHop, IsTunnel}
use Rattle.edge_defs.specs.Keys.{Value, same_value, value_parts}
use Rattle.edge_routes.specs.declared.route_order.value.TableValue.TheInside.{Inside}

-- The value has a spelling with each key that has one. What is a next hop of a VPN-IPv6 route is one of any other route too.
pub record IsWritableValue (value : Value) : Type 0 where
  pub next_hop : IsNextHop (Vpn Ipv6) value.next_hop
  pub comms : AreComms value.comms
  pub tunnel : IsTunnel value.pmsi

abbrev pub as_value : Addr → List ExtComm → Option Pmsi → Value
as_value next_hop comms pmsi = record { next_hop = next_hop; comms = comms; pmsi = pmsi }

-- a community of zeros
abbrev pub zeros : ExtComm
zeros = record { 0 = replicate 8 0 }

-- the value that is kept so
abbrev pub value_of : Inside → Value
value_of held = as_value held.next_hop (take held.count held.comms) held.pmsi

pub record IsKept (held : Inside) : Type 0 where
  pub within : held.count ≤ 10
  pub places : length held.comms ≡ 10
  pub spare : drop held.count held.comms ≡ replicate (10 - held.count) zeros
  pub writable : IsWritableValue (value_of held)

-- how the value is kept
abbrev pub kept : Value → Inside
kept value = record {
  next_hop = value.next_hop;
  pmsi = value.pmsi;
  comms = value.comms ++ replicate (10 - length value.comms) zeros;
  count = length value.comms;
}

of_fields : (next_hop : Addr) (pmsi : Option Pmsi) (o p : List ExtComm) (m n : ℕ) → o ≡ p → m ≡ n
    → let a : Inside = record { next_hop = next_hop; pmsi = pmsi; comms = o; count = m } in
    let b : Inside = record { next_hop = next_hop; pmsi = pmsi; comms = p; count = n } in a ≡ b
of_fields next_hop pmsi o p m n h k = cc

-- The communities and what stands after them are the places.
pub kept-back : (held : Inside) → IsKept held → kept (value_of held) ≡ held
kept-back held h =
    let e : length (take held.count held.comms) ≡ held.count = length-take-le held.count held.comms (omega (arith, h.within, h.places)) in
    let o : take held.count held.comms ++ replicate (10 - length (take held.count held.comms)) zeros ≡ held.comms =
    rw (e, ← h.spare) (take-append-drop held.count held.comms) in
    of_fields held.next_hop held.pmsi _ _ _ _ o e

-- Being one value is an equivalence.
pub same_value_equiv : IsEquivalence same_value
same_value_equiv = eq_by_cmp_equiv (on_total value_parts (lists_total (lists_total nat_cmp_total)))
