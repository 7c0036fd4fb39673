-- Values that are the same part by part are one value.
use Rattle.std.proofs.Common.{◌≡◌, ◌≢◌, ◌-◌, ◌≤◌, Bool, true, false, IsTrue, List, [], ◌∷◌, ◌++◌, length, take, drop, replicate, Option, arith, refl, ap, sym, ◌∙◌, subst, length-append}
use Rattle.std.proofs.lemmas.List.{length-replicate}
use Rattle.std.specs.Cmp.Lexicographic.{pointwise, pointwise_decides, bytes_decides}
use Rattle.mv_base.specs.declared.addr.Addr.{Addr}
use Rattle.bgp_values.specs.declared.pmsi_attr.pmsi.Pmsi.{Pmsi}
use Rattle.mv_base.specs.declared.route_targets.communities.ExtComm.{ExtComm}
use Rattle.mv_base.specs.contracts.route_targets.communities.ExtCommPartialEq.TheImpl as comms
use Rattle.edge_defs.specs.Keys.{Value, same_value}
use Rattle.edge_defs.proofs.KeyLemmas.{value_exact}
use Rattle.edge_routes.specs.route_order.Values.{IsKept, IsWritableValue, as_value, zeros}
use Rattle.edge_routes.specs.declared.route_order.value.TableValue.TheInside.{Inside}

same_comm : (own other : ExtComm) → (comms.eq-value.it own other ≡ true → own ≡ other) × (own ≡ other → comms.eq-value.it own other ≡ true)
same_comm own other =
    let decides = bytes_decides own.0 other.0 in
    (λ h. let e = decides.0 h in λ i. record { 0 = e i }, λ e. decides.1 (ap (λ (comm : ExtComm). comm.0) e))

pub same_comms : (own other : List ExtComm) → (pointwise comms.eq-value.it own other ≡ true → own ≡ other)
    × (own ≡ other → pointwise comms.eq-value.it own other ≡ true)
same_comms own other = pointwise_decides same_comm own other

-- ---- values

answer : (own other : Value) (b : Bool) → b ≡ same_value own other → own ≢ other → false ≡ b
answer own other false e differs = refl
answer own other true e differs = absurd (differs ((value_exact own other).0 (sym e)))

-- values that differ in a part
pub other_hop : (own other : Value) → own.next_hop ≢ other.next_hop → false ≡ same_value own other
other_hop own other differs = answer own other (same_value own other) refl (λ e. differs (ap (λ (value : Value). value.next_hop) e))

pub other_comms : (own other : Value) → own.comms ≢ other.comms → false ≡ same_value own other
other_comms own other differs = answer own other (same_value own other) refl (λ e. differs (ap (λ (value : Value). value.comms) e))

-- values whose other parts are the same
pub by_tunnel : (own other : Value) (b : Bool) → own.next_hop ≡ other.next_hop → own.comms ≡ other.comms
    → (IsTrue b → own.pmsi ≡ other.pmsi) × (own.pmsi ≡ other.pmsi → IsTrue b) → b ≡ same_value own other
by_tunnel own other true hop comms tunnel =
    let pmsi = tunnel.0 refl in
    let same : own ≡ other = λ i. record { next_hop = hop i; comms = comms i; pmsi = pmsi i } in
    sym ((value_exact own other).1 same)
by_tunnel own other false hop comms tunnel =
    answer own other (same_value own other) refl (λ e. let none : false ≡ true = tunnel.1 (ap (λ (value : Value). value.pmsi) e) in absurd cc)

-- ---- communities in their places

front_back : (xs ys : List ExtComm) → (take (length xs) (xs ++ ys) ≡ xs) × (drop (length xs) (xs ++ ys) ≡ ys)
front_back [] ys = (refl, refl)
front_back (x ∷ xs) ys = let rest = front_back xs ys in (λ i. x ∷ rest.0 i, rest.1)

pub is_kept : (next_hop : Addr) (comms places : List ExtComm) (pmsi : Option Pmsi) → length comms ≤ 10
    → places ≡ comms ++ replicate (10 - length comms) zeros → IsWritableValue (as_value next_hop comms pmsi)
    → let held : Inside = record { next_hop = next_hop; pmsi = pmsi; comms = places; count = length comms } in IsKept held
is_kept next_hop comms places pmsi few is writable =
    let spare : List ExtComm = replicate (10 - length comms) zeros in
    let parts = front_back comms spare in
    record {
      within = few;
      places = ap length is ∙ length-append comms spare ∙ (let n = length-replicate (10 - length comms) zeros in omega (arith, few, n));
      spare = ap (drop (length comms)) is ∙ parts.1;
      writable = subst (λ (xs : List ExtComm). IsWritableValue (as_value next_hop xs pmsi)) (sym (ap (take (length comms)) is ∙ parts.0)) writable;
    }
