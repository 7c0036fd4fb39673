use Rattle.std.proofs.Common.{◌≡◌, Bool, IsTrue, sym, subst}
use Rattle.edge_routes.proofs.route_order.ValueLemmas.{same_comms}
use Rattle.edge_routes.proofs.route_order.value.same_comms.Goals as goal

pub returns : goal.returns
returns c =
    let own = c.args.own.now in
    let other = c.args.other.now in
    subst (λ (b : Bool). (IsTrue b → own ≡ other) × (own ≡ other → IsTrue b)) (sym c.eq.ensures) (same_comms own other)
