use Rattle.std.proofs.Common.{List, ℕ, ap, sym, subst, ◌∙◌}
use Rattle.edge_defs.specs.Keys.{key_cmp}
use Rattle.edge_defs.specs.bgp_messages.declared.bgp_attributes.key.Key.{Key}
use Rattle.edge_routes.specs.route_order.Front.{IsFronted}
use Rattle.edge_routes.specs.route_order.Kept.{kept_key}
use Rattle.edge_routes.proofs.route_order.FrontLemmas.{front_decides}
use Rattle.edge_routes.proofs.route_order.KeptLemmas.{tied_are_one}
use Rattle.edge_routes.proofs.route_order.kept_key.KeptKeyOrd.cmp.Goals as goal

pub returns-then-is_eq : goal.returns-then-is_eq
returns-then-is_eq c =
    let one = tied_are_one c.self.inside.front c.other.inside.front c.compare_fronts-order.result c.compare_fronts-order.ensures
    (sym c.is_eq.ensures ∙ c.if-is_eq.true) in
    let other = ap (λ (front : List ℕ). kept_key front c.other.inside.beside) one ∙ c.other.view_is in
    c.compare_tied.ensures ∙ (λ i. key_cmp (c.self.view_is i) (other i))

pub returns-else-is_eq : goal.returns-else-is_eq
returns-else-is_eq c =
    let own = subst (λ (key : Key). IsFronted key c.self.inside.front) c.self.view_is c.self.invariant in
    let other = subst (λ (key : Key). IsFronted key c.other.inside.front) c.other.view_is c.other.invariant in
    front_decides c.args.self.now c.args.other.now c.self.inside.front c.other.inside.front c.compare_fronts-order.result own other
    c.compare_fronts-order.ensures (sym c.is_eq.ensures ∙ c.if-is_eq.false)
