use Rattle.std.proofs.Common.{ℕ, ◌/◌, ◌∙◌, ap, slice_index, subst}
use Rattle.std.specs.Prelude.{nat_eq}
use Rattle.edge_defs.specs.bgp_messages.declared.bgp_attributes.key.Key.{Key}
use Rattle.edge_routes.specs.route_order.Front.{IsFronted}
use Rattle.edge_routes.proofs.route_order.KeptLemmas.{type_is}
use Rattle.edge_routes.proofs.route_order.kept_key.KeptKey.is_of_type.Goals as goal

pub returns-then-self-gt2 : goal.returns-then-self-gt2
returns-then-self-gt2 c =
    let fronted = subst (λ (key : Key). IsFronted key c.self.inside.front) c.self.view_is c.self.invariant in
    ap (λ (number : ℕ). nat_eq (slice_index c.self.inside.front 1 / 72057594037927936) number) (c.from.ensures ∙ c.code.ensures)
    ∙ type_is c.args.self.now c.self.inside.front c.args.own fronted c.if-self-gt2.true
