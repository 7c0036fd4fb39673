use Rattle.std.proofs.Common.{◌≡◌, List, ◌++◌, ◌∙◌, ap, append-nil, false, sym}
use Rattle.std.specs.FinMap as maps
use Rattle.mldp.specs.declared.mldp_fec.fec.Fec.{Fec}
use Rattle.bgp_messages.specs.declared.bgp_attributes.key.Key.{Key}
use Rattle.edge_routes.specs.Judged.{value_of}
use Rattle.edge_routes.specs.declared.route_order.route_type.RouteType.TheVariants as types
use Rattle.edge_routes.specs.route_order.Kept.{is_of_type}
use Rattle.edge_routing.proofs.edge_updates.ListLemmas.{from_others}
use Rattle.edge_routing.proofs.edge_updates.inclusive.append_by.Goals as goal

pub returns-else-is_of_type : goal.returns-else-is_of_type
returns-else-is_of_type c =
    let other : is_of_type types.Intra c.args.key.now ≡ false =
    sym (c.is_of_type.ensures ∙ ap (λ (key : Key). is_of_type types.Intra key) c.kept.ensures) ∙ c.if-is_of_type.false in
    let none = from_others c.args.control.now.home (maps.get c.args.control.now.peers c.args.peer) c.args.peer c.args.key.now
    (value_of c.args.value.now) other in
    sym (ap (λ (found : List Fec). c.args.fecs.now.items ++ found) none ∙ append-nil c.args.fecs.now.items)
