use Rattle.std.proofs.Common.{◌≡◌, ap, ◌∙◌, sym, subst}
use Rattle.edge_defs.specs.bgp_messages.declared.bgp_attributes.key.Key.{Key}
use Rattle.edge_routes.specs.route_order.Front.{IsFronted}
use Rattle.edge_routes.specs.route_order.Kept.{key_by}
use Rattle.edge_routes.proofs.route_order.KeptLemmas.{whole_back}
use Rattle.edge_routes.proofs.route_order.kept_key.KeptKey.of.Goals as goal

-- the numbers spell the key
back : (c : goal.Then-is_whole) → key_by c.front_of-is_whole.result.numbers ≡ c.args.key.now
back c =
    let is = c.front_of-is_whole.ensures in
    ap key_by is.front ∙ whole_back c.args.key.now c.requires is.octets (is.whole.0 c.if-is_whole.true)

pub invariant_of-result : goal.invariant_of-result
invariant_of-result c =
    let is = c.front_of-is_whole.ensures in
    let fronted : IsFronted c.args.key.now c.front_of-is_whole.result.numbers =
    record { writable = c.requires; octets = is.octets; front = is.front } in
    subst (λ (key : Key). IsFronted key c.front_of-is_whole.result.numbers) (sym (back c)) fronted

pub returns-then-is_whole : goal.returns-then-is_whole
returns-then-is_whole c = back c
