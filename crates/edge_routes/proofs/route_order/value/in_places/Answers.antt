use Rattle.std.proofs.Common.{◌≡◌, length, drop, replicate, refl}
use Rattle.std.proofs.lemmas.List.{drop-replicate}
use Rattle.edge_routes.specs.route_order.Values.{zeros}
use Rattle.edge_routes.proofs.route_order.value.in_places.Goals as goal

pub returns : goal.returns
returns c =
    let n = length c.args.comms.now in
    let front : c.copy_from_slice.new.self ≡ c.args.comms.now = c.copy_from_slice.ensures.after in
    let back : c.split_at_mut-front.result.1.now ≡ drop n (replicate 10 zeros) = c.split_at_mut-front.ensures.back in
    rw (front, back, drop-replicate) refl
