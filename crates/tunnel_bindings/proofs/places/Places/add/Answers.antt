use Rattle.std.proofs.Common.{◌+◌, ◌≤◌, length, rules}
use Rattle.std.specs.Vec.{vec_capacity}
use Rattle.tunnel_bindings.proofs.FreeLemmas.{well-added}
use Rattle.tunnel_bindings.proofs.places.Places.add.Goals as goal

pub returns-in-Ok-clause-well : goal.returns-in-Ok-clause-well
returns-in-Ok-clause-well c =
    let old = c.args.self.now in
    let room : length old.places.items + 1 ≤ vec_capacity c.reserve.new.self = search rules in
    rw (c.in-Ok.ensures.items, c.reserve.ensures.items)
    (well-added old.places.items old.free.items (vec_capacity old.free) (vec_capacity c.reserve.new.self) c.args.binding room c.requires)
