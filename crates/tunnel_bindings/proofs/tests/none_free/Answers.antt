use Rattle.std.proofs.Common.{rules}
use Rattle.tunnel_bindings.specs.Labels.{IsOwned}
use Rattle.tunnel_bindings.proofs.LabelLemmas.{owned_taken, owned_after}
use Rattle.tunnel_bindings.proofs.tests.none_free.Goals as goal

pub lost-requires-in-Err : goal.lost-requires-in-Err
lost-requires-in-Err g c = search (rules, owned_taken)

pub lost-requires-in-Ok : goal.lost-requires-in-Ok
lost-requires-in-Ok g c =
    let space = c.mapped-only.new.space in
    let only = c.mapped-only.result.state.label in
    let owned : IsOwned space only = rw c.mapped-only.ensures.owned (owned_taken c.in_ok-space.space only c.mapped-only.ensures.least) in
    rw (c.lost.ensures.freed, c.in-Ok.ensures.owned, c.leave.ensures) (owned_after space only c.in-Ok.more.state.label owned c.in-Ok.ensures.least)
