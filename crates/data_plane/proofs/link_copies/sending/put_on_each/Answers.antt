use Rattle.std.proofs.Common.{get_or, take}
use Rattle.mv_base.specs.declared.ids.NodeId.{NodeId}
use Rattle.data_plane.specs.declared.link_copies.hop.Hop.{Hop}
use Rattle.data_plane.proofs.link_copies.PutLemmas.{first_put, still_put}
use Rattle.data_plane.proofs.link_copies.sending.put_on_each.Goals as goal

pub returns-in_default-clause-put : goal.returns-in_default-clause-put
returns-in_default-clause-put c =
    still_put c.args.ttl c.args.now c.args.datagram.now (take c.loop-place.place c.args.hops.now) c.args.ways.now c.loop-place.ways c.put.new.ways
    c.loop-place.invariant
    c.put.ensures.unique c.in_default.ensures.same

pub loop-place-preserved : goal.loop-place-preserved
loop-place-preserved c =
    let none : NodeId = record { 0 = 0 } in
    let nowhere : Hop = record { from = none; branch = record { node = none; label = 0 } } in
    first_put c.args.ttl c.args.now c.args.datagram.now c.args.hops.now c.loop-place.place nowhere c.args.ways.now c.loop-place.ways c.put.new.ways
    c.on-kept.result
    c.loop-place-test.true c.loop-place.invariant c.put.ensures.unique c.on-kept.ensures c.in-Ok.ensures.put
