use Rattle.std.proofs.Common.{◌∙◌}
use Rattle.edge_routes.proofs.ValueLemmas.{targets_more}
use Rattle.edge_routes.proofs.originated.target_places.Goals as goal

pub loop-i-preserved : goal.loop-i-preserved
loop-i-preserved c = record {
  comms = c.put_comm.ensures.comms ∙ targets_more _ c.as_slice-list.result.now c.loop-i.i _ c.loop-i-test.true c.loop-i.invariant.comms;
  octets = c.put_comm.ensures.octets c.loop-i.invariant.octets;
}
