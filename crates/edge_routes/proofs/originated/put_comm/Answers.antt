use Rattle.std.proofs.Common.{rules}
use Rattle.edge_routes.proofs.ValueLemmas.{put_after, put_octets}
use Rattle.edge_routes.proofs.originated.put_comm.Goals as goal

pub returns : goal.returns
returns c = record {
  comms = put_after _ c.args.count c.args.comm (search rules);
  octets = λ h. put_octets _ c.args.count c.args.comm (search rules) (search rules) h;
}
