use Rattle.std.proofs.lemmas.Result.{IfOk-weaker}
use Rattle.network_acts.proofs.control_plane.start.with_first.Goals as goal

pub returns-in-Ok : goal.returns-in-Ok
returns-in-Ok c = IfOk-weaker c.with_more.result _ _
    (λ new more. (
      c.in-Ok.node,
      more,
      record {
        placed = c.in-Ok.ensures.placed;
        unspent = c.in-Ok.ensures.unspent;
        is = c.in-Ok.ensures.is;
        waits =
            c.in-Ok.ensures.waits;
      },
    )) c.with_more.ensures
