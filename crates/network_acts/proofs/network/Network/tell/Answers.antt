use Rattle.std.proofs.lemmas.Result.{on_ok_weaker}
use Rattle.network_acts.proofs.Told.{some_ends, tells}
use Rattle.network_acts.proofs.network.Network.tell.Goals as goal

pub unready-requires : goal.unready-requires
unready-requires c = record { plane = some_ends _ c.args.self.now c.self.view_is c.args.sessions.now c.requires.sessions c.requires.network }

pub returns : goal.returns
returns c =
    on_ok_weaker c.push.result (λ pushed at is linked.
    tells _ c.args.self.now c.self.view_is c.args.sessions.now c.requires.sessions c.total.result c.copies.result c.live.result c.due.result
    c.in_ok-due.due c.unready.result
    c.in_ok-unready.unready c.args.lines.now c.push.new.self c.total.ensures c.copies.ensures c.live.ensures c.due.ensures c.in_ok-due.ensures
    c.unready.ensures c.in_ok-unready.ensures pushed at is linked) c.push.ensures.ok
