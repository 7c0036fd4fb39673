use Rattle.std.proofs.Common.{subst, sym}
use Rattle.network_acts.specs.Instant.{IsWorld}
use Rattle.network_acts.proofs.CopyActs.{drops, some_idle}
use Rattle.network_events.specs.Meeting.{IsReady}
use Rattle.network_events.proofs.HopLemmas.{drop_meets, not_lacks}
use Rattle.network_events.proofs.datagrams.drop_copy.Goals as goal

pub drop_copy-requires : goal.drop_copy-requires
drop_copy-requires c = record { idle = some_idle IsReady _ c.args.network.now c.network.view_is c.requires.network }

pub returns : goal.returns
returns c =
    drop_meets c.args.network.now c.args.from c.args.to c.args.place c.args.lines.now
    (not_lacks c.args.network.now c.args.from c.args.to c.args.place c.args.lines.now c.count_on.result
    (λ at is. c.count_on.ensures at.world (subst (IsWorld at) (sym c.network.view_is) is).datagrams) c.if-count_on-place.false) _
    (drops _ c.args.network.now c.network.view_is c.args.from c.args.to c.args.place c.drop_copy.new.self c.drop_copy.ensures)
