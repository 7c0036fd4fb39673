use Rattle.std.proofs.Common.{◌∙◌, ap, sym}
use Rattle.data_plane.specs.datagram_acts.Stored.{Handles}
use Rattle.network_acts.proofs.CopyActs.{landing_current, lands, leaves_by, on_ok_both}
use Rattle.network_acts.specs.NetworkView.{NetworkView}
use Rattle.network_acts.proofs.network.Network.arrive.Goals as goal

pub leave-requires : goal.leave-requires
leave-requires c = record { handling = landing_current c.args.from c.args.to c.args.landed _ c.args.self.now c.self.view_is c.requires.network }

pub returns : goal.returns
returns c =
    on_ok_both c.leave.result (λ left lines_are.
    lands c.args.from c.args.to c.args.landed _ c.args.self.now c.self.view_is c.in_ok-fate.fate c.saturating_sub-ttl.result c.clock-now.result
    c.leave.new.self
    c.args.lines.now c.push.new.self c.leave.new.lines c.saturating_sub-ttl.ensures
    (λ standing plane. c.clock-now.ensures.own ∙ (ap (λ (n : NetworkView). n.plane.clock) (sym c.self.view_is) ∙ sym plane.around.clock))
    (λ at place may is. c.in_ok-fate.ensures at place may is) c.in_ok-push.ensures.ok
    (leaves_by Handles c.args.to c.saturating_sub-ttl.result c.clock-now.result c.in_ok-fate.fate c.as_slice.result.now c.as_slice-2.result.now _
    c.leave.new.self c.push.new.self
    c.leave.new.lines c.as_slice.ensures c.as_slice-2.ensures left lines_are))
    c.leave.ensures.left c.leave.ensures.lines
