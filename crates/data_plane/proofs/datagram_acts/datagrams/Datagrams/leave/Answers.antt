use Rattle.std.proofs.Common.{◌≡◌, ℕ, ◌++◌, map, sym, subst}
use Rattle.std.proofs.lemmas.Result.{on_ok_weaker}
use Rattle.mv_base.specs.declared.ids.NodeId.{NodeId}
use Rattle.data_plane.specs.link_copies.CopiesData.{hop_of, kept_at, sent}
use Rattle.data_plane.specs.datagram_acts.Stored.{Handles}
use Rattle.data_plane.proofs.datagram_acts.Stores.{left_handles}
use Rattle.data_plane.proofs.datagram_acts.Told.{same_number, told_lines}
use Rattle.data_plane.proofs.datagram_acts.datagrams.Datagrams.leave.Goals as goal

pub returns-clause-left : goal.returns-clause-left
returns-clause-left c = on_ok_weaker c.forward.result (λ each world number datagram handled clock.
    let was = c.self.inside.copies in
    let new = c.forward.new.self in
    left_handles world was new c.self.inside.count number c.self.inside.hops.items datagram c.args.node c.args.ttl c.args.branches.now
    (subst (Handles world number datagram) (sym c.self.view_is) handled)
    (subst (λ (now : ℕ). (u n : NodeId) → kept_at new u n ≡ kept_at was u n
    ++ sent was.current c.args.node c.args.ttl now (map hop_of c.args.branches.now) u n) (sym clock) each)
    c.forward.ensures.current c.forward.ensures.buffers) c.forward.ensures.sent

pub returns-clause-lines : goal.returns-clause-lines
returns-clause-lines c = on_ok_weaker c.forward.result (λ _ world number datagram handled.
    let was = c.self.inside in
    told_lines c.args.lines.now c.leave_at.new.lines c.tell_hops.new.lines c.args.node c.args.ttl number was.number datagram.octets
    c.octets.result.now c.args.outs.now c.args.branches.now
    (same_number world number was.number datagram (record { copies = was.copies; count = was.count; hops = was.hops.items })
    (subst (Handles world number datagram) (sym c.self.view_is) handled) c.self.invariant)
    (c.octets.ensures world number datagram handled)
    c.in_ok-leave_at.ensures c.in_ok-tell_hops.ensures) c.forward.ensures.sent
