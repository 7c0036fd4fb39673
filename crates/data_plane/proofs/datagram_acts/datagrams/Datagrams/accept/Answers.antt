use Rattle.std.proofs.Common.{◌≡◌, ℕ, ◌+◌, List, [], sym, ap, subst}
use Rattle.data_plane.specs.declared.link_copies.hop.Hop.{Hop}
use Rattle.data_plane.specs.datagram_acts.DatagramsView.{DatagramsView}
use Rattle.data_plane.specs.datagram_acts.Stored.{IsIdle, IsSending, with_datagram}
use Rattle.data_plane.proofs.datagram_acts.Sending.{accepted_sending}
use Rattle.data_plane.proofs.datagram_acts.datagrams.Datagrams.accept.Goals as goal

pub returns-clause-accepted : goal.returns-clause-accepted
returns-clause-accepted c = λ world datagram idle.
    let was = c.self.inside in
    let view : List Hop → DatagramsView = λ hops. record { copies = was.copies; count = was.count + 1; hops = hops } in
    subst (λ (count : ℕ). IsSending (with_datagram datagram world) (count + 1) datagram (view c.clear.new.self.items))
    (ap (λ (v : DatagramsView). v.count) c.self.view_is)
    (subst (λ (hops : List Hop). IsSending (with_datagram datagram world) (was.count + 1) datagram (view hops)) (sym c.clear.ensures.items)
    (accepted_sending world was.copies was.count was.hops.items datagram (subst (IsIdle world) (sym c.self.view_is) idle)))
