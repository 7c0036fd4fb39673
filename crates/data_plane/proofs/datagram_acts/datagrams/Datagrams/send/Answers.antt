use Rattle.std.proofs.Common.{rules, ◌≡◌, ◌<◌, ℕ, List, length, sym, subst, refl}
use Rattle.std.proofs.lemmas.Result.{on_ok_weaker}
use Rattle.data_plane.specs.declared.link_copies.hop.Hop.{Hop}
use Rattle.data_plane.specs.link_copies.CopiesData.{IsSent, LacksNumber}
use Rattle.data_plane.specs.datagram_acts.Stored.{IsIdle, IsSending, IsSomeSending}
use Rattle.data_plane.proofs.datagram_acts.Sending.{nowhere, somewhere}
use Rattle.data_plane.proofs.datagram_acts.datagrams.Datagrams.send.Goals as goal

pub returns-then-is_empty-clause-sent : goal.returns-then-is_empty-clause-sent
returns-then-is_empty-clause-sent c = λ world number datagram sending clock text.
    let was = c.self.inside in
    let own = subst (IsSending world number datagram) (sym c.self.view_is) sending in
    let empty : length was.hops.items ≡ 0 = search (rules, c) in
    let idle = nowhere world was.copies was.copies was.count number was.hops.items datagram own own.none empty refl in
    subst (IsIdle world) c.self.view_is idle

pub send-requires : goal.send-requires
send-requires c =
    let was = c.self.inside in
    let some = subst IsSomeSending (sym c.self.view_is) c.requires.sending in
    let more : 0 < length was.hops.items = search (rules, c) in
    record {
      current = some.3.none;
      fresh = subst (LacksNumber was.copies) some.3.number_is some.3.new;
      some = subst (λ (hops : List Hop). 0 < length hops) (sym c.as_slice.ensures.value) more;
    }

pub returns-clause-sent : goal.returns-clause-sent
returns-clause-sent c = on_ok_weaker c.send.result (λ goes world number datagram sending clock text.
    let was = c.self.inside in
    let own = subst (IsSending world number datagram) (sym c.self.view_is) sending in
    let goes_on : IsSent was.count c.args.octets.now 255 c.args.now was.hops.items was.copies c.send.new.self =
    subst (λ (hops : List Hop). IsSent was.count c.args.octets.now 255 c.args.now hops was.copies c.send.new.self) c.as_slice.ensures.value goes in
    somewhere world was.copies c.send.new.self was.count number was.hops.items datagram own c.send.ensures.current c.args.octets.now text
    (subst (λ (now : ℕ). IsSent number c.args.octets.now 255 now was.hops.items was.copies c.send.new.self) (sym clock)
    (subst (λ (n : ℕ). IsSent n c.args.octets.now 255 c.args.now was.hops.items was.copies c.send.new.self) (sym own.number_is) goes_on)))
    c.send.ensures.sent
