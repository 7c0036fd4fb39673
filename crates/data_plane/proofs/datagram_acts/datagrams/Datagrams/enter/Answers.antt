use Rattle.std.proofs.Common.{◌≡◌, ◌++◌, ◌∙◌, ℕ, List, Option, map, refl, sym, ap, subst}
use Rattle.std.proofs.lemmas.List.{take_all}
use Rattle.label_defs.specs.declared.branch.Branch.{Branch}
use Rattle.network_defs.specs.Acts.{with_branches}
use Rattle.data_plane.specs.link_copies.CopiesData.{CopiesData, Current}
use Rattle.data_plane.specs.datagram_acts.DatagramsView.{DatagramsView}
use Rattle.data_plane.specs.datagram_acts.Stored.{IsNumber, IsSending, hop_at}
use Rattle.data_plane.proofs.datagram_acts.Sending.{entered_sending}
use Rattle.data_plane.proofs.datagram_acts.Told.{told_lines}
use Rattle.data_plane.proofs.datagram_acts.datagrams.Datagrams.enter.Goals as goal

pub invariant_of-self : goal.invariant_of-self
invariant_of-self c =
    subst (λ (n : ℕ). IsNumber n c.loop-branch.self-inside.copies.current) (sym c.loop-branch.invariant.number)
    (subst (λ (o : Option Current). IsNumber c.self.inside.number o) (sym (ap (λ (d : CopiesData). d.current) c.loop-branch.invariant.copies))
    c.self.invariant)

pub invariant_of-self-in_err-push : goal.invariant_of-self-in_err-push
invariant_of-self-in_err-push c =
    subst (λ (n : ℕ). IsNumber n c.loop-branch.self-inside.copies.current) (sym c.loop-branch.invariant.number)
    (subst (λ (o : Option Current). IsNumber c.self.inside.number o) (sym (ap (λ (d : CopiesData). d.current) c.loop-branch.invariant.copies))
    c.self.invariant)

pub returns-clause-left : goal.returns-clause-left
returns-clause-left c = λ world number datagram sending.
    let was = c.self.inside in
    let kept : c.loop-branch.self-inside.hops.items ≡ c.self.inside.hops.items ++ map (hop_at c.args.node) c.args.branches.now =
    c.loop-branch.invariant.hops
    ∙ ap (λ (branches : List Branch). c.self.inside.hops.items ++ map (hop_at c.args.node) branches)
    (take_all c.loop-branch.branch-index c.args.branches.now c.loop-branch-test.false) in
    subst (λ (view : DatagramsView). IsSending (with_branches c.args.node 255 number c.args.branches.now world) number datagram view)
    (λ i. record {
      copies = sym c.loop-branch.invariant.copies i;
      count = sym c.loop-branch.invariant.count i;
      hops = c.loop-branch.self-inside.hops.items;
    })
    (entered_sending world was.copies was.count number was.hops.items c.loop-branch.self-inside.hops.items datagram c.args.node c.args.branches.now
    kept (subst (IsSending world number datagram) (sym c.self.view_is) sending))

pub returns-clause-lines : goal.returns-clause-lines
returns-clause-lines c = λ world number datagram sending.
    told_lines c.args.lines.now c.leave_at.new.lines c.tell_hops.new.lines c.args.node 255 number c.self.inside.count c.args.octets.now
    c.args.octets.now c.args.outs.now c.args.branches.now
    (sym (subst (IsSending world number datagram) (sym c.self.view_is) sending).number_is) refl
    c.in_ok-leave_at.ensures c.in_ok-tell_hops.ensures
