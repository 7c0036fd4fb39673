use Rattle.std.proofs.Common.{Bool, List, refl, ap, ◌∙◌}
use Rattle.mvpn_audit.specs.Judging.{repeat_in}
use Rattle.mvpn_audit.proofs.ReadLemmas.{said_by, earlier_by, out_read, pass_read}
use Rattle.mvpn_audit.proofs.judging.Reading.take.Goals as goal

pub leave-requires-clause-said : goal.leave-requires-clause-said
leave-requires-clause-said c =
    said_by c.args.case.now.report.now.lines c.args.place c.args.numbered.now c.requires.at c.in-Out.number c.in-Out.iface c.in-Out.bytes c.in-Out.is

pub returns-in_ok-leave-in-Out : goal.returns-in_ok-leave-in-Out
returns-in_ok-leave-in-Out c =
    out_read c.args.case.now c.requires.is c.args.place c.args.numbered.now c.requires.at c.in-Out.number c.in-Out.iface c.in-Out.bytes c.in-Out.is
    c.args.self.now c.leave.new.self
    (record { event = c.next_event.result; number = c.in-Out.number; iface = c.in-Out.iface; bytes = c.as_slice.result }) c.repeat_in-earlier.result
    c.next_event.ensures refl refl c.as_slice.ensures
    (c.repeat_in-earlier.ensures
    ∙ (ap (λ (l : List Bool). repeat_in l c.args.place) c.as_slice-in-Out.ensures
    ∙ earlier_by c.args.case.now.report.now.lines c.args.findings.now.outs.repeats c.requires.found.repeats c.args.place c.args.numbered.now
    c.requires.at c.in-Out.number c.in-Out.iface c.in-Out.bytes c.in-Out.is))
    c.in_ok-leave-in-Out.ensures c.requires.read

pub returns-in_default : goal.returns-in_default
returns-in_default c =
    pass_read c.args.case.now c.requires.is c.args.place c.args.numbered.now c.requires.at
    (λ number iface octets e. c.in_default.not-Out number iface octets e)
    c.args.self.now c.pass.new.self c.pass.ensures c.requires.read
