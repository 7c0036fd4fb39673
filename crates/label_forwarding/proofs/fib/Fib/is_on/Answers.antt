use Rattle.std.proofs.Common.{◌∙◌, ap, sym}
use Rattle.label_forwarding.specs.FibData.{FibData, is_on}
use Rattle.label_forwarding.proofs.FibLemmas.{on_slot, off_slot}
use Rattle.label_forwarding.proofs.fib.Fib.is_on.Goals as goal

pub returns-in-Some : goal.returns-in-Some
returns-in-Some c =
    c.is_on.ensures
    ∙ (on_slot c.self.inside.pairs c.self.inside.slots c.self.invariant c.args.fec.now c.in-Some.slot.now (sym c.in-Some.ensures.value)
    ∙ ap (λ (f : FibData). is_on f c.args.fec.now) c.self.view_is)

pub returns-in-None : goal.returns-in-None
returns-in-None c =
    off_slot c.self.inside.pairs c.self.inside.slots c.self.invariant c.args.fec.now (sym c.in-None.ensures.value)
    ∙ ap (λ (f : FibData). is_on f c.args.fec.now) c.self.view_is
