use Rattle.std.proofs.Common.{[], refl, sym, subst}
use Rattle.label_forwarding.specs.FibData.{FibData, AreHops}
use Rattle.label_forwarding.proofs.FibLemmas.{hops_are, no_hops_are}
use Rattle.label_forwarding.proofs.fib.Fib.push.Goals as goal

pub returns-in-Some : goal.returns-in-Some
returns-in-Some c = subst (λ (f : FibData). AreHops f c.args.fec.now c.branches.result.now) c.self.view_is
    (hops_are c.self.inside.pairs c.self.inside.slots c.self.invariant c.args.fec.now c.in-Some.slot.now (sym c.in-Some.ensures.value)
    c.branches.result.now c.branches.ensures)

pub returns-in-None : goal.returns-in-None
returns-in-None c = subst (λ (f : FibData). AreHops f c.args.fec.now []) c.self.view_is
    (no_hops_are c.self.inside.pairs c.self.inside.slots c.self.invariant c.args.fec.now (sym c.in-None.ensures.value) [] refl)
