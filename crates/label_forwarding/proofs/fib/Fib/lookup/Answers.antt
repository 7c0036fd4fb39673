use Rattle.std.proofs.Common.{◌≡◌, ◌∙◌, Some, None, subst, sym}
use Rattle.std.specs.FinMap as maps
use Rattle.label_forwarding.specs.FibData.{FibData, IsEntry, hop}
use Rattle.label_forwarding.proofs.FibLemmas.{pair_seen, not_missing, found_is}
use Rattle.label_forwarding.proofs.OpLemmas.{if_none}
use Rattle.label_forwarding.proofs.fib.Fib.lookup.Goals as goal

pub returns-in_err-fec-clause-none : goal.returns-in_err-fec-clause-none
returns-in_err-fec-clause-none c =
    if_none c.from_residual.result (subst (λ (f : FibData). maps.get f.pairs (hop c.args.from c.args.label) ≡ None) c.self.view_is
    (pair_seen c.self.inside.pairs c.self.inside.slots (hop c.args.from c.args.label) ∙ sym c.in_err-fec.ensures.value))

pub returns-in_err-slot-clause-none : goal.returns-in_err-slot-clause-none
returns-in_err-slot-clause-none c =
    absurd (not_missing c.self.inside.pairs c.self.inside.slots c.self.invariant (hop c.args.from c.args.label) c.in_ok-fec.fec.now
    (sym c.in_ok-fec.ensures.value) (sym c.in_err-slot.ensures.value))

pub returns-clause-noted : goal.returns-clause-noted
returns-clause-noted c =
    subst (λ (f : FibData). (maps.get f.pairs (hop c.args.from c.args.label) ≡ Some c.in_ok-slot.slot.now.entry.fec)
    × IsEntry f c.in_ok-slot.slot.now.entry) c.self.view_is
    (found_is c.self.inside.pairs c.self.inside.slots c.self.invariant (hop c.args.from c.args.label) c.in_ok-fec.fec.now c.in_ok-slot.slot.now
    (sym c.in_ok-fec.ensures.value) (sym c.in_ok-slot.ensures.value))
