use Rattle.std.proofs.Common.{◌∙◌, ap, sym}
use Rattle.std.specs.FinSet as sets
use Rattle.label_forwarding.specs.FibData.{FibData}
use Rattle.label_forwarding.proofs.SlotLemmas.{leaf_of, leaf_seen}
use Rattle.label_forwarding.proofs.fib.Fib.is_leaf.Goals as goal

pub returns-in-Some : goal.returns-in-Some
returns-in-Some c =
    sym (leaf_seen c.self.inside.slots.entries c.self.invariant.one_slot c.args.fec.now ∙ ap leaf_of (sym c.in-Some.ensures.value))
    ∙ ap (λ (f : FibData). sets.contains f.leaves c.args.fec.now) c.self.view_is

pub returns-in-None : goal.returns-in-None
returns-in-None c =
    sym (leaf_seen c.self.inside.slots.entries c.self.invariant.one_slot c.args.fec.now ∙ ap leaf_of (sym c.in-None.ensures.value))
    ∙ ap (λ (f : FibData). sets.contains f.leaves c.args.fec.now) c.self.view_is
