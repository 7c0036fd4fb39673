use Rattle.std.proofs.Common.{◌≡◌, ◌∙◌, ap, subst, refl, sym}
use Rattle.std.specs.FinSet as sets
use Rattle.label_forwarding.specs.FibData.{FibData, branch_in}
use Rattle.label_forwarding.proofs.OpLemmas.{branches_keep, unbranch_leaves, no_branch}
use Rattle.label_forwarding.proofs.fib.Fib.unbranch.Goals as goal

pub invariant_of-self : goal.invariant_of-self
invariant_of-self c =
    branches_keep c.self.inside.pairs c.self.inside.slots c.take-slot.new.slots c.give_back.new.slots c.args.fec.now c.take-slot.result
    (record c.take-slot.result { entry = record c.take-slot.result.entry { branches = c.remove.new.self } }) c.self.invariant
    (record {
      value = c.take-slot.ensures.value;
      others = c.take-slot.ensures.others;
      own = refl;
      each = c.give_back.ensures.each;
      unique =
          c.give_back.ensures.unique;
    }) refl

pub returns-then-contains_key : goal.returns-then-contains_key
returns-then-contains_key c =
    unbranch_leaves c.self.inside.pairs c.self.inside.slots c.take-slot.new.slots c.give_back.new.slots c.args.fec.now c.args.branch
    c.take-slot.result (record c.take-slot.result { entry = record c.take-slot.result.entry { branches = c.remove.new.self } }) c.self.invariant
    (record {
      value = c.take-slot.ensures.value;
      others = c.take-slot.ensures.others;
      own = refl;
      each = c.give_back.ensures.each;
      unique =
          c.give_back.ensures.unique;
    }) refl c.remove.ensures
    ∙ ap (λ (f : FibData). record f { branches = sets.remove f.branches (branch_in c.args.fec.now c.args.branch) }) c.self.view_is

pub returns-else-contains_key : goal.returns-else-contains_key
returns-else-contains_key c =
    subst (λ (f : FibData). f ≡ record f { branches = sets.remove f.branches (branch_in c.args.fec.now c.args.branch) }) c.self.view_is
    (no_branch c.self.inside.pairs c.self.inside.slots c.args.fec.now c.args.branch c.self.invariant
    (sym c.contains_key.ensures ∙ c.if-contains_key.false))
