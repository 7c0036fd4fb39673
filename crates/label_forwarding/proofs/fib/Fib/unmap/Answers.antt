use Rattle.std.proofs.Common.{◌∙◌, ◌-◌, ap, sym, refl}
use Rattle.std.specs.FinMap as maps
use Rattle.label_forwarding.specs.FibData.{FibData, hop}
use Rattle.label_forwarding.proofs.OpLemmas.{unmap_leaves, one_less, no_label}
use Rattle.label_forwarding.proofs.fib.Fib.unmap.Goals as goal

pub invariant_of-self : goal.invariant_of-self
invariant_of-self c = (
    unmap_leaves c.self.inside.pairs c.forget.new.pairs c.self.inside.slots c.take-slot.new.slots c.give_back.new.slots (hop c.args.from c.args.label)
    c.in-Some.fec c.take-slot.result (record c.take-slot.result { mapped = c.take-slot.result.mapped - 1 }) c.self.invariant
    (record {
      value = c.take-slot.ensures.value;
      others = c.take-slot.ensures.others;
      own = refl;
      each = c.give_back.ensures.each;
      unique =
          c.give_back.ensures.unique;
    })
    c.in-Some.ensures.each c.in-Some.ensures.unique c.in-Some.ensures.counts refl
    (one_less c.self.inside.pairs c.forget.new.pairs c.self.inside.slots c.in-Some.fec c.take-slot.result c.self.invariant
    c.take-slot.ensures.value c.in-Some.ensures.counts)).0

pub returns-in-Some : goal.returns-in-Some
returns-in-Some c = (
    unmap_leaves c.self.inside.pairs c.forget.new.pairs c.self.inside.slots c.take-slot.new.slots c.give_back.new.slots (hop c.args.from c.args.label)
    c.in-Some.fec c.take-slot.result (record c.take-slot.result { mapped = c.take-slot.result.mapped - 1 }) c.self.invariant
    (record {
      value = c.take-slot.ensures.value;
      others = c.take-slot.ensures.others;
      own = refl;
      each = c.give_back.ensures.each;
      unique =
          c.give_back.ensures.unique;
    })
    c.in-Some.ensures.each c.in-Some.ensures.unique c.in-Some.ensures.counts refl
    (one_less c.self.inside.pairs c.forget.new.pairs c.self.inside.slots c.in-Some.fec c.take-slot.result c.self.invariant
    c.take-slot.ensures.value c.in-Some.ensures.counts)).1
    ∙ ap (λ (f : FibData). record f { pairs = maps.remove f.pairs (hop c.args.from c.args.label) }) c.self.view_is

pub returns-in_default : goal.returns-in_default
returns-in_default c =
    (no_label c.self.inside.pairs c.forget.new.pairs c.self.inside.slots (hop c.args.from c.args.label) c.self.invariant
    (sym c.in_default.ensures.value) c.in_default.ensures.unchanged).1
    ∙ ap (λ (f : FibData). record f { pairs = maps.remove f.pairs (hop c.args.from c.args.label) }) c.self.view_is
