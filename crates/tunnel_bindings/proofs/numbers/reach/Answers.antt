use Rattle.std.proofs.Common.{◌≡◌, ◌∙◌, ◌+◌, ◌-◌, ◌<◌, ◌≤◌, ◌*◌, ◌++◌, ◌∷◌, [], ℕ, List, length, replicate, vec_capacity, ap, arith, rules}
use Rattle.tunnel_bindings.specs.declared.state.LabelState.{LabelState}
use Rattle.tunnel_bindings.specs.declared.state.LabelState.TheVariants.{Free}
use Rattle.tunnel_bindings.specs.Numbers.{AreMarked}
use Rattle.tunnel_bindings.specs.Marks.{marked}
use Rattle.tunnel_bindings.proofs.MarksLemmas.{marked-length}
use Rattle.tunnel_bindings.proofs.NumbersLemmas.{written_next, next-marked}
use Rattle.tunnel_bindings.proofs.numbers.reach.Goals as goal

pub written-preserved : goal.written-preserved
written-preserved c =
    let states = c.written.states.items in
    let test : length states ≤ c.args.number = search rules in
    let items : c.push.new.self.items ≡ states ++ Free ∷ [] = search rules in
    let room : vec_capacity c.written.states ≤ vec_capacity c.push.new.self = c.push.ensures.capacity in
    let old = c.written.invariant in
    let at : c.len-in-written.result ≡ length states = search rules in
    let marks : c.insert.new.self ≡ marked c.written.free (length states) =
    c.insert.ensures ∙ ap (λ (n : ℕ). marked c.written.free n) at in
    let fits : length states < 64 * length c.written.free = omega (arith, test, c.requires.marks, old.marks) in
    record {
      rest = rw items (written_next states (c.args.number + 1) (omega (arith, test)) ∙ old.rest);
      capacity = omega (arith, room, old.capacity);
      marks = rw marks (marked-length c.written.free (length states) ∙ old.marks);
      marked = rw (items, marks) (next-marked states c.written.free fits old.marked);
    }
