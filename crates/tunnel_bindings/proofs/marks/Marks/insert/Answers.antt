use Rattle.std.proofs.Common.{length, drop, rules}
use Rattle.tunnel_bindings.proofs.MarksLemmas.{used-insert, whole}
use Rattle.tunnel_bindings.proofs.marks.Marks.insert.Goals as goal

pub invariant_of-self : goal.invariant_of-self
invariant_of-self c =
    let words = c.self.inside.words in
    let used = c.self.inside.used in
    rw (
      whole words.len c.mark.new.words (drop (length c.mark.new.words) words.items) (search rules),
      whole used.len c.mark-2.new.words (drop (length c.mark-2.new.words) used.items) (search rules),
    ) (
    rw (c.mark.ensures, c.mark-2.ensures, c.deref_mut.ensures.value, c.deref_mut-2.ensures.value)
    (used-insert words.items used.items c.args.number (search rules) c.self.invariant))
