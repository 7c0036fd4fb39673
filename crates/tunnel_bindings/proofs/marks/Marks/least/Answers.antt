use Rattle.std.proofs.Common.{refl, rules}
use Rattle.tunnel_bindings.proofs.MarksLemmas.{first_within, first_used, word_read}
use Rattle.tunnel_bindings.proofs.marks.Marks.least.Goals as goal

pub returns-clause-some : goal.returns-clause-some
returns-clause-some c =
    let words = c.self.inside.words.items in
    let word = c.in_ok-word.word in
    let first = first_used words c.self.inside.used.items word c.self.invariant (search rules) in
    let read = word_read words words word c.index.result.now c.index.ensures refl first.within in
    rw (← c.self.view_is) (first_within words word c.index.result.now first read (search rules))
