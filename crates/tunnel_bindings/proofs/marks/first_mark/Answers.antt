use Rattle.std.proofs.Common.{rules, slice_index, refl}
use Rattle.tunnel_bindings.proofs.MarksLemmas.{first_within}
use Rattle.tunnel_bindings.proofs.marks.first_mark.Goals as goal

pub returns-clause-some : goal.returns-clause-some
returns-clause-some c =
    first_within c.args.words.now c.in_ok-word.word (slice_index c.args.words.now c.in_ok-word.word) (search rules) refl (search rules)
