use Rattle.std.proofs.Common.{rules, ◌≡◌, min, length, ℕ, List, sym, ap, ◌∙◌}
use Rattle.std.specs.List.{IsDistinct}
use Rattle.std.specs.FinSet as sets
use Rattle.vrf_words.specs.tree_defs.Keys.{note_cmp}
use Rattle.vrf_words.specs.declared.tree_defs.flow.Note.{Note}
use Rattle.vrf_words.proofs.tree_defs.KeyLemmas.{note_exact, note_ties, note_total, same_note}
use Rattle.vrf_flows.proofs.SetLemmas.{len-listed}
use Rattle.vrf_flows.proofs.state.State.count_notes.Goals as goal

count-is : (n : ℕ) (keys : List Note) → IsDistinct same_note keys → n ≡ min (length keys) 4294967295
    → n ≡ min (sets.len (sets.from_list {R = note_cmp} keys)) 4294967295
count-is n keys distinct e = e ∙ ap (λ (k : ℕ). min k 4294967295) (sym (len-listed note_total note_exact same_note note_ties keys distinct))

pub returns : goal.returns
returns c = count-is _ c.args.self.now.notes.keys c.len.ensures.unique (search rules)
