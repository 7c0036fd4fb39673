use Rattle.std.proofs.Common.{sym, ◌∙◌}
use Rattle.vrf_words.specs.tree_defs.Keys.{same_flow}
use Rattle.vrf_words.specs.declared.tree_defs.flow.Note.{Note}
use Rattle.vrf_words.proofs.tree_defs.KeyLemmas.{note_exact, note_ties, note_total, same_note}
use Rattle.vrf_flows.specs.State.{is_noted_in}
use Rattle.vrf_flows.proofs.SetLemmas.{any-items}
use Rattle.vrf_flows.proofs.state.State.is_noted.Goals as goal

pub returns : goal.returns
returns c =
    c.is_noted.ensures ∙ ((λ i. is_noted_in (c.as_slice.ensures.keys i) c.args.flow)
    ∙ sym (any-items note_total note_exact same_note note_ties (λ (note : Note). same_flow note.flow c.args.flow) c.args.self.now.notes.keys))
