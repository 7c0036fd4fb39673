use Rattle.std.proofs.Common.{sym, ◌∙◌}
use Rattle.vrf_words.proofs.tree_defs.KeyLemmas.{note_exact, note_ties, note_total, same_note}
use Rattle.vrf_flows.proofs.SetLemmas.{listed}
use Rattle.vrf_flows.proofs.state.State.noted.Goals as goal

pub returns : goal.returns
returns c = c.contains.ensures ∙ sym (listed note_total note_exact same_note note_ties c.args.self.now.notes.keys c.args.note.now)
