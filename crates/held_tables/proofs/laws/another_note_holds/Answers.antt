use Rattle.std.proofs.Common.{◌∙◌, sym}
use Rattle.vrf_words.proofs.edge_words.held_laws.Calls.{unnoted_beside}
use Rattle.held_tables.proofs.laws.another_note_holds.Goals as goal

pub returns : goal.returns
returns c = λ place control own iface source group tables rules a of beside hold peer table at.
    hold peer table at ∙ sym (unnoted_beside place rules peer control own a iface source group of beside)
