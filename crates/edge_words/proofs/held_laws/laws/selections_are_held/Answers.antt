use Rattle.edge_words.proofs.held_laws.Calls.{selected_more, selected_less}
use Rattle.edge_words.proofs.held_laws.laws.selections_are_held.Goals as goal

pub returns : goal.returns
returns c = record {
  selected = λ place control peer own pattern selected rules a. selected_more place rules peer control own a pattern selected;
  gone = λ place control peer own pattern rules a. selected_less place rules peer control own a pattern;
}
