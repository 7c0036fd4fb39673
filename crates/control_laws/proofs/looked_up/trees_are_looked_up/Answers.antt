use Rattle.control_laws.proofs.Parts.{choice_back, entry_at, entry_nowhere, flow_at, flow_nowhere, note_at, note_nowhere, parts_of, selection_nowhere, selections_among}
use Rattle.control_laws.proofs.looked_up.trees_are_looked_up.Goals as goal

pub returns-clause-entries : goal.returns-clause-entries
returns-clause-entries c = λ kept it at trees a h. entry_at kept (parts_of kept trees) it a at h

pub returns-clause-no_entry : goal.returns-clause-no_entry
returns-clause-no_entry c = λ kept at trees h. entry_nowhere kept (parts_of kept trees) at h

pub returns-clause-notes : goal.returns-clause-notes
returns-clause-notes c = λ kept it note trees a h. note_at kept (parts_of kept trees) it a note h

pub returns-clause-no_note : goal.returns-clause-no_note
returns-clause-no_note c = λ kept note trees h. note_nowhere kept (parts_of kept trees) note h

pub returns-clause-flows : goal.returns-clause-flows
returns-clause-flows c = λ kept it flow trees a. flow_at kept (parts_of kept trees) it a flow

pub returns-clause-no_flow : goal.returns-clause-no_flow
returns-clause-no_flow c = λ kept key trees h. flow_nowhere kept (parts_of kept trees) key h

pub returns-clause-no_selection : goal.returns-clause-no_selection
returns-clause-no_selection c = λ kept key trees h. selection_nowhere kept (parts_of kept trees) key h

pub returns-clause-choices : goal.returns-clause-choices
returns-clause-choices c = choice_back

pub returns-clause-selections : goal.returns-clause-selections
returns-clause-selections c = λ kept it selection trees a. selections_among kept (parts_of kept trees) it a selection
