use Rattle.control_laws.proofs.CustomersCounts.{entries_counted, entries_due, notes_counted, selections_counted, selections_due}
use Rattle.control_laws.proofs.Parts.{full_of, parts_of}
use Rattle.control_laws.proofs.customers.customers_are_counted.Goals as goal

pub returns-clause-entries : goal.returns-clause-entries
returns-clause-entries c = λ kept trees. entries_counted kept (full_of kept trees) (parts_of kept trees)

pub returns-clause-entries_due : goal.returns-clause-entries_due
returns-clause-entries_due c = λ kept now trees. entries_due kept (full_of kept trees) (parts_of kept trees) now

pub returns-clause-notes : goal.returns-clause-notes
returns-clause-notes c = λ kept trees. notes_counted kept (full_of kept trees) (parts_of kept trees)

pub returns-clause-selections : goal.returns-clause-selections
returns-clause-selections c = λ kept trees single. selections_counted kept (full_of kept trees) (parts_of kept trees) single

pub returns-clause-selections_due : goal.returns-clause-selections_due
returns-clause-selections_due c = λ kept now trees single. selections_due kept (full_of kept trees) (parts_of kept trees) single now
