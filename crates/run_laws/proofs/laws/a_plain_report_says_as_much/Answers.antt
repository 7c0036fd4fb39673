use Rattle.run_laws.proofs.Plain.{plain_lines, kept_lines, same_refused, same_safe, same_once}
use Rattle.run_laws.proofs.laws.a_plain_report_says_as_much.Goals as goal

pub returns-clause-lines : goal.returns-clause-lines
returns-clause-lines c = plain_lines

pub returns-clause-kept : goal.returns-clause-kept
returns-clause-kept c = kept_lines

pub returns-clause-refused : goal.returns-clause-refused
returns-clause-refused c = same_refused

pub returns-clause-safe : goal.returns-clause-safe
returns-clause-safe c = same_safe

pub returns-clause-once : goal.returns-clause-once
returns-clause-once c = same_once
