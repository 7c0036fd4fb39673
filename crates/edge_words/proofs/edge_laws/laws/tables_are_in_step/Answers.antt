use Rattle.edge_words.proofs.edge_laws.Tables.{tables_lead, tables_reached, tables_change}
use Rattle.edge_words.proofs.edge_laws.laws.tables_are_in_step.Goals as goal

pub returns-clause-leads : goal.returns-clause-leads
returns-clause-leads c = tables_lead

pub returns-clause-reached : goal.returns-clause-reached
returns-clause-reached c = tables_reached

pub returns-clause-changing : goal.returns-clause-changing
returns-clause-changing c = tables_change
