use Rattle.std.proofs.Common.{◌∙◌}
use Rattle.edge_tables.proofs.taken_tables.WaitLemmas.{delayed_is}
use Rattle.edge_tables.proofs.taken_tables.running.is_delayed.Goals as goal

pub returns : goal.returns
returns c = c.is_of_type.ensures ∙ delayed_is c.args.key.now c.show_spelled.ensures
