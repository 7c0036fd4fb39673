use Rattle.std.proofs.Common.{ap, ◌∙◌}
use Rattle.bgp_messages.specs.declared.bgp_attributes.update.Change.TheVariants.{Unreach}
use Rattle.edge_defs.specs.Steps.{taken_change}
use Rattle.edge_tables.specs.taken_tables.Tables.{Tables, changed_at}
use Rattle.edge_tables.proofs.taken_tables.tables.TakenTables.forget.Goals as goal

pub returns : goal.returns
returns c = λ now.
    c.forget_from.ensures.forgot now
    ∙ ap (λ (tables : Tables). changed_at c.args.peer (λ taken. taken_change now taken (Unreach c.args.key.now)) tables) c.self.view_is
