use Rattle.std.proofs.Common.{◌∙◌}
use Rattle.pim_state.specs.Index.{is_listed}
use Rattle.pim_state.proofs.IndexLemmas.{back-again, changed-keys}
use Rattle.pim_state.proofs.index.list_all.Goals as goal

pub returns-in-Err-clause-same : goal.returns-in-Err-clause-same
returns-in-Err-clause-same c = λ at.
    c.unlist_gone.ensures at
    ∙ back-again c.args.changes.now.entries at (is_listed c.args.index.now at) (is_listed c.list_each.new.index at) _ _
    (c.list_each.ensures.some at) (c.requires at) (changed-keys c.args.changes.now.entries at)
