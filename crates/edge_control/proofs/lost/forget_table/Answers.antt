use Rattle.std.proofs.Common.{sym, ap, ◌∙◌}
use Rattle.edge_control.specs.Taking.{losing_rows}
use Rattle.edge_control.proofs.PeerCalls.{no_table, some_table}
use Rattle.edge_control.proofs.lost.forget_table.Goals as goal

pub returns-in-None : goal.returns-in-None
returns-in-None c = λ core.
    ap (losing_rows c.args.home.now core c.args.peer c.args.trees.now.items)
    (sym (no_table c.args.taken.now c.args.peer c.in-None.ensures.entries))

pub returns-in-Some : goal.returns-in-Some
returns-in-Some c = λ core.
    c.forget_entries.ensures core
    ∙ ap (losing_rows c.args.home.now core c.args.peer c.args.trees.now.items)
    (sym (some_table c.args.taken.now c.args.peer c.in-Some.entries c.in-Some.ensures.entries))
