use Rattle.std.proofs.Common.{◌||◌, Bool, ◌∙◌, ap}
use Rattle.std.specs.List.{list_any}
use Rattle.std.specs.Ordering.{eq_by_cmp}
use Rattle.std.proofs.lemmas.List.Folds.{list_any-append}
use Rattle.std.proofs.lemmas.Result.{on_ok_weaker}
use Rattle.label_defs.specs.Keys.{branch_cmp}
use Rattle.label_trees.specs.Loss.{branches_to}
use Rattle.label_trees.proofs.LossLemmas.{tree_loses}
use Rattle.label_trees.proofs.loss.push_lost.Goals as goal

pub returns : goal.returns
returns c = λ own. on_ok_weaker c.push_branches.result (λ is.
    ap (list_any (eq_by_cmp branch_cmp own)) is
    ∙ (list_any-append (eq_by_cmp branch_cmp own) c.args.found.now.items (branches_to c.args.peer c.args.fec.now c.push.result.now)
    ∙ ap (λ (b : Bool). list_any (eq_by_cmp branch_cmp own) c.args.found.now.items || b)
    (tree_loses c.args.fib.now c.args.peer c.args.fec.now c.push.result.now c.push.ensures own)))
    c.push_branches.ensures
