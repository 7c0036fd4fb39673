use Rattle.std.proofs.Common.{◌∙◌, ap, List}
use Rattle.std.proofs.lemmas.Result.{IfOk-weaker}
use Rattle.mldp.specs.declared.mldp_fec.fec.Fec.{Fec}
use Rattle.std.specs.FinSet as sets
use Rattle.label_defs.specs.Keys.{fec_cmp}
use Rattle.label_defs.specs.Members.{in_order}
use Rattle.edge_core.proofs.ListedLemmas.{leaves_listed}
use Rattle.edge_core.proofs.lists.leaf_trees.Goals as goal

pub returns : goal.returns
returns c = IfOk-weaker c.in_order.result _ _ (λ fecs is.
    is ∙ ap in_order (ap (λ (list : List Fec). sets.from_list {R = fec_cmp} list) c.keep_leaves.ensures
    ∙ leaves_listed c.args.fib.now c.in_ok-trees.trees.items c.in_ok-trees.ensures)) c.in_order.ensures
