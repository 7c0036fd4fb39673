use Rattle.std.proofs.Common.{ap, sym, ◌∙◌}
use Rattle.std.specs.FinSet as sets
use Rattle.label_defs.proofs.KeyLemmas.{fec_cmp_exact, fec_cmp_total}
use Rattle.vrf_words.specs.tree_defs.Trees.{TreeData}
use Rattle.vrf_flows.proofs.SetLemmas.{listed}
use Rattle.vrf_trees.specs.Wants.{is_fec, tunnels_in}
use Rattle.vrf_trees.proofs.TableLemmas.{fec_ties}
use Rattle.vrf_trees.proofs.tree.VrfTree.is_wanted.Goals as goal

pub returns : goal.returns
returns c =
    c.is_wanted.ensures
    ∙ (sym (listed fec_cmp_total fec_cmp_exact is_fec fec_ties (tunnels_in c.self.inside.wants.entries) c.args.fec.now)
    ∙ ap (λ (t : TreeData). sets.contains t.wants c.args.fec.now) c.self.view_is)
