use Rattle.growth_laws.specs.network_defs.Nodes.{part_of}
use Rattle.growth_laws.specs.Labels.{labels_held}
use Rattle.made_laws.specs.MadeScript.{made_script}
use Rattle.made_laws.proofs.GrowLemmas.{few_labels}
use Rattle.made_laws.proofs.growing.made_nodes_hold_few_labels.Goals as goal

pub returns : goal.returns
returns c = λ cores number count trace new node run.
    few_labels number count (labels_held (part_of (new.network.state.node node)))
    (c.growing_nodes_hold_few_labels.ensures cores (made_script number) count trace new node (c.made_scripts_meet_the_rules.ensures.rules number)
    (c.made_scripts_meet_the_rules.ensures.octets number)
    (c.made_scripts_only_grow.ensures number) run)
