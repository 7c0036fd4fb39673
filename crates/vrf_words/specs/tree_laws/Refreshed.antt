-- The tree of a VRF with other flows.
use Rattle.std.specs.FinMap.{FinMap}
use Rattle.std.specs.FinSet as sets
use Rattle.umh_select.specs.declared.route.Choice.{Choice}
use Rattle.vrf_words.specs.tree_defs.Keys.{flow_cmp}
use Rattle.vrf_words.specs.tree_defs.Trees.{TreeData, wanted_by}

-- with these flows, and what they want
abbrev pub with_flows : TreeData → FinMap flow_cmp Choice → TreeData
with_flows tree flows = record tree { vrf = record tree.vrf { flows = flows }; wants = sets.from_list (wanted_by tree.leaf flows) }
