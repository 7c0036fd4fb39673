-- What a VRF keeps as plain data, and its code, by which a model of it is told apart.
use Rattle.std.specs.Prelude.{◌≡◌, ℕ, [], refl}
use Rattle.std.specs.Coded.{Coded, code_by, coded×}
use Rattle.std.specs.FinMap as maps
use Rattle.std.specs.FinSet as sets
use Rattle.std.specs.FinSet.{FinSet}
use Rattle.mv_base.specs.declared.ids.NodeId.{NodeId}
use Rattle.mv_base.specs.declared.rd.Rule.{Rule}
use Rattle.mldp.specs.contracts.mldp_fec.fec.Fec as fecs
use Rattle.label_defs.specs.Keys.{fec_cmp}
use Rattle.selective.specs.Roots.{Root}
use Rattle.selective.specs.Leaves.{Leaf, leaf_code}
use Rattle.selective.specs.contracts.root.RootTunnels as roots
use Rattle.vrf_words.specs.declared.tree_defs.flow.Flow.{Flow}
use Rattle.vrf_words.specs.tree_defs.Flows.{VrfData, flow_of}
use Rattle.vrf_words.specs.tree_defs.Trees.{TreeData, join_cmp, wanted_by}
use Rattle.vrf_flows.specs.Codes.{vrf_code}
use Rattle.vrf_flows.specs.State.{no_vrf}
use Rattle.vrf_trees.specs.Joined.{joins_code}

abbrev Parts : Type 0
Parts = VrfData × (Root × (Leaf × (FinSet join_cmp × FinSet fec_cmp)))

abbrev pub tree_code : Coded TreeData
tree_code =
    code_by Parts
    (coded× vrf_code (coded× roots.the_row.coded (coded× leaf_code (coded× joins_code (sets.code fecs.the_row.coded)))))
    (λ t. (t.vrf, (t.root, (t.leaf, (t.joined, t.wants)))))
    (λ p. record { vrf = p.0; root = p.1.0; leaf = p.1.1.0; joined = p.1.1.1.0; wants = p.1.1.1.1 })
    (λ _. refl)

-- nothing is kept yet
abbrev pub no_tree : ℕ → Rule → ℕ → TreeData
no_tree number rule delay = record {
  vrf = no_vrf rule;
  root = record { number = number; delay = delay; selections = [] };
  leaf = record { delay = delay; routes = maps.empty };
  joined = sets.empty;
  wants = sets.empty;
}

-- A refresh at the clock changes nothing, whatever the costs of the edges.
pub record IsFresh (now : ℕ) (tree : TreeData) : Type 0 where
  pub flows : (cost : NodeId → ℕ) (flow : Flow) → maps.get tree.vrf.flows flow ≡ flow_of tree.vrf cost now flow
  pub wants : tree.wants ≡ sets.from_list (wanted_by tree.leaf tree.vrf.flows)
