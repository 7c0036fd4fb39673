-- Maps by node, as they are kept.
use Rattle.std.specs.Prelude.{ℕ, Bool, List, [], None, Some}
use Rattle.std.specs.declared.hash.FoldHasher.{FoldHasher}
use Rattle.std.specs.declared.hash.BuildHasherDefault.{BuildHasherDefault}
use Rattle.indexmap.specs.IndexMap.{IndexMap, get}
use Rattle.mv_base.specs.declared.ids.NodeId.{NodeId}
use Rattle.mv_base.specs.contracts.ids.NodeIdPartialEq.TheImpl as nodes_equal

abbrev pub NodeMap : Type 0 → Type 0
NodeMap X = IndexMap NodeId X (BuildHasherDefault FoldHasher)

-- whether both are one node, as `==` tells it
abbrev pub is_node : NodeId → NodeId → Bool
is_node = nodes_equal.ghosts.eq

-- the octets that are kept for the node
abbrev pub octets_at : NodeMap (List ℕ) → NodeId → List ℕ
octets_at kept node = elim (get is_node kept node) [ None ↦ [] | Some octets ↦ octets ]

-- how often the end of the session with the node came up, as it is kept
abbrev pub raises_at : NodeMap ℕ → NodeId → ℕ
raises_at kept node = elim (get is_node kept node) [ None ↦ 0 | Some count ↦ count ]
