-- Label nodes of the tests.
use Rattle.std.specs.Prelude.{◌≡◌, ℕ, true, List, [], ◌∷◌}
use Rattle.mv_base.specs.declared.addr.Addr.{Addr}
use Rattle.mv_base.specs.declared.addr.Addr.TheVariants.{V4}
use Rattle.mv_base.specs.declared.ids.NodeId.{NodeId}
use Rattle.mldp.specs.declared.mldp_fec.fec.Fec.{Fec}
use Rattle.mldp.specs.mldp_msgs.Spelling.{IsElement}
use Rattle.label_defs.specs.Node.{NodePlace, is_p2mp}

-- the address of the root
abbrev pub root_addr : Addr
root_addr = V4 (192 ∷ 0 ∷ 2 ∷ 1 ∷ [])

-- the addresses of the three nodes
abbrev pub three_addrs : List Addr
three_addrs = root_addr ∷ V4 (192 ∷ 0 ∷ 2 ∷ 2 ∷ []) ∷ V4 (192 ∷ 0 ∷ 2 ∷ 9 ∷ []) ∷ []

-- a tree of the first node
pub record IsTree (tree : Fec) : Type 0 where
  pub kind : is_p2mp tree.kind ≡ true
  pub root : tree.root ≡ root_addr
  pub spelled : IsElement tree

-- it is that one of three nodes, its core is of three nodes, and it has such a tree
pub record IsSite (me : NodeId) (place : NodePlace) (nodes : ℕ) (tree : Fec) : Type 0 where
  pub me_is : place.me ≡ me
  pub addrs : place.addrs ≡ three_addrs
  pub nodes_are : nodes ≡ 3
  pub tree_is : IsTree tree
