-- Which tunnels the trees of an edge's VRFs want.
use Rattle.std.specs.Prelude.{◌≡◌, true, List, [], ◌∷◌}
use Rattle.std.specs.FinSet as sets
use Rattle.mv_base.specs.Lists.{Among}
use Rattle.selective_defs.specs.mldp.declared.mldp_fec.fec.Fec.{Fec}
use Rattle.vrf_words.specs.tree_defs.Trees.{TreeData}
use Rattle.edge_words.specs.edge_defs.Edge.{Control}
use Rattle.edge_words.specs.edge_defs.Place.{EdgePlace, OwnVrf}
use Rattle.vrf_words.specs.tree_laws.TreeOf.{IsTreeOf}

-- The trees are those of the VRFs, one of each, in their order.
abbrev pub AreTreesOf : EdgePlace → Control → List OwnVrf → List TreeData → Type 0
AreTreesOf place control [] [] = Unit {0}
AreTreesOf place control (own ∷ vrfs) (tree ∷ trees) = IsTreeOf place control own tree × AreTreesOf place control vrfs trees
AreTreesOf place control [] (tree ∷ trees) = ⊥
AreTreesOf place control (own ∷ vrfs) [] = ⊥

-- One of the trees wants the tunnel.
pub record IsWantedIn (trees : List TreeData) (fec : Fec) : Type 0 where
  pub tree : TreeData
  pub among : Among tree trees
  pub wants : sets.contains tree.wants fec ≡ true
