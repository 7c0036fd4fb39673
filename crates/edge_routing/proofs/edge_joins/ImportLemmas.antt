-- The first of the VRFs whose upstream a join is towards, and what the join says by it.
use Rattle.std.proofs.Common.{◌≡◌, ℕ, ◌<◌, ◌≤◌, ◌+◌, Bool, true, false, List, [], ◌∷◌, map, drop, get_or, length, is_some, Option, Some, None, option_map, refl, sym, ap, ◌∙◌}
use Rattle.std.specs.FinMap as maps
use Rattle.std.proofs.lemmas.List.{drop_all, drop_more}
use Rattle.mv_base.specs.Number.{◌>>?◌, only_if}
use Rattle.mv_base.specs.declared.addr.Addr.{Addr}
use Rattle.vrf_words.specs.declared.tree_defs.flow.Upstream.{Upstream}
use Rattle.vrf_words.specs.tree_defs.Flows.{upstream_of}
use Rattle.vrf_words.specs.tree_defs.Trees.{TreeData}
use Rattle.edge_defs.specs.Keys.{Value}
use Rattle.edge_defs.specs.Place.{EdgePlace}
use Rattle.control_laws.specs.Peers.{as_wanted}
use Rattle.vrf_words.specs.tree_laws.Joins.{first_told, is_join_to, join_of, join_value}
use Rattle.held_tables.specs.Joins.{value_towards}
use Rattle.edge_control.specs.vrf_trees.Changes.{flow_in}
use Rattle.edge_control.specs.vrf_trees.declared.changes.TreeJoin.{TreeJoin}
use Rattle.edge_routing.specs.edge_joins.Upstreams.{import_at}

-- ---- the loop that looks for the first one

module _ {X Y : Type 0} (tell : X → Option Y) where
  first_step : (x : X) (xs : List X) (o : Option Y) → tell x ≡ o → first_told tell (x ∷ xs) ≡ (elim o [ None ↦ first_told tell xs | Some y ↦ Some y ])
  first_step x xs o e = ap (λ (t : Option Y). elim t [ None ↦ first_told tell xs | Some y ↦ Some y ]) e

  pub first_more : (xs : List X) (i : ℕ) (d : X) (o : Option Y) → i < length xs → first_told tell xs ≡ first_told tell (drop i xs)
      → o ≡ tell (get_or xs i d) → is_some o ≡ false
      → first_told tell xs ≡ first_told tell (drop (i + 1) xs)
  first_more xs i d None lt was is none =
      was ∙ ap (first_told tell) (drop_more xs i d lt) ∙ first_step (get_or xs i d) (drop (i + 1) xs) None (sym is)
  first_more xs i d (Some y) lt was is none = absurd (let bad : true ≡ false = none in cc)

  pub first_here : (xs : List X) (i : ℕ) (d : X) (o : Option Y) → i < length xs → first_told tell xs ≡ first_told tell (drop i xs)
      → o ≡ tell (get_or xs i d) → is_some o ≡ true
      → o ≡ first_told tell xs
  first_here xs i d None lt was is some = absurd (let bad : false ≡ true = some in cc)
  first_here xs i d (Some y) lt was is some =
      sym (was ∙ ap (first_told tell) (drop_more xs i d lt) ∙ first_step (get_or xs i d) (drop (i + 1) xs) (Some y) (sym is))

  pub first_none : (xs : List X) (i : ℕ) → length xs ≤ i → first_told tell xs ≡ first_told tell (drop i xs) → None ≡ first_told tell xs
  first_none xs i le was = sym (was ∙ ap (first_told tell) (drop_all i xs le))

-- ---- the value of the join

-- what the join says by that import
abbrev pub value_by : EdgePlace → Addr × ℕ → Value
value_by place import = value_towards place (record { addr = import.0; number = import.1 })

module _ (place : EdgePlace) (join : TreeJoin) where
  tells : (up : Option Upstream) → (up >>? λ u. only_if (is_join_to join.edge join.rd join.source_as u) (join_value place u))
      ≡ option_map (value_by place) (up >>? λ u. only_if (is_join_to join.edge join.rd join.source_as u) u.import)
  tells None = refl
  tells (Some up) = by (is_join_to join.edge join.rd join.source_as up)
    where
      by : (b : Bool) → only_if b (join_value place up) ≡ option_map (value_by place) (only_if b up.import)
      by true = refl
      by false = refl

  told_one : (tree : TreeData) → join_of place join.edge join.rd join.source_as (flow_in join) (as_wanted tree)
      ≡ option_map (value_by place) (import_at join tree)
  told_one tree = tells (upstream_of (maps.get tree.vrf.flows (flow_in join)))

  told_next : (tree : TreeData) (trees : List TreeData) (rest : Option Value) (more : Option (Addr × ℕ)) → rest ≡ option_map (value_by place) more
      → (elim (join_of place join.edge join.rd join.source_as (flow_in join) (as_wanted tree)) [ None ↦ rest | Some y ↦ Some y ])
      ≡ option_map (value_by place) (elim (import_at join tree) [ None ↦ more | Some y ↦ Some y ])
  told_next tree trees rest more h = ap (λ (o : Option Value). elim o [ None ↦ rest | Some y ↦ Some y ]) (told_one tree) ∙ by (import_at join tree)
    where
      by : (o : Option (Addr × ℕ)) → (elim (option_map (value_by place) o) [ None ↦ rest | Some y ↦ Some y ])
          ≡ option_map (value_by place) (elim o [ None ↦ more | Some y ↦ Some y ])
      by None = h
      by (Some import) = refl

  pub values_told : (trees : List TreeData) → first_told (join_of place join.edge join.rd join.source_as (flow_in join)) (map as_wanted trees)
      ≡ option_map (value_by place) (first_told (import_at join) trees)
  values_told [] = refl
  values_told (tree ∷ trees) =
      told_next tree trees (first_told (join_of place join.edge join.rd join.source_as (flow_in join)) (map as_wanted trees))
      (first_told (import_at join) trees) (values_told trees)
