-- The tunnel of a datagram, by what the tree of its VRF answers.
use Rattle.std.proofs.Common.{◌≡◌, ◌&&◌, Bool, true, false, cond, Some, None, refl, sym, ap, ◌∙◌}
use Rattle.mldp.specs.declared.mldp_fec.fec.Fec.{Fec}
use Rattle.mv_base.specs.core_walks.Core.{Core}
use Rattle.vrf_words.specs.declared.tree_defs.flow.Flow.{Flow}
use Rattle.vrf_words.specs.declared.tree_defs.flow.Origin.{Origin}
use Rattle.vrf_words.specs.tree_defs.Flows.{chosen_for, is_from}
use Rattle.vrf_words.specs.tree_defs.Trees.{TreeData}
use Rattle.edge_routes.specs.edge_home.Home.{Home, place_of}
use Rattle.vrf_words.specs.tree_laws.Joined.{has_join, tunnel_for}
use Rattle.edge_routing.specs.edge_datagrams.Datagrams.{tunnel_from}

some_where : {X : Type 0} (a b : Bool) (x : X) → a ≡ true → b ≡ true → Some x ≡ cond (a && b) (Some x) None
some_where true true x h k = refl
some_where true false x h k = absurd cc
some_where false b x h k = absurd cc

none_first : {X : Type 0} (a b : Bool) (x : X) → a ≡ false → None ≡ cond (a && b) (Some x) None
none_first true b x h = absurd cc
none_first false b x h = refl

none_second : {X : Type 0} (a b : Bool) (x : X) → b ≡ false → None ≡ cond (a && b) (Some x) None
none_second true true x h = absurd cc
none_second true false x h = refl
none_second false b x h = refl

module _ (home : Home) (walks : Core) (tree : TreeData) (from : Origin) (flow : Flow) where
  abbrev accepts : Bool
  accepts = is_from from (chosen_for tree.vrf.routes (walks.cost home.me) flow)

  pub tunnel_some : (accepted joined : Bool) (fec : Fec) → accepted ≡ accepts → accepted ≡ true → joined ≡ has_join tree flow → joined ≡ true
      → fec ≡ tunnel_for (place_of home walks) tree flow
      → Some fec ≡ tunnel_from (place_of home walks) tree from flow
  tunnel_some accepted joined fec is a has j e =
      ap (λ (f : Fec). Some f) e ∙ some_where accepts (has_join tree flow) (tunnel_for (place_of home walks) tree flow) (sym is ∙ a) (sym has ∙ j)

  pub not_accepted : (accepted : Bool) → accepted ≡ accepts → accepted ≡ false → None ≡ tunnel_from (place_of home walks) tree from flow
  not_accepted accepted is a = none_first accepts (has_join tree flow) (tunnel_for (place_of home walks) tree flow) (sym is ∙ a)

  pub not_joined : (joined : Bool) → joined ≡ has_join tree flow → joined ≡ false → None ≡ tunnel_from (place_of home walks) tree from flow
  not_joined joined has j = none_second accepts (has_join tree flow) (tunnel_for (place_of home walks) tree flow) (sym has ∙ j)
