-- Trees of which no flow and no route of a peer changed want what their flows want still.
use Rattle.std.proofs.Common.{◌≡◌, ◌↔◌, List, [], ◌∷◌, Option, None, Some, option_map, refl, sym, ap, subst, ◌∙◌}
use Rattle.std.specs.List.{AllByRecursion}
use Rattle.std.specs.FinMap as maps
use Rattle.std.specs.FinMap.{FinMap}
use Rattle.std.specs.FinSet as sets
use Rattle.std.specs.FinSet.{FinSet}
use Rattle.label_defs.specs.Keys.{fec_cmp, node_cmp}
use Rattle.selective.specs.Order.{route_total}
use Rattle.selective.specs.declared.route_key.RouteKey.{RouteKey}
use Rattle.selective.proofs.OrderLemmas.{route_exact}
use Rattle.vrf_words.specs.tree_defs.Trees.{TreeData, wanted_by}
use Rattle.vrf_words.proofs.tree_defs.KeyLemmas.{flow_total, flow_exact}
use Rattle.edge_defs.specs.Edge.{Control, Taken, Upstream, flow_cmp}
use Rattle.edge_defs.specs.Place.{EdgePlace, OwnVrf, vrfs_from}
use Rattle.edge_routes.specs.edge_home.Home.{Home, place_of}
use Rattle.vrf_words.specs.tree_laws.TreeOf.{IsSelectiveAt, IsTreeOf, choice_of, flow_in}
use Rattle.control_laws.specs.Control.{AreTrees, Kept, control_of, own_trees, trees_of}
use Rattle.control_laws.specs.Peers.{IsTreeBetween, as_wanted}
use Rattle.control_laws.proofs.Owned.{of_each}
use Rattle.control_laws.proofs.Parts.{Wants, derived_of, no_core, only_peers, trees_together}
use Rattle.edge_control.specs.Sound.{IsSound, wants_of}
use Rattle.edge_control.proofs.SoundLemmas.{sound_between, sound_full, sound_parts}

-- ---- one tree

one_option : {X : Type 0} (o p : Option X) → ((x : X) → (o ≡ Some x) ↔ (p ≡ Some x)) → o ≡ p
one_option None None same = refl
one_option None (Some x) same = (same x).1 refl
one_option (Some x) p same = sym ((same x).0 refl)

module _ (place : EdgePlace) (old new : Control) (flows : new.flows ≡ old.flows) (peers : new.peers ≡ old.peers) (own : OwnVrf) (was is : TreeData)
    (was_of : IsTreeOf place old own was) (is_of : IsTreeBetween place new own is) where
  same_flows : was.vrf.flows ≡ is.vrf.flows
  same_flows = maps.same_map flow_total flow_exact was.vrf.flows is.vrf.flows
      (λ flow. was_of.flows flow ∙ ap (λ (f : FinMap flow_cmp (Option Upstream)). option_map choice_of (maps.get f (flow_in own.id flow))) (sym flows)
      ∙ sym (is_of.flows flow))

  same_route : (key : RouteKey) → maps.get was.leaf.routes key ≡ maps.get is.leaf.routes key
  same_route key =
      let before = (derived_of place old own was was_of).selective key in
      let thereafter = (derived_of place new own (as_wanted is) is_of).selective key in
      one_option (maps.get was.leaf.routes key) (maps.get is.leaf.routes key) (λ learned. (
        λ h. (thereafter learned).1 (subst (λ (p : FinMap node_cmp Taken). IsSelectiveAt place (only_peers p) own key learned) (sym peers)
            ((before learned).0 h)),
        λ h. (before learned).1 (subst (λ (p : FinMap node_cmp Taken). IsSelectiveAt place (only_peers p) own key learned) peers
            ((thereafter learned).0 h)),
      ))

  same_leaf : was.leaf ≡ is.leaf
  same_leaf =
      let delay = was_of.leaf_delay ∙ sym is_of.leaf_delay in
      let routes = maps.same_map route_total route_exact was.leaf.routes is.leaf.routes same_route in
      λ i. record { delay = delay i; routes = routes i }

  wants_still : is.wants ≡ was.wants → is.wants ≡ sets.from_list (wanted_by is.leaf is.vrf.flows)
  wants_still same = same ∙ was_of.wants ∙ (λ i. sets.from_list (wanted_by (same_leaf i) (same_flows i)))

-- ---- all of them

one_wants : (x y : FinSet fec_cmp) (xs ys : List (FinSet fec_cmp)) → x ∷ xs ≡ y ∷ ys → (x ≡ y) × (xs ≡ ys)
one_wants x y xs ys e = (cc, cc)

all_want : (place : EdgePlace) (old new : Control) → new.flows ≡ old.flows → new.peers ≡ old.peers → (owns : List OwnVrf) (was is : List TreeData)
    → wants_of is ≡ wants_of was
    → AllByRecursion (λ it. IsTreeOf place old it.own it.tree) (own_trees owns was)
    → AllByRecursion (λ it. IsTreeBetween place new it.own it.tree) (own_trees owns is)
    → AllByRecursion Wants (own_trees owns is)
all_want place old new flows peers [] was is same before thereafter = tt
all_want place old new flows peers (own ∷ owns) was [] same before thereafter = tt
all_want place old new flows peers (own ∷ owns) [] (tree ∷ is) same before thereafter = absurd cc
all_want place old new flows peers (own ∷ owns) (one ∷ was) (tree ∷ is) same before thereafter =
    let both = one_wants tree.wants one.wants (wants_of is) (wants_of was) same in (
      wants_still place old new flows peers own one tree before.0 thereafter.0 both.0,
      all_want place old new flows peers owns was is both.1 before.1 thereafter.1,
    )

-- where no flow and no route changed, the trees want what their flows want, as before
pub still_trees : (old new : Kept) → new.home ≡ old.home → (control_of new).flows ≡ (control_of old).flows → new.peers ≡ old.peers
    → wants_of new.trees ≡ wants_of old.trees → IsSound new
    → AreTrees old → AreTrees new
still_trees old new home flows peers wants sound trees =
    let before =
    subst (λ (h : Home). AllByRecursion (λ it. IsTreeOf (place_of h no_core) (control_of old) it.own it.tree)
    (own_trees (vrfs_from h.me 0 h.scenario.vrfs) old.trees)) (sym home) (trees.each no_core) in
    let all =
    all_want (place_of new.home no_core) (control_of old) (control_of new) flows peers (vrfs_from new.home.me 0 new.home.scenario.vrfs) old.trees
    new.trees wants before ((sound_between new sound).each no_core) in
    trees_together new (sound_full new sound) (sound_parts new sound) (λ it a. of_each Wants (trees_of new) all it a)
