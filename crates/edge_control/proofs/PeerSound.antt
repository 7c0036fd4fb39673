-- What an edge keeps is sound where its trees are those between two refreshes.
use Rattle.std.proofs.Common.{◌≡◌, List, [], ◌∷◌, map, length, refl, sym, ap, subst, ◌∙◌}
use Rattle.std.specs.List.{AllByRecursion}
use Rattle.std.proofs.lemmas.List.{length-map}
use Rattle.vrf_words.specs.tree_defs.Trees.{TreeData}
use Rattle.edge_defs.specs.Place.{OwnVrf, vrfs_from}
use Rattle.edge_routes.specs.edge_home.Home.{place_of}
use Rattle.vrf_words.specs.tree_laws.TreeOf.{IsTreeOf}
use Rattle.control_laws.specs.Between.{AreTreesBetween}
use Rattle.control_laws.specs.Control.{AreTrees, Kept, OwnTree, control_of, own_trees, trees_of, with_trees}
use Rattle.control_laws.specs.Peers.{as_wanted}
use Rattle.edge_control.specs.Sound.{IsSound}
use Rattle.edge_control.proofs.SoundLemmas.{sound_between, wanted_control}

abbrev wanted : OwnTree → OwnTree
wanted it = record it { tree = as_wanted it.tree }

trees_wanted : (owns : List OwnVrf) (trees : List TreeData) → own_trees owns (map as_wanted trees) ≡ map wanted (own_trees owns trees)
trees_wanted [] trees = refl
trees_wanted (own ∷ owns) [] = refl
trees_wanted (own ∷ owns) (tree ∷ trees) = ap (λ xs. record { own = own; tree = as_wanted tree } ∷ xs) (trees_wanted owns trees)

all_wanted : {A : Type 0} (f : OwnTree → A) → ((it : OwnTree) → f (wanted it) ≡ f it) → (all : List OwnTree) → map f (map wanted all) ≡ map f all
all_wanted f same [] = refl
all_wanted f same (it ∷ all) = λ i. same it i ∷ all_wanted f same all i

of_each : (P : OwnTree → Type 0) (all : List OwnTree) → AllByRecursion (λ it. P (wanted it)) all → AllByRecursion P (map wanted all)
of_each P [] h = tt
of_each P (it ∷ all) h = (h.0, of_each P all h.1)

map_twice : {A B C : Type 0} (g : B → C) (f : A → B) (xs : List A) → map g (map f xs) ≡ map (λ x. g (f x)) xs
map_twice g f [] = refl
map_twice g f (x ∷ xs) = ap (λ ys. g (f x) ∷ ys) (map_twice g f xs)

module _ (kept : Kept) where
  abbrev owns : List OwnVrf
  owns = vrfs_from kept.home.me 0 kept.home.scenario.vrfs

  theirs : trees_of (with_trees as_wanted kept) ≡ map wanted (trees_of kept)
  theirs = trees_wanted owns kept.trees

  pub wanted_of : AreTreesBetween kept → AreTrees (with_trees as_wanted kept)
  wanted_of between = record {
    each = λ core.
        subst (AllByRecursion (λ (it : OwnTree). IsTreeOf (place_of kept.home core) (control_of (with_trees as_wanted kept)) it.own it.tree))
        (sym theirs)
        (subst (λ control. AllByRecursion (λ (it : OwnTree). IsTreeOf (place_of kept.home core) control it.own it.tree) (map wanted (trees_of kept)))
        (sym (wanted_control kept))
        (of_each (λ it. IsTreeOf (place_of kept.home core) (control_of kept) it.own it.tree) (trees_of kept) (between.each core)));
    full =
        ap (map (λ (it : OwnTree). it.tree)) theirs ∙ map_twice (λ (it : OwnTree). it.tree) wanted (trees_of kept)
        ∙ sym (map_twice as_wanted (λ (it : OwnTree). it.tree) (trees_of kept)) ∙ ap (map as_wanted) between.full;
    all = ap (map (λ (it : OwnTree). it.own)) theirs ∙ all_wanted (λ (it : OwnTree). it.own) (λ it. refl) (trees_of kept) ∙ between.all;
  }

-- as many trees as VRFs
pub as_many : (kept : Kept) → IsSound kept → length kept.trees ≡ length (vrfs_from kept.home.me 0 kept.home.scenario.vrfs)
as_many kept sound =
    let between = sound_between kept sound in
    sym (ap length between.full) ∙ length-map (trees_of kept) (λ (it : OwnTree). it.tree)
    ∙ sym (length-map (trees_of kept) (λ (it : OwnTree). it.own)) ∙ ap length between.all
