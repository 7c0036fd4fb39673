-- What trees want stays as it is where each call leaves it so.
use Rattle.std.proofs.Common.{◌≡◌, ◌∙◌, ℕ, zero, suc, List, [], ◌∷◌, map, length, Option, Some, None, Result, Ok, Err, OnOk, OnErr, slice_get, slice_set, refl, ap, arith}
use Rattle.std.specs.FinSet.{FinSet}
use Rattle.label_defs.specs.Keys.{fec_cmp}
use Rattle.vrf_words.specs.tree_defs.Trees.{TreeData}
use Rattle.edge_defs.specs.Place.{OwnVrf}
use Rattle.edge_control.specs.Places.{changed_at}
use Rattle.edge_control.specs.Sound.{wants_of}
use Rattle.edge_control.specs.Taking.{turned_all}

-- one of them changes
changed_after : (change : TreeData → TreeData) (n : ℕ) (tree : TreeData) (trees : List TreeData)
    → changed_at (suc n) change (tree ∷ trees) ≡ tree ∷ changed_at n change trees
changed_after change n tree trees = by (slice_get trees n)
  where
    by : (o : Option TreeData) → elim o as (λ _. List TreeData) [ None ↦ tree ∷ trees | Some other ↦ tree ∷ slice_set trees n (change other) ]
        ≡ tree ∷ elim o as (λ _. List TreeData) [ None ↦ trees | Some other ↦ slice_set trees n (change other) ]
    by None = refl
    by (Some other) = refl

pub changed_wants : (change : TreeData → TreeData) → ((tree : TreeData) → (change tree).wants ≡ tree.wants) → (n : ℕ) (trees : List TreeData)
    → wants_of (changed_at n change trees) ≡ wants_of trees
changed_wants change keeps zero [] = refl
changed_wants change keeps zero (tree ∷ trees) = ap (λ (w : FinSet fec_cmp). w ∷ wants_of trees) (keeps tree)
changed_wants change keeps (suc n) [] = refl
changed_wants change keeps (suc n) (tree ∷ trees) =
    ap wants_of (changed_after change n tree trees) ∙ ap (λ (ws : List (FinSet fec_cmp)). tree.wants ∷ ws) (changed_wants change keeps n trees)

-- where the call is made, and as before otherwise
pub wants_either : {X E : Type 0} (result : Result X E) (old trees next : List TreeData) → OnOk result (trees ≡ next) → OnErr result (trees ≡ old)
    → wants_of next ≡ wants_of old
    → wants_of trees ≡ wants_of old
wants_either (Ok x) old trees next ok err same = ap wants_of ok ∙ same
wants_either (Err e) old trees next ok err same = ap wants_of err

-- all of them change
pub turned_wants : (change : OwnVrf → TreeData → TreeData) → ((own : OwnVrf) (tree : TreeData) → (change own tree).wants ≡ tree.wants)
    → (owns : List OwnVrf) (trees : List TreeData)
    → length trees ≡ length owns → wants_of (turned_all change owns trees) ≡ wants_of trees
turned_wants change keeps [] [] same = refl
turned_wants change keeps [] (tree ∷ trees) same = absurd (omega (arith, same))
turned_wants change keeps (own ∷ owns) [] same = refl
turned_wants change keeps (own ∷ owns) (tree ∷ trees) same = λ i. keeps own tree i ∷ turned_wants change keeps owns trees (omega (arith, same)) i

pub mapped_wants : (change : TreeData → TreeData) → ((tree : TreeData) → (change tree).wants ≡ tree.wants) → (trees : List TreeData)
    → wants_of (map change trees) ≡ wants_of trees
mapped_wants change keeps [] = refl
mapped_wants change keeps (tree ∷ trees) = λ i. keeps tree i ∷ mapped_wants change keeps trees i
