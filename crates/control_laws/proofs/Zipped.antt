-- What an edge keeps where each tree is another one, by its relation to the one before.
use Rattle.std.proofs.Common.{◌≡◌, suc, inl, inr, List, [], ◌∷◌, map, length, refl, sym, ap, subst, ◌∙◌}
use Rattle.std.specs.List.{AllZip}
use Rattle.std.proofs.lemmas.List.{length-map}
use Rattle.mv_base.specs.Lists.{Among}
use Rattle.vrf_words.specs.tree_defs.Trees.{TreeData}
use Rattle.edge_defs.specs.Place.{OwnVrf}
use Rattle.control_laws.specs.Control.{Kept, OwnTree, own_trees, trees_of}
use Rattle.control_laws.proofs.Gathered.{gathered}
use Rattle.control_laws.proofs.Parts.{AreFull}
use Rattle.control_laws.proofs.Replaced.{still_full}

-- the second is a tree of the same VRF, and is so related to the first
pub record Stands (R : OwnTree → TreeData → Type 0) (it new : OwnTree) : Type 0 where
  pub own : new.own ≡ it.own
  pub is : R it new.tree

pub zipped : (R : OwnTree → TreeData → Type 0) (owns : List OwnVrf) (trees others : List TreeData) → AllZip R (own_trees owns trees) others
    → AllZip (Stands R) (own_trees owns trees) (own_trees owns others)
zipped R [] trees others h = tt
zipped R (own ∷ owns) [] [] h = tt
zipped R (own ∷ owns) [] (other ∷ others) h = absurd h
zipped R (own ∷ owns) (tree ∷ trees) [] h = absurd h
zipped R (own ∷ owns) (tree ∷ trees) (other ∷ others) h = (record { own = refl; is = h.0 }, zipped R owns trees others h.1)

pub zip_back : {X Y : Type 0} (R : X → Y → Type 0) (xs : List X) (ys : List Y) → AllZip R xs ys → (y : Y) → Among y ys → (x : X) × Among x xs × R x y
zip_back R [] [] h y a = absurd a
zip_back R [] (z ∷ ys) h y a = absurd h
zip_back R (x ∷ xs) [] h y a = absurd h
zip_back R (x ∷ xs) (z ∷ ys) h y (inl e) = (x, inl refl, subst (R x) (sym e) h.0)
zip_back R (x ∷ xs) (z ∷ ys) h y (inr a) = let (found, among, is) = zip_back R xs ys h.1 y a in (found, inr among, is)

pub gathered_zip : {A B X : Type 0} (none : X) (or : X → X → X) (R : A → B → Type 0) (one : A → X) (other : B → X)
    → ((x : A) (y : B) → R x y → other y ≡ one x)
    → (xs : List A) (ys : List B) → AllZip R xs ys → gathered none or other ys ≡ gathered none or one xs
gathered_zip none or R one other same [] [] h = refl
gathered_zip none or R one other same [] (y ∷ ys) h = absurd h
gathered_zip none or R one other same (x ∷ xs) [] h = absurd h
gathered_zip none or R one other same (x ∷ xs) (y ∷ ys) h = λ i. or (same x y h.0 i) (gathered_zip none or R one other same xs ys h.1 i)

-- of what is changed first
pub zip_map : {X Y Z : Type 0} (R : Y → Z → Type 0) (f : X → Y) (xs : List X) (zs : List Z) → AllZip R (map f xs) zs → AllZip (λ x z. R (f x) z) xs zs
zip_map R f [] [] h = tt
zip_map R f [] (z ∷ zs) h = absurd h
zip_map R f (x ∷ xs) [] h = absurd h
zip_map R f (x ∷ xs) (z ∷ zs) h = (h.0, zip_map R f xs zs h.1)

zip_length : {X Y : Type 0} (R : X → Y → Type 0) (xs : List X) (ys : List Y) → AllZip R xs ys → length ys ≡ length xs
zip_length R [] [] h = refl
zip_length R [] (y ∷ ys) h = absurd h
zip_length R (x ∷ xs) [] h = absurd h
zip_length R (x ∷ xs) (y ∷ ys) h = ap suc (zip_length R xs ys h.1)

pub zip_full : (kept : Kept) (R : OwnTree → TreeData → Type 0) (others : List TreeData) → AreFull kept → AllZip R (trees_of kept) others
    → AreFull (record kept { trees = others })
zip_full kept R others full zip =
    still_full kept others full (zip_length R (trees_of kept) others zip ∙ sym (length-map (trees_of kept) (λ (it : OwnTree). it.tree))
    ∙ ap length full.full)
