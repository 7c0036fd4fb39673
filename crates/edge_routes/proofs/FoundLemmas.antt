-- The one thing that is found in a list.
use Rattle.std.proofs.Common.{◌≡◌, ℕ, ◌+◌, ◌<◌, List, [], ◌∷◌, ◌++◌, length, take, drop, get_or, take-append-drop, Bool, true, false, Option, Some, None, refl, sym, ap, ◌∙◌}
use Rattle.std.specs.Prelude.{is_some, option_map}
use Rattle.std.proofs.lemmas.List.{take_more}
use Rattle.edge_defs.specs.Imported.{found_in, only_one}

-- nothing, or the one thing
abbrev pub listed : {A : Type 0} → Option A → List A
listed None = []
listed (Some x) = x ∷ []

first : {A B : Type 0} (find : A → Option B) (x : A) (xs : List A) (o : Option B) → find x ≡ o → found_in find (x ∷ xs) ≡ listed o ++ found_in find xs
first find x xs None e = ap (λ (o : Option _). elim o [ None ↦ found_in find xs | Some found ↦ found ∷ found_in find xs ]) e
first find x xs (Some y) e = ap (λ (o : Option _). elim o [ None ↦ found_in find xs | Some found ↦ found ∷ found_in find xs ]) e

one : {A B : Type 0} (find : A → Option B) (x : A) (o : Option B) → find x ≡ o → found_in find (x ∷ []) ≡ listed o
one find x None e = first find x [] None e
one find x (Some y) e = first find x [] (Some y) e

step : {A B : Type 0} (find : A → Option B) (x : A) (xs ys : List A) (o : Option B) → find x ≡ o
    → found_in find (xs ++ ys) ≡ found_in find xs ++ found_in find ys → found_in find (x ∷ (xs ++ ys)) ≡ found_in find (x ∷ xs) ++ found_in find ys
step find x xs ys None e h =
    first find x (xs ++ ys) None e ∙ (h ∙ ap (λ (zs : List _). zs ++ found_in find ys) (sym (first find x xs None e)))
step find x xs ys (Some y) e h =
    first find x (xs ++ ys) (Some y) e ∙ (ap (λ (zs : List _). y ∷ zs) h
    ∙ ap (λ (zs : List _). zs ++ found_in find ys) (sym (first find x xs (Some y) e)))

found_append : {A B : Type 0} (find : A → Option B) (xs ys : List A) → found_in find (xs ++ ys) ≡ found_in find xs ++ found_in find ys
found_append find [] ys = refl
found_append find (x ∷ xs) ys = step find x xs ys (find x) refl (found_append find xs ys)

-- One item more, and what is found in it.
found_more : {A B : Type 0} (find : A → Option B) (xs : List A) (i : ℕ) (d : A) (kept o : Option B) → i < length xs
    → found_in find (take i xs) ≡ listed kept → find (get_or xs i d) ≡ o → found_in find (take (i + 1) xs) ≡ listed kept ++ listed o
found_more find xs i d kept o less h e =
    ap (found_in find) (take_more xs i d less) ∙
    (found_append find (take i xs) (get_or xs i d ∷ []) ∙ ap (λ (zs : List _). zs ++ found_in find (get_or xs i d ∷ [])) h)
    ∙ ap (λ (zs : List _). listed kept ++ zs) (one find (get_or xs i d) o e)

-- Two things are found.
found_two : {A B : Type 0} (find : A → Option B) (xs : List A) (i : ℕ) (d : A) (x y : B) → i < length xs → found_in find (take i xs) ≡ x ∷ []
    → find (get_or xs i d) ≡ Some y → only_one (found_in find xs) ≡ None
found_two find xs i d x y less h e =
    let front : found_in find (take (i + 1) xs) ≡ x ∷ y ∷ [] = found_more find xs i d (Some x) (Some y) less h e in
    let whole : found_in find xs ≡ (x ∷ y ∷ []) ++ found_in find (drop (i + 1) xs) =
    ap (found_in find) (sym (take-append-drop (i + 1) xs))
    ∙ (found_append find (take (i + 1) xs) (drop (i + 1) xs) ∙ ap (λ (zs : List _). zs ++ found_in find (drop (i + 1) xs)) front) in
    ap only_one whole

-- Where nothing is found in the next item, what was found stays.
pub found_same : {A B : Type 0} (find : A → Option B) (xs : List A) (i : ℕ) (d : A) (kept o : Option B) → i < length xs
    → found_in find (take i xs) ≡ listed kept → o ≡ find (get_or xs i d) → is_some o ≡ false → found_in find (take (i + 1) xs) ≡ listed kept
found_same find xs i d None None less h e none = found_more find xs i d None None less h (sym e)
found_same find xs i d (Some x) None less h e none = found_more find xs i d (Some x) None less h (sym e)
found_same find xs i d kept (Some y) less h e none = absurd cc

-- Where nothing was found before, the one thing is what is found in the next item.
pub found_new : {A B : Type 0} (find : A → Option B) (xs : List A) (i : ℕ) (d : A) (kept o : Option B) → i < length xs
    → found_in find (take i xs) ≡ listed kept → o ≡ find (get_or xs i d) → is_some kept ≡ false → found_in find (take (i + 1) xs) ≡ listed o
found_new find xs i d None o less h e none = found_more find xs i d None o less h (sym e)
found_new find xs i d (Some x) o less h e none = absurd cc

-- Where something was found before, and something in the next item, it is not one thing.
pub found_both : {A B : Type 0} (find : A → Option B) (xs : List A) (i : ℕ) (d : A) (kept o : Option B) → i < length xs
    → found_in find (take i xs) ≡ listed kept → o ≡ find (get_or xs i d) → is_some kept ≡ true → is_some o ≡ true → None ≡ only_one (found_in find xs)
found_both find xs i d (Some x) (Some y) less h e one other = sym (found_two find xs i d x y less h (sym e))
found_both find xs i d None o less h e one other = absurd cc
found_both find xs i d (Some x) None less h e one other = absurd cc

pub some_mapped : {A B : Type 0} (f : A → B) (o : Option A) (b : Bool) → is_some o ≡ b → is_some (option_map f o) ≡ b
some_mapped f None b e = e
some_mapped f (Some x) b e = e
