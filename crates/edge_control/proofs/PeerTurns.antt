-- Trees that are changed one after another.
use Rattle.std.proofs.Common.{◌≡◌, ℕ, zero, suc, ◌+◌, ◌<◌, ◌≤◌, List, [], ◌∷◌, length, get_or, set, slice_get, Some, Result, Ok, Err, OnErr, refl, sym, ap, ◌∙◌, arith}
use Rattle.std.specs.List.{AllByRecursion}
use Rattle.vrf_words.specs.tree_defs.Trees.{TreeData}
use Rattle.edge_defs.specs.Place.{OwnVrf}
use Rattle.edge_control.specs.Taking.{turned, turned_all}

pub turned_length : (change : OwnVrf → TreeData → TreeData) (n : ℕ) (owns : List OwnVrf) (trees : List TreeData)
    → length (turned n change owns trees) ≡ length trees
turned_length change zero owns trees = refl
turned_length change (suc n) [] trees = refl
turned_length change (suc n) (own ∷ owns) [] = refl
turned_length change (suc n) (own ∷ owns) (tree ∷ trees) = ap suc (turned_length change n owns trees)

one_more : (change : OwnVrf → TreeData → TreeData) (n : ℕ) (owns : List OwnVrf) (trees : List TreeData) (own : OwnVrf) (d s : TreeData)
    → n < length trees → slice_get owns n ≡ Some own → s ≡ change own (get_or (turned n change owns trees) n d)
    → set (turned n change owns trees) n s ≡ turned (suc n) change owns trees
one_more change zero [] trees own d s lt at is = absurd (let bad = at in cc)
one_more change zero (o ∷ owns) [] own d s lt at is = absurd (omega (arith, lt))
one_more change zero (o ∷ owns) (tree ∷ trees) own d s lt at is =
    let same : o ≡ own = cc in
    ap (λ x. x ∷ trees) (is ∙ ap (λ x. change x tree) (sym same))
one_more change (suc n) [] trees own d s lt at is = absurd (let bad = at in cc)
one_more change (suc n) (o ∷ owns) [] own d s lt at is = absurd (omega (arith, lt))
one_more change (suc n) (o ∷ owns) (tree ∷ trees) own d s lt at is =
    ap (λ xs. change o tree ∷ xs) (one_more change n owns trees own d s (omega (arith, lt)) at is)

-- one more tree is changed
pub turned_more : (change : OwnVrf → TreeData → TreeData) (n : ℕ) (owns : List OwnVrf) (trees now : List TreeData) (own : OwnVrf) (d s : TreeData)
    → n < length trees → slice_get owns n ≡ Some own → now ≡ turned n change owns trees → s ≡ change own (get_or now n d)
    → set now n s ≡ turned (n + 1) change owns trees
turned_more change n owns trees now own d s lt at is one =
    let next : suc n ≡ n + 1 = omega arith in
    ap (λ xs. set xs n s) is
    ∙ one_more change n owns trees own d s lt at (one ∙ ap (λ xs. change own (get_or xs n d)) is)
    ∙ ap (λ m. turned m change owns trees) next

-- all of them are
pub turned_end : (change : OwnVrf → TreeData → TreeData) (n : ℕ) (owns : List OwnVrf) (trees : List TreeData) → length trees ≤ n
    → length trees ≡ length owns
    → turned n change owns trees ≡ turned_all change owns trees
turned_end change zero [] [] le same = refl
turned_end change zero (own ∷ owns) [] le same = refl
turned_end change zero owns (tree ∷ trees) le same = absurd (omega (arith, le))
turned_end change (suc n) [] [] le same = refl
turned_end change (suc n) [] (tree ∷ trees) le same = absurd (omega (arith, same))
turned_end change (suc n) (own ∷ owns) [] le same = refl
turned_end change (suc n) (own ∷ owns) (tree ∷ trees) le same =
    ap (λ xs. change own tree ∷ xs) (turned_end change n owns trees (omega (arith, le)) (omega (arith, same)))

-- there are as many as before
pub all_length : (change : OwnVrf → TreeData → TreeData) (owns : List OwnVrf) (trees : List TreeData) → length trees ≡ length owns
    → length (turned_all change owns trees) ≡ length owns
all_length change [] trees same = refl
all_length change (own ∷ owns) [] same = same
all_length change (own ∷ owns) (tree ∷ trees) same =
    ap suc (all_length change owns trees (let next : length trees ≡ length owns = omega (arith, same) in next))

-- a place that is set to what is there
pub set_itself : {A : Type 0} (xs : List A) (i : ℕ) (d : A) → d ≡ get_or xs i d → set xs i d ≡ xs
set_itself [] i d is = refl
set_itself (x ∷ xs) zero d is = ap (λ y. y ∷ xs) is
set_itself (x ∷ xs) (suc i) d is = ap (λ ys. x ∷ ys) (set_itself xs i d is)

pub on_err : {X E : Type 0} (r : Result X E) (P : Type 0) → P → OnErr r P
on_err (Ok x) P p = tt
on_err (Err e) P p = p

-- What the second change makes of each tree is the same where the first one came before it to some of them.
pub turned_back : (second first : OwnVrf → TreeData → TreeData) → ((own : OwnVrf) (tree : TreeData) → second own (first own tree) ≡ second own tree)
    → (n : ℕ) (owns : List OwnVrf) (trees : List TreeData) → turned_all second owns (turned n first owns trees) ≡ turned_all second owns trees
turned_back second first same zero owns trees = refl
turned_back second first same (suc n) [] trees = refl
turned_back second first same (suc n) (own ∷ owns) [] = refl
turned_back second first same (suc n) (own ∷ owns) (tree ∷ trees) = λ i. same own tree i ∷ turned_back second first same n owns trees i

-- and where it came before to all of them
pub turned_again : (second first : OwnVrf → TreeData → TreeData) → ((own : OwnVrf) (tree : TreeData) → second own (first own tree) ≡ second own tree)
    → (owns : List OwnVrf) (trees : List TreeData) → turned_all second owns (turned_all first owns trees) ≡ turned_all second owns trees
turned_again second first same [] trees = refl
turned_again second first same (own ∷ owns) [] = refl
turned_again second first same (own ∷ owns) (tree ∷ trees) = λ i. same own tree i ∷ turned_again second first same owns trees i

-- two changes that are the same of each tree of which something holds
pub turned_alike : (P : TreeData → Type 0) (one other : OwnVrf → TreeData → TreeData)
    → ((own : OwnVrf) (tree : TreeData) → P tree → one own tree ≡ other own tree)
    → (owns : List OwnVrf) (trees : List TreeData) → AllByRecursion P trees → turned_all one owns trees ≡ turned_all other owns trees
turned_alike P one other same [] trees h = refl
turned_alike P one other same (own ∷ owns) [] h = refl
turned_alike P one other same (own ∷ owns) (tree ∷ trees) h =
    λ i. same own tree h.0 i ∷ turned_alike P one other same owns trees h.1 i

-- what each change keeps holds of each tree after them
pub turned_each : (P : TreeData → Type 0) (change : OwnVrf → TreeData → TreeData) → ((own : OwnVrf) (tree : TreeData) → P tree → P (change own tree))
    → (owns : List OwnVrf) (trees : List TreeData) → AllByRecursion P trees → AllByRecursion P (turned_all change owns trees)
turned_each P change keeps [] trees h = tt
turned_each P change keeps (own ∷ owns) [] h = tt
turned_each P change keeps (own ∷ owns) (tree ∷ trees) h = (keeps own tree h.0, turned_each P change keeps owns trees h.1)
