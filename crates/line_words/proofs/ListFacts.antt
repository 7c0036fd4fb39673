-- Laws of the lists that words write.
use Rattle.std.proofs.Common.{◌≡◌, ℕ, suc, ◌+◌, ◌<◌, ◌≤◌, ◌==◌, Bool, true, false, cond, not, ◌&&◌, ◌||◌, List, [], ◌∷◌, ◌++◌, length, refl, sym, ap, ◌∙◌, subst, arith, nat_le, nat_lt, append_assoc, take, drop, position, length-append, Option, Some, None}
use Rattle.std.specs.Prelude.{All, AllPairs}
use Rattle.std.specs.List.{list_any, position_or_len, slice_split}
use Rattle.std.proofs.lemmas.Bool.Decides.{nat_tests}
use Rattle.std.proofs.lemmas.List.{append-nil}
use Rattle.std.proofs.lemmas.List.Elements.{All-nil, All-cons}
use Rattle.std.proofs.lemmas.List.Kept.{AllPairs-cons}
use Rattle.std.proofs.lemmas.List.Splits.{length-slice_split}
use Rattle.mv_base.specs.Number.{cut_of, ◌>>?◌, only_if}
use Rattle.line_words.proofs.PlaceLemmas.{not_below}
use Rattle.line_words.proofs.WordsLemmas.{split_first, split_whole}
use Rattle.line_words.specs.Forms.{each_of, are_distinct, list_of}

-- ---- a list that is read part by part

-- the list, where it may be one
abbrev pub kept : {A : Type 0} → (A → A → Bool) → List A → Option (List A)
kept same found = only_if (nat_le (length found) 8 && are_distinct same found) found

-- the list of what is found and what the parts write
abbrev pub list_from : {A : Type 0} → (A → A → Bool) → (List ℕ → Option A) → List A → List (List ℕ) → Option (List A)
list_from same read found parts = each_of read parts >>? λ more. kept same (found ++ more)

-- At the start nothing is found.
pub from_start : {A : Type 0} (same : A → A → Bool) (read : List ℕ → Option A) (text : List ℕ)
    → list_from same read [] (slice_split (λ b. b == 44) text) ≡ list_of same read text
unfolding list_of
from_start same read text = refl

full_fails : {A : Type 0} (same : A → A → Bool) (xs : List A) → 8 < length xs → kept same xs ≡ None
full_fails same xs h = let e : nat_le (length xs) 8 ≡ false = grind (arith, nat_tests) in rw e refl

both_false : (a b : Bool) → b ≡ false → (a && b) ≡ false
both_false true b h = h
both_false false b h = refl

again_fails : {A : Type 0} (same : A → A → Bool) (xs : List A) → are_distinct same xs ≡ false → kept same xs ≡ None
again_fails same xs h = rw (both_false (nat_le (length xs) 8) (are_distinct same xs) h) refl

step : {A : Type 0} (same : A → A → Bool) (found : List A) (x : A) (rest : Option (List A))
    → ((rest >>? λ more. Some (x ∷ more)) >>? λ more. kept same (found ++ more)) ≡ (rest >>? λ more. kept same ((found ++ x ∷ []) ++ more))
step same found x None = refl
step same found x (Some more) = ap (kept same) (sym (append_assoc found (x ∷ []) more))

goes_on : {A : Type 0} (same : A → A → Bool) (read : List ℕ → Option A) (found : List A) (part : List ℕ) (parts : List (List ℕ)) (x : A)
    → read part ≡ Some x → list_from same read found (part ∷ parts) ≡ list_from same read (found ++ x ∷ []) parts
goes_on same read found part parts x h = rw h (step same found x (each_of read parts))

-- What the first part writes is found, and the other parts are left.
pub taken : {A : Type 0} (same : A → A → Bool) (read : List ℕ → Option A) (found : List A) (left : List (List ℕ)) (part : List ℕ)
    (parts : List (List ℕ)) (x : A) (list : Option (List A))
    → read part ≡ Some x → left ≡ part ∷ parts → list_from same read found left ≡ list → list_from same read (found ++ x ∷ []) parts ≡ list
taken same read found left part parts x list h cut so_far =
    sym (goes_on same read found part parts x h) ∙ (sym (ap (list_from same read found) cut) ∙ so_far)

fails : {A : Type 0} (same : A → A → Bool) (found : List A) (rest : Option (List A)) → ((more : List A) → kept same (found ++ more) ≡ None)
    → (rest >>? λ more. kept same (found ++ more)) ≡ None
fails same found None h = refl
fails same found (Some more) h = h more

beyond : {A : Type 0} (same : A → A → Bool) (found : List A) (first : Option A) (rest : Option (List A)) → 8 ≤ length found
    → ((first >>? λ x. rest >>? λ more. Some (x ∷ more)) >>? λ more. kept same (found ++ more)) ≡ None
beyond same found None rest h = refl
beyond same found (Some x) None h = refl
beyond same found (Some x) (Some more) h = full_fails same (found ++ x ∷ more) (omega (arith, length-append found (x ∷ more)))

-- One more part after 8 leaves no list.
pub too_many : {A : Type 0} (same : A → A → Bool) (read : List ℕ → Option A) (found : List A) (parts : List (List ℕ)) → 0 < length parts
    → 8 ≤ length found → list_from same read found parts ≡ None
too_many same read found [] some full = absurd (omega arith)
too_many same read found (part ∷ parts) some full = beyond same found (read part) (each_of read parts) full

either : (a b : Bool) → b ≡ true → (a || b) ≡ true
either true b e = refl
either false b e = e

any_among : {A : Type 0} (test : A → Bool) (xs : List A) (x : A) (more : List A) → test x ≡ true → list_any test ((xs ++ x ∷ []) ++ more) ≡ true
any_among test [] x more h = rw h refl
any_among test (y ∷ ys) x more h = either (test y) (list_any test ((ys ++ x ∷ []) ++ more)) (any_among test ys x more h)

head_or_tail : (there : Bool) (rest any distinct : Bool) → (there || rest) ≡ true → (there ≡ true → any ≡ true) → (rest ≡ true → distinct ≡ false)
    → (not any && distinct) ≡ false
head_or_tail true rest any distinct h k l = rw (k refl) refl
head_or_tail false rest any distinct h k l = both_false (not any) distinct (l h)

-- One that is there already leaves no distinct list.
not_distinct : {A : Type 0} (same : A → A → Bool) (found : List A) (x : A) (more : List A) → list_any (λ own. same own x) found ≡ true
    → are_distinct same ((found ++ x ∷ []) ++ more) ≡ false
not_distinct same [] x more h = absurd cc
not_distinct same (y ∷ ys) x more h =
    head_or_tail (same y x) (list_any (λ own. same own x) ys) _ _ h (any_among (same y) ys x more) (not_distinct same ys x more)

pub again : {A : Type 0} (same : A → A → Bool) (read : List ℕ → Option A) (found : List A) (part : List ℕ) (parts : List (List ℕ)) (x : A)
    → read part ≡ Some x → list_any (λ own. same own x) found ≡ true → list_from same read found (part ∷ parts) ≡ None
again same read found part parts x h there =
    goes_on same read found part parts x h ∙ fails same (found ++ x ∷ []) (each_of read parts)
    (λ more. again_fails same ((found ++ x ∷ []) ++ more) (not_distinct same found x more there))

and_parts : (a b : Bool) → (not a && b) ≡ true → (a ≡ false) × (b ≡ true)
and_parts false true h = (refl, refl)
and_parts false false h = absurd cc
and_parts true b h = absurd cc

or_parts : (a b : Bool) → (a || b) ≡ false → (a ≡ false) × (b ≡ false)
or_parts false b h = (refl, h)
or_parts true b h = absurd cc

none_more : {A : Type 0} (test : A → Bool) (xs : List A) (x : A) → list_any test xs ≡ false → test x ≡ false → list_any test (xs ++ x ∷ []) ≡ false
none_more test [] x h k = rw k refl
none_more test (y ∷ ys) x h k = let p = or_parts (test y) (list_any test ys) h in rw p.0 (none_more test ys x p.1 k)

-- A list with a new one after it is distinct.
pub distinct_push : {A : Type 0} (same : A → A → Bool) (found : List A) (x : A) → are_distinct same found ≡ true
    → list_any (λ own. same own x) found ≡ false → are_distinct same (found ++ x ∷ []) ≡ true
distinct_push same [] x d n = refl
distinct_push same (y ∷ ys) x d n =
    let p = and_parts (list_any (same y) ys) (are_distinct same ys) d in
    let q = or_parts (same y x) (list_any (λ own. same own x) ys) n in
    rw (none_more (same y) ys x p.0 q.0) (distinct_push same ys x p.1 q.1)

-- At the end the list is what was found.
pub list_done : {A : Type 0} (same : A → A → Bool) (read : List ℕ → Option A) (found : List A) → length found ≤ 8 → are_distinct same found ≡ true
    → list_from same read found [] ≡ Some found
list_done same read found few distinct =
    let e : nat_le (length found) 8 ≡ true = grind (arith, nat_tests) in
    rw (append-nil found, e, distinct) refl

abbrev cut_where : List ℕ → Option ℕ → Option (List ℕ × List ℕ)
cut_where text o = elim o [ None ↦ None | Some place ↦ Some (take place text, drop (place + 1) text) ]

found_at : (text part rest : List ℕ) (o : Option ℕ) → position (λ b. b == 44) text ≡ o → cut_where text o ≡ Some (part, rest)
    → slice_split (λ b. b == 44) text ≡ part ∷ slice_split (λ b. b == 44) rest
found_at text part rest None e h = absurd cc
found_at text part rest (Some place) e h =
    let cut : (take place text, drop (place + 1) text) ≡ (part, rest) = cc in
    split_first (λ b. b == 44) text place e ∙ ap (λ (parts : List ℕ × List ℕ). parts.0 ∷ slice_split (λ b. b == 44) parts.1) cut

-- The part before the first comma, and those after it.
pub comma_found : (text part rest : List ℕ) → cut_of 44 text ≡ Some (part, rest)
    → slice_split (λ b. b == 44) text ≡ part ∷ slice_split (λ b. b == 44) rest
comma_found text part rest h = found_at text part rest (position (λ b. b == 44) text) refl h

not_found : (text : List ℕ) (o : Option ℕ) → position (λ b. b == 44) text ≡ o → cut_where text o ≡ None → slice_split (λ b. b == 44) text ≡ text ∷ []
not_found text None e h = split_whole (λ b. b == 44) text e
not_found text (Some place) e h = absurd cc

-- A text without a comma is one part.
pub no_comma : (text : List ℕ) → cut_of 44 text ≡ None → slice_split (λ b. b == 44) text ≡ text ∷ []
no_comma text h = not_found text (position (λ b. b == 44) text) refl h

-- A text has a part.
pub some_part : (text : List ℕ) → 0 < length (slice_split (λ b. b == 44) text)
some_part text = omega (arith, length-slice_split (λ b. b == 44) text)

-- ---- what a list keeps to

-- Each element passes the test where none fails it.
pub none_any : {A : Type 0} (test : A → Bool) (xs : List A) → list_any test xs ≡ false → All (λ x. test x ≡ false) xs
none_any test [] h = All-nil (λ y. test y ≡ false)
none_any test (x ∷ xs) h = let p = or_parts (test x) (list_any test xs) h in All-cons (λ y. test y ≡ false) x xs p.0 (none_any test xs p.1)

-- No two of a distinct list are the same.
pub distinct_pairs : {A : Type 0} (same : A → A → Bool) (xs : List A) → are_distinct same xs ≡ true → AllPairs (λ x y. same x y ≡ false) xs
distinct_pairs same [] h = λ i j d lt within. absurd (omega arith)
distinct_pairs same (x ∷ xs) h = let p = and_parts (list_any (same x) xs) (are_distinct same xs) h in
    AllPairs-cons (λ y z. same y z ≡ false) x xs (none_any (same x) xs p.0) (distinct_pairs same xs p.1)

pub each_parts : {A : Type 0} (first : Option A) (rest : Option (List A)) (found : List A)
    → (first >>? λ x. rest >>? λ more. Some (x ∷ more)) ≡ Some found
    → (x : A) × (more : List A) × (first ≡ Some x) × (rest ≡ Some more) × (x ∷ more ≡ found)
each_parts None rest found h = absurd cc
each_parts (Some x) None found h = absurd cc
each_parts (Some x) (Some more) found h = (x, more, refl, refl, cc)

-- There are as many as there are texts.
each_length : {A : Type 0} (read : List ℕ → Option A) (texts : List (List ℕ)) (found : List A) → each_of read texts ≡ Some found
    → length found ≡ length texts
each_length {A} read [] found h = let e : [] ≡ found = cc in ap (λ (xs : List A). length xs) (sym e)
each_length {A} read (text ∷ texts) found h =
    let p = each_parts (read text) (each_of read texts) found h in
    ap (λ (xs : List A). length xs) (sym p.4) ∙ omega (arith, each_length read texts p.1 p.3)

-- Each is what some text writes.
pub each_holds : {A : Type 0} (P : A → Type 0) (read : List ℕ → Option A) → ((text : List ℕ) (x : A) → read text ≡ Some x → P x)
    → (texts : List (List ℕ)) (found : List A) → each_of read texts ≡ Some found → All P found
each_holds {A} P read holds [] found h = let e : [] ≡ found = cc in subst (λ (xs : List A). All P xs) e (All-nil P)
each_holds {A} P read holds (text ∷ texts) found h =
    let p = each_parts (read text) (each_of read texts) found h in
    subst (λ (xs : List A). All P xs) p.4 (All-cons P p.0 p.1 (holds text p.0 p.2) (each_holds P read holds texts p.1 p.3))

kept_parts : {A : Type 0} (same : A → A → Bool) (xs found : List A) (few distinct : Bool) → nat_le (length xs) 8 ≡ few
    → are_distinct same xs ≡ distinct → only_if (few && distinct) xs ≡ Some found → (xs ≡ found) × (length xs ≤ 8) × (are_distinct same xs ≡ true)
kept_parts same xs found true true e d h = (cc, grind (arith, nat_tests), d)
kept_parts same xs found true false e d h = absurd cc
kept_parts same xs found false distinct e d h = absurd cc

-- What a list keeps to.
pub record IsListOf {A : Type 0} (same : A → A → Bool) (read : List ℕ → Option A) (text : List ℕ) (found : List A) : Type 0 where
  pub each : each_of read (slice_split (λ b. b == 44) text) ≡ Some found
  pub some : 0 < length found
  pub few : length found ≤ 8
  pub distinct : are_distinct same found ≡ true

list_parts : {A : Type 0} (same : A → A → Bool) (read : List ℕ → Option A) (text : List ℕ) (found : List A) (each : Option (List A))
    → each_of read (slice_split (λ b. b == 44) text) ≡ each → (each >>? λ xs. kept same xs) ≡ Some found → IsListOf same read text found
list_parts same read text found None e h = absurd cc
list_parts {A} same read text found (Some xs) e h =
    let p = kept_parts same xs found (nat_le (length xs) 8) (are_distinct same xs) refl refl h in
    let all : IsListOf same read text xs =
    record { each = e; some = omega (arith, each_length read (slice_split (λ b. b == 44) text) xs e, some_part text); few = p.1; distinct = p.2 }
    in
    subst (λ (ys : List A). IsListOf same read text ys) p.0 all

pub list_is : {A : Type 0} (same : A → A → Bool) (read : List ℕ → Option A) (text : List ℕ) (found : List A) → list_of same read text ≡ Some found
    → IsListOf same read text found
unfolding list_of
list_is same read text found h = list_parts same read text found (each_of read (slice_split (λ b. b == 44) text)) refl h

-- ---- a list in which no element passes

no_place : {X : Type 0} (p : X → Bool) (xs : List X) → list_any p xs ≡ false → position_or_len p xs ≡ length xs
no_place p [] h = refl
no_place p (x ∷ xs) h = by (p x) h (no_place p xs)
  where
    by : (b : Bool) → (b || list_any p xs) ≡ false → (list_any p xs ≡ false → position_or_len p xs ≡ length xs)
        → cond (not b) (1 + position_or_len p xs) 0 ≡ suc (length xs)
    by true e rest = absurd cc
    by false e rest = let same : position_or_len p xs ≡ length xs = rest e in omega arith

-- has no first one
pub none_first : {X : Type 0} (p : X → Bool) (xs : List X) → list_any p xs ≡ false → position p xs ≡ None
none_first p xs h =
    ap (λ n. cond (nat_lt n (length xs)) (Some n) None) (no_place p xs h)
    ∙ ap (λ b. cond b (Some (length xs)) None) (not_below (length xs))
