-- What a change of one place does to the bindings by name, to the names given and to the free places.
use Rattle.std.proofs.Common.{inl, inr, zero, suc, ◌≡◌, ◌≢◌, ℕ, ◌+◌, ◌<◌, ◌↔◌, ◌⊎◌, Bool, true, false, cond, nat_eq, List, [], ◌∷◌, ◌++◌, length, map, slice_get, slice_set, slice_index, Option, None, Some, refl, sym, ap, ◌∙◌, arith}
use Rattle.std.specs.Ordering.{is_eq, eq_by_cmp}
use Rattle.std.specs.Cmp.{IsTotalOrder, tied_itself, Equal-is}
use Rattle.std.specs.Cmp.Lexicographic.{nat_list_cmp_total}
use Rattle.std.specs.FinMap as maps
use Rattle.std.specs.FinMap.{FinMap, IsAntisymmetric, nat_cmp-IsAntisymmetric, slice_cmp-IsAntisymmetric}
use Rattle.std.proofs.lemmas.Cmp.{on_total}
use Rattle.std.proofs.lemmas.Bool.{cases_Bool, cases_eq, eq-eqb, ne_eqb}
use Rattle.tunnel_bindings.specs.declared.name.BindingName.{BindingName}
use Rattle.tunnel_bindings.specs.declared.any_binding.AnyBinding.{AnyBinding}
use Rattle.tunnel_bindings.specs.declared.places.Place.{Place}
use Rattle.tunnel_bindings.specs.Bindings.{name_key, name_cmp, WasGiven}
use Rattle.tunnel_bindings.specs.Places.{emptied, name_at, with_binding, kept_from, given_of, named, kept_in, kept_at}

-- ---- names

pub name_cmp_total : IsTotalOrder name_cmp
name_cmp_total = on_total name_key nat_list_cmp_total

one_key : (a b c d : ℕ) → a ∷ b ∷ [] ≡ c ∷ d ∷ [] → (a ≡ c) × (b ≡ d)
one_key a b c d e =
    let first : a ≡ c = cc in
    let second : b ≡ d = cc in
    (first, second)

pub same_name : (q name : BindingName) → q.index ≡ name.index → q.generation ≡ name.generation → q ≡ name
same_name q name i g = λ k. record { index = i k; generation = g k }

pub name_cmp_exact : IsAntisymmetric name_cmp
name_cmp_exact a b h =
    let e = one_key a.index a.generation b.index b.generation (slice_cmp-IsAntisymmetric nat_cmp-IsAntisymmetric (name_key a) (name_key b) h) in
    same_name a b e.0 e.1

pub tied : (q name : BindingName) → q ≡ name → eq_by_cmp name_cmp q name ≡ true
tied q name e = ap (λ (n : BindingName). eq_by_cmp name_cmp q n) (sym e) ∙ ap is_eq (tied_itself name_cmp_total q)

pub untied : (q name : BindingName) → q ≢ name → eq_by_cmp name_cmp q name ≡ false
untied q name apart = elim (cases_Bool (eq_by_cmp name_cmp q name)) [
  | inl e ↦ absurd (apart (name_cmp_exact q name ((Equal-is (name_cmp q name)).0 e)))
  | inr e ↦ e
]

-- ---- one place more

pub more-same : {X : Type 0} (xs : List X) (x : X) → slice_get (xs ++ x ∷ []) (length xs) ≡ Some x
more-same [] x = refl
more-same (y ∷ ys) x = more-same ys x

pub more-other : {X : Type 0} (xs : List X) (x : X) (k : ℕ) → k ≢ length xs → slice_get (xs ++ x ∷ []) k ≡ slice_get xs k
more-other [] x zero apart = absurd (apart refl)
more-other [] x (suc k) apart = refl
more-other (y ∷ ys) x zero apart = refl
more-other (y ∷ ys) x (suc k) apart = more-other ys x k (λ e. apart (ap suc e))

-- ---- the bindings that places make

cond-same : {X : Type 0} (b : Bool) (x : X) → cond b x x ≡ x
cond-same true x = refl
cond-same false x = refl

pub kept_empty : (g h : ℕ) → kept_in g (Some (emptied h)) ≡ None
kept_empty g h = cond-same (nat_eq h g) None

pub kept_other : (g : ℕ) (place : Place) → g ≢ place.generation → kept_in g (Some place) ≡ None
kept_other g place apart = ap (λ (b : Bool). cond b place.binding None) (ne_eqb place.generation g (λ e. apart (sym e)))

pub kept_same : (g : ℕ) (place : Place) → place.generation ≡ g → kept_in g (Some place) ≡ place.binding
kept_same g place e = ap (λ (b : Bool). cond b place.binding None) (eq-eqb place.generation g e)

with-other : (m : FinMap name_cmp AnyBinding) (name q : BindingName) (o : Option AnyBinding) → q ≢ name
    → maps.get (with_binding m name o) q ≡ maps.get m q
with-other m name q None apart = refl
with-other m name q (Some b) apart =
    maps.get-insert name_cmp_total m name b q ∙ ap (λ (t : Bool). cond t (Some b) (maps.get m q)) (untied q name apart)

with-same : (m : FinMap name_cmp AnyBinding) (name q : BindingName) (o : Option AnyBinding) → q ≡ name → maps.get m q ≡ None
    → maps.get (with_binding m name o) q ≡ o
with-same m name q None e none = none
with-same m name q (Some b) e none = maps.get-insert name_cmp_total m name b q ∙ ap (λ (t : Bool). cond t (Some b) (maps.get m q)) (tied q name e)

below : (n : ℕ) (places : List Place) (q : BindingName) → q.index < n → maps.get (kept_from n places) q ≡ None
below n [] q less = maps.get-empty name_cmp q
below n (place ∷ places) q less =
    with-other (kept_from (suc n) places) (name_at n place.generation) q place.binding
    (λ e. let i = ap (λ (name : BindingName). name.index) e in absurd (omega (arith, i, less)))
    ∙ below (suc n) places q (omega (arith, less))

at_from : (n : ℕ) (places : List Place) (q : BindingName) (k : ℕ) → q.index ≡ n + k
    → maps.get (kept_from n places) q ≡ kept_in q.generation (slice_get places k)
at_from n [] q k e = maps.get-empty name_cmp q
at_from n (place ∷ places) q zero e =
    let none = below (suc n) places q (omega (arith, e)) in
    let here : q.index ≡ n = omega (arith, e) in
    elim (cases_eq q.generation place.generation) [
      | inl g ↦ with-same (kept_from (suc n) places) (name_at n place.generation) q place.binding (same_name q (name_at n place.generation) here g)
          none ∙ sym (kept_same q.generation place (sym g))
      | inr d ↦ with-other (kept_from (suc n) places) (name_at n place.generation) q place.binding
          (λ s. d (ap (λ (name : BindingName). name.generation) s)) ∙ (none ∙ sym (kept_other q.generation place d))
    ]
at_from n (place ∷ places) q (suc k) e =
    with-other (kept_from (suc n) places) (name_at n place.generation) q place.binding
    (λ s. let i = ap (λ (name : BindingName). name.index) s in absurd (omega (arith, i, e)))
    ∙ at_from (suc n) places q k (omega (arith, e))

-- what the map has under a name
pub tells : (places : List Place) (q : BindingName) → maps.get (kept_from 0 places) q ≡ kept_at places q
tells places q = at_from 0 places q q.index (omega arith)

-- ---- a change of one name

-- One place changes, and only one name's binding there. Before, the place had given the generations below that of the name.
pub record Changes (old new : List Place) (name : BindingName) (value : Option AnyBinding) : Type 0 where
  pub others : (k : ℕ) → k ≢ name.index → slice_get new k ≡ slice_get old k
  pub here : kept_at new name ≡ value
  pub was : (g : ℕ) → g ≢ name.generation → kept_in g (slice_get old name.index) ≡ None
  pub now : (g : ℕ) → g ≢ name.generation → kept_in g (slice_get new name.index) ≡ None

each_name : (old new : List Place) (name : BindingName) (value : Option AnyBinding) → Changes old new name value
    → (q : BindingName) → kept_at new q ≡ cond (eq_by_cmp name_cmp q name) value (maps.get (kept_from 0 old) q)
each_name old new name value h q = elim (cases_eq q.index name.index) [
  | inl i ↦ elim (cases_eq q.generation name.generation) [
    | inl g ↦ ap (kept_at new) (same_name q name i g)
        ∙ (h.here ∙ sym (ap (λ (t : Bool). cond t value (maps.get (kept_from 0 old) q)) (tied q name (same_name q name i g))))
    | inr d ↦
        ap (λ (k : ℕ). kept_in q.generation (slice_get new k)) i ∙ (h.now q.generation d
        ∙ sym (ap (λ (t : Bool). cond t value (maps.get (kept_from 0 old) q)) (untied q name (λ e. d (ap (λ (n : BindingName). n.generation) e)))
        ∙ (tells old q ∙ (ap (λ (k : ℕ). kept_in q.generation (slice_get old k)) i ∙ h.was q.generation d))))
  ]
  | inr d ↦
      ap (kept_in q.generation) (h.others q.index d)
      ∙ sym (ap (λ (t : Bool). cond t value (maps.get (kept_from 0 old) q)) (untied q name (λ e. d (ap (λ (n : BindingName). n.index) e)))
      ∙ tells old q)
]

pub put : (old new : List Place) (name : BindingName) (b : AnyBinding) → Changes old new name (Some b)
    → kept_from 0 new ≡ maps.insert (kept_from 0 old) name b
put old new name b h =
    maps.same_map name_cmp_total name_cmp_exact _ _
    (λ q. tells new q ∙ (each_name old new name (Some b) h q ∙ sym (maps.get-insert name_cmp_total (kept_from 0 old) name b q)))

pub removed : (old new : List Place) (name : BindingName) → Changes old new name None → kept_from 0 new ≡ maps.remove (kept_from 0 old) name
removed old new name h =
    maps.same_map name_cmp_total name_cmp_exact _ _
    (λ q. tells new q ∙ (each_name old new name None h q ∙ sym (maps.get-remove name_cmp_total (kept_from 0 old) name q)))

pub none_removed : (kept : FinMap name_cmp AnyBinding) (name : BindingName) → maps.get kept name ≡ None → kept ≡ maps.remove kept name
none_removed kept name none =
    maps.same_map name_cmp_total name_cmp_exact _ _
    (λ q. sym (maps.get-remove name_cmp_total kept name q ∙ elim (cases_Bool (eq_by_cmp name_cmp q name)) [
      | inl e ↦ ap (λ (t : Bool). cond t None (maps.get kept q)) e
          ∙ sym (ap (maps.get kept) (name_cmp_exact q name ((Equal-is (name_cmp q name)).0 e)) ∙ none)
      | inr e ↦ ap (λ (t : Bool). cond t None (maps.get kept q)) e
    ]))

-- ---- the names given

abbrev pub given_in : Option Place → ℕ
given_in None = 0
given_in (Some place) = given_of place

given-get : (places : List Place) (k : ℕ) → slice_index (map given_of places) k ≡ given_in (slice_get places k)
given-get [] k = refl
given-get (place ∷ places) zero = refl
given-get (place ∷ places) (suc k) = given-get places k

-- One place gives one more name.
pub record Gives (old new : List Place) (name : BindingName) : Type 0 where
  pub others : (k : ℕ) → k ≢ name.index → slice_get new k ≡ slice_get old k
  pub was : given_in (slice_get old name.index) ≡ name.generation
  pub now : given_in (slice_get new name.index) ≡ name.generation + 1

pub not_given : (old new : List Place) (name : BindingName) → Gives old new name → WasGiven (named old) name → ⊥
not_given old new name h given = let is = given-get old name.index ∙ h.was in absurd (omega (arith, given, is))

pub one_given : (old new : List Place) (name : BindingName) → Gives old new name → (other : BindingName)
    → WasGiven (named new) other ↔ ((other ≡ name) ⊎ WasGiven (named old) other)
one_given old new name h other = (there, back)
  where
    there : WasGiven (named new) other → (other ≡ name) ⊎ WasGiven (named old) other
    there given = elim (cases_eq other.index name.index) [
      | inl i ↦
          let is : slice_index (map given_of new) other.index ≡ name.generation + 1 =
          ap (slice_index (map given_of new)) i ∙ (given-get new name.index ∙ h.now) in
          let before : slice_index (map given_of old) other.index ≡ name.generation =
          ap (slice_index (map given_of old)) i ∙ (given-get old name.index ∙ h.was) in
          elim (cases_eq other.generation name.generation) [
            | inl g ↦ inl (same_name other name i g)
            | inr d ↦ inr (omega (arith, given, is, before, d))
          ]
      | inr d ↦
          let same : slice_index (map given_of new) other.index ≡ slice_index (map given_of old) other.index =
          given-get new other.index ∙ (ap given_in (h.others other.index d) ∙ sym (given-get old other.index)) in
          inr (omega (arith, given, same))
    ]

    back : (other ≡ name) ⊎ WasGiven (named old) other → WasGiven (named new) other
    back (inl e) =
        let is : slice_index (map given_of new) other.index ≡ name.generation + 1 =
        ap (λ (n : BindingName). slice_index (map given_of new) n.index) e ∙ (given-get new name.index ∙ h.now) in
        let g = ap (λ (n : BindingName). n.generation) e in
        omega (arith, is, g)
    back (inr given) = elim (cases_eq other.index name.index) [
      | inl i ↦
          let is : slice_index (map given_of new) other.index ≡ name.generation + 1 =
          ap (slice_index (map given_of new)) i ∙ (given-get new name.index ∙ h.now) in
          let before : slice_index (map given_of old) other.index ≡ name.generation =
          ap (slice_index (map given_of old)) i ∙ (given-get old name.index ∙ h.was) in
          omega (arith, given, is, before)
      | inr d ↦
          let same : slice_index (map given_of new) other.index ≡ slice_index (map given_of old) other.index =
          given-get new other.index ∙ (ap given_in (h.others other.index d) ∙ sym (given-get old other.index)) in
          omega (arith, given, same)
    ]

pub map-set : {X Y : Type 0} (f : X → Y) (xs : List X) (i : ℕ) (x y : X) → slice_get xs i ≡ Some x → f y ≡ f x → map f (slice_set xs i y) ≡ map f xs
map-set f [] i x y at e = refl
map-set f (z ∷ zs) zero x y at e = let same : z ≡ x = cc in λ k. (e ∙ ap f (sym same)) k ∷ map f zs
map-set f (z ∷ zs) (suc i) x y at e = let rest = map-set f zs i x y at e in λ k. f z ∷ rest k
