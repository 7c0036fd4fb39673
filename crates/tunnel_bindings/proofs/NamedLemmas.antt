-- The calls that change one place, as changes of the bindings by name.
use Rattle.std.proofs.Common.{inl, inr, ◌≡◌, ℕ, ◌+◌, Bool, true, cond, List, [], ◌∷◌, ◌++◌, length, map, slice_get, slice_set, Option, None, Some, IfSome, IfNone, IfOk, is_some, refl, sym, ap, subst, ◌∙◌, arith}
use Rattle.std.specs.declared.result.Result.{Result}
use Rattle.std.specs.declared.result.Result.TheVariants.{Ok, Err}
use Rattle.std.specs.FinMap as maps
use Rattle.std.specs.FinMap.{FinMap}
use Rattle.std.specs.Ordering.{eq_by_cmp}
use Rattle.std.specs.Cmp.{Equal-is}
use Rattle.std.proofs.lemmas.Bool.{cases_Bool, cases_eq}
use Rattle.std.proofs.lemmas.Option.{slice_get_within, slice_get_past}
use Rattle.tunnel_bindings.specs.declared.name.BindingName.{BindingName}
use Rattle.tunnel_bindings.specs.declared.any_binding.AnyBinding.{AnyBinding}
use Rattle.tunnel_bindings.specs.declared.places.Place.{Place}
use Rattle.tunnel_bindings.specs.declared.places.Places.{Places}
use Rattle.tunnel_bindings.specs.States.{label_of, label_in}
use Rattle.tunnel_bindings.specs.Bindings.{name_cmp, Named}
use Rattle.tunnel_bindings.specs.Places.{holding, emptied, name_at, kept_from, given_of, named, kept_in, kept_at}
use Rattle.tunnel_bindings.proofs.NumbersLemmas.{get-set_same, get-set_other}
use Rattle.tunnel_bindings.proofs.PlaceLemmas.{name_cmp_total, name_cmp_exact, more-same, more-other, kept_same, kept_other, kept_empty, tells, Changes, put, removed, none_removed, given_in, Gives, map-set}

-- ---- a free place is filled

pub gives_filled : (old new : List Place) (name : BindingName) (i : ℕ) (b : AnyBinding) → name.index ≡ i
    → slice_get old i ≡ Some (emptied name.generation)
    → new ≡ slice_set old i (holding name.generation b) → Gives old new name
gives_filled old new name i b at place is =
    let within = slice_get_within old i (emptied name.generation) place in
    record {
      others = λ k apart. ap (λ (places : List Place). slice_get places k) is
          ∙ get-set_other old i k (holding name.generation b) (λ e. apart (e ∙ sym at));
      was = ap (λ (j : ℕ). given_in (slice_get old j)) at ∙ ap given_in place;
      now = ap (λ (j : ℕ). given_in (slice_get new j)) at
          ∙ (ap (λ (places : List Place). given_in (slice_get places i)) is ∙ ap given_in (get-set_same old i (holding name.generation b) within));
    }

pub changes_filled : (old new : List Place) (name : BindingName) (i : ℕ) (b : AnyBinding) → name.index ≡ i
    → slice_get old i ≡ Some (emptied name.generation)
    → new ≡ slice_set old i (holding name.generation b) → Changes old new name (Some b)
changes_filled old new name i b at place is =
    let within = slice_get_within old i (emptied name.generation) place in
    let here : slice_get new name.index ≡ Some (holding name.generation b) =
    ap (slice_get new) at ∙ (ap (λ (places : List Place). slice_get places i) is ∙ get-set_same old i (holding name.generation b) within) in
    record {
      others = λ k apart. ap (λ (places : List Place). slice_get places k) is
          ∙ get-set_other old i k (holding name.generation b) (λ e. apart (e ∙ sym at));
      here = ap (kept_in name.generation) here ∙ kept_same name.generation (holding name.generation b) refl;
      was = λ g d. ap (λ (j : ℕ). kept_in g (slice_get old j)) at ∙ (ap (kept_in g) place ∙ kept_empty g name.generation);
      now = λ g d. ap (kept_in g) here ∙ kept_other g (holding name.generation b) d;
    }

-- nothing was kept under the name
pub none_filled : (old : List Place) (name : BindingName) (i : ℕ) → name.index ≡ i → slice_get old i ≡ Some (emptied name.generation)
    → maps.get (kept_from 0 old) name ≡ None
none_filled old name i at place =
    tells old name ∙ (ap (λ (j : ℕ). kept_in name.generation (slice_get old j)) at
    ∙ (ap (kept_in name.generation) place ∙ kept_empty name.generation name.generation))

-- ---- a place comes

changes_added : (old new : List Place) (name : BindingName) (b : AnyBinding) → name ≡ name_at (length old) 0 → new ≡ old ++ holding 0 b ∷ []
    → Changes old new name (Some b)
changes_added old new name b named_so is =
    let at : name.index ≡ length old = ap (λ (n : BindingName). n.index) named_so in
    let first : name.generation ≡ 0 = ap (λ (n : BindingName). n.generation) named_so in
    let here : slice_get new name.index ≡ Some (holding 0 b) =
    ap (slice_get new) at ∙ (ap (λ (places : List Place). slice_get places (length old)) is ∙ more-same old (holding 0 b)) in
    record {
      others = λ k apart. ap (λ (places : List Place). slice_get places k) is ∙ more-other old (holding 0 b) k (λ e. apart (e ∙ sym at));
      here = ap (kept_in name.generation) here ∙ kept_same name.generation (holding 0 b) (sym first);
      was = λ g d. ap (λ (j : ℕ). kept_in g (slice_get old j)) at ∙ ap (kept_in g) (slice_get_past old (length old) (omega arith));
      now = λ g d. ap (kept_in g) here ∙ kept_other g (holding 0 b) (λ e. d (e ∙ sym first));
    }

pub kept_added : (old new : List Place) (b : AnyBinding) (m : Named) (r : Result BindingName AnyBinding) → named old ≡ m
    → IfOk r (λ name. name ≡ name_at (length old) 0)
    → IfOk r (λ _. new ≡ old ++ holding 0 b ∷ []) → IfOk r (λ name. kept_from 0 new ≡ maps.insert m.kept name b)
kept_added old new b m (Ok name) view named_so is =
    put old new name b (changes_added old new name b named_so is) ∙ ap (λ (n : Named). maps.insert n.kept name b) view
kept_added old new b m (Err back) view named_so is = tt

pub none_added : (old : List Place) (m : Named) (r : Result BindingName AnyBinding) → named old ≡ m → IfOk r (λ name. name ≡ name_at (length old) 0)
    → IfOk r (λ name. maps.get m.kept name ≡ None)
none_added old m (Ok name) view named_so =
    let at : name.index ≡ length old = ap (λ (n : BindingName). n.index) named_so in
    ap (λ (n : Named). maps.get n.kept name) (sym view)
    ∙ (tells old name ∙ (ap (λ (j : ℕ). kept_in name.generation (slice_get old j)) at
    ∙ ap (kept_in name.generation) (slice_get_past old (length old) (omega arith))))
none_added old m (Err back) view named_so = tt

-- ---- a binding is taken

-- the place of a name under which a binding is kept
pub found : (places : List Place) (name : BindingName) → is_some (kept_at places name) ≡ true
    → (b : AnyBinding) × (slice_get places name.index ≡ Some (holding name.generation b))
found places name h = by (slice_get places name.index) refl h
  where
    held : (place : Place) (o : Option AnyBinding) → place.binding ≡ o → place.generation ≡ name.generation → is_some o ≡ true
        → (b : AnyBinding) × (Some place ≡ Some (holding name.generation b))
    held place None e g some = absurd cc
    held place (Some b) e g some = (b, λ i. Some (record { generation = g i; binding = e i }))

    by : (o : Option Place) → slice_get places name.index ≡ o → is_some (kept_in name.generation o) ≡ true
        → (b : AnyBinding) × (slice_get places name.index ≡ Some (holding name.generation b))
    by None e some = absurd cc
    by (Some place) e some = elim (cases_eq place.generation name.generation) [
      | inl g ↦ let is = held place place.binding refl g (sym (ap is_some (kept_same name.generation place g)) ∙ some) in (is.0, e ∙ is.1)
      | inr d ↦ let none = sym (ap is_some (kept_other name.generation place (λ s. d (sym s)))) ∙ some in absurd cc
    ]

changes_emptied : (old new : List Place) (name : BindingName) (b : AnyBinding) → slice_get old name.index ≡ Some (holding name.generation b)
    → new ≡ slice_set old name.index (emptied (name.generation + 1)) → Changes old new name None
changes_emptied old new name b place is =
    let within = slice_get_within old name.index (holding name.generation b) place in
    let here : slice_get new name.index ≡ Some (emptied (name.generation + 1)) =
    ap (λ (places : List Place). slice_get places name.index) is ∙ get-set_same old name.index (emptied (name.generation + 1)) within in
    record {
      others = λ k apart. ap (λ (places : List Place). slice_get places k) is ∙ get-set_other old name.index k (emptied (name.generation + 1)) apart;
      here = ap (kept_in name.generation) here ∙ kept_empty name.generation (name.generation + 1);
      was = λ g d. ap (kept_in g) place ∙ kept_other g (holding name.generation b) d;
      now = λ g d. ap (kept_in g) here ∙ kept_empty g (name.generation + 1);
    }

pub taken : (old new : Places) (name : BindingName) (m : Named) (r : Option AnyBinding) → named old.places.items ≡ m
    → r ≡ kept_at old.places.items name
    → IfSome r (λ _. new.places.items ≡ slice_set old.places.items name.index (emptied (name.generation + 1))) → IfNone r (new ≡ old)
    → named new.places.items ≡ record m { kept = maps.remove m.kept name }
taken old new name m None view is some same =
    let none : maps.get m.kept name ≡ None = ap (λ (n : Named). maps.get n.kept name) (sym view) ∙ (tells old.places.items name ∙ sym is) in
    let gone = none_removed m.kept name none in
    ap (λ (places : Places). named places.places.items) same ∙ (view ∙ (λ i. record { kept = gone i; given = m.given }))
taken old new name m (Some b) view is some same =
    let place = found old.places.items name (sym (ap is_some is)) in
    let kept =
    removed old.places.items new.places.items name (changes_emptied old.places.items new.places.items name place.0 place.1 some)
    ∙ ap (λ (n : Named). maps.remove n.kept name) view in
    let given =
    ap (map given_of) some ∙ (map-set given_of old.places.items name.index (holding name.generation place.0) (emptied (name.generation + 1))
    place.1 refl ∙ ap (λ (n : Named). n.given) view) in
    λ i. record { kept = kept i; given = given i }

-- ---- a binding alone

none_left : (name : BindingName) (b : AnyBinding) (q : BindingName)
    → maps.get (maps.remove (maps.insert (maps.empty {R = name_cmp}) name b) name) q ≡ None
none_left name b q =
    maps.get-remove name_cmp_total (maps.insert maps.empty name b) name q
    ∙ elim (cases_Bool (eq_by_cmp name_cmp q name)) [
      | inl e ↦ ap (λ (t : Bool). cond t None (maps.get (maps.insert (maps.empty {R = name_cmp}) name b) q)) e
      | inr e ↦
          ap (λ (t : Bool). cond t None (maps.get (maps.insert (maps.empty {R = name_cmp}) name b) q)) e
          ∙ (maps.get-insert name_cmp_total maps.empty name b q
          ∙ (ap (λ (t : Bool). cond t (Some b) (maps.get (maps.empty {R = name_cmp}) q)) e ∙ maps.get-empty name_cmp q))
    ]

one_kept : (before : FinMap name_cmp AnyBinding) (name : BindingName) (b : AnyBinding) → ((q : BindingName) → maps.get before q ≡ None)
    → (q : BindingName) (label : ℕ) → label_in (maps.get (maps.insert before name b) q) ≡ Some label → (q ≡ name) × (label_of b ≡ Some label)
one_kept before name b none q label h =
    let is : label_in (cond (eq_by_cmp name_cmp q name) (Some b) (maps.get before q)) ≡ Some label =
    sym (ap label_in (maps.get-insert name_cmp_total before name b q)) ∙ h in
    elim (cases_Bool (eq_by_cmp name_cmp q name)) [
      | inl e ↦ (
        name_cmp_exact q name ((Equal-is (name_cmp q name)).0 e),
        sym (ap (λ (t : Bool). label_in (cond t (Some b) (maps.get before q))) e)
            ∙ is,
      )
      | inr e ↦ let nothing : None ≡ Some label =
          sym (ap label_in (none q)) ∙ (sym (ap (λ (t : Bool). label_in (cond t (Some b) (maps.get before q))) e) ∙ is) in absurd cc
    ]

-- a binding that is kept where another one was kept and taken
pub one_after : (none first after second : Named) (name again : BindingName) (w b : AnyBinding) → none ≡ record { kept = maps.empty; given = [] }
    → first.kept ≡ maps.insert none.kept name w
    → after ≡ record first { kept = maps.remove first.kept name } → second.kept ≡ maps.insert after.kept again b
    → (q : BindingName) (label : ℕ) → label_in (maps.get second.kept q) ≡ Some label → (q ≡ again) × (label_of b ≡ Some label)
one_after none first after second name again w b nothing kept taken_so more q label h =
    let left : after.kept ≡ maps.remove (maps.insert maps.empty name w) name =
    ap (λ (n : Named). n.kept) taken_so ∙ ap (λ (m : FinMap name_cmp AnyBinding). maps.remove m name)
    (kept ∙ ap (λ (n : Named). maps.insert n.kept name w) nothing) in
    one_kept after.kept again b (λ p. ap (λ (m : FinMap name_cmp AnyBinding). maps.get m p) left ∙ none_left name w p) q label
    (subst (λ (m : FinMap name_cmp AnyBinding). label_in (maps.get m q) ≡ Some label) more h)
