-- What is left of the labels once the bindings of all places are ended, the last place first.
use Rattle.std.proofs.Common.{inl, inr, ◌≡◌, ◌≢◌, ℕ, Bool, true, false, cond, nat_eq, List, [], ◌∷◌, ◌++◌, length, slice_get, Option, None, Some, IfSome, refl, sym, ap, ◌∙◌, arith}
use Rattle.std.proofs.lemmas.Bool.{cases_eq}
use Rattle.std.proofs.lemmas.List.{length-set}
use Rattle.std.proofs.lemmas.Option.{slice_get_past}
use Rattle.tunnel_bindings.specs.declared.name.BindingName.{BindingName}
use Rattle.tunnel_bindings.specs.declared.places.Place.{Place}
use Rattle.tunnel_bindings.specs.declared.state.LabelState.TheVariants.{Free, Owned}
use Rattle.tunnel_bindings.specs.Labels.{Space, state_of, IsOwned}
use Rattle.tunnel_bindings.specs.States.{label_in, with_free}
use Rattle.tunnel_bindings.specs.Bindings.{Carries, AreApart}
use Rattle.tunnel_bindings.specs.Places.{name_at, kept_in, named, label_held, label_at, AreReady, AreEnded}
use Rattle.tunnel_bindings.proofs.LabelLemmas.{set-label, set-others, owned_still}
use Rattle.tunnel_bindings.proofs.PlaceLemmas.{more-same, more-other, kept_same, tells}

-- ---- the labels of one place more

last-label : (places : List Place) (place : Place) → label_at (places ++ place ∷ []) (length places) ≡ label_in place.binding
last-label places place = ap label_held (more-same places place)

within : (places : List Place) (k label : ℕ) → label_at places k ≡ Some label → k ≢ length places
within places k label h e =
    let past : Some label ≡ None = sym h ∙ ap label_held (slice_get_past places k (omega (arith, e))) in
    absurd cc

first-label : (places : List Place) (place : Place) (k label : ℕ) → label_at places k ≡ Some label → label_at (places ++ place ∷ []) k ≡ Some label
first-label places place k label h = ap label_held (more-other places place k (within places k label h)) ∙ h

-- ---- one place is ended

pub ready_here : (places : List Place) (place : Place) (space : Space) → AreReady (places ++ place ∷ []) space
    → IfSome (label_in place.binding) (λ label. IsOwned space label)
ready_here places place space h = by (label_in place.binding) refl
  where
    by : (o : Option ℕ) → label_in place.binding ≡ o → IfSome o (λ label. IsOwned space label)
    by None e = tt
    by (Some label) e = h.owned (length places) label (last-label places place ∙ e)

-- the label of the last place is at no other one
not_last : (places : List Place) (place : Place) (space : Space) (label own : ℕ) (k : ℕ) → label_in place.binding ≡ Some own
    → AreReady (places ++ place ∷ []) space → label_at places k ≡ Some label → label ≢ own
not_last places place space label own k e h at same =
    within places k label at (h.apart k (length places) label (first-label places place k label at)
    (last-label places place ∙ (e ∙ ap (λ (l : ℕ). Some l) (sym same))))

ready_with : (places : List Place) (place : Place) (space : Space) (o : Option ℕ) → label_in place.binding ≡ o → AreReady (places ++ place ∷ []) space
    → AreReady places (with_free space o)
ready_with places place space None e h = record {
  owned = λ i label at. h.owned i label (first-label places place i label at);
  apart = λ i j label at other. h.apart i j label (first-label places place i label at) (first-label places place j label other);
}
ready_with places place space (Some own) e h = record {
  owned = λ i label at.
      owned_still space label own Owned Free (h.owned i label (first-label places place i label at))
      (h.owned (length places) own (last-label places place ∙ e)) (not_last places place space label own i e h at);
  apart = λ i j label at other. h.apart i j label (first-label places place i label at) (first-label places place j label other);
}

pub ready_step : (places : List Place) (place : Place) (space : Space) → AreReady (places ++ place ∷ []) space
    → AreReady places (with_free space (label_in place.binding))
ready_step places place space h = ready_with places place space (label_in place.binding) refl h

pub some-same : (a b : ℕ) → Some a ≡ Some b → a ≡ b
some-same a b e = cc

ended_with : (places : List Place) (place : Place) (space last : Space) (o : Option ℕ) → label_in place.binding ≡ o
    → AreReady (places ++ place ∷ []) space → AreEnded places (with_free space o) last
    → AreEnded (places ++ place ∷ []) space last
ended_with places place space last None e h ended = record {
  freed = λ i label at. elim (cases_eq i (length places)) [
    | inl s ↦ let none : Some label ≡ None = sym at ∙ (ap (label_at (places ++ place ∷ [])) s ∙ (last-label places place ∙ e)) in absurd cc
    | inr d ↦ ended.freed i label (sym (ap label_held (more-other places place i d)) ∙ at)
  ];
  others = λ label none. ended.others label (λ i at. none i (first-label places place i label at));
  life = ended.life;
  count = ended.count;
}
ended_with places place space last (Some own) e h ended =
    let owned = h.owned (length places) own (last-label places place ∙ e) in
    record {
      freed = λ i label at. elim (cases_eq i (length places)) [
        | inl s ↦
            let same : label ≡ own = some-same label own (sym at ∙ (ap (label_at (places ++ place ∷ [])) s ∙ (last-label places place ∙ e))) in
            ap (state_of last) same ∙ (ended.others own (λ k there. not_last places place space own own k e h there refl)
            ∙ set-label space own Owned Free owned)
        | inr d ↦ ended.freed i label (sym (ap label_held (more-other places place i d)) ∙ at)
      ];
      others = λ label none.
          ended.others label (λ i at. none i (first-label places place i label at))
          ∙ set-others space own label Owned Free owned
          (λ same. none (length places) (last-label places place ∙ (e ∙ ap (λ (l : ℕ). Some l) (sym same))));
      life = ended.life;
      count = ended.count ∙ length-set space.states _ _;
    }

pub ended_step : (places : List Place) (place : Place) (space last : Space) → AreReady (places ++ place ∷ []) space
    → AreEnded places (with_free space (label_in place.binding)) last
    → AreEnded (places ++ place ∷ []) space last
ended_step places place space last h ended = ended_with places place space last (label_in place.binding) refl h ended

pub no_places : (places : List Place) → length places ≡ 0 → places ≡ []
no_places [] e = refl
no_places (place ∷ places) e = absurd (omega (arith, e))

pub none_ended : (space : Space) → AreEnded [] space space
none_ended space = record {
  freed = λ i label at. absurd cc;
  others = λ label none. refl;
  life = refl;
  count = refl;
}

-- ---- labels by place, and by name

held_from : (g label : ℕ) (o : Option Place) → label_in (kept_in g o) ≡ Some label → label_held o ≡ Some label
held_from g label None h = absurd cc
held_from g label (Some place) h = by (nat_eq place.generation g) h
  where
    by : (t : Bool) → label_in (cond t place.binding None) ≡ Some label → label_in place.binding ≡ Some label
    by true e = e
    by false e = absurd cc

pub at_place : (places : List Place) (name : BindingName) (label : ℕ) → Carries (named places) name label → label_at places name.index ≡ Some label
at_place places name label h = held_from name.generation label (slice_get places name.index) (sym (ap label_in (tells places name)) ∙ h)

pub under_name : (places : List Place) (i label : ℕ) → label_at places i ≡ Some label → (g : ℕ) × Carries (named places) (name_at i g) label
under_name places i label h = by (slice_get places i) refl
  where
    by : (o : Option Place) → slice_get places i ≡ o → (g : ℕ) × Carries (named places) (name_at i g) label
    by None e = let none : Some label ≡ None = sym h ∙ ap label_held e in absurd cc
    by (Some place) e = (
      place.generation,
      ap label_in (tells places (name_at i place.generation)
          ∙ (ap (kept_in place.generation) e ∙ kept_same place.generation place refl)) ∙ (sym (ap label_held e) ∙ h),
    )

pub ready_named : (places : List Place) (space : Space) → ((name : BindingName) (label : ℕ) → Carries (named places) name label → IsOwned space label)
    → AreApart (named places) → AreReady places space
ready_named places space owned apart = record {
  owned = λ i label at. let under = under_name places i label at in owned (name_at i under.0) label under.1;
  apart = λ i j label at other.
      let under = under_name places i label at in
      let beside = under_name places j label other in
      ap (λ (name : BindingName). name.index) (apart (name_at i under.0) (name_at j beside.0) label under.1 beside.1);
}
