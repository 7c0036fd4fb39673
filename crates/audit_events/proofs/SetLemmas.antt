-- A message sets each entry that it names once.
use Rattle.std.proofs.Common.{◌≡◌, ℕ, ◌<◌, Bool, true, false, cond, inl, inr, List, [], ◌∷◌, ◌++◌, Option, None, Some, refl, sym, ap, ◌∙◌, arith}
use Rattle.std.specs.Prelude.{◌||◌, ◌&&◌}
use Rattle.std.specs.List.{list_any}
use Rattle.std.proofs.lemmas.Bool.{cases_Bool, eq-eqb, ne_eqb}
use Rattle.std.proofs.lemmas.List.Folds.{list_any-append}
use Rattle.audit_defs.specs.scenario_defs.declared.event.IfaceEntry.{IfaceEntry}
use Rattle.pim_defs.specs.pim_joinprune.declared.message.JoinPrune.{JoinPrune}
use Rattle.pim_state.specs.Plan.{is_at}
use Rattle.pim_state.proofs.MapLemmas.{at-equal, at-symmetric}
use Rattle.audit_events.specs.declared.joined.Held.{Held}
use Rattle.audit_events.specs.Joined.{is_set_at, set_by, set_once, joins_shared}

any_one_more : (at x : IfaceEntry) (named : List IfaceEntry) → list_any (is_at at) (named ++ x ∷ []) ≡ (list_any (is_at at) named || is_at at x)
any_one_more at x named = list_any-append (is_at at) named (x ∷ []) ∙ ap (λ b. list_any (is_at at) named || b) (last (is_at at x))
  where
    last : (b : Bool) → (b || false) ≡ b
    last true = refl
    last false = refl

or_no : (b : Bool) → (b || false) ≡ b
or_no true = refl
or_no false = refl

or_yes : (b : Bool) → (b || true) ≡ true
or_yes true = refl
or_yes false = refl

module _ (message : JoinPrune) (clock now : ℕ) (since : IfaceEntry → ℕ) where
  -- what the message sets for the entry
  abbrev pub set_for : (IfaceEntry → Option Held) → IfaceEntry → Held
  set_for before at = set_by message clock now (since at) at (before at)

  -- what is held where the message has set the entries of the list
  abbrev pub with_set : (IfaceEntry → Option Held) → List IfaceEntry → IfaceEntry → Option Held
  with_set before named at = cond (list_any (is_at at) named) (Some (set_for before at)) (before at)

  -- the entry itself is set once
  set_here : (before : IfaceEntry → Option Held) (named : List IfaceEntry) (x : IfaceEntry) → is_set_at now (before x) ≡ false → (o : Option Held)
      → o ≡ with_set before named x →
      set_once message clock now (since x) x o ≡ Some (set_for before x)
  set_here before named x fresh o e = elim (cases_Bool (list_any (is_at x) named)) [
    | inl is ↦
        let same : o ≡ Some (set_for before x) = e ∙ ap (λ b. cond b (Some (set_for before x)) (before x)) is in
        let set : is_set_at now o ≡ true = ap (is_set_at now) same ∙ eq-eqb now now refl in
        ap (λ b. cond b o (Some (set_by message clock now (since x) x o))) set ∙ same
    | inr isnt ↦
        let same : o ≡ before x = e ∙ ap (λ b. cond b (Some (set_for before x)) (before x)) isnt in
        let unset : is_set_at now o ≡ false = ap (is_set_at now) same ∙ fresh in
        ap (λ b. cond b o (Some (set_by message clock now (since x) x o))) unset
        ∙ ap (λ (held : Option Held). Some (set_by message clock now (since x) x held)) same
  ]

  pub set_more : (before cur new : IfaceEntry → Option Held) (named more : List IfaceEntry) (x at : IfaceEntry) (own : ℕ) → own ≡ since x →
      more ≡ named ++ x ∷ [] → ((other : IfaceEntry) → is_set_at now (before other) ≡ false)
      → ((other : IfaceEntry) → cur other ≡ with_set before named other) →
      new at ≡ cond (is_at at x) (set_once message clock now own x (cur x)) (cur at) → new at ≡ with_set before more at
  set_more before cur new named more x at own same whole fresh held given =
      let e : new at ≡ cond (is_at at x) (set_once message clock now (since x) x (cur x)) (cur at) =
      given ∙ ap (λ s. cond (is_at at x) (set_once message clock now s x (cur x)) (cur at)) same in elim (cases_Bool (is_at at x)) [
        | inl is ↦
            let one : at ≡ x = at-equal at x is in
            let now_set : new at ≡ Some (set_for before x) =
            e ∙ (ap (λ b. cond b (set_once message clock now (since x) x (cur x)) (cur at)) is
            ∙ set_here before named x (fresh x) (cur x) (held x)) in
            let among : list_any (is_at at) more ≡ true =
            ap (list_any (is_at at)) whole ∙ (any_one_more at x named
            ∙ (ap (λ b. list_any (is_at at) named || b) is ∙ or_yes (list_any (is_at at) named))) in
            now_set ∙ (ap (λ (y : IfaceEntry). Some (set_for before y)) (sym one)
            ∙ sym (ap (λ b. cond b (Some (set_for before at)) (before at)) among))
        | inr isnt ↦
            let among : list_any (is_at at) more ≡ list_any (is_at at) named =
            ap (list_any (is_at at)) whole ∙ (any_one_more at x named
            ∙ (ap (λ b. list_any (is_at at) named || b) isnt ∙ or_no (list_any (is_at at) named))) in
            e ∙ (ap (λ b. cond b (set_once message clock now (since x) x (cur x)) (cur at)) isnt
            ∙ (held at ∙ sym (ap (λ b. cond b (Some (set_for before at)) (before at)) among)))
      ]

-- ---- joins (*,G)

module _ (message : JoinPrune) (now : ℕ) where
  abbrev pub with_shared : (IfaceEntry → Option ℕ) → List IfaceEntry → IfaceEntry → Option ℕ
  with_shared before named at = cond (list_any (is_at at) named && joins_shared message at) (Some now) (before at)

  pub share_more : (before cur new : IfaceEntry → Option ℕ) (named more : List IfaceEntry) (x at : IfaceEntry) → more ≡ named ++ x ∷ []
      → cur at ≡ with_shared before named at →
      new at ≡ cond (is_at at x && joins_shared message x) (Some now) (cur at) → new at ≡ with_shared before more at
  share_more before cur new named more x at whole held e = elim (cases_Bool (is_at at x)) [
    | inl is ↦
        let one : at ≡ x = at-equal at x is in
        let among : list_any (is_at at) more ≡ true =
        ap (list_any (is_at at)) whole ∙ (any_one_more at x named
        ∙ (ap (λ b. list_any (is_at at) named || b) is ∙ or_yes (list_any (is_at at) named))) in
        e ∙ (ap (λ b. cond (b && joins_shared message x) (Some now) (cur at)) is
        ∙ (ap (λ (y : IfaceEntry). cond (joins_shared message y) (Some now) (cur at)) (sym one)
        ∙ (by (joins_shared message at) (list_any (is_at at) named) held
        ∙ sym (ap (λ b. cond (b && joins_shared message at) (Some now) (before at)) among))))
    | inr isnt ↦
        let among : list_any (is_at at) more ≡ list_any (is_at at) named =
        ap (list_any (is_at at)) whole ∙ (any_one_more at x named
        ∙ (ap (λ b. list_any (is_at at) named || b) isnt ∙ or_no (list_any (is_at at) named))) in
        e ∙ (ap (λ b. cond (b && joins_shared message x) (Some now) (cur at)) isnt
        ∙ (held ∙ sym (ap (λ b. cond (b && joins_shared message at) (Some now) (before at)) among)))
  ]
    where
      by : (j b : Bool) → cur at ≡ cond (b && j) (Some now) (before at) → cond j (Some now) (cur at) ≡ cond j (Some now) (before at)
      by true b h = refl
      by false true h = h
      by false false h = h

-- ---- one entry

pub set_one_new : (message : JoinPrune) (clock now since : ℕ) (at other : IfaceEntry) (o : Option Held) (held : Held)
    (before new : IfaceEntry → Option Held) →
    is_set_at now o ≡ false → held ≡ set_by message clock now since at o → new other ≡ cond (is_at at other) (Some held) (before other) →
    new other ≡ cond (is_at other at) (set_once message clock now since at o) (before other)
set_one_new message clock now since at other o held before new unset same e =
    e ∙ (λ i. cond (at-symmetric at other i) (one i) (before other))
  where
    one : Some held ≡ set_once message clock now since at o
    one = ap (λ (h : Held). Some h) same ∙ sym (ap (λ b. cond b o (Some (set_by message clock now since at o))) unset)

pub set_one_same : (message : JoinPrune) (clock now since : ℕ) (at other : IfaceEntry) (before : IfaceEntry → Option Held)
    → is_set_at now (before at) ≡ true →
    before other ≡ cond (is_at other at) (set_once message clock now since at (before at)) (before other)
set_one_same message clock now since at other before set = elim (cases_Bool (is_at other at)) [
  | inl is ↦
      ap before (at-equal other at is)
      ∙ (sym (ap (λ b. cond b (before at) (Some (set_by message clock now since at (before at)))) set)
      ∙ sym (ap (λ b. cond b (set_once message clock now since at (before at)) (before other)) is))
  | inr isnt ↦ sym (ap (λ b. cond b (set_once message clock now since at (before at)) (before other)) isnt)
]

pub fresh_unset : (now : ℕ) (o : Option Held) → ((held : Held) → o ≡ Some held → held.set < now) → is_set_at now o ≡ false
fresh_unset now None h = refl
fresh_unset now (Some held) h = ne_eqb held.set now (λ (same : held.set ≡ now). (let less = h held refl in omega (arith, less, same)))
