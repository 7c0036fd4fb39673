-- What one step does to a view, over plain variables.
use Rattle.std.proofs.Common.{arith, ◌≡◌, ◌≢◌, ℕ, ◌+◌, ◌≤◌, Bool, true, false, cond, ◌&&◌, ◌||◌, ◌⊎◌, inl, inr, List, [], ◌∷◌, ◌++◌, Option, Some, None, refl, sym, ap, subst, ◌∙◌}
use Rattle.std.proofs.lemmas.Bool.{or_cases, and_parts, leb-true}
use Rattle.std.specs.Prelude.{nat_le, option_map}
use Rattle.mv_base.specs.table_defs.Changes.{Leads, difference}
use Rattle.edge_defs.proofs.table_laws.PendingLemmas.{leads_on, difference_leads}
use Rattle.edge_defs.specs.Edge.{Selected, TakenRoute}
use Rattle.edge_defs.specs.Keys.{Value, same_value}
use Rattle.edge_defs.specs.Steps.{learned}
use Rattle.edge_defs.proofs.KeyLemmas.{value_exact}
use Rattle.edge_words.specs.edge_laws.Rule.{View, value_in}

-- a view whose parts are equal
pub along : {clock delay : ℕ} {a b c d e f : Bool} {o n : Option Value} {p r : Option Selected} {k l : Option TakenRoute}
    {xs ys : List (Option Value)}
    → b ≡ a → d ≡ c → f ≡ e → n ≡ o → r ≡ p → l ≡ k → ys ≡ xs → View clock delay a c e o p k xs → View clock delay b d f n r l ys
along {clock} {delay} {a} {b} {c} {d} {e} {f} {o} {n} {p} {r} {k} {l} {xs} {ys} joined near far out picked taken pending h =
    let h1 = subst (λ x. View clock delay x c e o p k xs) (sym joined) h in
    let h2 = subst (λ x. View clock delay b x e o p k xs) (sym near) h1 in
    let h3 = subst (λ x. View clock delay b d x o p k xs) (sym far) h2 in
    let h4 = subst (λ x. View clock delay b d f x p k xs) (sym out) h3 in
    let h5 = subst (λ x. View clock delay b d f n x k xs) (sym picked) h4 in
    let h6 = subst (λ x. View clock delay b d f n r x xs) (sym taken) h5 in
    subst (λ x. View clock delay b d f n r l x) (sym pending) h6

pub both_none : {X : Type 0} (xs ys : List X) → xs ++ ys ≡ [] → (xs ≡ []) × (ys ≡ [])
both_none [] ys e = (refl, e)
both_none (x ∷ xs) ys e = absurd cc

-- ---- the sender's side

-- how the selection of a key may change with what is told at the key: it was made when the one before it was, or it is new and the
-- change of what is told is seen
abbrev pub Picks : ℕ → Bool → Option Selected → Option Selected → List (Option Value) → Type 0
Picks clock near old new change =
    (selected : Selected) → new ≡ Some selected → ((before : Selected) × (old ≡ Some before) × (before.since ≡ selected.since))
    ⊎ ((selected.since ≤ clock) × (near ≡ true → change ≢ []))

picked_past : (clock : ℕ) (near : Bool) (old new : Option Selected) (change : List (Option Value)) → Picks clock near old new change
    → ((selected : Selected) → old ≡ Some selected → selected.since ≤ clock)
    → (selected : Selected) → new ≡ Some selected → selected.since ≤ clock
picked_past clock near old new change picks h selected is =
    elim (picks selected is) [
      | inl before ↦ subst (λ n. n ≤ clock) before.2 (h before.0 before.1)
      | inr e ↦ e.0
    ]

picked_timely : (clock : ℕ) (old new : Option Selected) (change : List (Option Value)) (since : ℕ) → Picks clock true old new change → change ≡ []
    → ((selected : Selected) → old ≡ Some selected → selected.since ≤ since)
    → (selected : Selected) → new ≡ Some selected → selected.since ≤ since
picked_timely clock old new change since picks none h selected is =
    elim (picks selected is) [
      | inl before ↦ subst (λ n. n ≤ since) before.2 (h before.0 before.1)
      | inr e ↦ absurd (e.1 refl none)
    ]

-- The sender's end, what it told and its selections change, and the change of what it told is put.
pub near_view : (clock delay : ℕ) (joined near new far : Bool) (out next : Option Value) (picked other : Option Selected) (taken : Option TakenRoute)
    (pending change : List (Option Value))
    → Picks clock (near && new) picked other (difference same_value out next) → (near ≡ false → out ≡ None)
    → (new ≡ true → change ≡ difference same_value out next) → (new ≡ false → change ≡ [])
    → (new ≡ false → (near ≡ false) ⊎ (joined ≡ false))
    → View clock delay joined near far out picked taken pending
    → View clock delay joined new far next other taken (cond joined (pending ++ change) pending)
near_view clock delay true true true far out next picked other taken pending change picks before is none ends h = record {
  leads = λ _ _. subst (λ values. Leads (value_in taken) (pending ++ values) next) (sym (is refl))
      (leads_on (value_in taken) out next pending (difference same_value out next) (h.leads refl refl)
      (difference_leads same_value value_exact out next));
  blank = λ _ e. absurd cc;
  quiet = λ e. absurd cc;
  off = h.off;
  past = picked_past clock true picked other (difference same_value out next) picks h.past;
  timely = λ selected route _ _ empty q k. (let e = both_none pending change empty in
      picked_timely clock picked other (difference same_value out next) route.since picks (sym (is refl) ∙ e.1)
      (λ old i. h.timely old route refl refl e.0 i k) selected q);
  due = h.due;
}
near_view clock delay true true false far out next picked other taken pending change picks before is none ends h =
    elim (ends refl) [ inl e ↦ absurd cc | inr e ↦ absurd cc ]
near_view clock delay true false true far out next picked other taken pending change picks before is none ends h =
    let b = h.blank refl refl in record {
      leads = λ _ _. subst (λ values. Leads (value_in taken) (pending ++ values) next) (sym (is refl))
          (leads_on (value_in taken) out next pending (difference same_value out next)
          (subst (λ value. Leads (value_in taken) pending value) (sym (before refl))
          (subst (λ values. Leads (value_in taken) values None) (sym b.0) (ap value_in b.1)))
          (difference_leads same_value value_exact out next));
      blank = λ _ e. absurd cc;
      quiet = λ e. absurd cc;
      off = h.off;
      past = picked_past clock false picked other (difference same_value out next) picks h.past;
      timely = λ selected route _ _ empty q k. (let e = b.1 in absurd cc);
      due = h.due;
    }
near_view clock delay true false false far out next picked other taken pending change picks before is none ends h =
    let b = h.blank refl refl in record {
      leads = λ _ e. absurd cc;
      blank = λ _ _. (ap (λ values. pending ++ values) (none refl) ∙ ap (λ values. values ++ []) b.0, b.1);
      quiet = λ e. absurd cc;
      off = h.off;
      past = picked_past clock false picked other (difference same_value out next) picks h.past;
      timely = λ selected route _ e. absurd cc;
      due = h.due;
    }
near_view clock delay false near new far out next picked other taken pending change picks before is none ends h = record {
  leads = λ e. absurd cc;
  blank = λ e. absurd cc;
  quiet = h.quiet;
  off = h.off;
  past = picked_past clock (near && new) picked other (difference same_value out next) picks h.past;
  timely = λ selected route e. absurd cc;
  due = h.due;
}

-- ---- the receiver's side

apart : (value : Value) (old : TakenRoute) (b : Bool) → Some old.value ≢ Some value → same_value old.value value ≡ b → b ≡ false
apart value old true ne e = absurd (ne (ap (λ x. Some x) ((value_exact old.value value).0 e)))
apart value old false ne e = refl

-- a value that is not held is learned now
pub learned_anew : (clock : ℕ) (value : Value) (taken : Option TakenRoute) → value_in taken ≢ Some value
    → learned clock value taken ≡ record { value = value; since = clock; run = false }
learned_anew clock value None ne = refl
learned_anew clock value (Some old) ne =
    ap (λ b. cond b old (record { value = value; since = clock; run = false })) (apart value old (same_value old.value value) ne refl)

reach_view : (clock delay : ℕ) (joined near : Bool) (out : Option Value) (picked : Option Selected) (taken : Option TakenRoute) (value : Value)
    (rest : List (Option Value))
    → View clock delay joined near true out picked taken (Some value ∷ rest)
    → View clock delay joined near true out picked (Some (learned clock value taken)) rest
reach_view clock delay true true out picked taken value rest h =
    let e = h.leads refl refl in
    along refl refl refl refl refl (ap (λ x. Some x) (learned_anew clock value taken e.0)) refl (record {
      leads = λ _ _. e.1;
      blank = λ _ x. absurd cc;
      quiet = λ x. absurd cc;
      off = λ x. absurd cc;
      past = h.past;
      timely = λ selected route _ _ none is k. (let x = h.past selected is in let y : clock ≡ route.since = cc in omega arith);
      due = λ route k r. absurd cc;
    })
reach_view clock delay true false out picked taken value rest h = (let e = (h.blank refl refl).0 in absurd cc)
reach_view clock delay false near out picked taken value rest h = (let e = h.quiet refl in absurd cc)

unreach_view : (clock delay : ℕ) (joined near : Bool) (out : Option Value) (picked : Option Selected) (taken : Option TakenRoute)
    (rest : List (Option Value))
    → View clock delay joined near true out picked taken (None ∷ rest) → View clock delay joined near true out picked None rest
unreach_view clock delay true true out picked taken rest h = record {
  leads = λ _ _. (h.leads refl refl).1;
  blank = λ _ x. absurd cc;
  quiet = λ x. absurd cc;
  off = λ x. absurd cc;
  past = h.past;
  timely = λ selected route _ _ none is k. absurd cc;
  due = λ route k r. absurd cc;
}
unreach_view clock delay true false out picked taken rest h = (let e = (h.blank refl refl).0 in absurd cc)
unreach_view clock delay false near out picked taken rest h = (let e = h.quiet refl in absurd cc)

-- what a change that is taken leaves at its key
abbrev pub taken_after : ℕ → Option Value → Option TakenRoute → Option TakenRoute
taken_after clock None old = None
taken_after clock (Some value) old = Some (learned clock value old)

-- the first change in transit is taken, at its key and at any other
pub taken_view : (clock delay : ℕ) (joined near here : Bool) (out : Option Value) (picked : Option Selected) (taken : Option TakenRoute)
    (value : Option Value) (rest : List (Option Value))
    → View clock delay joined near true out picked taken (cond here (value ∷ rest) rest)
    → View clock delay joined near true out picked (cond here (taken_after clock value taken) taken) rest
taken_view clock delay joined near false out picked taken value rest h = h
taken_view clock delay joined near true out picked taken None rest h = unreach_view clock delay joined near out picked taken rest h
taken_view clock delay joined near true out picked taken (Some value) rest h = reach_view clock delay joined near out picked taken value rest h

-- the receiver's end comes up, with nothing taken
pub far_up : (clock delay : ℕ) (joined near : Bool) (out : Option Value) (picked : Option Selected) (taken : Option TakenRoute)
    (pending : List (Option Value))
    → View clock delay joined near false out picked taken pending → View clock delay joined near true out picked None pending
far_up clock delay joined near out picked taken pending h =
    let e = h.off refl in
    let i = along refl refl refl refl refl (sym e) refl h in record {
      leads = i.leads;
      blank = i.blank;
      quiet = i.quiet;
      off = λ x. absurd cc;
      past = i.past;
      timely = i.timely;
      due = i.due;
    }

-- where the session is not joined, the receiver's end goes down, and nothing is taken any more
pub far_down : (clock delay : ℕ) (near far new : Bool) (out : Option Value) (picked : Option Selected) (taken : Option TakenRoute)
    (pending : List (Option Value))
    → View clock delay false near far out picked taken pending → View clock delay false near new out picked None pending
far_down clock delay near far new out picked taken pending h = record {
  leads = λ e. absurd cc;
  blank = λ e. absurd cc;
  quiet = h.quiet;
  off = λ _. refl;
  past = h.past;
  timely = λ selected route e. absurd cc;
  due = λ route e. absurd cc;
}

-- a route whose delay may be over
abbrev pub run_by : ℕ → ℕ → Bool → TakenRoute → TakenRoute
run_by clock delay used route = record route { run = route.run || (used && nat_le (route.since + delay) clock) }

-- timers of the routes that were taken are run
pub far_run : (clock delay : ℕ) (joined near far : Bool) (out : Option Value) (picked : Option Selected) (taken : Option TakenRoute)
    (pending : List (Option Value)) (used : TakenRoute → Bool)
    → View clock delay joined near far out picked taken pending
    → View clock delay joined near far out picked (option_map (λ route. run_by clock delay (used route) route) taken) pending
far_run clock delay joined near far out picked None pending used h = h
far_run clock delay joined near far out picked (Some old) pending used h = record {
  leads = h.leads;
  quiet = h.quiet;
  past = h.past;
  blank = λ a b. (let e = (h.blank a b).1 in absurd cc);
  off = λ a. (let e = h.off a in absurd cc);
  timely = λ selected route a b c e f. (let i : route.since ≡ old.since = cc in let x = h.timely selected old a b c e refl in omega arith);
  due = λ route e r. (let i : route.since ≡ old.since = cc in let j : (old.run || (used old && nat_le (old.since + delay) clock)) ≡ true = cc in
      let x : old.since + delay ≤ clock =
      elim (or_cases old.run (used old && nat_le (old.since + delay) clock) j)
      [ inl z ↦ h.due old refl z | inr z ↦ leb-true (old.since + delay) clock (and_parts (used old) (nat_le (old.since + delay) clock) z).1 ] in
      omega arith);
}

-- ---- both sides

pub cut_view : (clock delay : ℕ) (joined near far : Bool) (out : Option Value) (picked : Option Selected) (taken : Option TakenRoute)
    (pending : List (Option Value))
    → View clock delay joined near far out picked taken pending → View clock delay false near far out picked taken []
cut_view clock delay joined near far out picked taken pending h = record {
  leads = λ e. absurd cc;
  blank = λ e. absurd cc;
  quiet = λ _. refl;
  off = h.off;
  past = h.past;
  timely = λ selected route e. absurd cc;
  due = h.due;
}

pub join_view : (clock delay : ℕ) (joined : Bool) (out : Option Value) (picked : Option Selected) (taken : Option TakenRoute)
    (pending : List (Option Value))
    → View clock delay joined false false out picked taken pending → View clock delay true false false out picked taken pending
join_view clock delay true out picked taken pending h = h
join_view clock delay false out picked taken pending h = record {
  leads = λ _ e. absurd cc;
  blank = λ _ _. (h.quiet refl, h.off refl);
  quiet = λ e. absurd cc;
  off = h.off;
  past = h.past;
  timely = λ selected route _ e. absurd cc;
  due = h.due;
}

pub tick_view : (clock ticks delay : ℕ) (joined near far : Bool) (out : Option Value) (picked : Option Selected) (taken : Option TakenRoute)
    (pending : List (Option Value))
    → View clock delay joined near far out picked taken pending → View (clock + ticks) delay joined near far out picked taken pending
tick_view clock ticks delay joined near far out picked taken pending h = record {
  leads = h.leads;
  blank = h.blank;
  quiet = h.quiet;
  off = h.off;
  timely = h.timely;
  past = λ selected e. (let x = h.past selected e in omega arith);
  due = λ route e r. (let x = h.due route e r in omega arith);
}
