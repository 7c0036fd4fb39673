-- Laws of tables of flows.
use Rattle.std.proofs.Common.{◌≡◌, ℕ, ◌<◌, ◌+◌, is_some, Bool, true, false, cond, ◌&&◌, ◌||◌, List, [], ◌∷◌, map, take, length, get_or, Option, None, Some, refl, sym, ap, subst, ◌∙◌}
use Rattle.std.specs.List.{list_any, AllByRecursion, IsDistinct}
use Rattle.std.specs.Map.{lookup, keys_of}
use Rattle.std.specs.Map.Calls.{RetainsPairs}
use Rattle.std.proofs.lemmas.List.Folds.{list_any_more}
use Rattle.std.proofs.lemmas.Map.Keys.{IsDistinct-head, IsDistinct-tail}
use Rattle.scenario_defs.specs.declared.event.IfaceEntry.{IfaceEntry}
use Rattle.pim_defs.specs.declared.expiry.Expiry.{Expiry}
use Rattle.pim_defs.specs.Expiry.{is_after}
use Rattle.vrf_words.specs.declared.tree_defs.flow.Flow.{Flow}
use Rattle.vrf_words.specs.tree_defs.Keys.{same_flow}
use Rattle.vrf_words.proofs.tree_defs.KeyLemmas.{same_flow_equal, same_flow_symmetric}
use Rattle.vrf_flows.specs.declared.held.Held.{Held}
use Rattle.vrf_flows.specs.Held.{touches, mark, marked, unknown, held_sent, held_too, forgotten, differ, lapsed, Now}
use Rattle.vrf_flows.specs.Plan.{put_at, puts, sets, replan, planned, gain, loss, settled, settled_by}

-- ---- marks

or-again : (s a b : Bool) → ((s || a) || b) ≡ (s || (a || b))
or-again true a b = refl
or-again false a b = refl

pub marked-again : (a b : Bool) (held : Option Held) → marked b (marked a held) ≡ marked (a || b) held
marked-again a b None = refl
marked-again a b (Some held) = ap (λ (s : Bool). Some (record { stale = s; kept = held.kept })) (or-again held.stale a b)

or-none : (a : Bool) → (a || false) ≡ a
or-none true = refl
or-none false = refl

pub marked-not : (held : Option Held) → marked false held ≡ held
marked-not None = refl
marked-not (Some held) = ap (λ (s : Bool). Some (record { stale = s; kept = held.kept })) (or-none held.stale)

-- One more of a row of marks.
pub marks-more : {X : Type 0} (test : X → Bool) (xs : List X) (i : ℕ) (d : X) (old mid new : Option Held) → i < length xs
    → mid ≡ marked (list_any test (take i xs)) old → new ≡ marked (test (get_or xs i d)) mid → new ≡ marked (list_any test (take (i + 1) xs)) old
marks-more test xs i d old mid new l m n =
    n ∙ (ap (marked (test (get_or xs i d))) m ∙ (marked-again (list_any test (take i xs)) (test (get_or xs i d)) old
    ∙ ap (λ (b : Bool). marked b old) (sym (list_any_more test xs i d l))))

-- ---- a change of all that is held

abbrev pub change_each : (Flow → Held → Held) → List (Flow × Held) → List (Flow × Held)
change_each change es = map (λ (e : Flow × Held). (e.0, change e.0 e.1)) es

module _ {F : Type 0} (T : F → Flow → Held → Bool → Held → F → Type 0) (change : Flow → Held → Held) (f : F)
    (says : (k : Flow) (v : Held) (b : Bool) (w : Held) (g : F) → T f k v b w g → (b ≡ true) × (w ≡ change k v) × (g ≡ f)) where
  pub retained : (es kept : List (Flow × Held)) → RetainsPairs T f es kept → kept ≡ change_each change es
  retained [] kept h = h
  retained (e ∷ es) kept h =
      let s = says e.0 e.1 h.0 h.1 h.2 h.4 in
      let rest = retained es h.3 (subst (λ g. RetainsPairs T g es h.3) s.2 h.5) in
      h.6 ∙ (λ j. cond (s.0 j) ((e.0, s.1 j) ∷ rest j) (rest j))

-- what a change makes of a flow that is held
abbrev pub changed_by : (Flow → Held → Held) → Flow → Option Held → Option Held
changed_by change q None = None
changed_by change q (Some held) = Some (change q held)

lookup-changed : (change : Flow → Held → Held) (es : List (Flow × Held)) (q : Flow)
    → lookup (same_flow q) (change_each change es) ≡ changed_by change q (lookup (same_flow q) es)
lookup-changed change [] q = refl
lookup-changed change (e ∷ es) q = by (same_flow q e.0) refl (lookup-changed change es q)
  where
    by : (b : Bool) → same_flow q e.0 ≡ b → lookup (same_flow q) (change_each change es) ≡ changed_by change q (lookup (same_flow q) es) →
        cond b (Some (change e.0 e.1)) (lookup (same_flow q) (change_each change es))
        ≡ changed_by change q (cond b (Some e.1) (lookup (same_flow q) es))
    by true h rest = ap (λ (k : Flow). Some (change k e.1)) (sym (same_flow_equal q e.0 h))
    by false h rest = rest

abbrev pub mark_by : (Flow → Bool) → Flow → Held → Held
mark_by test q held = mark (test q) held

pub lookup-marked : (test : Flow → Bool) (es : List (Flow × Held)) (q : Flow)
    → lookup (same_flow q) (change_each (mark_by test) es) ≡ marked (test q) (lookup (same_flow q) es)
lookup-marked test es q = lookup-changed (mark_by test) es q ∙ by (lookup (same_flow q) es)
  where
    by : (o : Option Held) → changed_by (mark_by test) q o ≡ marked (test q) o
    by None = refl
    by (Some held) = refl

abbrev pub forget_by : Flow → Held → Held
forget_by q held = unknown

pub lookup-forgotten : (es : List (Flow × Held)) (q : Flow) → lookup (same_flow q) (change_each forget_by es) ≡ forgotten (lookup (same_flow q) es)
lookup-forgotten es q = lookup-changed forget_by es q ∙ by (lookup (same_flow q) es)
  where
    by : (o : Option Held) → changed_by forget_by q o ≡ forgotten o
    by None = refl
    by (Some held) = refl

-- ---- rows of puts

-- what is given for a key that is found
abbrev pub given_by : {X Y : Type 0} → (Flow → X → Option Y) → Flow → Option X → Option Y
given_by give q None = None
given_by give q (Some x) = give q x

abbrev pub or_old : {Y : Type 0} → Option Y → Option Y → Option Y
or_old None old = old
or_old (Some y) old = Some y

put-not : {Y : Type 0} (next old : Option Y) → put_at false next old ≡ old
put-not None old = refl
put-not (Some y) old = refl

put-here : {Y : Type 0} (next old : Option Y) → put_at true next old ≡ or_old next old
put-here None old = refl
put-here (Some y) old = refl

puts-apart : {X Y : Type 0} (give : Flow → X → Option Y) (es : List (Flow × X)) (old : Option Y) (q : Flow)
    → AllByRecursion (λ k. same_flow q k ≡ false) (keys_of es) → puts give es old q ≡ old
puts-apart give [] old q h = refl
puts-apart {X} {Y} give (e ∷ es) old q h =
    let here : put_at (same_flow e.0 q) (give e.0 e.1) old ≡ old =
    ap (λ (b : Bool). put_at b (give e.0 e.1) old) (same_flow_symmetric e.0 q ∙ h.0) ∙ put-not (give e.0 e.1) old in
    ap (λ (o : Option Y). puts give es o q) here ∙ puts-apart give es old q h.1

pub puts-lookup : {X Y : Type 0} (give : Flow → X → Option Y) (es : List (Flow × X)) (old : Option Y) (q : Flow) → IsDistinct same_flow (keys_of es)
    → puts give es old q ≡ or_old (given_by give q (lookup (same_flow q) es)) old
puts-lookup give [] old q h = refl
puts-lookup {X} {Y} give (e ∷ es) old q h =
    by (same_flow q e.0) refl (puts-lookup give es old q (IsDistinct-tail same_flow e.0 (keys_of es) h))
    (IsDistinct-head same_flow e.0 (keys_of es) h)
  where
    by : (b : Bool) → same_flow q e.0 ≡ b → puts give es old q ≡ or_old (given_by give q (lookup (same_flow q) es)) old
        → AllByRecursion (λ k. same_flow e.0 k ≡ false) (keys_of es) →
        puts give es (put_at (same_flow e.0 q) (give e.0 e.1) old) q ≡ or_old (given_by give q (cond b (Some e.1) (lookup (same_flow q) es))) old
    by true t rest apart =
        let same : q ≡ e.0 = same_flow_equal q e.0 t in
        let here : put_at (same_flow e.0 q) (give e.0 e.1) old ≡ or_old (give q e.1) old =
        (λ i. put_at ((same_flow_symmetric e.0 q ∙ t) i) (give (sym same i) e.1) old) ∙ put-here (give q e.1) old in
        ap (λ (o : Option Y). puts give es o q) here
        ∙ puts-apart give es (or_old (give q e.1) old) q
        (subst (λ (x : Flow). AllByRecursion (λ k. same_flow x k ≡ false) (keys_of es)) (sym same) apart)
    by false t rest apart =
        let here : put_at (same_flow e.0 q) (give e.0 e.1) old ≡ old =
        ap (λ (b : Bool). put_at b (give e.0 e.1) old) (same_flow_symmetric e.0 q ∙ t) ∙ put-not (give e.0 e.1) old in
        ap (λ (o : Option Y). puts give es o q) here ∙ rest

-- ---- what plans say at their end

or-old-none : {Y : Type 0} (o : Option Y) → or_old o None ≡ o
or-old-none None = refl
or-old-none (Some y) = refl

pub plan-end : (now : Flow → Now) (q : Flow) (held : Option Held)
    → or_old (given_by (λ flow held. replan held (now flow)) q held) None ≡ planned held (now q)
plan-end now q None = refl
plan-end now q (Some held) = or-old-none (replan held (now q))

pub gain-end : (held : Flow → Option Held) (q : Flow) (next : Option Now)
    → or_old (given_by (λ flow now. gain (held flow) (Some now)) q next) None ≡ gain (held q) next
gain-end held q None = refl
gain-end held q (Some now) = or-old-none (gain (held q) (Some now))

pub loss-end : (held : Flow → Option Held) (q : Flow) (next : Option Now)
    → or_old (given_by (λ flow now. loss (held flow) (Some now)) q next) None ≡ loss (held q) next
loss-end held q None = refl
loss-end held q (Some now) = or-old-none (loss (held q) (Some now))

-- what is given for a key that is found, and else what was there
abbrev pub given_or : {X Y : Type 0} → (Flow → X → Option Y) → Flow → Option X → Option Y → Option Y
given_or give q None old = old
given_or give q (Some x) old = give q x

sets-apart : {X Y : Type 0} (give : Flow → X → Option Y) (es : List (Flow × X)) (old : Option Y) (q : Flow)
    → AllByRecursion (λ k. same_flow q k ≡ false) (keys_of es) → sets give es old q ≡ old
sets-apart give [] old q h = refl
sets-apart {X} {Y} give (e ∷ es) old q h =
    ap (λ (b : Bool). sets give es (cond b (give e.0 e.1) old) q) (same_flow_symmetric e.0 q ∙ h.0) ∙ sets-apart give es old q h.1

pub sets-lookup : {X Y : Type 0} (give : Flow → X → Option Y) (es : List (Flow × X)) (old : Option Y) (q : Flow) → IsDistinct same_flow (keys_of es)
    → sets give es old q ≡ given_or give q (lookup (same_flow q) es) old
sets-lookup give [] old q h = refl
sets-lookup {X} {Y} give (e ∷ es) old q h =
    by (same_flow q e.0) refl (sets-lookup give es old q (IsDistinct-tail same_flow e.0 (keys_of es) h))
    (IsDistinct-head same_flow e.0 (keys_of es) h)
  where
    by : (b : Bool) → same_flow q e.0 ≡ b → sets give es old q ≡ given_or give q (lookup (same_flow q) es) old
        → AllByRecursion (λ k. same_flow e.0 k ≡ false) (keys_of es) →
        sets give es (cond (same_flow e.0 q) (give e.0 e.1) old) q ≡ given_or give q (cond b (Some e.1) (lookup (same_flow q) es)) old
    by true t rest apart =
        let same : q ≡ e.0 = same_flow_equal q e.0 t in
        ap (λ (b : Bool). sets give es (cond b (give e.0 e.1) old) q) (same_flow_symmetric e.0 q ∙ t)
        ∙ (sets-apart give es (give e.0 e.1) q (subst (λ (x : Flow). AllByRecursion (λ k. same_flow x k ≡ false) (keys_of es)) (sym same) apart)
        ∙ ap (λ (k : Flow). give k e.1) (sym same))
    by false t rest apart = ap (λ (b : Bool). sets give es (cond b (give e.0 e.1) old) q) (same_flow_symmetric e.0 q ∙ t) ∙ rest

pub settle-end : (needed : Flow → Bool) (q : Flow) (next : Option Now) (old : Option Held)
    → given_or (λ flow now. settled_by (needed flow) now) q next old ≡ settled (needed q) next old
settle-end needed q None old = refl
settle-end needed q (Some now) old = refl

-- A flow that is needed stays held where it is settled, or another one.
pub settled-held : (needed : Flow → Bool) (flow q : Flow) (kept : Now) (old new : Option Held) → needed q ≡ true → is_some old ≡ true →
    new ≡ cond (same_flow flow q) (settled_by (needed flow) kept) old → is_some new ≡ true
settled-held needed flow q kept old new need held n = ap is_some n ∙ by (same_flow flow q) refl kept
  where
    by : (b : Bool) → same_flow flow q ≡ b → (kept : Now) → is_some (cond b (settled_by (needed flow) kept) old) ≡ true
    by false s kept = held
    by true s (Some kept) = refl
    by true s None =
        ap (λ (b : Bool). is_some {T = Held} (cond b (Some (record { stale = false; kept = None })) None))
        (ap needed (same_flow_equal flow q s) ∙ need)

-- ---- one flow

none-some : (o : Option Held) → is_some o ≡ true → o ≡ None → ⊥
none-some None h e = absurd cc
none-some (Some x) h e = absurd cc

none-of : (o : Option Held) → is_some o ≡ false → o ≡ None
none-of None h = refl
none-of (Some x) h = absurd cc

-- A flow that is held stays as it is.
pub held-present : (look : Flow → Option Held) (asked : Bool) (flow q : Flow) → is_some (look flow) ≡ true
    → look q ≡ held_sent asked (same_flow flow q) (look q)
held-present look asked flow q h = by (same_flow flow q) (look q) refl refl
  where
    by : (b : Bool) (o : Option Held) → same_flow flow q ≡ b → look q ≡ o → o ≡ held_sent asked b o
    by b (Some x) s e = refl
    by false None s e = refl
    by true None s e = absurd (none-some (look flow) h (ap look (same_flow_equal flow q s) ∙ e))

-- A flow that is not held is held then.
pub held-absent : (look : Flow → Option Held) (asked : Bool) (flow q : Flow) (new : Option Held) → is_some (look flow) ≡ false
    → new ≡ cond (same_flow flow q) (Some (record { stale = asked; kept = None })) (look q) → new ≡ held_sent asked (same_flow flow q) (look q)
held-absent look asked flow q new h n = n ∙ by (same_flow flow q) (look q) refl refl
  where
    by : (b : Bool) (o : Option Held) → same_flow flow q ≡ b → look q ≡ o
        → cond b (Some (record { stale = asked; kept = None })) o ≡ held_sent asked b o
    by true None s e = refl
    by false None s e = refl
    by false (Some x) s e = refl
    by true (Some x) s e = absurd (none-some (Some x) refl (sym e ∙ (ap look (sym (same_flow_equal flow q s)) ∙ none-of (look flow) h)))

or-true : (s : Bool) → (s || true) ≡ true
or-true true = refl
or-true false = refl

-- A flow that is held is marked.
pub mark-one : (look : Flow → Option Held) (flow q : Flow) (held : Held) (new : Option Held) → look flow ≡ Some held
    → new ≡ cond (same_flow flow q) (Some (record { stale = true; kept = held.kept })) (look q) → new ≡ marked (same_flow flow q) (look q)
mark-one look flow q held new h n = n ∙ by (same_flow flow q) refl
  where
    by : (b : Bool) → same_flow flow q ≡ b → cond b (Some (record { stale = true; kept = held.kept })) (look q) ≡ marked b (look q)
    by true s =
        sym (ap (marked true) (ap look (sym (same_flow_equal flow q s)) ∙ h)
        ∙ ap (λ (t : Bool). Some (record { stale = t; kept = held.kept })) (or-true held.stale))
    by false s = sym (marked-not (look q))

-- ---- flows that are held too

pub held-again : (a b : Bool) (held : Option Held) → held_too b (held_too a held) ≡ held_too (a || b) held
held-again true b None = refl
held-again false true None = refl
held-again false false None = refl
held-again a b (Some held) = refl

-- One more of a row of flows that are held too.
pub holds-more : {X : Type 0} (test : X → Bool) (xs : List X) (i : ℕ) (d : X) (old mid new : Option Held) → i < length xs
    → mid ≡ held_too (list_any test (take i xs)) old → new ≡ held_too (test (get_or xs i d)) mid
    → new ≡ held_too (list_any test (take (i + 1) xs)) old
holds-more test xs i d old mid new l m n =
    n ∙ (ap (held_too (test (get_or xs i d))) m ∙
    (held-again (list_any test (take i xs)) (test (get_or xs i d)) old ∙ ap (λ (b : Bool). held_too b old) (sym (list_any_more test xs i d l))))

-- What is held too by any test has grown.
pub grown-by : (b : Bool) (new old : Option Held) → new ≡ held_too b old → new ≡ held_too (is_some new) old
grown-by b new None n = by b new n
  where
    by : (b : Bool) (new : Option Held) → new ≡ held_too b None → new ≡ held_too (is_some new) None
    by true new n = n ∙ sym (ap (λ (o : Option Held). held_too (is_some o) None) n)
    by false new n = n ∙ sym (ap (λ (o : Option Held). held_too (is_some o) None) n)
grown-by b new (Some held) n = n

-- Grown twice is grown.
pub grown-again : (new mid old : Option Held) (b : Bool) → mid ≡ held_too b old → new ≡ held_too (is_some new) mid → new ≡ held_too (is_some new) old
grown-again new mid old b m n = grown-by (b || is_some new) new old (n ∙ (ap (held_too (is_some new)) m ∙ held-again b (is_some new) old))

-- ---- no time

differs-not : (a t : Bool) → (differ a a && t) ≡ false
differs-not true t = refl
differs-not false t = refl

-- Between a clock and itself nothing lapses.
pub unlapsed : (from to : ℕ) (q : Flow) (es : List (IfaceEntry × Expiry)) → from ≡ to → list_any (lapsed from to q) es ≡ false
unlapsed from to q [] h = refl
unlapsed from to q (e ∷ es) h =
    (λ i. (differ (is_after e.1 (h i)) (is_after e.1 to) && touches e.0.entry q) || list_any (lapsed from to q) es)
    ∙ ((λ i. differs-not (is_after e.1 to) (touches e.0.entry q) i || list_any (lapsed from to q) es) ∙ unlapsed from to q es h)
