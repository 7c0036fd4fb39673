-- Lists of flows that may be stale.
use Rattle.std.proofs.Common.{◌≡◌, ℕ, ◌+◌, ◌<◌, is_some, Bool, true, false, not, cond, ◌||◌, ◌&&◌, List, [], ◌∷◌, ◌++◌, take, length, get_or, Option, None, Some, IfSome, refl, sym, ap, subst, ◌∙◌}
use Rattle.std.specs.List.{list_any}
use Rattle.std.specs.Map.{lookup}
use Rattle.std.proofs.lemmas.Bool.{or_left, or_right}
use Rattle.std.proofs.lemmas.List.Folds.{list_any-append, list_any_more}
use Rattle.vrf_words.specs.declared.tree_defs.flow.Flow.{Flow}
use Rattle.vrf_words.specs.tree_defs.Keys.{same_flow}
use Rattle.vrf_words.proofs.tree_defs.KeyLemmas.{same_flow_equal, same_flow_itself, same_flow_symmetric}
use Rattle.vrf_flows.specs.declared.held.Held.{Held}
use Rattle.vrf_flows.specs.declared.stale.StaleFlows.{StaleFlows}
use Rattle.vrf_flows.specs.Held.{Now, is_fresh, is_stale, marked, settled_as}
use Rattle.vrf_flows.specs.Plan.{planned, put_at, replan, settled}
use Rattle.vrf_flows.specs.Stale.{AreAmong, AreListed, is_listed, passes}

-- ---- one flow more

-- A flow that is pushed is listed, and each other one stays so.
pub pushed-itself : (all : Bool) (flows more : List Flow) (flow : Flow) → more ≡ flows ++ flow ∷ [] → (all || list_any (same_flow flow) more) ≡ true
pushed-itself all flows more flow e =
    or_right all _ (ap (list_any (same_flow flow)) e ∙ (list_any-append (same_flow flow) flows (flow ∷ [])
    ∙ or_right (list_any (same_flow flow) flows) _ (or_left (same_flow flow flow) false (same_flow_itself flow))))

pub pushed-kept : (all : Bool) (flows more : List Flow) (flow q : Flow) → more ≡ flows ++ flow ∷ [] → (all || list_any (same_flow q) flows) ≡ true
    → (all || list_any (same_flow q) more) ≡ true
pushed-kept true flows more flow q e h = refl
pushed-kept false flows more flow q e h = ap (list_any (same_flow q)) e ∙ (list_any-append (same_flow q) flows (flow ∷ []) ∙ or_left _ _ h)

-- ---- marks that are listed

absurd-both : (b : Bool) → b ≡ true → b ≡ false → ⊥
absurd-both true h k = absurd cc
absurd-both false h k = absurd cc

-- All marks are listed where those are that are new, and each flow that was listed still is.
pub listed-from : (marks next : Flow → Bool) (old new : StaleFlows) → AreListed marks old
    → ((q : Flow) → is_listed old q ≡ true → is_listed new q ≡ true) →
    ((q : Flow) → next q ≡ true → marks q ≡ false → is_listed new q ≡ true) → AreListed next new
listed-from marks next old new all kept news = record { listed = λ q h. by q (marks q) refl h }
  where
    by : (q : Flow) (b : Bool) → marks q ≡ b → next q ≡ true → is_listed new q ≡ true
    by q true m h = kept q (all.listed q m)
    by q false m h = news q h m

pub listed-all : (next : Flow → Bool) (new : StaleFlows) → ((q : Flow) → is_listed new q ≡ true) → AreListed next new
listed-all next new all = record { listed = λ q h. all q }

pub listed-none : (next : Flow → Bool) (new : StaleFlows) → ((q : Flow) → next q ≡ false) → AreListed next new
listed-none next new none = record { listed = λ q h. absurd (absurd-both (next q) h (none q)) }

-- ---- one flow that changes

-- Where something else is held of one flow, which is listed if that is stale.
pub put-lists : {X : Type 0} (stale : Option X → Bool) (look next : Flow → Option X) (flow : Flow) (here : Option X) (old new : StaleFlows)
    → AreListed (λ q. stale (look q)) old →
    ((q : Flow) → next q ≡ cond (same_flow flow q) here (look q)) → (stale here ≡ true → is_listed new flow ≡ true)
    → ((q : Flow) → is_listed old q ≡ true → is_listed new q ≡ true) → AreListed (λ q. stale (next q)) new
put-lists {X} stale look next flow here old new all each added kept =
    listed-from (λ q. stale (look q)) (λ q. stale (next q)) old new all kept (λ q h m. by q (same_flow flow q) refl (ap stale (sym (each q)) ∙ h) m)
  where
    by : (q : Flow) (b : Bool) → same_flow flow q ≡ b → stale (cond (same_flow flow q) here (look q)) ≡ true → stale (look q) ≡ false
        → is_listed new q ≡ true
    by q true s h m =
        subst (λ (f : Flow). is_listed new f ≡ true) (same_flow_equal flow q s) (added (ap (λ (b : Bool). stale (cond b here (look q))) (sym s) ∙ h))
    by q false s h m = absurd (absurd-both (stale (look q)) (ap (λ (b : Bool). stale (cond b here (look q))) (sym s) ∙ h) m)

-- Where nothing is held of one flow any more.
pub gone-lists : {X : Type 0} (stale : Option X → Bool) (look next : Flow → Option X) (flow : Flow) (here : Option X) (old : StaleFlows)
    → AreListed (λ q. stale (look q)) old →
    ((q : Flow) → next q ≡ cond (same_flow flow q) here (look q)) → stale here ≡ false → AreListed (λ q. stale (next q)) old
gone-lists stale look next flow here old all each fresh =
    put-lists stale look next flow here old old all each (λ h. absurd (absurd-both (stale here) h fresh)) (λ q h. h)

or-none : (a : Bool) → (a || false) ≡ a
or-none true = refl
or-none false = refl

-- A flow that becomes stale by a mark on one flow is that flow, which was held and not stale.
pub mark-lists : (look next : Flow → Option Held) (flow : Flow) (news : Bool) (old new : StaleFlows) → AreListed (λ q. is_stale (look q)) old
    → news ≡ is_fresh (look flow) →
    ((q : Flow) → next q ≡ marked (same_flow flow q) (look q)) → (news ≡ true → is_listed new flow ≡ true)
    → ((q : Flow) → is_listed old q ≡ true → is_listed new q ≡ true) → AreListed (λ q. is_stale (next q)) new
mark-lists look next flow news old new all fresh each added kept =
    listed-from (λ q. is_stale (look q)) (λ q. is_stale (next q)) old new all kept
    (λ q h m. by q (same_flow flow q) refl (look q) refl (ap is_stale (sym (each q)) ∙ h) m)
  where
    by : (q : Flow) (b : Bool) → same_flow flow q ≡ b → (o : Option Held) → look q ≡ o → is_stale (marked (same_flow flow q) (look q)) ≡ true
        → is_stale (look q) ≡ false → is_listed new q ≡ true
    by q b s None e h m = absurd (absurd-both false (ap (λ (x : Option Held). is_stale (marked (same_flow flow q) x)) (sym e) ∙ h) refl)
    by q false s (Some x) e h m =
        let stale : x.stale ≡ true =
        sym (or-none x.stale) ∙ (sym (ap (λ (o : Option Held). is_stale (marked (same_flow flow q) o)) e
        ∙ ap (λ (b : Bool). is_stale (marked b (Some x))) s) ∙ h) in
        absurd (absurd-both x.stale stale (sym (ap is_stale e) ∙ m))
    by q true s (Some x) e h m =
        let same : flow ≡ q = same_flow_equal flow q s in
        subst (λ (f : Flow). is_listed new f ≡ true) same
        (added (fresh ∙ (ap (λ (f : Flow). is_fresh (look f)) same ∙ (ap is_fresh e ∙ ap not (sym (ap is_stale e) ∙ m)))))

-- ---- flows that pass a test

-- whether the entry is that of the flow, and passes the test
abbrev pub is_entry : {X : Type 0} → (Flow → X → Bool) → Flow → Flow × X → Bool
is_entry test q e = same_flow q e.0 && test e.0 e.1

-- A flow that passes the test has such an entry.
pub passing-entry : {X : Type 0} (test : Flow → X → Bool) (q : Flow) (es : List (Flow × X)) → passes test q (lookup (same_flow q) es) ≡ true
    → list_any (is_entry test q) es ≡ true
passing-entry test q [] h = h
passing-entry {X} test q (e ∷ es) h = by (passing-entry test q es) (same_flow q e.0) refl h
  where
    by : (passes test q (lookup (same_flow q) es) ≡ true → list_any (is_entry test q) es ≡ true) → (b : Bool) → same_flow q e.0 ≡ b
        → passes test q (cond (same_flow q e.0) (Some e.1) (lookup (same_flow q) es)) ≡ true
        → (is_entry test q e || list_any (is_entry test q) es) ≡ true
    by more true s h =
        let own : test q e.1 ≡ true = ap (λ (b : Bool). passes test q (cond b (Some e.1) (lookup (same_flow q) es))) (sym s) ∙ h in
        or_left (is_entry test q e) (list_any (is_entry test q) es)
        (λ i. s i && (ap (λ (f : Flow). test f e.1) (sym (same_flow_equal q e.0 s)) ∙ own) i)
    by more false s h =
        or_right (is_entry test q e) (list_any (is_entry test q) es)
        (more (ap (λ (b : Bool). passes test q (cond b (Some e.1) (lookup (same_flow q) es))) (sym s) ∙ h))

-- Once all entries were looked at, each flow that passes the test is listed.
pub all-listed : {X : Type 0} (test : Flow → X → Bool) (q : Flow) (es rest : List (Flow × X)) (stale : StaleFlows) → rest ≡ []
    → (list_any (is_entry test q) es ≡ true → (is_listed stale q || list_any (is_entry test q) rest) ≡ true)
    → passes test q (lookup (same_flow q) es) ≡ true → is_listed stale q ≡ true
all-listed {X} test q es rest stale done all h =
    sym (or-none (is_listed stale q))
    ∙ (ap (λ (l : List (Flow × X)). is_listed stale q || list_any (is_entry test q) l) (sym done) ∙ all (passing-entry test q es h))

-- ---- plans of the flows that are listed

-- what a plan says of a flow once so many of the list were planned
abbrev pub planned_by : {Y : Type 0} → Bool → Option Y → Option Y
planned_by true plan = plan
planned_by false plan = None

-- One more flow that is planned, where the plan of each is told.
pub plans-more : {Y : Type 0} (give : Flow → Option Y) (flows : List Flow) (i : ℕ) (d q : Flow) (mid new : Option Y) → i < length flows
    → mid ≡ planned_by (list_any (same_flow q) (take i flows)) (give q) →
    new ≡ put_at (same_flow (get_or flows i d) q) (give (get_or flows i d)) mid
    → new ≡ planned_by (list_any (same_flow q) (take (i + 1) flows)) (give q)
plans-more {Y} give flows i d q mid new l m n =
    n ∙ (ap (put_at (same_flow (get_or flows i d) q) (give (get_or flows i d))) m
    ∙ (by (list_any (same_flow q) (take i flows)) (same_flow (get_or flows i d) q) refl
    ∙ ap (λ (b : Bool). planned_by b (give q)) (ap (λ (b : Bool). list_any (same_flow q) (take i flows) || b)
    (same_flow_symmetric (get_or flows i d) q) ∙ sym (list_any_more (same_flow q) flows i d l))))
  where
    none : (b : Bool) (o : Option Y) → put_at b o o ≡ o
    none b None = refl
    none true (Some x) = refl
    none false (Some x) = refl

    first : (o : Option Y) → put_at true o None ≡ o
    first None = refl
    first (Some x) = refl

    other : (o old : Option Y) → put_at false o old ≡ old
    other None old = refl
    other (Some x) old = refl

    same : same_flow (get_or flows i d) q ≡ true → give (get_or flows i d) ≡ give q
    same s = ap give (same_flow_equal (get_or flows i d) q s)

    by : (a b : Bool) → same_flow (get_or flows i d) q ≡ b
        → put_at (same_flow (get_or flows i d) q) (give (get_or flows i d)) (planned_by a (give q))
        ≡ planned_by (a || same_flow (get_or flows i d) q) (give q)
    by true true s = (λ j. put_at (s j) (same s j) (give q)) ∙ none true (give q)
    by true false s = ap (λ (b : Bool). put_at b (give (get_or flows i d)) (give q)) s ∙ other _ (give q)
    by false true s = (λ j. put_at (s j) (same s j) None) ∙ (first (give q) ∙ ap (λ (b : Bool). planned_by b (give q)) (sym s))
    by false false s =
        ap (λ (b : Bool). put_at b (give (get_or flows i d)) None) s ∙ (other _ None ∙ ap (λ (b : Bool). planned_by b (give q)) (sym s))

-- With all of the list planned, all is for which something is to be planned.
pub plans-all : {Y : Type 0} (listed : Bool) (plan full : Option Y) → (listed ≡ false → full ≡ None) → plan ≡ planned_by listed full → plan ≡ full
plans-all true plan full none p = p
plans-all false plan full none p = p ∙ sym (none refl)

-- Nothing is planned for a flow that is not listed.
pub unlisted-none : (held : Option Held) (now : Now) (listed : Bool) → (is_stale held ≡ true → listed ≡ true) → listed ≡ false
    → planned held now ≡ None
unlisted-none None now listed among l = refl
unlisted-none (Some x) now listed among l = by x.stale refl
  where
    by : (b : Bool) → x.stale ≡ b → replan x now ≡ None
    by true s = absurd (absurd-both listed (among s) l)
    by false s = ap (λ (b : Bool). cond b (Some now) None) s

-- What is stale is planned.
pub stale-planned : (held : Option Held) (now : Now) (plan : Option Now) → plan ≡ planned held now → is_stale held ≡ true → is_some plan ≡ true
stale-planned None now plan p h = absurd cc
stale-planned (Some x) now plan p h = ap is_some (p ∙ ap (λ (b : Bool). cond b (Some now) None) h)

-- What was planned and settled is not stale.
pub settled-stale : (held next : Option Held) (plan : Option Now) (needed : Bool) → (is_stale held ≡ true → is_some plan ≡ true)
    → next ≡ settled needed plan held → is_stale next ≡ false
settled-stale held next None needed planned n = ap is_stale n ∙ by (is_stale held) refl
  where
    by : (b : Bool) → is_stale held ≡ b → is_stale held ≡ false
    by true s = absurd (absurd-both false (planned s) refl)
    by false s = s
settled-stale held next (Some (Some kept)) needed planned n = ap is_stale n
settled-stale held next (Some None) needed planned n = ap is_stale n ∙ by needed
  where
    by : (b : Bool) → is_stale (cond b (Some (settled_as None)) None) ≡ false
    by true = refl
    by false = refl

-- The flows that are listed, where they are told.
pub stale-some : {F : Type 0} (now : F → List Flow) (marks : Flow → Bool) (stale : StaleFlows) (o : Option F) → AreListed marks stale →
    ((q : Flow) → IfSome o (λ f. is_listed stale q ≡ list_any (same_flow q) (now f))) → IfSome o (λ f. AreAmong marks (now f))
stale-some now marks stale None all listed = tt
stale-some now marks stale (Some f) all listed = record { among = λ q h. sym (listed q) ∙ all.listed q h }
