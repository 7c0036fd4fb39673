-- The state as plain data.
use Rattle.std.proofs.Common.{◌≡◌, ℕ, is_some, Result, Ok, Err, OnErr, Bool, true, false, cond, ◌||◌, List, [], ◌∷◌, filter, map, Option, None, Some, refl, sym, ap, subst, ◌∙◌, true≢false}
use Rattle.std.specs.List.{list_any, AllByRecursion, IsDistinct}
use Rattle.std.specs.Map.{lookup, keys_of}
use Rattle.std.specs.FinMap as maps
use Rattle.std.specs.FinMap.{find, from_entries, get-empty, get-from_entries, same_map}
use Rattle.std.proofs.lemmas.Bool.{or_parts}
use Rattle.std.proofs.lemmas.Map.Keys.{IsDistinct-head, IsDistinct-tail}
use Rattle.scenario_defs.specs.declared.event.IfaceEntry.{IfaceEntry}
use Rattle.pim_defs.specs.declared.expiry.Expiry.{Expiry}
use Rattle.indexmap.specs.IndexMap.{get, IsUnique}
use Rattle.mv_base.specs.declared.ids.NodeId.{NodeId}
use Rattle.mv_base.specs.declared.rd.Rule.{Rule}
use Rattle.mv_base.specs.declared.rd.Rule.TheVariants.{Highest, Nearest, Hash}
use Rattle.choice_defs.specs.Choice.{best_route, cost_by}
use Rattle.umh_select.specs.declared.route.Choice.{Choice}
use Rattle.umh_select.specs.Routes.{Routes, chosen, known}
use Rattle.vrf_words.specs.declared.tree_defs.flow.Flow.{Flow}
use Rattle.vrf_words.specs.declared.tree_defs.flow.Note.{Note}
use Rattle.vrf_words.specs.declared.tree_defs.flow.ActiveRoute.{ActiveRoute}
use Rattle.vrf_words.specs.declared.tree_defs.flow.SiteIface.{SiteIface}
use Rattle.vrf_words.specs.tree_defs.Keys.{same_flow, flow_cmp}
use Rattle.vrf_words.specs.tree_defs.Flows.{asking, chosen_for, flow_of, is_active}
use Rattle.vrf_words.proofs.tree_defs.KeyLemmas.{flow_total, flow_exact, flow_ties, same_flow_equal, note_total, note_exact, same_note, note_ties, active_total, active_exact, same_active, active_ties}
use Rattle.vrf_flows.specs.declared.held.Held.{Held}
use Rattle.vrf_flows.specs.declared.held.Kept.{Kept}
use Rattle.vrf_flows.specs.declared.state.State.{State}
use Rattle.vrf_flows.specs.Held.{FlowTable, Now, forgotten, is_stale, kept_of, lapsed, marked}
use Rattle.vrf_flows.specs.Sight.{asking_of, flow_by, ifaces_of, is_sent}
use Rattle.vrf_flows.specs.Plan.{choice_in}
use Rattle.vrf_flows.specs.State.{IsSentBy, IsSound, Keeps, compares_costs, flows_in, given_at, needed_in, vrf_of}
use Rattle.vrf_flows.proofs.SetLemmas.{any-items}
use Rattle.vrf_flows.proofs.FlowLemmas.{marked-again}
use Rattle.vrf_flows.proofs.TreeLemmas.{absent-none, keeps-change, kept-change, lapse-same}

-- ---- the flows among what is held

lookup-apart : (q : Flow) (es : List (Flow × Held)) → AllByRecursion (λ k. same_flow q k ≡ false) (keys_of es) → lookup (same_flow q) es ≡ None
lookup-apart q [] h = refl
lookup-apart q (e ∷ es) h = rw h.0 (lookup-apart q es h.1)

find-flows : (es : List (Flow × Held)) (q : Flow) → IsDistinct same_flow (keys_of es)
    → find flow_cmp q (flows_in es) ≡ choice_in (kept_of (lookup (same_flow q) es))
find-flows [] q h = refl
find-flows (e ∷ es) q h = by e.1.kept refl (find-flows es q (IsDistinct-tail same_flow e.0 (keys_of es) h))
  where
    gone : same_flow q e.0 ≡ true → lookup (same_flow q) es ≡ None
    gone t = subst (λ (k : Flow). lookup (same_flow k) es ≡ None) (sym (same_flow_equal q e.0 t))
        (lookup-apart e.0 es (IsDistinct-head same_flow e.0 (keys_of es) h))

    none : (b : Bool) → same_flow q e.0 ≡ b → e.1.kept ≡ None
        → choice_in (kept_of (lookup (same_flow q) es)) ≡ choice_in (kept_of (cond b (Some e.1) (lookup (same_flow q) es)))
    none true t k = ap (λ (o : Option Held). choice_in (kept_of o)) (gone t) ∙ sym (ap choice_in k)
    none false t k = refl

    some : (b : Bool) (kept : Kept) → e.1.kept ≡ Some kept → find flow_cmp q (flows_in es) ≡ choice_in (kept_of (lookup (same_flow q) es)) →
        cond b (Some kept.choice) (find flow_cmp q (flows_in es)) ≡ choice_in (kept_of (cond b (Some e.1) (lookup (same_flow q) es)))
    some true kept k rest = sym (ap choice_in k)
    some false kept k rest = rest

    by : (now : Now) → e.1.kept ≡ now → find flow_cmp q (flows_in es) ≡ choice_in (kept_of (lookup (same_flow q) es)) →
        find flow_cmp q (elim now [ None ↦ flows_in es | Some kept ↦ (e.0, kept.choice) ∷ flows_in es ])
        ≡ choice_in (kept_of (cond (same_flow q e.0) (Some e.1) (lookup (same_flow q) es)))
    by None k rest = rest ∙ none (same_flow q e.0) refl k
    by (Some kept) k rest =
        ap (λ (b : Bool). cond b (Some kept.choice) (find flow_cmp q (flows_in es))) (sym (flow_ties q e.0)) ∙ some (same_flow q e.0) kept k rest

-- the choice of a flow that is kept
pub flows-got : (flows : FlowTable) (q : Flow) → IsUnique same_flow flows
    → maps.get (from_entries {R = flow_cmp} (flows_in flows.entries)) q ≡ choice_in (kept_of (get same_flow flows q))
flows-got flows q unique = get-from_entries flow_total (flows_in flows.entries) q ∙ find-flows flows.entries q unique

-- Where each flow is kept as it was, the flows are the same.
pub flows-same : (old new : FlowTable) → IsUnique same_flow old → IsUnique same_flow new
    → ((q : Flow) → kept_of (get same_flow new q) ≡ kept_of (get same_flow old q)) →
    from_entries {R = flow_cmp} (flows_in new.entries) ≡ from_entries (flows_in old.entries)
flows-same old new a b same = same_map flow_total flow_exact _ _ (λ q. flows-got new q b ∙ (ap choice_in (same q) ∙ sym (flows-got old q a)))

-- ---- what is given

choice-by : (test : SiteIface → Bool) (ifaces : List SiteIface) (choice : Choice)
    → choice_in (flow_by (filter test ifaces) choice) ≡ cond (list_any test ifaces) (Some choice) None
choice-by test [] choice = refl
choice-by test (own ∷ more) choice = by (test own) (choice-by test more choice)
  where
    by : (b : Bool) → choice_in (flow_by (filter test more) choice) ≡ cond (list_any test more) (Some choice) None →
        choice_in (flow_by (cond b (own ∷ filter test more) (filter test more)) choice) ≡ cond (b || list_any test more) (Some choice) None
    by true rest = refl
    by false rest = rest

-- What is known to be sent is the same in both.
pub active-sent : (state : State) (q : Flow) → IsSentBy state.sent.keys state.notes.keys state.actives.keys
    → is_active (vrf_of state) q ≡ is_sent state.sent.keys q
active-sent state q sent =
    (λ i. any-items note_total note_exact same_note note_ties (λ (note : Note). same_flow note.flow q) state.notes.keys i
    || any-items active_total active_exact same_active active_ties (λ (route : ActiveRoute). same_flow route.flow q) state.actives.keys i)
    ∙ sym (sent q)

pub given-flow : (state : State) (cost : NodeId → ℕ) (clock : ℕ) (q : Flow) → IsSentBy state.sent.keys state.notes.keys state.actives.keys
    → choice_in (given_at state cost clock q) ≡ flow_of (vrf_of state) cost clock q
given-flow state cost clock q sent =
    (λ i. choice_in (flow_by (asking_of state.ifaces state.entries (sym (active-sent state q sent) i) clock q) (chosen_for state.routes cost q)))
    ∙ choice-by _ state.ifaces (chosen_for state.routes cost q)

-- ---- costs

-- By a rule that does not compare costs the choice is the same by any.
pub steady : (routes : Routes) (cost other : NodeId → ℕ) (q : Flow) → compares_costs routes.rule ≡ false
    → chosen_for routes cost q ≡ chosen_for routes other q
steady routes cost other q h = by routes.rule h
  where
    by : (rule : Rule) → compares_costs rule ≡ false →
        chosen routes.learned (best_route (cost_by rule cost (known routes) q.source q.group) (known routes) q.source)
        ≡ chosen routes.learned (best_route (cost_by rule other (known routes) q.source q.group) (known routes) q.source)
    by Highest s = refl
    by Nearest s = absurd cc
    by Hash s = refl

-- ---- what is kept

ifaces-by : (list : List SiteIface) (choice : Choice) → ifaces_of (flow_by list choice) ≡ list
ifaces-by [] choice = refl
ifaces-by (own ∷ more) choice = refl

-- the interfaces that ask, in both words
pub asking-same : (state : State) (now : ℕ) (q : Flow) → IsSentBy state.sent.keys state.notes.keys state.actives.keys
    → asking_of state.ifaces state.entries (is_sent state.sent.keys q) now q ≡ asking (vrf_of state) now q
asking-same state now q sent = λ i. asking_of state.ifaces state.entries (sym (active-sent state q sent) i) now q

-- What is kept of a flow that is not stale are the interfaces that ask for it.
pub kept-asking : (state : State) (now : ℕ) (q : Flow) → IsSound state → now ≡ state.clock → is_stale (get same_flow state.flows q) ≡ false
    → ifaces_of (kept_of (get same_flow state.flows q)) ≡ asking (vrf_of state) now q
kept-asking state now q sound clock fresh =
    ap ifaces_of (sound.keeps.fresh q fresh)
    ∙ (ifaces-by (asking_of state.ifaces state.entries (is_sent state.sent.keys q) state.clock q) (chosen_for state.routes sound.cost q)
    ∙ ((λ i. asking_of state.ifaces state.entries (is_sent state.sent.keys q) (sym clock i) q) ∙ asking-same state now q sound.sent))

-- The choice of a flow that is kept is what is chosen, where the flow is not stale and costs count for none.
pub kept-choice : (state : State) (q : Flow) (choice : Choice) → IsSound state → compares_costs state.rule ≡ false
    → is_stale (get same_flow state.flows q) ≡ false → choice_in (kept_of (get same_flow state.flows q)) ≡ Some choice → (cost : NodeId → ℕ)
    → choice ≡ chosen_for state.routes cost q
kept-choice state q choice sound costless fresh kept cost =
    by (asking_of state.ifaces state.entries (is_sent state.sent.keys q) state.clock q)
    (sym kept ∙ ap choice_in (sound.keeps.fresh q fresh))
    ∙ steady state.routes sound.cost cost q (sym (ap compares_costs sound.rule) ∙ costless)
  where
    by : (list : List SiteIface) → Some choice ≡ choice_in (flow_by list (chosen_for state.routes sound.cost q))
        → choice ≡ chosen_for state.routes sound.cost q
    by [] e = absurd cc
    by (own ∷ more) e = cc e

-- A flow that is not held is needed by none, so that no interface asks for it, at any clock.
pub unheld-asking : (state : State) (now : ℕ) (q : Flow) → IsSound state → is_some (get same_flow state.flows q) ≡ false
    → [] ≡ asking (vrf_of state) now q
unheld-asking state now q sound none =
    ap ifaces_of (sym (absent-none state.ifaces state.entries state.sent.keys (chosen_for state.routes sound.cost) now q (by (needed_in state q) refl)))
    ∙ (ifaces-by (asking_of state.ifaces state.entries (is_sent state.sent.keys q) now q) (chosen_for state.routes sound.cost q)
    ∙ asking-same state now q sound.sent)
  where
    by : (b : Bool) → needed_in state q ≡ b → needed_in state q ≡ false
    by false e = e
    by true e = absurd (true≢false (sym (sound.keeps.needed q e) ∙ none))

-- Where no interface asks, none is left, whatever is accepted.
pub none-leave : {X Y : Type 0} (accepted : Bool) (test : X → Bool) (give : X → Y) (asking : List X) → [] ≡ asking
    → [] ≡ cond accepted (map give (filter test asking)) []
none-leave false test give asking none = refl
none-leave true test give asking none = ap (λ list. map give (filter test list)) none

-- ---- refresh

-- With what lapsed marked, and all where costs are compared, what is held is what is given at another clock and by other costs.
pub mid-keeps : (old : State) (held : Flow → Option Held) (es : List (IfaceEntry × Expiry)) (now : ℕ) (cost : NodeId → ℕ) → IsSound old
    → from_entries es ≡ old.entries →
    ((q : Flow) → held q ≡ marked (list_any (lapsed old.clock now q) es) (marked (compares_costs old.rule) (get same_flow old.flows q)))
    → Keeps held (given_at old cost now) (needed_in old)
mid-keeps old held es now cost sound listed each =
    keeps-change (get same_flow old.flows) held (λ q. compares_costs old.rule || list_any (lapsed old.clock now q) es)
    (given_at old sound.cost old.clock) (given_at old cost now) (needed_in old) (needed_in old) sound.keeps
    (λ q. each q ∙ marked-again (compares_costs old.rule) (list_any (lapsed old.clock now q) es) (get same_flow old.flows q))
    (λ q h.
    let both = or_parts (compares_costs old.rule) (list_any (lapsed old.clock now q) es) h in
    lapse-same old.ifaces es old.entries old.sent.keys (chosen_for old.routes sound.cost) (chosen_for old.routes cost) old.clock now q listed
    (steady old.routes sound.cost cost q (sym (ap compares_costs sound.rule) ∙ both.0)) both.1)
    sound.keeps.needed
    (λ q h. absent-none old.ifaces old.entries old.sent.keys (chosen_for old.routes cost) now q h)

-- Where no flow is stale, no time has passed and costs count for none, the flows are what they are at the clock.
pub fresh-flows : (old : State) (now : ℕ) → IsSound old → now ≡ old.clock → compares_costs old.rule ≡ false
    → ((q : Flow) → is_stale (get same_flow old.flows q) ≡ false) → (cost : NodeId → ℕ) (q : Flow)
    → maps.get (vrf_of old).flows q ≡ flow_of (vrf_of old) cost now q
fresh-flows old now sound clock costless fresh cost q =
    flows-got old.flows q sound.unique
    ∙ (ap choice_in (sound.keeps.fresh q (fresh q)
    ∙ (λ i. flow_by (asking_of old.ifaces old.entries (is_sent old.sent.keys q) old.clock q)
    (steady old.routes sound.cost cost q (sym (ap compares_costs sound.rule) ∙ costless) i)))
    ∙ (given-flow old cost old.clock q sound.sent ∙ ap (λ (at : ℕ). flow_of (vrf_of old) cost at q) (sym clock)))

-- Where no flow is held, none is needed, and so there is none at any clock.
pub none-held : (old : State) (now : ℕ) → IsSound old → ((q : Flow) → get same_flow old.flows q ≡ None) → (cost : NodeId → ℕ) (q : Flow)
    → maps.get (vrf_of old).flows q ≡ flow_of (vrf_of old) cost now q
none-held old now sound none cost q =
    flows-got old.flows q sound.unique
    ∙ (ap (λ held. choice_in (kept_of held)) (none q)
    ∙ (ap choice_in (sym (absent-none old.ifaces old.entries old.sent.keys (chosen_for old.routes cost) now q (by (needed_in old q) refl)))
    ∙ given-flow old cost now q sound.sent))
  where
    by : (b : Bool) → needed_in old q ≡ b → needed_in old q ≡ false
    by false e = e
    by true e = absurd (true≢false (sym (sound.keeps.needed q e) ∙ ap is_some (none q)))

-- What is kept of a flow then is what was.
pub mid-kept : (old : State) (held : Flow → Option Held) (es : List (IfaceEntry × Expiry)) (now : ℕ) →
    ((q : Flow) → held q ≡ marked (list_any (lapsed old.clock now q) es) (marked (compares_costs old.rule) (get same_flow old.flows q))) → (q : Flow)
    → kept_of (held q) ≡ kept_of (get same_flow old.flows q)
mid-kept old held es now each q = kept-change _ _ _ (each q) ∙ kept-change (compares_costs old.rule) (get same_flow old.flows q) _ refl

-- the choice of a flow before, by what is kept of it
pub before-flow : (old : State) (kept : Now) (q : Flow) → IsUnique same_flow old.flows → kept ≡ kept_of (get same_flow old.flows q)
    → choice_in kept ≡ maps.get (vrf_of old).flows q
before-flow old kept q unique e = ap choice_in e ∙ sym (flows-got old.flows q unique)

-- ---- want of memory

some-marked : (touched : Bool) (held : Option Held) → is_some (marked touched held) ≡ is_some held
some-marked touched None = refl
some-marked touched (Some held) = refl

-- A flow that is needed is held then.
pub mid-held : (old : State) (held : Flow → Option Held) (es : List (IfaceEntry × Expiry)) (now : ℕ) → IsSound old →
    ((q : Flow) → held q ≡ marked (list_any (lapsed old.clock now q) es) (marked (compares_costs old.rule) (get same_flow old.flows q))) → (q : Flow)
    → needed_in old q ≡ true → is_some (held q) ≡ true
mid-held old held es now sound each q need =
    ap is_some (each q)
    ∙ (some-marked (list_any (lapsed old.clock now q) es) (marked (compares_costs old.rule) (get same_flow old.flows q))
    ∙ (some-marked (compares_costs old.rule) (get same_flow old.flows q) ∙ sound.keeps.needed q need))

some-forgotten : (held : Option Held) → is_some (forgotten held) ≡ is_some held
some-forgotten None = refl
some-forgotten (Some held) = refl

none-kept : (held : Option Held) → kept_of (forgotten held) ≡ None
none-kept None = refl
none-kept (Some held) = refl

-- Where nothing is kept there are no flows.
pub no-flows : (old new : FlowTable) → IsUnique same_flow new → ((q : Flow) → get same_flow new q ≡ forgotten (get same_flow old q))
    → from_entries {R = flow_cmp} (flows_in new.entries) ≡ maps.empty
no-flows old new unique each = same_map flow_total flow_exact _ _ (λ q.
    flows-got new q unique ∙ (ap (λ (held : Option Held). choice_in (kept_of held)) (each q)
    ∙ (ap choice_in (none-kept (get same_flow old q)) ∙ sym (get-empty flow_cmp q))))

-- What is forgotten is not known, and what is needed stays held.
forgotten-keeps : (held next : Flow → Option Held) (given : Flow → Now) (needs : Flow → Bool)
    → ((q : Flow) → needs q ≡ true → is_some (held q) ≡ true) → ((q : Flow) → next q ≡ forgotten (held q)) →
    ((q : Flow) → needs q ≡ false → given q ≡ None) → Keeps next given needs
forgotten-keeps held next given needs there each none = record {
  fresh = λ q h. ap kept_of (each q) ∙ (none-kept (held q) ∙ sym (none q (unneeded (held q) (needs q) (ap is_stale (sym (each q)) ∙ h) (there q))));
  needed = λ q h. ap is_some (each q) ∙ (some-forgotten (held q) ∙ there q h);
}
  where
    unneeded : (held : Option Held) (need : Bool) → is_stale (forgotten held) ≡ false → (need ≡ true → is_some held ≡ true) → need ≡ false
    unneeded (Some held) need fresh there = absurd cc
    unneeded None false fresh there = refl
    unneeded None true fresh there = sym (there refl)

-- The state stays sound where all flows are forgotten, whatever was held, as long as the needed ones were.
pub forgotten-sound : (old mid : State) (flows : FlowTable) → IsSound old → mid ≡ record old { flows = mid.flows; clock = mid.clock } →
    ((q : Flow) → needed_in old q ≡ true → is_some (get same_flow mid.flows q) ≡ true) → IsUnique same_flow flows
    → ((q : Flow) → get same_flow flows q ≡ forgotten (get same_flow mid.flows q)) →
    IsSound (record mid { flows = flows })
forgotten-sound old mid flows sound rest there unique each = subst (λ (state : State). IsSound (record state { flows = flows })) (sym rest) (record {
  unique = unique;
  rule = sound.rule;
  sent = sound.sent;
  cost = sound.cost;
  keeps = forgotten-keeps (get same_flow mid.flows) (get same_flow flows) (given_at old sound.cost mid.clock) (needed_in old) there each
      (λ q h. absent-none old.ifaces old.entries old.sent.keys (chosen_for old.routes sound.cost) mid.clock q h);
})

-- ---- answers

pub on-err : {X E P : Type 0} (result : Result X E) → P → OnErr result P
on-err (Ok x) p = tt
on-err (Err e) p = p
