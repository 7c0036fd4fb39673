-- The invariant of a VRF's flows, call by call.
use Rattle.std.proofs.Common.{◌≡◌, ℕ, ◌==◌, is_some, Bool, true, false, not, cond, ◌&&◌, ◌||◌, List, [], ◌∷◌, ◌++◌, filter, Option, None, Some, refl, sym, ap, subst, ◌∙◌}
use Rattle.std.specs.List.{list_any}
use Rattle.std.specs.Map.{lookup}
use Rattle.std.specs.FinMap as finite
use Rattle.std.specs.FinMap.{from_entries}
use Rattle.std.proofs.lemmas.Bool.{and_parts, or_parts, or_from, or_left, or_right, true_from_ne_false}
use Rattle.mv_base.specs.declared.addr.Addr.{Addr}
use Rattle.mv_base.specs.declared.ids.IfaceId.{IfaceId}
use Rattle.mv_base.specs.Address.{same_addr, same_addr_equiv}
use Rattle.scenario_defs.specs.declared.event.IfaceEntry.{IfaceEntry}
use Rattle.scenario_defs.specs.declared.event.JoinEntry.{JoinEntry}
use Rattle.scenario_defs.specs.declared.event.JoinEntry.TheVariants.{Star, Source, Rpt}
use Rattle.pim_joinprune.specs.declared.source.JpSource.{JpSource}
use Rattle.pim_joinprune.specs.declared.group.Group.{Group}
use Rattle.pim_joinprune.specs.declared.message.JoinPrune.{JoinPrune}
use Rattle.pim_defs.specs.declared.expiry.Expiry.{Expiry}
use Rattle.pim_defs.specs.declared.mention.Mention.{Mention}
use Rattle.pim_defs.specs.Expiry.{is_after, counts, remaining}
use Rattle.scenario_defs.specs.Rules.{group_of}
use Rattle.pim_defs.specs.Mention.{entry_of, same_entry, lists, joins, prunes, mention_of, expiry_after}
use Rattle.pim_defs.specs.Entries.{Entries, expiry_at, asks, applied, kept_at}
use Rattle.pim_defs.proofs.EntriesLemmas.{get-applied, get-kept}
use Rattle.pim_defs.proofs.KeyLemmas.{same_entry_equal}
use Rattle.pim_state.specs.Plan.{is_at}
use Rattle.pim_state.proofs.MapLemmas.{get-lookup, at-equal}
use Rattle.umh_select.specs.declared.route.Choice.{Choice}
use Rattle.vrf_words.specs.declared.tree_defs.flow.Flow.{Flow}
use Rattle.vrf_words.specs.declared.tree_defs.flow.SiteIface.{SiteIface}
use Rattle.vrf_words.specs.declared.tree_defs.flow.Upstream.{Upstream}
use Rattle.vrf_words.specs.tree_defs.Keys.{same_flow}
use Rattle.vrf_words.specs.tree_defs.Flows.{gained, lost}
use Rattle.vrf_words.proofs.tree_defs.KeyLemmas.{same_flow_equal, same_flow_itself, same_upstream_itself}
use Rattle.vrf_flows.specs.declared.held.Held.{Held}
use Rattle.vrf_flows.specs.Held.{Now, kept_of, is_stale, touches, marked, held_sent, held_too, joins_in, joins_itself, holds_entry, names, names_in, lapsed, ended, differ}
use Rattle.vrf_flows.specs.Sight.{IsUnasked, asking_of, flow_by, is_joined, is_sent, is_needed, flow_at}
use Rattle.vrf_flows.specs.Plan.{joined_by, planned, gain, loss, settled, settled_by}
use Rattle.vrf_flows.specs.State.{Keeps}

-- ---- truth values

absurd-both : (b : Bool) → b ≡ true → b ≡ false → ⊥
absurd-both true h k = absurd cc
absurd-both false h k = absurd cc

is-false : (b : Bool) → (b ≡ true → ⊥) → b ≡ false
is-false true h = absurd (h refl)
is-false false h = refl

any-less : {X : Type 0} (a b : X → Bool) → ((x : X) → a x ≡ true → b x ≡ true) → (xs : List X) → list_any b xs ≡ false → list_any a xs ≡ false
any-less a b h [] n = refl
any-less a b h (x ∷ xs) n =
    let both = or_parts (b x) (list_any b xs) n in
    or_from (a x) (list_any a xs) (is-false (a x) (λ t. absurd-both (b x) (h x t) both.0)) (any-less a b h xs both.1)

any-more : {X : Type 0} (a b : X → Bool) → ((x : X) → a x ≡ true → b x ≡ true) → (xs : List X) → list_any a xs ≡ true → list_any b xs ≡ true
any-more a b h xs t = true_from_ne_false (list_any b xs) (λ n. absurd-both (list_any a xs) t (any-less a b h xs n))

-- Where a test passes none, one that passes no more keeps none.
filter-less : {X : Type 0} (a b : X → Bool) → ((x : X) → b x ≡ false → a x ≡ false) → (xs : List X) → list_any b xs ≡ false → filter a xs ≡ []
filter-less a b h [] n = refl
filter-less {X} a b h (x ∷ xs) n =
    let both = or_parts (b x) (list_any b xs) n in
    ap (λ (t : Bool). cond t (x ∷ filter a xs) (filter a xs)) (h x both.0) ∙ filter-less a b h xs both.1

-- ---- flows that nothing asks for

unasked : (a b : Bool) → (false || (a && b && false)) ≡ false
unasked true true = refl
unasked true false = refl
unasked false b = refl

none-counts : (clock : ℕ) (o : Option Expiry) → is_some o ≡ false → counts clock o ≡ false
none-counts clock None h = refl
none-counts clock (Some x) h = absurd cc

-- A flow that no entry joins itself, and that is not known to be sent, is none of the VRF.
pub absent-none : (ifaces : List SiteIface) (entries : Entries) (sent : List Flow) (chosen : Flow → Choice) (clock : ℕ) (q : Flow)
    → is_needed ifaces entries sent q ≡ false → flow_at ifaces entries sent chosen clock q ≡ None
absent-none ifaces entries sent chosen clock q unneeded =
    let both = or_parts (is_joined ifaces entries q) (is_sent sent q) unneeded in
    ap (λ (list : List SiteIface). flow_by list (chosen q))
    (filter-less (λ (own : SiteIface). asks entries own.iface q.source q.group (is_sent sent q) clock)
    (λ (own : SiteIface). is_some (expiry_at entries own.iface (Source q.source q.group))) (λ own joined.
    (λ i. none-counts clock (expiry_at entries own.iface (Source q.source q.group)) joined i
    || (counts clock (expiry_at entries own.iface (Star q.group)) && not (counts clock (expiry_at entries own.iface (Rpt q.source q.group)))
    && both.1 i))
    ∙ unasked (counts clock (expiry_at entries own.iface (Star q.group))) (not (counts clock (expiry_at entries own.iface (Rpt q.source q.group)))))
    ifaces both.0)

-- ---- flows that are as they were

touches-source : (q : Flow) → touches (Source q.source q.group) q ≡ true
touches-source q = same_flow_itself q

touches-rpt : (q : Flow) → touches (Rpt q.source q.group) q ≡ true
touches-rpt q = same_flow_itself q

touches-star : (q : Flow) → touches (Star q.group) q ≡ true
touches-star q = same_addr_equiv.refl q.group

-- A flow is as it was where each entry that touches it counts as it did, and it is known to be sent and chosen for as it was.
pub flow-same : (ifaces : List SiteIface) (old new : Entries) (sent others : List Flow) (chosen other : Flow → Choice) (from to : ℕ) (q : Flow) →
    ((entry : JoinEntry) → touches entry q ≡ true → (iface : IfaceId)
    → counts from (expiry_at old iface entry) ≡ counts to (expiry_at new iface entry)) →
    is_sent sent q ≡ is_sent others q → chosen q ≡ other q → flow_at ifaces old sent chosen from q ≡ flow_at ifaces new others other to q
flow-same ifaces old new sent others chosen other from to q same known alike =
    λ i. flow_by (filter (λ (own : SiteIface). same (Source q.source q.group) (touches-source q) own.iface i
    || (same (Star q.group) (touches-star q) own.iface i && not (same (Rpt q.source q.group) (touches-rpt q) own.iface i) && known i)) ifaces)
    (alike i)

-- ---- the invariant

-- A change that marks each flow that it may change keeps the invariant.
pub keeps-change : (held next : Flow → Option Held) (marks : Flow → Bool) (before after : Flow → Now) (needed needs : Flow → Bool)
    → Keeps held before needed →
    ((q : Flow) → next q ≡ marked (marks q) (held q)) → ((q : Flow) → marks q ≡ false → before q ≡ after q) →
    ((q : Flow) → needs q ≡ true → is_some (held q) ≡ true) → ((q : Flow) → needs q ≡ false → after q ≡ None) → Keeps next after needs
keeps-change held next marks before after needed needs keeps each same there_too none = record {
  fresh = λ q h. ap kept_of (each q) ∙ fresh q (marks q) (held q) refl refl (ap is_stale (sym (each q)) ∙ h);
  needed = λ q h. ap is_some (each q) ∙ there (marks q) (held q) (there_too q h);
}
  where
    there : (b : Bool) (o : Option Held) → is_some o ≡ true → is_some (marked b o) ≡ true
    there b None h = absurd cc
    there b (Some x) h = refl

    fresh : (q : Flow) (b : Bool) (o : Option Held) → marks q ≡ b → held q ≡ o → is_stale (marked b o) ≡ false → kept_of (marked b o) ≡ after q
    fresh q b None m e h = sym (none q (is-false _ (λ t. absurd-both _ (there_too q t) (ap is_some e))))
    fresh q b (Some x) m e h =
        let both = or_parts x.stale b h in
        ap kept_of (sym e) ∙ (keeps.fresh q (ap is_stale e ∙ both.0) ∙ same q (m ∙ both.1))

-- More flows that are held keep it.
pub keeps-grown : (held next : Flow → Option Held) (given : Flow → Now) (needed : Flow → Bool) → Keeps held given needed →
    ((q : Flow) → next q ≡ held_too (is_some (next q)) (held q)) → Keeps next given needed
keeps-grown held next given needed keeps grown = record {
  fresh = λ q h. fresh q (next q) (held q) refl refl (grown q) h;
  needed = λ q h. there (next q) (held q) (grown q) (keeps.needed q h);
}
  where
    there : (new old : Option Held) → new ≡ held_too (is_some new) old → is_some old ≡ true → is_some new ≡ true
    there new None n h = absurd cc
    there new (Some x) n h = ap is_some n

    fresh : (q : Flow) (new old : Option Held) → next q ≡ new → held q ≡ old → new ≡ held_too (is_some new) old → is_stale new ≡ false
        → kept_of new ≡ given q
    fresh q None None e k n h = ap kept_of (sym k) ∙ keeps.fresh q (ap is_stale k)
    fresh q None (Some x) e k n h = absurd cc
    fresh q (Some y) None e k n h =
        let stale : y.stale ≡ true = ap is_stale n in
        absurd (absurd-both y.stale stale h)
    fresh q (Some y) (Some x) e k n h = ap kept_of (n ∙ sym k) ∙ keeps.fresh q (ap is_stale (k ∙ sym n) ∙ h)

-- ---- refresh

pub gained-same : (o : Option Upstream) → gained o o ≡ None
gained-same o = ap (λ (b : Bool). cond b None o) (same_upstream_itself o)

-- What is planned and settled is what is computed.
pub settled-fresh : (held next : Option Held) (plan : Option Now) (now : Now) (needed : Bool) → plan ≡ planned held now
    → next ≡ settled needed plan held → (is_stale held ≡ false → kept_of held ≡ now) → kept_of next ≡ now
settled-fresh None next plan now needed p n fresh = ap kept_of (n ∙ ap (λ (o : Option Now). settled needed o None) p) ∙ fresh refl
settled-fresh (Some x) next plan now needed p n fresh = ap kept_of (n ∙ ap (λ (o : Option Now). settled needed o (Some x)) p) ∙ by x.stale refl
  where
    value : (b : Bool) (o : Now) → kept_of (settled_by b o) ≡ o
    value true None = refl
    value false None = refl
    value b (Some k) = refl

    by : (b : Bool) → x.stale ≡ b → kept_of (settled needed (cond b (Some now) None) (Some x)) ≡ now
    by true s = value needed now
    by false s = fresh s

settled-there : (held next : Option Held) (plan : Option Now) (needed : Bool) → next ≡ settled needed plan held → needed ≡ true → is_some held ≡ true
    → is_some next ≡ true
settled-there held next None needed n t h = ap is_some n ∙ h
settled-there held next (Some None) needed n t h = ap is_some n ∙ ap (λ (b : Bool). is_some (settled_by b None)) t
settled-there held next (Some (Some k)) needed n t h = ap is_some n

pub settled-keeps : (held next : Flow → Option Held) (plan : Flow → Option Now) (given : Flow → Now) (needed : Flow → Bool)
    → Keeps held given needed →
    ((q : Flow) → plan q ≡ planned (held q) (given q)) → ((q : Flow) → next q ≡ settled (needed q) (plan q) (held q)) → Keeps next given needed
settled-keeps held next plan given needed keeps planned_so settled_so = record {
  fresh = λ q h. settled-fresh (held q) (next q) (plan q) (given q) (needed q) (planned_so q) (settled_so q) (keeps.fresh q);
  needed = λ q h. settled-there (held q) (next q) (plan q) (needed q) (settled_so q) h (keeps.needed q h);
}

kept-marked : (b : Bool) (o : Option Held) → kept_of (marked b o) ≡ kept_of o
kept-marked b None = refl
kept-marked b (Some x) = refl

-- The joins of the planned flows are all changes.
pub gain-all : (held : Option Held) (plan : Option Now) (now : Now) → plan ≡ planned held now → (is_stale held ≡ false → kept_of held ≡ now)
    → gain held plan ≡ gained (joined_by (kept_of held)) (joined_by now)
gain-all None plan now p fresh = ap (gain None) p ∙ sym (ap (λ (o : Now). gained None (joined_by o)) (sym (fresh refl)) ∙ gained-same None)
gain-all (Some x) plan now p fresh = ap (gain (Some x)) p ∙ by x.stale refl
  where
    by : (b : Bool) → x.stale ≡ b → gain (Some x) (cond b (Some now) None) ≡ gained (joined_by x.kept) (joined_by now)
    by true s = refl
    by false s = sym (ap (λ (o : Now). gained (joined_by x.kept) (joined_by o)) (sym (fresh s)) ∙ gained-same (joined_by x.kept))

pub loss-all : (held : Option Held) (plan : Option Now) (now : Now) → plan ≡ planned held now → (is_stale held ≡ false → kept_of held ≡ now)
    → loss held plan ≡ lost (joined_by (kept_of held)) (joined_by now)
loss-all None plan now p fresh = ap (loss None) p ∙ sym (ap (λ (o : Now). gained (joined_by o) None) (sym (fresh refl)) ∙ gained-same None)
loss-all (Some x) plan now p fresh = ap (loss (Some x)) p ∙ by x.stale refl
  where
    by : (b : Bool) → x.stale ≡ b → loss (Some x) (cond b (Some now) None) ≡ lost (joined_by x.kept) (joined_by now)
    by true s = refl
    by false s = sym (ap (λ (o : Now). gained (joined_by o) (joined_by x.kept)) (sym (fresh s)) ∙ gained-same (joined_by x.kept))

-- ---- the clock

-- Of entries that none passes a test, no one that is looked up passes it.
pub looked-up : (test : IfaceEntry × Expiry → Bool) (es : List (IfaceEntry × Expiry)) (at : IfaceEntry) (x : Expiry) → list_any test es ≡ false
    → lookup (is_at at) es ≡ Some x → test (at, x) ≡ false
looked-up test [] at x none found = absurd cc
looked-up test (e ∷ es) at x none found =
    let both = or_parts (test e) (list_any test es) none in
    by (is_at at e.0) refl both.0 (looked-up test es at x both.1) found
  where
    by : (b : Bool) → is_at at e.0 ≡ b → test e ≡ false → (lookup (is_at at) es ≡ Some x → test (at, x) ≡ false)
        → cond b (Some e.1) (lookup (is_at at) es) ≡ Some x → test (at, x) ≡ false
    by false s t rest f = rest f
    by true s t rest f =
        let key : at ≡ e.0 = at-equal at e.0 s in
        let value : e.1 ≡ x = cc in
        (λ i. test (key i, sym value i)) ∙ t

-- the entry's expiry by the list of entries
pub expiry-found : (es : List (IfaceEntry × Expiry)) (entries : Entries) (at : IfaceEntry) → from_entries es ≡ entries
    → finite.get entries at ≡ lookup (is_at at) es
expiry-found es entries at e = ap (λ (m : Entries). finite.get m at) (sym e) ∙ get-lookup es at

differ-not : (a b t : Bool) → (differ a b && t) ≡ false → t ≡ true → a ≡ b
differ-not a b false h t = absurd cc
differ-not true true true h t = refl
differ-not true false true h t = absurd cc
differ-not false true true h t = absurd cc
differ-not false false true h t = refl

pub lapse-same : (ifaces : List SiteIface) (es : List (IfaceEntry × Expiry)) (entries : Entries) (sent : List Flow) (chosen other : Flow → Choice)
    (from to : ℕ) (q : Flow) → from_entries es ≡ entries → chosen q ≡ other q →
    list_any (lapsed from to q) es ≡ false → flow_at ifaces entries sent chosen from q ≡ flow_at ifaces entries sent other to q
lapse-same ifaces es entries sent chosen other from to q e alike none =
    flow-same ifaces entries entries sent sent chosen other from to q
    (λ entry t iface. by entry t iface (lookup (is_at (record { iface = iface; entry = entry })) es) refl) refl alike
  where
    by : (entry : JoinEntry) → touches entry q ≡ true → (iface : IfaceId) (o : Option Expiry)
        → lookup (is_at (record { iface = iface; entry = entry })) es ≡ o
        → counts from (expiry_at entries iface entry) ≡ counts to (expiry_at entries iface entry)
    by entry t iface None f =
        let found : expiry_at entries iface entry ≡ None = expiry-found es entries (record { iface = iface; entry = entry }) e ∙ f in
        ap (counts from) found ∙ sym (ap (counts to) found)
    by entry t iface (Some x) f =
        let found : expiry_at entries iface entry ≡ Some x = expiry-found es entries (record { iface = iface; entry = entry }) e ∙ f in
        ap (counts from) found ∙ (differ-not (is_after x from) (is_after x to) (touches entry q)
        (looked-up (lapsed from to q) es (record { iface = iface; entry = entry }) x none f) t ∙ sym (ap (counts to) found))

not-and : (a t : Bool) → (not a && t) ≡ false → t ≡ true → a ≡ true
not-and a false h t = absurd cc
not-and true true h t = refl
not-and false true h t = absurd cc

-- What timers remove was marked.
pub timers-same : (ifaces : List SiteIface) (es : List (IfaceEntry × Expiry)) (entries : Entries) (sent : List Flow) (chosen : Flow → Choice)
    (clock now : ℕ) (q : Flow) → from_entries es ≡ entries →
    list_any (ended now q) es ≡ false → flow_at ifaces entries sent chosen clock q ≡ flow_at ifaces (kept_at entries now) sent chosen clock q
timers-same ifaces es entries sent chosen clock now q e none =
    flow-same ifaces entries (kept_at entries now) sent sent chosen chosen clock clock q
    (λ entry t iface. ap (counts clock) (by entry t iface (lookup (is_at (record { iface = iface; entry = entry })) es) refl)) refl refl
  where
    by : (entry : JoinEntry) → touches entry q ≡ true → (iface : IfaceId) (o : Option Expiry)
        → lookup (is_at (record { iface = iface; entry = entry })) es ≡ o
        → expiry_at entries iface entry ≡ expiry_at (kept_at entries now) iface entry
    by entry t iface None f =
        let found : expiry_at entries iface entry ≡ None = expiry-found es entries (record { iface = iface; entry = entry }) e ∙ f in
        found ∙ sym (get-kept entries now (record { iface = iface; entry = entry }) ∙ ap (remaining now) found)
    by entry t iface (Some x) f =
        let found : expiry_at entries iface entry ≡ Some x = expiry-found es entries (record { iface = iface; entry = entry }) e ∙ f in
        let after : is_after x now ≡ true =
        not-and (is_after x now) (touches entry q) (looked-up (ended now q) es (record { iface = iface; entry = entry }) x none f) t in
        found ∙ sym (get-kept entries now (record { iface = iface; entry = entry })
        ∙ (ap (remaining now) found ∙ ap (λ (b : Bool). cond b (Some x) None) after))

remaining-there : (now : ℕ) (o : Option Expiry) → is_some (remaining now o) ≡ true → is_some o ≡ true
remaining-there now None h = h
remaining-there now (Some x) h = refl

-- What is needed after timers was needed.
pub timers-needed : (ifaces : List SiteIface) (entries : Entries) (sent : List Flow) (now : ℕ) (q : Flow)
    → is_needed ifaces (kept_at entries now) sent q ≡ true → is_needed ifaces entries sent q ≡ true
timers-needed ifaces entries sent now q h = by (is_joined ifaces (kept_at entries now) q) refl h
  where
    entry : JoinEntry
    entry = Source q.source q.group

    by : (b : Bool) → is_joined ifaces (kept_at entries now) q ≡ b → (b || is_sent sent q) ≡ true
        → (is_joined ifaces entries q || is_sent sent q) ≡ true
    by true j t =
        or_left _ _ (any-more (λ (own : SiteIface). is_some (expiry_at (kept_at entries now) own.iface entry))
        (λ (own : SiteIface). is_some (expiry_at entries own.iface entry))
        (λ own s. remaining-there now (expiry_at entries own.iface entry)
        (ap is_some (sym (get-kept entries now (record { iface = own.iface; entry = entry }))) ∙ s)) ifaces j)
    by false j t = or_right _ _ t

-- ---- messages

-- A source that is an entry that touches the flow names the flow.
list-names : (group : Addr) (sources : List JpSource) (entry : JoinEntry) (q : Flow) → touches entry q ≡ true → lists group sources entry ≡ true
    → names group sources q ≡ true
list-names group sources entry q t l =
    any-more (λ source. same_entry (entry_of group source) entry) (λ source. touches (entry_of group source) q)
    (λ source s. ap (λ (e : JoinEntry). touches e q) (same_entry_equal (entry_of group source) entry s) ∙ t) sources l

unjoined : (message : JoinPrune) (entry : JoinEntry) (q : Flow) → touches entry q ≡ true → list_any (λ group. names_in group q) message.groups ≡ false
    → joins message entry ≡ false
unjoined message entry q t n =
    any-less (λ (group : Group). lists group.group group.joins entry) (λ group. names_in group q)
    (λ group l. or_left _ _ (list-names group.group group.joins entry q t l)) message.groups n

unpruned : (message : JoinPrune) (entry : JoinEntry) (q : Flow) → touches entry q ≡ true → list_any (λ group. names_in group q) message.groups ≡ false
    → prunes message entry ≡ false
unpruned message entry q t n =
    any-less (λ (group : Group). lists group.group group.prunes entry) (λ group. names_in group q)
    (λ group l. or_right _ _ (list-names group.group group.prunes entry q t l)) message.groups n

-- With an entry its group's shared tree touches a flow.
touches-shared : (entry : JoinEntry) (q : Flow) → touches entry q ≡ true → touches (Star (group_of entry)) q ≡ true
touches-shared (Star group) q t = t
touches-shared (Source source group) q t = (and_parts (same_addr source q.source) (same_addr group q.group) t).1
touches-shared (Rpt source group) q t = (and_parts (same_addr source q.source) (same_addr group q.group) t).1

unsaid : (entry : JoinEntry) (mention : Mention) (clock holdtime : ℕ) (old : Option Expiry) → mention.joined ≡ false → mention.pruned ≡ false
    → mention.shared ≡ false → expiry_after entry mention clock holdtime old ≡ old
unsaid (Star group) mention clock holdtime old j p s = rw (p, j) refl
unsaid (Source source group) mention clock holdtime old j p s = rw (p, j) refl
unsaid (Rpt source group) mention clock holdtime old j p s = rw (p, j, s) refl

either-way : {X : Type 0} (b : Bool) (x y : X) → x ≡ y → cond b x y ≡ y
either-way true x y h = h
either-way false x y h = refl

-- A message leaves the entries of flows that it does not name.
message-same : (entries : Entries) (iface : IfaceId) (message : JoinPrune) (now : ℕ) (q : Flow)
    → list_any (λ group. names_in group q) message.groups ≡ false → (entry : JoinEntry) → touches entry q ≡ true → (at : IfaceId) →
    expiry_at entries at entry ≡ expiry_at (applied entries iface message now) at entry
message-same entries iface message now q n entry t at =
    sym (get-applied entries iface message now (record { iface = at; entry = entry }) ∙ either-way (at.0 == iface.0) _ (expiry_at entries at entry)
    (unsaid entry (mention_of message entry) now message.holdtime (expiry_at entries at entry) (unjoined message entry q t n)
    (unpruned message entry q t n) (unjoined message (Star (group_of entry)) q (touches-shared entry q t) n)))

pub take-same : (ifaces : List SiteIface) (entries : Entries) (sent : List Flow) (chosen : Flow → Choice) (clock : ℕ) (iface : IfaceId)
    (message : JoinPrune) (now : ℕ) (q : Flow) → list_any (λ group. names_in group q) message.groups ≡ false →
    flow_at ifaces entries sent chosen clock q ≡ flow_at ifaces (applied entries iface message now) sent chosen clock q
take-same ifaces entries sent chosen clock iface message now q n =
    flow-same ifaces entries (applied entries iface message now) sent sent chosen chosen clock clock q
    (λ entry t at. ap (counts clock) (message-same entries iface message now q n entry t at)) refl refl

not-joined : (source group : Addr) (mention : Mention) (clock holdtime : ℕ) → mention.joined ≡ false
    → expiry_after (Source source group) mention clock holdtime None ≡ None
not-joined source group mention clock holdtime j = rw j (nothing mention.pruned)
  where
    nothing : (b : Bool) → cond {A = Option Expiry} b None None ≡ None
    nothing true = refl
    nothing false = refl

-- A flow that is needed after a message was held, or is held for the message.
pub take-needed : (held next : Flow → Option Held) (ifaces : List SiteIface) (entries : Entries) (sent : List Flow) (iface : IfaceId)
    (message : JoinPrune) (now : ℕ) → ((q : Flow) → is_needed ifaces entries sent q ≡ true → is_some (held q) ≡ true) →
    ((q : Flow) → next q ≡ held_too (list_any (joins_in q) message.groups) (held q)) → (q : Flow)
    → is_needed ifaces (applied entries iface message now) sent q ≡ true → is_some (next q) ≡ true
take-needed held next ifaces entries sent iface message now needed more q h =
    ap is_some (more q) ∙ by (list_any (joins_in q) message.groups) refl
  where
    entry : JoinEntry
    entry = Source q.source q.group

    kept : (b : Bool) (o : Option Held) → is_some o ≡ true → is_some (held_too b o) ≡ true
    kept b None t = absurd cc
    kept b (Some x) t = refl

    made : (o : Option Held) → is_some (held_too true o) ≡ true
    made None = refl
    made (Some x) = refl

    was : list_any (joins_in q) message.groups ≡ false → (at : IfaceId) (o : Option Expiry) → expiry_at entries at entry ≡ o
        → is_some (expiry_at (applied entries iface message now) at entry) ≡ true → is_some o ≡ true
    was j at (Some x) e t = refl
    was j at None e t =
        let after : expiry_at (applied entries iface message now) at entry ≡ None =
        get-applied entries iface message now (record { iface = at; entry = entry })
        ∙ (ap (λ (o : Option Expiry). cond (at.0 == iface.0) (expiry_after entry (mention_of message entry) now message.holdtime o) o) e
        ∙ either-way (at.0 == iface.0) _ None (not-joined q.source q.group (mention_of message entry) now message.holdtime j)) in
        absurd (absurd-both _ t (ap is_some after))

    before : list_any (joins_in q) message.groups ≡ false → (b : Bool) → is_joined ifaces (applied entries iface message now) q ≡ b
        → (b || is_sent sent q) ≡ true → (is_joined ifaces entries q || is_sent sent q) ≡ true
    before j true s t =
        or_left _ _ (any-more (λ (own : SiteIface). is_some (expiry_at (applied entries iface message now) own.iface entry))
        (λ (own : SiteIface). is_some (expiry_at entries own.iface entry)) (λ own u. was j own.iface (expiry_at entries own.iface entry) refl u)
        ifaces s)
    before j false s t = or_right _ _ t

    by : (b : Bool) → list_any (joins_in q) message.groups ≡ b → is_some (held_too b (held q)) ≡ true
    by true j = made (held q)
    by false j = kept false (held q) (needed q (before j (is_joined ifaces (applied entries iface message now) q) refl h))

-- ---- flows that are known to be sent, and routes

pub sent-same : (ifaces : List SiteIface) (entries : Entries) (sent others : List Flow) (chosen : Flow → Choice) (clock : ℕ) (q : Flow)
    → is_sent sent q ≡ is_sent others q → flow_at ifaces entries sent chosen clock q ≡ flow_at ifaces entries others chosen clock q
sent-same ifaces entries sent others chosen clock q h =
    flow-same ifaces entries entries sent others chosen chosen clock clock q (λ entry t iface. refl) h refl

pub routes-same : (ifaces : List SiteIface) (entries : Entries) (sent : List Flow) (chosen other : Flow → Choice) (clock : ℕ) (q : Flow)
    → chosen q ≡ other q → flow_at ifaces entries sent chosen clock q ≡ flow_at ifaces entries sent other clock q
routes-same ifaces entries sent chosen other clock q h =
    flow-same ifaces entries entries sent sent chosen other clock clock q (λ entry t iface. refl) refl h

-- What is needed where fewer flows are known to be sent was needed.
pub unsent-needed : (ifaces : List SiteIface) (entries : Entries) (sent others : List Flow) (q : Flow)
    → (is_sent others q ≡ true → is_sent sent q ≡ true) → is_needed ifaces entries others q ≡ true → is_needed ifaces entries sent q ≡ true
unsent-needed ifaces entries sent others q known h = by (is_joined ifaces entries q) h
  where
    by : (b : Bool) → (b || is_sent others q) ≡ true → (b || is_sent sent q) ≡ true
    by true t = refl
    by false t = known t

-- What is needed where one flow more is known to be sent is held, where that flow is.
pub sent-needed : (held next : Flow → Option Held) (flow : Flow) (asked : Bool) (ifaces : List SiteIface) (entries : Entries)
    (sent others : List Flow) → ((q : Flow) → is_needed ifaces entries sent q ≡ true → is_some (held q) ≡ true) →
    ((q : Flow) → next q ≡ held_sent asked (same_flow flow q) (held q)) →
    ((q : Flow) → is_sent others q ≡ cond (same_flow flow q) true (is_sent sent q)) → (q : Flow) → is_needed ifaces entries others q ≡ true
    → is_some (next q) ≡ true
sent-needed held next flow asked ifaces entries sent others needed more known q h = ap is_some (more q) ∙ by (same_flow flow q) refl
  where
    made : (o : Option Held) → is_some (held_sent asked true o) ≡ true
    made None = refl
    made (Some x) = refl

    kept : (o : Option Held) → is_some o ≡ true → is_some (held_sent asked false o) ≡ true
    kept None t = absurd cc
    kept (Some x) t = refl

    by : (b : Bool) → same_flow flow q ≡ b → is_some (held_sent asked b (held q)) ≡ true
    by true s = made (held q)
    by false s =
        kept (held q) (needed q (unsent-needed ifaces entries sent others q
        (λ t. sym (known q ∙ ap (λ (c : Bool). cond c true (is_sent sent q)) s) ∙ t) h))

-- A flow that nobody asks for is none of the VRF.
pub unasked-none : (ifaces : List SiteIface) (entries : Entries) (sent : List Flow) (chosen : Flow → Choice) (clock : ℕ) (flow q : Flow)
    → IsUnasked entries flow → same_flow flow q ≡ true → flow_at ifaces entries sent chosen clock q ≡ None
unasked-none ifaces entries sent chosen clock flow q unasked s =
    ap (λ (list : List SiteIface). flow_by list (chosen q))
    (subst (λ (f : Flow). asking_of ifaces entries (is_sent sent q) clock f ≡ []) (same_flow_equal flow q s)
    (unasked ifaces (is_sent sent q) clock))

-- A flow that is not marked is what it was, where it is known to be sent as it was, or nobody asks for it.
pub asked-same : (ifaces : List SiteIface) (entries : Entries) (sent others : List Flow) (chosen : Flow → Choice) (clock : ℕ) (flow : Flow)
    (asked : Bool) → (asked ≡ false → IsUnasked entries flow) →
    ((q : Flow) → same_flow flow q ≡ false → is_sent sent q ≡ is_sent others q) → (q : Flow) → (asked && same_flow flow q) ≡ false
    → flow_at ifaces entries sent chosen clock q ≡ flow_at ifaces entries others chosen clock q
asked-same ifaces entries sent others chosen clock flow asked unasked known q h = by (same_flow flow q) asked refl refl h
  where
    by : (b a : Bool) → same_flow flow q ≡ b → asked ≡ a → (a && b) ≡ false
        → flow_at ifaces entries sent chosen clock q ≡ flow_at ifaces entries others chosen clock q
    by false a s e t = sent-same ifaces entries sent others chosen clock q (known q s)
    by true false s e t =
        unasked-none ifaces entries sent chosen clock flow q (unasked e) s
        ∙ sym (unasked-none ifaces entries others chosen clock flow q (unasked e) s)
    by true true s e t = absurd cc

-- What is held too of a flow that is known to be sent was not held, and is what it is.
pub keeps-sent : (held next : Flow → Option Held) (flow : Flow) (ifaces : List SiteIface) (entries : Entries) (sent : List Flow)
    (chosen : Flow → Choice) (clock : ℕ) (asked : Bool) → (asked ≡ false → IsUnasked entries flow) →
    Keeps held (flow_at ifaces entries sent chosen clock) (is_needed ifaces entries sent) →
    ((q : Flow) → next q ≡ held_sent asked (same_flow flow q) (held q)) →
    Keeps next (flow_at ifaces entries sent chosen clock) (is_needed ifaces entries sent)
keeps-sent held next flow ifaces entries sent chosen clock asked unasked keeps more = record {
  fresh = λ q h. ap kept_of (more q) ∙ fresh q (same_flow flow q) asked (held q) refl refl refl (ap is_stale (sym (more q)) ∙ h);
  needed = λ q h. ap is_some (more q) ∙ there (same_flow flow q) (held q) (keeps.needed q h);
}
  where
    there : (b : Bool) (o : Option Held) → is_some o ≡ true → is_some (held_sent asked b o) ≡ true
    there b None h = absurd cc
    there b (Some x) h = refl

    fresh : (q : Flow) (b a : Bool) (o : Option Held) → same_flow flow q ≡ b → asked ≡ a → held q ≡ o → is_stale (held_sent a b o) ≡ false
        → kept_of (held_sent a b o) ≡ flow_at ifaces entries sent chosen clock q
    fresh q b a (Some x) s e k h = ap kept_of (sym k) ∙ keeps.fresh q (ap is_stale k ∙ h)
    fresh q false a None s e k h = ap kept_of (sym k) ∙ keeps.fresh q (ap is_stale k)
    fresh q true true None s e k h = absurd cc
    fresh q true false None s e k h = sym (unasked-none ifaces entries sent chosen clock flow q (unasked e) s)

-- ---- one interface more

entry-listed : (es : List (IfaceEntry × Expiry)) (at : IfaceEntry) (q : Flow) → at.entry ≡ Source q.source q.group
    → is_some (lookup (is_at at) es) ≡ true → list_any (holds_entry q) es ≡ true
entry-listed [] at q s h = absurd cc
entry-listed (e ∷ es) at q s h = by (is_at at e.0) refl (entry-listed es at q s) h
  where
    here : at ≡ e.0 → holds_entry q e ≡ true
    here k = ap (λ (x : IfaceEntry). joins_itself q x.entry) (sym k) ∙ (ap (joins_itself q) s ∙ same_flow_itself q)

    by : (b : Bool) → is_at at e.0 ≡ b → (is_some (lookup (is_at at) es) ≡ true → list_any (holds_entry q) es ≡ true)
        → is_some (cond b (Some e.1) (lookup (is_at at) es)) ≡ true → (holds_entry q e || list_any (holds_entry q) es) ≡ true
    by true t rest k = or_left _ _ (here (at-equal at e.0 t))
    by false t rest k = or_right _ _ (rest k)

-- What is needed at one interface more is held, where each flow that an entry joins is.
pub iface-needed : (held next : Flow → Option Held) (ifaces : List SiteIface) (own : SiteIface) (es : List (IfaceEntry × Expiry)) (entries : Entries)
    (sent : List Flow) → from_entries es ≡ entries →
    ((q : Flow) → is_needed ifaces entries sent q ≡ true → is_some (held q) ≡ true)
    → ((q : Flow) → next q ≡ held_too (list_any (holds_entry q) es) (held q)) →
    (q : Flow) → is_needed (ifaces ++ own ∷ []) entries sent q ≡ true → is_some (next q) ≡ true
iface-needed held next ifaces own es entries sent e needed more q h = ap is_some (more q) ∙ by (list_any (holds_entry q) es) refl
  where
    entry : JoinEntry
    entry = Source q.source q.group

    made : (o : Option Held) → is_some (held_too true o) ≡ true
    made None = refl
    made (Some x) = refl

    kept : (o : Option Held) → is_some o ≡ true → is_some (held_too false o) ≡ true
    kept None t = absurd cc
    kept (Some x) t = refl

    unlisted : list_any (holds_entry q) es ≡ false → is_some (expiry_at entries own.iface entry) ≡ false
    unlisted n =
        is-false _ (λ t. absurd-both _ (entry-listed es (record { iface = own.iface; entry = entry }) q refl
        (ap is_some (sym (expiry-found es entries (record { iface = own.iface; entry = entry }) e)) ∙ t)) n)

    joined : (list : List SiteIface) → is_some (expiry_at entries own.iface entry) ≡ false
        → is_joined (list ++ own ∷ []) entries q ≡ is_joined list entries q
    joined [] n = or_from _ _ n refl
    joined (first ∷ list) n = ap (λ (b : Bool). is_some (expiry_at entries first.iface entry) || b) (joined list n)

    by : (b : Bool) → list_any (holds_entry q) es ≡ b → is_some (held_too b (held q)) ≡ true
    by true t = made (held q)
    by false n = kept (held q) (needed q (sym (ap (λ (b : Bool). b || is_sent sent q) (joined ifaces (unlisted n))) ∙ h))

-- ---- at the start

pub keeps-of : (entries : Entries) (chosen : Flow → Choice) (held : Flow → Option Held) (sent : List Flow) (ifaces : List SiteIface)
    → ((q : Flow) → held q ≡ None) → sent ≡ [] → ifaces ≡ [] → Keeps held (flow_at ifaces entries sent chosen 0) (is_needed ifaces entries sent)
keeps-of entries chosen held sent ifaces h s f = record {
  fresh = λ q _. ap kept_of (h q) ∙ sym (absent-none ifaces entries sent chosen 0 q (unneeded q));
  needed = λ q t. absurd (absurd-both _ t (unneeded q));
}
  where
    unneeded : (q : Flow) → is_needed ifaces entries sent q ≡ false
    unneeded q = λ i. is_needed (f i) entries (s i) q

-- ---- calls leave what was answered

pub kept-change : (b : Bool) (held next : Option Held) → next ≡ marked b held → kept_of next ≡ kept_of held
kept-change b held next n = ap kept_of n ∙ kept-marked b held

pub kept-grown : (asked b : Bool) (held next : Option Held) → next ≡ held_sent asked b held → kept_of next ≡ kept_of held
kept-grown asked true None next n = ap kept_of n
kept-grown asked false None next n = ap kept_of n
kept-grown asked b (Some x) next n = ap kept_of n
