-- What a call itself changes leaves groups of the family of their source.
use Rattle.std.proofs.Common.{◌≡◌, ◌⊎◌, ℕ, ◌==◌, Bool, true, false, cond, not, inl, inr, Option, None, Some, refl, sym, ap, subst, ◌∙◌}
use Rattle.std.specs.Prelude.{⊤, is_some, fold}
use Rattle.std.specs.Cmp.{Equal-is}
use Rattle.std.specs.FinMap as maps
use Rattle.std.specs.FinMap.{FinMap}
use Rattle.std.specs.FinSet as sets
use Rattle.std.specs.Ordering.{eq_by_cmp}
use Rattle.std.proofs.lemmas.Bool.{and_parts, or_cases}
use Rattle.mv_base.specs.declared.addr.Addr.{Addr}
use Rattle.mv_base.specs.declared.ids.IfaceId.{IfaceId}
use Rattle.bgp_messages.specs.bgp_update.Table.{changes_of}
use Rattle.pim_joinprune.specs.declared.message.JoinPrune.{JoinPrune}
use Rattle.scenario_defs.specs.declared.event.IfaceEntry.{IfaceEntry}
use Rattle.scenario_defs.specs.declared.event.JoinEntry.{JoinEntry}
use Rattle.scenario_defs.specs.declared.event.JoinEntry.TheVariants.{Source}
use Rattle.scenario_defs.specs.declared.event.Kind.TheVariants as kinds
use Rattle.label_defs.specs.Keys.{node_cmp}
use Rattle.pim_defs.specs.Entries.{Entries, entry_cmp, applied, kept_at}
use Rattle.pim_defs.specs.Expiry.{extended, remaining}
use Rattle.pim_defs.specs.Mention.{joins, prunes, mention_of, joined_after}
use Rattle.pim_defs.specs.declared.expiry.Expiry.{Expiry}
use Rattle.pim_defs.proofs.EntriesLemmas.{get-applied, get-kept}
use Rattle.edge_defs.specs.Edge.{Note, note_cmp, pattern_cmp, flow_cmp, Selected, Taken, Control, no_control}
use Rattle.edge_defs.specs.Place.{EdgePlace}
use Rattle.edge_defs.specs.Steps.{Call, Customer, CustomerCall, Update, Label, Pim, Active, Raised, Noticed, Timers, Rerouted, effect, selections_run, peers_run, taken_change}
use Rattle.edge_defs.specs.Steps.{Noting, Noted, Unnoted, Untouched, noting, with_noting, entries_after, after_customer}
use Rattle.edge_defs.proofs.KeyLemmas.{note_total, note_exact}
use Rattle.control_laws.specs.group_laws.Groups.{IsFlow, HaveGroups, IsAllowed}

-- ---- at first

pub first_groups : HaveGroups no_control
first_groups = record {
  entries = λ at source group h e. absurd (let bad : false ≡ true = sym (ap is_some (maps.get-empty entry_cmp at)) ∙ h in cc);
  notes = λ note h. absurd (let bad : false ≡ true = sym (sets.contains-empty note_cmp note) ∙ h in cc);
  flows = λ flow h. absurd (let bad : false ≡ true = sym (ap is_some (maps.get-empty flow_cmp flow)) ∙ h in cc);
}

-- ---- entries

-- What a message leaves of a join was there, or the message joins it.
join_left : (pruned joined : Bool) (new old : Option Expiry) → is_some (cond pruned None (cond joined new old)) ≡ true
    → (is_some old ≡ true) ⊎ (joined ≡ true)
join_left true joined new old h = absurd cc
join_left false true new old h = inr refl
join_left false false new old h = inl h

at_iface : (same : Bool) (new old : Option Expiry) (P : Type 0) → is_some (cond same new old) ≡ true → (is_some new ≡ true → P)
    → (is_some old ≡ true → P) → P
at_iface true new old P h here there = here h
at_iface false new old P h here there = there h

left_there : (now : ℕ) (old : Option Expiry) → is_some (remaining now old) ≡ true → is_some old ≡ true
left_there now None h = h
left_there now (Some expiry) h = refl

module _ (entries : Entries) where
  -- After a message an (S,G) that is there was there, or the message joins it.
  applied_there : (iface own : IfaceId) (message : JoinPrune) (now : ℕ) (source group : Addr) →
      is_some (maps.get (applied entries iface message now) (record { iface = own; entry = Source source group })) ≡ true →
      (is_some (maps.get entries (record { iface = own; entry = Source source group })) ≡ true) ⊎ (joins message (Source source group) ≡ true)
  applied_there iface own message now source group h =
      let entry : JoinEntry = Source source group in
      let at : IfaceEntry = record { iface = own; entry = entry } in
      let old = maps.get entries at in
      let mention = mention_of message entry in
      at_iface (own.0 == iface.0) (joined_after mention now message.holdtime old) old ((is_some old ≡ true) ⊎ (joins message entry ≡ true))
      (sym (ap is_some (get-applied entries iface message now at)) ∙ h)
      (λ new. join_left (prunes message entry) (joins message entry) (extended now message.holdtime old) old new)
      (λ there. inl there)

  kept_there : (now : ℕ) (at : IfaceEntry) → is_some (maps.get (kept_at entries now) at) ≡ true → is_some (maps.get entries at) ≡ true
  kept_there now at h = left_there now (maps.get entries at) (sym (ap is_some (get-kept entries now at)) ∙ h)

-- ---- what a call itself changes

-- a note that a call adds has its source's family
abbrev IsAllowedNote : Noting → Type 0
IsAllowedNote (Noted note) = IsFlow note.source note.group
IsAllowedNote other = ⊤

noting_allowed : (call : CustomerCall) → IsAllowed (Customer call) → IsAllowedNote (noting call)
noting_allowed (Active iface source group) allowed = allowed
noting_allowed other allowed = tt

module _ (control : Control) (have : HaveGroups control) where
  -- Selections and peers have no part in it.
  others : (selections : FinMap pattern_cmp Selected) (peers : FinMap node_cmp Taken)
      → HaveGroups (record control { selections = selections; peers = peers })
  others selections peers = record { entries = have.entries; notes = have.notes; flows = have.flows }

  updated : (found : Option Taken) (peers : Taken → FinMap node_cmp Taken)
      → HaveGroups (elim found [ None ↦ control | Some taken ↦ record control { peers = peers taken } ])
  updated None peers = have
  updated (Some taken) peers = others control.selections (peers taken)

  -- what a message joins has its source's family
  entries_left : (now : ℕ) (call : CustomerCall) → IsAllowed (Customer call) → (at : IfaceEntry) (source group : Addr)
      → is_some (maps.get (entries_after now control.entries call) at) ≡ true → at.entry ≡ Source source group → IsFlow source group
  entries_left now (Pim iface message) has at source group h e =
      let there =
      subst (λ (x : JoinEntry). is_some (maps.get (applied control.entries iface message now) (record { iface = at.iface; entry = x })) ≡ true)
      e h in
      elim (applied_there control.entries iface at.iface message now source group there) [
        | inl old ↦ have.entries (record { iface = at.iface; entry = Source source group }) source group old refl
        | inr new ↦ has source group new
      ]
  entries_left now other has at source group h e = have.entries at source group h e

  notes_left : (by : Noting) → IsAllowedNote by → (note : Note) → sets.contains (with_noting control.notes by) note ≡ true
      → IsFlow note.source note.group
  notes_left (Noted note) is other h =
      elim (or_cases (eq_by_cmp note_cmp other note) (sets.contains control.notes other)
      (sym (sets.contains-insert note_total control.notes note other) ∙ h)) [
        | inl e ↦ subst (λ (n : Note). IsFlow n.source n.group) (sym (note_exact other note ((Equal-is (note_cmp other note)).0 e))) is
        | inr e ↦ have.notes other e
      ]
  notes_left (Unnoted note) is other h =
      have.notes other
      (and_parts (not (eq_by_cmp note_cmp other note)) (sets.contains control.notes other)
      (sym (sets.contains-remove note_total control.notes note other) ∙ h)).1
  notes_left Untouched is other h = have.notes other h

  called : (now : ℕ) (call : CustomerCall) → IsAllowed (Customer call) → HaveGroups (after_customer now control call)
  called now call allowed = record {
    entries = entries_left now call allowed;
    notes = notes_left (noting call) (noting_allowed call allowed);
    flows = have.flows;
  }

  timed_groups : (now : ℕ) (selections : FinMap pattern_cmp Selected) (peers : FinMap node_cmp Taken) →
      HaveGroups (record control { entries = kept_at control.entries now; selections = selections; peers = peers })
  timed_groups now selections peers = record {
    entries = λ at source group h e. have.entries at source group (kept_there control.entries now at h) e;
    notes = have.notes;
    flows = have.flows;
  }

pub effect_groups : (place : EdgePlace) (now : ℕ) (control : Control) (call : Call) → HaveGroups control → IsAllowed call
    → HaveGroups (effect place now control call)
effect_groups place now control (Update peer message) have allowed =
    updated control have (maps.get control.peers peer) (λ taken. maps.insert control.peers peer (fold (taken_change now) taken (changes_of message)))
effect_groups place now control (Label neighbour message) have allowed = have
effect_groups place now control (Customer call) have allowed = called control have now call allowed
effect_groups place now control (Raised kinds.Bgp peer) have allowed =
    others control have control.selections (maps.insert control.peers peer maps.empty)
effect_groups place now control (Raised kinds.Ldp peer) have allowed = have
effect_groups place now control (Noticed kinds.Bgp peer) have allowed = others control have control.selections (maps.remove control.peers peer)
effect_groups place now control (Noticed kinds.Ldp peer) have allowed = have
effect_groups place now control Timers have allowed =
    timed_groups control have now (selections_run place.scenario.delay now control.selections) (peers_run place now control.peers)
effect_groups place now control Rerouted have allowed = have
