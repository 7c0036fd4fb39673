-- What is kept event by event says what the events so far mean.
use Rattle.std.proofs.Common.{◌≡◌, ℕ, zero, suc, ◌+◌, ◌<◌, ◌≤◌, ◌==◌, ◌⊎◌, Bool, true, false, cond, not, inl, inr, List, [], ◌∷◌, ◌++◌, map, length, Option, None, Some, slice_get, refl, sym, ap, subst, ◌∙◌, arith}
use Rattle.std.specs.Prelude.{max, nat_le, ◌&&◌, ◌||◌, slice_set, replicate, is_some}
use Rattle.std.specs.List.{list_any, flat_map, fold}
use Rattle.std.proofs.lemmas.Bool.{cases_Bool, or_cases, eqb-true, eq-eqb, true≢false, false_from_ne_true}
use Rattle.std.proofs.lemmas.Bool.Decides.{nat_tests}
use Rattle.std.proofs.lemmas.List.Folds.{list_any-append}
use Rattle.std.proofs.lemmas.List.Sums.{fold-append}
use Rattle.std.proofs.lemmas.Option.{none-some}
use Rattle.audit_defs.specs.mv_base.declared.ids.NodeId.{NodeId}
use Rattle.audit_defs.specs.mv_base.declared.ids.IfaceId.{IfaceId}
use Rattle.audit_defs.specs.mv_base.declared.addr.Addr.{Addr}
use Rattle.audit_defs.specs.mv_base.Address.{same_addr}
use Rattle.audit_defs.specs.scenario_defs.declared.scenario.Scenario.{Scenario}
use Rattle.audit_defs.specs.scenario_defs.declared.event.Event.{Event}
use Rattle.audit_defs.specs.scenario_defs.declared.event.CustomerEvent.TheVariants as customers
use Rattle.audit_defs.specs.scenario_defs.declared.event.Event.TheVariants as events
use Rattle.audit_defs.specs.scenario_defs.declared.event.Timed.{Timed}
use Rattle.audit_defs.specs.scenario_defs.declared.event.JoinEntry.{JoinEntry}
use Rattle.audit_defs.specs.scenario_defs.declared.event.JoinEntry.TheVariants as entries
use Rattle.audit_defs.specs.scenario_defs.declared.event.IfaceEntry.{IfaceEntry}
use Rattle.audit_defs.specs.scenario_defs.Vpn.{edge_of}
use Rattle.audit_defs.specs.scenario_defs.Rules.{IsEventOf}
use Rattle.pim_defs.specs.pim_joinprune.declared.source.JpSource.{JpSource}
use Rattle.pim_defs.specs.pim_joinprune.declared.group.Group.{Group}
use Rattle.pim_defs.specs.pim_joinprune.declared.message.JoinPrune.{JoinPrune}
use Rattle.pim_defs.specs.declared.expiry.Expiry.{Expiry}
use Rattle.pim_defs.specs.declared.expiry.Expiry.TheVariants.{Never}
use Rattle.pim_defs.specs.Expiry.{remaining, extended}
use Rattle.pim_defs.specs.Mention.{same_entry, entry_of, lists, joins, prunes, mention_of, expiry_after}
use Rattle.pim_defs.specs.Entries.{named_in}
use Rattle.pim_defs.proofs.KeyLemmas.{same_entry_equal}
use Rattle.audit_defs.specs.mvpn_model.declared.message.Given.{Given}
use Rattle.audit_defs.specs.mvpn_model.declared.standing.Standing.{Standing}
use Rattle.audit_defs.specs.mvpn_model.Messages.{message_of}
use Rattle.audit_defs.specs.mvpn_model.Past.{Past, is_accepted, ticks_of, is_of_edge, expiry_given, expiry_by, stands_after, standing, is_flow_at, noted_by, noted_after, is_noted}
use Rattle.pim_state.specs.Plan.{is_at, is_entry}
use Rattle.pim_state.proofs.MapLemmas.{at-itself}
use Rattle.audit_events.specs.declared.joined.Held.{Held}
use Rattle.audit_events.specs.Joined.{last_in, stamp_in, restarted, since_entry, set_by, joins_shared, Kept, at_iface, entry_now, note_now, AreEarlier, Follows, IsEmpty, TakesMessage, SetsNote, GoesOn, TakesGiven, Steps}
use Rattle.audit_defs.proofs.Lists.{some_same as same_some}
use Rattle.audit_events.proofs.ExpiryLemmas.{Alike, given_alike, timers_alike, later_alike}

-- ---- what a message names

any_weaker : {X : Type 0} (p q : X → Bool) → ((x : X) → p x ≡ true → q x ≡ true) → (xs : List X) → list_any p xs ≡ true → list_any q xs ≡ true
any_weaker p q h [] e = absurd (true≢false (sym e))
any_weaker p q h (x ∷ xs) e = elim (or_cases (p x) (list_any p xs) e) [
  | inl here ↦ ap (λ b. b || list_any q xs) (h x here)
  | inr there ↦ or_true (q x) (list_any q xs) (any_weaker p q h xs there)
]
  where
    or_true : (a b : Bool) → b ≡ true → (a || b) ≡ true
    or_true true b e = refl
    or_true false b e = e

any_mapped : {X Y : Type 0} (p : Y → Bool) (f : X → Y) (xs : List X) → list_any p (map f xs) ≡ list_any (λ x. p (f x)) xs
any_mapped p f [] = refl
any_mapped p f (x ∷ xs) = ap (λ b. p (f x) || b) (any_mapped p f xs)

any_flat : {X Y : Type 0} (p : Y → Bool) (f : X → List Y) (xs : List X) → list_any p (flat_map f xs) ≡ list_any (λ x. list_any p (f x)) xs
any_flat p f [] = refl
any_flat p f (x ∷ xs) = list_any-append p (f x) (flat_map f xs) ∙ ap (λ b. list_any p (f x) || b) (any_flat p f xs)

named_one : (iface : IfaceId) (group : Addr) (entry : JoinEntry) (source : JpSource) → same_entry (entry_of group source) entry ≡ true →
    is_at (at_iface iface entry) (at_iface iface (entry_of group source)) ≡ true
named_one iface group entry source h =
    subst (λ (x : JoinEntry). is_at (at_iface iface entry) (at_iface iface x) ≡ true) (sym (same_entry_equal (entry_of group source) entry h))
    (at-itself (at_iface iface entry))

-- the test of an entry among those that sources of a group name
abbrev is_named_by : IfaceId → JoinEntry → Group → JpSource → Bool
is_named_by iface entry group source = is_at (at_iface iface entry) (at_iface iface (entry_of group.group source))

named_in_parts : (iface : IfaceId) (message : JoinPrune) (entry : JoinEntry) →
    list_any (is_at (at_iface iface entry)) (named_in iface message)
    ≡ list_any (λ group. list_any (is_named_by iface entry group) (group.joins ++ group.prunes)) message.groups
named_in_parts iface message entry =
    any_flat (is_at (at_iface iface entry)) (λ (group : Group). map (λ source. at_iface iface (entry_of group.group source))
    (group.joins ++ group.prunes)) message.groups
    ∙ same message.groups
  where
    same : (groups : List Group) → list_any (λ (group : Group). list_any (is_at (at_iface iface entry))
        (map (λ source. at_iface iface (entry_of group.group source)) (group.joins ++ group.prunes))) groups
        ≡ list_any (λ (group : Group). list_any (is_named_by iface entry group) (group.joins ++ group.prunes)) groups
    same [] = refl
    same (group ∷ groups) =
        (λ i. any_mapped (is_at (at_iface iface entry)) (λ (source : JpSource). at_iface iface (entry_of group.group source))
        (group.joins ++ group.prunes) i || same groups i)

-- An entry that the message joins, or prunes, is named.
joined_named : (iface : IfaceId) (message : JoinPrune) (entry : JoinEntry) → joins message entry ≡ true
    → list_any (is_at (at_iface iface entry)) (named_in iface message) ≡ true
joined_named iface message entry h =
    named_in_parts iface message entry
    ∙ any_weaker (λ (group : Group). lists group.group group.joins entry)
    (λ (group : Group). list_any (is_named_by iface entry group) (group.joins ++ group.prunes))
    (λ group is. list_any-append (is_named_by iface entry group) group.joins group.prunes
    ∙ ap (λ b. b || list_any (is_named_by iface entry group) group.prunes)
    (any_weaker (λ source. same_entry (entry_of group.group source) entry) (is_named_by iface entry group)
    (λ source one. named_one iface group.group entry source one) group.joins is))
    message.groups h

pruned_named : (iface : IfaceId) (message : JoinPrune) (entry : JoinEntry) → prunes message entry ≡ true
    → list_any (is_at (at_iface iface entry)) (named_in iface message) ≡ true
pruned_named iface message entry h =
    named_in_parts iface message entry
    ∙ any_weaker (λ (group : Group). lists group.group group.prunes entry)
    (λ (group : Group). list_any (is_named_by iface entry group) (group.joins ++ group.prunes))
    (λ group is. list_any-append (is_named_by iface entry group) group.joins group.prunes
    ∙ or_true (list_any (is_named_by iface entry group) group.joins) (list_any (is_named_by iface entry group) group.prunes)
    (any_weaker (λ source. same_entry (entry_of group.group source) entry) (is_named_by iface entry group)
    (λ source one. named_one iface group.group entry source one) group.prunes is))
    message.groups h
  where
    or_true : (a b : Bool) → b ≡ true → (a || b) ≡ true
    or_true true b e = refl
    or_true false b e = e

unnamed_apart : (iface : IfaceId) (message : JoinPrune) (entry : JoinEntry)
    → list_any (is_at (at_iface iface entry)) (named_in iface message) ≡ false →
    (joins message entry ≡ false) × (prunes message entry ≡ false)
unnamed_apart iface message entry h = (
  false_from_ne_true (joins message entry) (λ j. true≢false (sym (joined_named iface message entry j) ∙ h)),
  false_from_ne_true (prunes message entry) (λ p. true≢false (sym (pruned_named iface message entry p) ∙ h)),
)

-- What is named is of the message's interface.
named_there : (iface own : IfaceId) (message : JoinPrune) (entry : JoinEntry) → (own.0 == iface.0) ≡ false
    → list_any (is_at (at_iface own entry)) (named_in iface message) ≡ false
named_there iface own message entry apart = by message.groups
  where
    one : (group : Addr) (sources : List JpSource)
        → list_any (is_at (at_iface own entry)) (map (λ source. at_iface iface (entry_of group source)) sources) ≡ false
    one group [] = refl
    one group (source ∷ sources) = (λ i. (apart i && is_entry entry (entry_of group source)) || one group sources i)

    by : (groups : List Group) → list_any (is_at (at_iface own entry))
        (flat_map (λ (group : Group). map (λ source. at_iface iface (entry_of group.group source)) (group.joins ++ group.prunes)) groups) ≡ false
    by [] = refl
    by (group ∷ groups) =
        list_any-append (is_at (at_iface own entry)) (map (λ source. at_iface iface (entry_of group.group source)) (group.joins ++ group.prunes))
        (flat_map (λ (g : Group). map (λ source. at_iface iface (entry_of g.group source)) (g.joins ++ g.prunes)) groups)
        ∙ (λ i. one group.group (group.joins ++ group.prunes) i || by groups i)

-- ---- what is held, by when it was set

held_on : (held : Held) (since : ℕ) → since ≤ held.set → last_in (Some held) since ≡ held.expiry
held_on held since le = ap (λ b. cond b held.expiry None) (let is : nat_le since held.set ≡ true = grind (arith, nat_tests, le) in is)

held_off : (held : Held) (since : ℕ) → held.set < since → last_in (Some held) since ≡ None
held_off held since less = ap (λ b. cond b held.expiry None) (let is : nat_le since held.set ≡ false = grind (arith, nat_tests, less) in is)

-- What was set before the event of that number is off from there on.
all_off : (o : Option Held) (since : ℕ) → ((held : Held) → o ≡ Some held → held.set < since) → last_in o since ≡ None
all_off None since h = refl
all_off (Some held) since h = held_off held since (h held refl)

-- A later beginning before which nothing new was set changes nothing.
stamp_le : (o : Option ℕ) (now : ℕ) → ((stamp : ℕ) → o ≡ Some stamp → stamp ≤ now) → stamp_in o ≤ now
stamp_le None now h = omega arith
stamp_le (Some stamp) now h = h stamp refl

restarted_le : (scenario : Scenario) (kept : Kept) → AreEarlier kept → (iface : IfaceId) → restarted scenario kept.restarts iface ≤ kept.now
restarted_le scenario kept earlier iface = by (edge_of scenario iface)
  where
    by : (o : Option NodeId) → elim o [ None ↦ 0 | Some edge ↦ stamp_in (slice_get kept.restarts edge.0) ] ≤ kept.now
    by None = omega arith
    by (Some edge) = stamp_le (slice_get kept.restarts edge.0) kept.now (λ stamp e. earlier.restarts edge.0 stamp e)

-- ---- a message

module _ (scenario : Scenario) (iface : IfaceId) (message : JoinPrune) (old new : Kept) (earlier : AreEarlier old)
    (takes : TakesMessage scenario iface message old new) where
  abbrev is_named : IfaceEntry → Bool
  is_named at = list_any (is_at at) (named_in iface message)

  restarts_same : (own : IfaceId) → restarted scenario new.restarts own ≡ restarted scenario old.restarts own
  restarts_same own = ap (λ l. restarted scenario l own) takes.restarts

  shared_le : (own : IfaceId) (group : Addr) → stamp_in (new.shared (at_iface own (entries.Star group))) ≤ old.now
  shared_le own group =
      let at : IfaceEntry = at_iface own (entries.Star group) in
      ap_le (sym (takes.shared at)) (by (is_named at && joins_shared message at))
    where
      ap_le : {a b : Option ℕ} → a ≡ b → stamp_in a ≤ old.now → stamp_in b ≤ old.now
      ap_le {a = a} {b = b} e h = subst (λ (o : Option ℕ). stamp_in o ≤ old.now) e h

      by : (b : Bool) → stamp_in (cond b (Some old.now) (old.shared (at_iface own (entries.Star group)))) ≤ old.now
      by true = omega arith
      by false =
          stamp_le (old.shared (at_iface own (entries.Star group))) old.now
          (λ stamp e. (let less = earlier.shared (at_iface own (entries.Star group)) stamp e in omega (arith, less)))

  since_le : (own : IfaceId) (entry : JoinEntry) → since_entry scenario new.restarts new.shared own entry ≤ old.now
  since_le own (entries.Rpt source group) =
      let a = restarted_le scenario old earlier own in
      let b = restarts_same own in
      let c = shared_le own group in
      omega (arith, a, b, c)
  since_le own (entries.Star group) = (let a = restarted_le scenario old earlier own in let b = restarts_same own in omega (arith, a, b))
  since_le own (entries.Source source group) = (let a = restarted_le scenario old earlier own in let b = restarts_same own in omega (arith, a, b))

  -- an entry that is named
  named_now : (own : IfaceId) (entry : JoinEntry) → is_named (at_iface own entry) ≡ true →
      entry_now scenario new own entry ≡ expiry_after entry (mention_of message entry) old.clock message.holdtime (entry_now scenario old own entry)
  named_now own entry is =
      let at : IfaceEntry = at_iface own entry in
      let held : Held = set_by message old.clock old.now (since_entry scenario old.restarts old.shared own entry) at (old.entry at) in
      let same : new.entry at ≡ Some held = takes.entry at ∙ ap (λ b. cond b (Some held) (old.entry at)) is in
      ap (λ (o : Option Held). last_in o (since_entry scenario new.restarts new.shared own entry)) same
      ∙ held_on held (since_entry scenario new.restarts new.shared own entry) (since_le own entry)

  still : (own : IfaceId) (entry : JoinEntry) → is_named (at_iface own entry) ≡ false
      → new.entry (at_iface own entry) ≡ old.entry (at_iface own entry)
  still own entry isnt =
      takes.entry (at_iface own entry)
      ∙ ap (λ b. cond b (Some (set_by message old.clock old.now (since_entry scenario old.restarts old.shared own entry) (at_iface own entry)
      (old.entry (at_iface own entry)))) (old.entry (at_iface own entry))) isnt

  shared_still : (own : IfaceId) (group : Addr) → (is_named (at_iface own (entries.Star group)) && joins message (entries.Star group)) ≡ false →
      new.shared (at_iface own (entries.Star group)) ≡ old.shared (at_iface own (entries.Star group))
  shared_still own group isnt =
      takes.shared (at_iface own (entries.Star group)) ∙ ap (λ b. cond b (Some old.now) (old.shared (at_iface own (entries.Star group)))) isnt

  -- an entry that is not named, and is no prune that a join (*,G) ends
  same_since : (own : IfaceId) (entry : JoinEntry) → is_named (at_iface own entry) ≡ false
      → since_entry scenario new.restarts new.shared own entry ≡ since_entry scenario old.restarts old.shared own entry →
      entry_now scenario new own entry ≡ entry_now scenario old own entry
  same_since own entry isnt same = (λ i. last_in (still own entry isnt i) (same i))

  rpt_since : (own : IfaceId) (source group : Addr)
      → new.shared (at_iface own (entries.Star group)) ≡ old.shared (at_iface own (entries.Star group)) →
      since_entry scenario new.restarts new.shared own (entries.Rpt source group)
      ≡ since_entry scenario old.restarts old.shared own (entries.Rpt source group)
  rpt_since own source group same = (λ i. max (restarts_same own i) (stamp_in (same i)))

  -- a prune that a join (*,G) ends
  rpt_ended : (own : IfaceId) (source group : Addr) → is_named (at_iface own (entries.Rpt source group)) ≡ false
      → (is_named (at_iface own (entries.Star group)) && joins message (entries.Star group)) ≡ true →
      entry_now scenario new own (entries.Rpt source group) ≡ None
  rpt_ended own source group isnt is =
      let star : IfaceEntry = at_iface own (entries.Star group) in
      let at : IfaceEntry = at_iface own (entries.Rpt source group) in
      let stamped : new.shared star ≡ Some old.now = takes.shared star ∙ ap (λ b. cond b (Some old.now) (old.shared star)) is in
      ap (λ (o : Option Held). last_in o (since_entry scenario new.restarts new.shared own (entries.Rpt source group)))
      (still own (entries.Rpt source group) isnt)
      ∙ all_off (old.entry at) (since_entry scenario new.restarts new.shared own (entries.Rpt source group))
      (λ held e. (let less = earlier.entry at held e in let stamp = ap stamp_in stamped in omega (arith, less, stamp)))

  unnamed_now : (own : IfaceId) (entry : JoinEntry) → own.0 ≡ iface.0 → is_named (at_iface own entry) ≡ false →
      entry_now scenario new own entry ≡ expiry_after entry (mention_of message entry) old.clock message.holdtime (entry_now scenario old own entry)
  unnamed_now own (entries.Star group) at isnt =
      let apart =
      unnamed_apart iface message (entries.Star group)
      (subst (λ (i : IfaceId). list_any (is_at (at_iface i (entries.Star group))) (named_in iface message) ≡ false)
      (ap (λ n. record { 0 = n }) at) isnt) in
      same_since own (entries.Star group) isnt (restarts_same own)
      ∙ sym (λ i. cond (apart.1 i) None (cond (apart.0 i) (extended old.clock message.holdtime (entry_now scenario old own (entries.Star group)))
      (entry_now scenario old own (entries.Star group))))
  unnamed_now own (entries.Source source group) at isnt =
      let apart =
      unnamed_apart iface message (entries.Source source group)
      (subst (λ (i : IfaceId). list_any (is_at (at_iface i (entries.Source source group))) (named_in iface message) ≡ false)
      (ap (λ n. record { 0 = n }) at) isnt) in
      same_since own (entries.Source source group) isnt (restarts_same own)
      ∙ sym (λ i. cond (apart.1 i) None (cond (apart.0 i)
      (extended old.clock message.holdtime (entry_now scenario old own (entries.Source source group)))
      (entry_now scenario old own (entries.Source source group))))
  unnamed_now own (entries.Rpt source group) at isnt =
      let apart =
      unnamed_apart iface message (entries.Rpt source group)
      (subst (λ (i : IfaceId). list_any (is_at (at_iface i (entries.Rpt source group))) (named_in iface message) ≡ false)
      (ap (λ n. record { 0 = n }) at) isnt) in
      by apart (joins message (entries.Star group)) refl
    where
      entry : JoinEntry
      entry = entries.Rpt source group

      before : Option Expiry
      before = entry_now scenario old own entry

      star_named : joins message (entries.Star group) ≡ true → is_named (at_iface own (entries.Star group)) ≡ true
      star_named is =
          subst (λ (i : IfaceId). list_any (is_at (at_iface i (entries.Star group))) (named_in iface message) ≡ true)
          (ap (λ n. record { 0 = n }) (sym at)) (joined_named iface message (entries.Star group) is)

      after_so : (j p s : Bool) → joins message entry ≡ j → prunes message entry ≡ p → joins message (entries.Star group) ≡ s →
          expiry_after entry (mention_of message entry) old.clock message.holdtime before
          ≡ cond p (extended old.clock message.holdtime (cond j None (cond (s && not p) None before))) (cond j None (cond (s && not p) None before))
      after_so j p s ej ep es =
          (λ i. cond (ep i) (extended old.clock message.holdtime (cond (ej i) None (cond (es i && not (ep i)) None before)))
          (cond (ej i) None (cond (es i && not (ep i)) None before)))

      and_false : (a : Bool) → (a && false) ≡ false
      and_false true = refl
      and_false false = refl

      by : (joins message entry ≡ false) × (prunes message entry ≡ false) → (s : Bool) → joins message (entries.Star group) ≡ s →
          entry_now scenario new own entry ≡ expiry_after entry (mention_of message entry) old.clock message.holdtime before
      by apart true is =
          rpt_ended own source group isnt ((λ i. star_named is i && is i))
          ∙ sym (after_so false false true apart.0 apart.1 is)
      by apart false is =
          same_since own entry isnt (rpt_since own source group
          (shared_still own group (ap (λ b. is_named (at_iface own (entries.Star group)) && b) is
          ∙ and_false (is_named (at_iface own (entries.Star group))))))
          ∙ sym (after_so false false false apart.0 apart.1 is)

  is_node_now : (own : IfaceId) (entry : JoinEntry) → (own.0 == iface.0) ≡ false → entry_now scenario new own entry ≡ entry_now scenario old own entry
  is_node_now own (entries.Star group) apart =
      same_since own (entries.Star group) (named_there iface own message (entries.Star group) apart) (restarts_same own)
  is_node_now own (entries.Source source group) apart =
      same_since own (entries.Source source group) (named_there iface own message (entries.Source source group) apart) (restarts_same own)
  is_node_now own (entries.Rpt source group) apart =
      same_since own (entries.Rpt source group) (named_there iface own message (entries.Rpt source group) apart)
      (rpt_since own source group (shared_still own group
      (ap (λ b. b && joins message (entries.Star group)) (named_there iface own message (entries.Star group) apart))))

  -- what the message makes of any entry
  pub message_now : (own : IfaceId) (entry : JoinEntry) →
      entry_now scenario new own entry ≡ expiry_given own entry old.clock (entry_now scenario old own entry)
      (Some (record { iface = iface; message = message }))
  message_now own entry = elim (cases_Bool (own.0 == iface.0)) [
    | inl is ↦ at_own is ∙ sym (ap (λ b. cond b (expiry_after entry (mention_of message entry) old.clock message.holdtime
        (entry_now scenario old own entry)) (entry_now scenario old own entry)) is)
    | inr isnt ↦ is_node_now own entry isnt ∙ sym
        (ap (λ b. cond b (expiry_after entry (mention_of message entry) old.clock message.holdtime (entry_now scenario old own entry))
        (entry_now scenario old own entry)) isnt)
  ]
    where
      at_own : (own.0 == iface.0) ≡ true → entry_now scenario new own entry
          ≡ expiry_after entry (mention_of message entry) old.clock message.holdtime (entry_now scenario old own entry)
      at_own is = elim (cases_Bool (is_named (at_iface own entry))) [
        | inl t ↦ named_now own entry t
        | inr f ↦ unnamed_now own entry (eqb-true own.0 iface.0 is) f
      ]

  pub message_earlier : AreEarlier new
  message_earlier = record {
    entry = λ at held e. entry_set at held (sym (takes.entry at) ∙ e);
    shared = λ at stamp e. shared_set at stamp (sym (takes.shared at) ∙ e);
    note = λ at held e. (let less = earlier.note at held (sym (takes.note at) ∙ e) in let n = takes.now in omega (arith, less, n));
    restarts =
        λ node stamp e. (let le = earlier.restarts node stamp (subst (λ l. slice_get l node ≡ Some stamp) takes.restarts e) in let n = takes.now in
        omega (arith, le, n));
  }
    where
      entry_by : (at : IfaceEntry) (held : Held) (b : Bool) (own : Held) → own.set ≡ old.now → cond b (Some own) (old.entry at) ≡ Some held
          → held.set < new.now
      entry_by at held true own is e = (let same = ap (λ (h : Held). h.set) (same_some own held e) in let n = takes.now in omega (arith, is, same, n))
      entry_by at held false own is e = (let less = earlier.entry at held e in let n = takes.now in omega (arith, less, n))

      entry_set : (at : IfaceEntry) (held : Held) → cond (is_named at)
          (Some (set_by message old.clock old.now (since_entry scenario old.restarts old.shared at.iface at.entry) at (old.entry at))) (old.entry at)
          ≡ Some held → held.set < new.now
      entry_set at held e =
          entry_by at held (is_named at) (set_by message old.clock old.now (since_entry scenario old.restarts old.shared at.iface at.entry) at
          (old.entry at)) refl e

      shared_by : (at : IfaceEntry) (stamp : ℕ) (b : Bool) → cond b (Some old.now) (old.shared at) ≡ Some stamp → stamp < new.now
      shared_by at stamp true e = (let same = same_some old.now stamp e in let n = takes.now in omega (arith, same, n))
      shared_by at stamp false e = (let less = earlier.shared at stamp e in let n = takes.now in omega (arith, less, n))

      shared_set : (at : IfaceEntry) (stamp : ℕ) → cond (is_named at && joins_shared message at) (Some old.now) (old.shared at) ≡ Some stamp
          → stamp < new.now
      shared_set at stamp e = shared_by at stamp (is_named at && joins_shared message at) e

-- ---- one event more

-- what an accepted event changes, as the meaning of the events sees it
record Moves (past : Past) (event : Event) (old new : Kept) : Type 0 where
  clock : new.clock ≡ old.clock + ticks_of event
  joined : (iface : IfaceId) (entry : JoinEntry) →
      Alike new.clock (entry_now past.scenario new iface entry)
      (expiry_by past.scenario iface entry old.clock event (standing past iface entry).expiry)
  noted : (iface : IfaceId) (source group : Addr)
      → note_now past.scenario new iface source group ≡ noted_by past.scenario iface source group event (is_noted past iface source group)
  earlier : AreEarlier new
  nodes : length new.restarts ≡ length past.scenario.nodes

-- the past with one event more
abbrev pub one_more : Past → Timed → Past
one_more past timed = record past { events = past.events ++ timed ∷ [] }

stands_next : (past : Past) (timed : Timed) (iface : IfaceId) (entry : JoinEntry) →
    standing (one_more past timed) iface entry ≡ stands_after past.scenario past.refused iface entry (standing past iface entry) timed
stands_next past timed iface entry =
    fold-append (stands_after past.scenario past.refused iface entry) (record { clock = 0; expiry = None }) past.events (timed ∷ [])

noted_next : (past : Past) (timed : Timed) (iface : IfaceId) (source group : Addr) →
    is_noted (one_more past timed) iface source group
    ≡ noted_after past.scenario past.refused iface source group (is_noted past iface source group) timed
noted_next past timed iface source group = fold-append (noted_after past.scenario past.refused iface source group) false past.events (timed ∷ [])

accepted_standing : (past : Past) (timed : Timed) (iface : IfaceId) (entry : JoinEntry) → is_accepted past.refused timed ≡ true → (old : Standing) →
    stands_after past.scenario past.refused iface entry old timed
    ≡ record { clock = old.clock + ticks_of timed.event; expiry = expiry_by past.scenario iface entry old.clock timed.event old.expiry }
accepted_standing past timed iface entry is old =
    ap (λ (b : Bool). cond b (record {
      clock = old.clock + ticks_of timed.event;
      expiry =
          expiry_by past.scenario iface entry old.clock timed.event old.expiry;
    }) old) is

moved_follows : (past : Past) (timed : Timed) (old new : Kept) → is_accepted past.refused timed ≡ true → Follows past old
    → Moves past timed.event old new → Follows (one_more past timed) new
moved_follows past timed old new is follows moves = record {
  clock = λ iface entry.
      ap (λ (s : Standing). s.clock) (stands_next past timed iface entry ∙ accepted_standing past timed iface entry is (standing past iface entry))
      ∙ (ap (λ n. n + ticks_of timed.event) (follows.clock iface entry) ∙ sym moves.clock);
  joined = λ iface entry.
      moves.joined iface entry
      ∙ ap (remaining new.clock) (ap (λ n. expiry_by past.scenario iface entry n timed.event (standing past iface entry).expiry)
      (sym (follows.clock iface entry))
      ∙ sym (ap (λ (s : Standing). s.expiry) (stands_next past timed iface entry
      ∙ accepted_standing past timed iface entry is (standing past iface entry))));
  noted = λ iface source group.
      moves.noted iface source group
      ∙ sym (noted_next past timed iface source group
      ∙ ap (λ (b : Bool). cond b (noted_by past.scenario iface source group timed.event (is_noted past iface source group))
      (is_noted past iface source group)) is);
  earlier = moves.earlier;
  nodes = moves.nodes;
}

-- A refused event changes nothing.
pub refused_follows : (past : Past) (timed : Timed) (kept : Kept) → is_accepted past.refused timed ≡ false → Follows past kept
    → Follows (one_more past timed) kept
refused_follows past timed kept isnt follows = record {
  clock = λ iface entry. ap (λ (s : Standing). s.clock) (same iface entry) ∙ follows.clock iface entry;
  joined = λ iface entry. follows.joined iface entry ∙ ap (remaining kept.clock) (sym (ap (λ (s : Standing). s.expiry) (same iface entry)));
  noted = λ iface source group.
      follows.noted iface source group
      ∙ sym (noted_next past timed iface source group
      ∙ ap (λ (b : Bool). cond b (noted_by past.scenario iface source group timed.event (is_noted past iface source group))
      (is_noted past iface source group)) isnt);
  earlier = follows.earlier;
  nodes = follows.nodes;
}
  where
    same : (iface : IfaceId) (entry : JoinEntry) → standing (one_more past timed) iface entry ≡ standing past iface entry
    same iface entry =
        stands_next past timed iface entry
        ∙ ap (λ (b : Bool). cond b (record {
          clock = (standing past iface entry).clock + ticks_of timed.event;
          expiry =
              expiry_by past.scenario iface entry (standing past iface entry).clock timed.event (standing past iface entry).expiry;
        })
        (standing past iface entry)) isnt

-- ---- events that take no message

earlier_on : (ticks : ℕ) (restarts : List ℕ) (old new : Kept) → AreEarlier old → GoesOn ticks restarts old new →
    ((node stamp : ℕ) → slice_get restarts node ≡ Some stamp → stamp ≤ old.now + 1) → AreEarlier new
earlier_on ticks restarts old new earlier goes each = record {
  entry = λ at held e. (let less = earlier.entry at held (sym (goes.entry at) ∙ e) in let n = goes.now in omega (arith, less, n));
  shared = λ at stamp e. (let less = earlier.shared at stamp (sym (goes.shared at) ∙ e) in let n = goes.now in omega (arith, less, n));
  note = λ at held e. (let less = earlier.note at held (sym (goes.note at) ∙ e) in let n = goes.now in omega (arith, less, n));
  restarts =
      λ node stamp e. (let le = each node stamp (subst (λ l. slice_get l node ≡ Some stamp) goes.restarts e) in let n = goes.now in
      omega (arith, le, n));
}

same_entries : (scenario : Scenario) (ticks : ℕ) (old new : Kept) → GoesOn ticks old.restarts old new → (iface : IfaceId) (entry : JoinEntry)
    → entry_now scenario new iface entry ≡ entry_now scenario old iface entry
same_entries scenario ticks old new goes iface (entries.Rpt source group) =
    (λ i. last_in (goes.entry (at_iface iface (entries.Rpt source group)) i)
    (max (restarted scenario (goes.restarts i) iface) (stamp_in (goes.shared (at_iface iface (entries.Star group)) i))))
same_entries scenario ticks old new goes iface (entries.Star group) =
    (λ i. last_in (goes.entry (at_iface iface (entries.Star group)) i) (restarted scenario (goes.restarts i) iface))
same_entries scenario ticks old new goes iface (entries.Source source group) =
    (λ i. last_in (goes.entry (at_iface iface (entries.Source source group)) i) (restarted scenario (goes.restarts i) iface))

same_notes : (scenario : Scenario) (ticks : ℕ) (old new : Kept) → GoesOn ticks old.restarts old new → (iface : IfaceId) (source group : Addr)
    → note_now scenario new iface source group ≡ note_now scenario old iface source group
same_notes scenario ticks old new goes iface source group =
    (λ i. is_some (last_in (goes.note (at_iface iface (entries.Source source group)) i) (restarted scenario (goes.restarts i) iface)))

-- an event that changes no note, and makes of each entry what is alike at the clock after it
quiet_moves : (past : Past) (event : Event) (old new : Kept) → Follows past old → GoesOn (ticks_of event) old.restarts old new →
    ((iface : IfaceId) (entry : JoinEntry) (o : Option Expiry) → Alike old.clock o (expiry_by past.scenario iface entry old.clock event o)) →
    ((iface : IfaceId) (source group : Addr) (b : Bool) → noted_by past.scenario iface source group event b ≡ b) → Moves past event old new
quiet_moves past event old new follows goes alike notes = record {
  clock = goes.clock;
  joined = λ iface entry.
      subst (λ n. Alike n (entry_now past.scenario new iface entry)
      (expiry_by past.scenario iface entry old.clock event (standing past iface entry).expiry)) (sym goes.clock)
      (ap (remaining (old.clock + ticks_of event)) (same_entries past.scenario (ticks_of event) old new goes iface entry)
      ∙ later_alike old.clock (ticks_of event) (entry_now past.scenario old iface entry)
      (expiry_by past.scenario iface entry old.clock event (standing past iface entry).expiry)
      (follows.joined iface entry ∙ alike iface entry (standing past iface entry).expiry));
  noted = λ iface source group. same_notes past.scenario (ticks_of event) old new goes iface source group
      ∙ (follows.noted iface source group ∙ sym (notes iface source group (is_noted past iface source group)));
  earlier =
      earlier_on (ticks_of event) old.restarts old new follows.earlier goes
      (λ node stamp e. (let le = follows.earlier.restarts node stamp e in omega (arith, le)));
  nodes = ap length goes.restarts ∙ follows.nodes;
}

-- ---- messages

message_moves : (past : Past) (event : Event) (given : Given) (old new : Kept) → Follows past old
    → TakesMessage past.scenario given.iface given.message old new → ticks_of event ≡ 0 →
    ((iface : IfaceId) (entry : JoinEntry) (o : Option Expiry)
    → expiry_by past.scenario iface entry old.clock event o ≡ expiry_given iface entry old.clock o (Some given)) →
    ((iface : IfaceId) (source group : Addr) (b : Bool) → noted_by past.scenario iface source group event b ≡ b) → Moves past event old new
message_moves past event given old new follows takes ticks gives notes = record {
  clock = takes.clock ∙ (let sum : old.clock ≡ old.clock + ticks_of event = omega (arith, ticks) in sum);
  joined = λ iface entry.
      subst (λ n. Alike n (entry_now past.scenario new iface entry)
      (expiry_by past.scenario iface entry old.clock event (standing past iface entry).expiry)) (sym takes.clock)
      (ap (remaining old.clock) (message_now past.scenario given.iface given.message old new follows.earlier takes iface entry)
      ∙ (alike iface entry (iface.0 == given.iface.0) ∙ ap (remaining old.clock) (sym (gives iface entry (standing past iface entry).expiry))));
  noted = λ iface source group.
      (λ i. is_some (last_in (takes.note (at_iface iface (entries.Source source group)) i) (restarted past.scenario (takes.restarts i) iface)))
      ∙ (follows.noted iface source group ∙ sym (notes iface source group (is_noted past iface source group)));
  earlier = message_earlier past.scenario given.iface given.message old new follows.earlier takes;
  nodes = ap length takes.restarts ∙ follows.nodes;
}
  where
    alike : (iface : IfaceId) (entry : JoinEntry) (b : Bool) →
        Alike old.clock (cond b (expiry_after entry (mention_of given.message entry) old.clock given.message.holdtime
        (entry_now past.scenario old iface entry)) (entry_now past.scenario old iface entry))
        (cond b (expiry_after entry (mention_of given.message entry) old.clock given.message.holdtime (standing past iface entry).expiry)
        (standing past iface entry).expiry)
    alike iface entry true =
        given_alike entry (mention_of given.message entry) old.clock given.message.holdtime (entry_now past.scenario old iface entry)
        (standing past iface entry).expiry (follows.joined iface entry)
    alike iface entry false = follows.joined iface entry

given_moves : (past : Past) (event : Event) (o : Option Given) (old new : Kept) → Follows past old → TakesGiven past.scenario o old new
    → ticks_of event ≡ 0 →
    ((iface : IfaceId) (entry : JoinEntry) (x : Option Expiry)
    → expiry_by past.scenario iface entry old.clock event x ≡ expiry_given iface entry old.clock x o) →
    ((iface : IfaceId) (source group : Addr) (b : Bool) → noted_by past.scenario iface source group event b ≡ b) → Moves past event old new
given_moves past event None old new follows takes ticks gives notes =
    quiet_moves past event old new follows (subst (λ n. GoesOn n old.restarts old new) (sym ticks) takes)
    (λ iface entry o. ap (remaining old.clock) (sym (gives iface entry o))) notes
given_moves past event (Some given) old new follows takes ticks gives notes = message_moves past event given old new follows takes ticks gives notes

-- ---- notes

note_moves : (past : Past) (own : IfaceId) (source group : Addr) (expiry : Option Expiry) (event : Event) (old new : Kept) → Follows past old →
    SetsNote (at_iface own (entries.Source source group)) expiry old new → ticks_of event ≡ 0 →
    ((iface : IfaceId) (entry : JoinEntry) (o : Option Expiry) → expiry_by past.scenario iface entry old.clock event o ≡ o) →
    ((iface : IfaceId) (s g : Addr) (b : Bool) → noted_by past.scenario iface s g event b
    ≡ cond (is_at (at_iface iface (entries.Source s g)) (at_iface own (entries.Source source group))) (is_some expiry) b) →
    Moves past event old new
note_moves past own source group expiry event old new follows sets ticks keeps notes = record {
  clock = sets.clock ∙ (let sum : old.clock ≡ old.clock + ticks_of event = omega (arith, ticks) in sum);
  joined = λ iface entry.
      subst (λ n. Alike n (entry_now past.scenario new iface entry)
      (expiry_by past.scenario iface entry old.clock event (standing past iface entry).expiry)) (sym sets.clock)
      (ap (remaining old.clock) (same iface entry)
      ∙ (follows.joined iface entry ∙ ap (remaining old.clock) (sym (keeps iface entry (standing past iface entry).expiry))));
  noted = λ iface s g. noted iface s g (is_at (at_iface iface (entries.Source s g)) set_at) refl
      ∙ (ap (λ b. cond (is_at (at_iface iface (entries.Source s g)) set_at) (is_some expiry) b) (follows.noted iface s g)
      ∙ sym (notes iface s g (is_noted past iface s g)));
  earlier = record {
    entry = λ at held e. (let less = follows.earlier.entry at held (sym (sets.entry at) ∙ e) in let n = sets.now in omega (arith, less, n));
    shared = λ at stamp e. (let less = follows.earlier.shared at stamp (sym (sets.shared at) ∙ e) in let n = sets.now in omega (arith, less, n));
    note = λ at held e. note_by at held (is_at at set_at) (sym (sets.note at) ∙ e);
    restarts =
        λ node stamp e. (let le = follows.earlier.restarts node stamp (subst (λ l. slice_get l node ≡ Some stamp) sets.restarts e) in let n =
        sets.now in omega (arith, le, n));
  };
  nodes = ap length sets.restarts ∙ follows.nodes;
}
  where
    set_at : IfaceEntry
    set_at = at_iface own (entries.Source source group)

    note_by : (at : IfaceEntry) (held : Held) (b : Bool) → cond b (Some (record { expiry = expiry; set = old.now })) (old.note at) ≡ Some held
        → held.set < new.now
    note_by at held true e =
        (let one = ap (λ (h : Held). h.set) (same_some (record { expiry = expiry; set = old.now }) held e) in let n = sets.now in
        omega (arith, one, n))
    note_by at held false e = (let less = follows.earlier.note at held e in let n = sets.now in omega (arith, less, n))

    same : (iface : IfaceId) (entry : JoinEntry) → entry_now past.scenario new iface entry ≡ entry_now past.scenario old iface entry
    same iface (entries.Rpt s g) =
        (λ i. last_in (sets.entry (at_iface iface (entries.Rpt s g)) i)
        (max (restarted past.scenario (sets.restarts i) iface) (stamp_in (sets.shared (at_iface iface (entries.Star g)) i))))
    same iface (entries.Star g) = (λ i. last_in (sets.entry (at_iface iface (entries.Star g)) i) (restarted past.scenario (sets.restarts i) iface))
    same iface (entries.Source s g) =
        (λ i. last_in (sets.entry (at_iface iface (entries.Source s g)) i) (restarted past.scenario (sets.restarts i) iface))

    noted : (iface : IfaceId) (s g : Addr) (b : Bool) → is_at (at_iface iface (entries.Source s g)) set_at ≡ b →
        note_now past.scenario new iface s g ≡ cond (is_at (at_iface iface (entries.Source s g)) set_at) (is_some expiry)
        (note_now past.scenario old iface s g)
    noted iface s g true is =
        let held : Held = record { expiry = expiry; set = old.now } in
        let at : IfaceEntry = at_iface iface (entries.Source s g) in
        let set : new.note at ≡ Some held = sets.note at ∙ ap (λ b. cond b (Some held) (old.note at)) is in
        (λ i. is_some (last_in (set i) (restarted past.scenario (sets.restarts i) iface)))
        ∙ (ap is_some (held_on held (restarted past.scenario old.restarts iface) (restarted_le past.scenario old follows.earlier iface))
        ∙ sym (ap (λ b. cond b (is_some expiry) (note_now past.scenario old iface s g)) is))
    noted iface s g false isnt =
        let at : IfaceEntry = at_iface iface (entries.Source s g) in
        let set : new.note at ≡ old.note at = sets.note at ∙ ap (λ b. cond b (Some (record { expiry = expiry; set = old.now })) (old.note at)) isnt in
        (λ i. is_some (last_in (set i) (restarted past.scenario (sets.restarts i) iface)))
        ∙ sym (ap (λ b. cond b (is_some expiry) (note_now past.scenario old iface s g)) isnt)

flow_at : (iface own : IfaceId) (s g source group : Addr)
    → is_flow_at iface s g own source group ≡ is_at (at_iface iface (entries.Source s g)) (at_iface own (entries.Source source group))
flow_at iface own s g source group = by (iface.0 == own.0) (same_addr s source) (same_addr g group)
  where
    by : (a b c : Bool) → ((a && b) && c) ≡ (a && (b && c))
    by true b c = refl
    by false b c = refl

-- ---- a restart

set_same : (xs : List ℕ) (k stamp : ℕ) → k < length xs → slice_get (slice_set xs k stamp) k ≡ Some stamp
set_same [] k stamp h = absurd (omega (arith, h))
set_same (x ∷ xs) zero stamp h = refl
set_same (x ∷ xs) (suc k) stamp h = set_same xs k stamp (omega (arith, h))

set_other : (xs : List ℕ) (k j stamp : ℕ) → (j ≡ k → ⊥) → slice_get (slice_set xs k stamp) j ≡ slice_get xs j
set_other [] k j stamp h = refl
set_other (x ∷ xs) zero zero stamp h = absurd (h refl)
set_other (x ∷ xs) zero (suc j) stamp h = refl
set_other (x ∷ xs) (suc k) zero stamp h = refl
set_other (x ∷ xs) (suc k) (suc j) stamp h = set_other xs k j stamp (λ e. h (ap suc e))

set_among : (xs : List ℕ) (k j stamp own : ℕ) → slice_get (slice_set xs k stamp) j ≡ Some own → (own ≡ stamp) ⊎ (slice_get xs j ≡ Some own)
set_among [] k j stamp own e = absurd (none-some own e)
set_among (x ∷ xs) zero zero stamp own e = inl (sym (same_some stamp own e))
set_among (x ∷ xs) zero (suc j) stamp own e = inr e
set_among (x ∷ xs) (suc k) zero stamp own e = inr e
set_among (x ∷ xs) (suc k) (suc j) stamp own e = set_among xs k j stamp own e

length_set : (xs : List ℕ) (k stamp : ℕ) → length (slice_set xs k stamp) ≡ length xs
length_set [] k stamp = refl
length_set (x ∷ xs) zero stamp = refl
length_set (x ∷ xs) (suc k) stamp = ap suc (length_set xs k stamp)

abbrev same_edge : NodeId → Option NodeId → Bool
same_edge node o = elim o [ None ↦ false | Some edge ↦ edge.0 == node.0 ]

abbrev numbers : List ℕ → Option NodeId → ℕ
numbers restarts o = elim o [ None ↦ 0 | Some edge ↦ stamp_in (slice_get restarts edge.0) ]

restart_moves : (past : Past) (node : NodeId) (old new : Kept) → node.0 < length past.scenario.nodes → Follows past old →
    GoesOn 0 (slice_set old.restarts node.0 (old.now + 1)) old new → Moves past (events.Restart node) old new
restart_moves past node old new known follows goes = record {
  clock = goes.clock;
  joined = λ iface entry.
      subst (λ n. Alike n (entry_now past.scenario new iface entry)
      (cond (is_of_edge past.scenario node iface) None (standing past iface entry).expiry))
      (sym (goes.clock ∙ (let sum : old.clock + 0 ≡ old.clock = omega arith in sum)))
      (by iface entry (edge_of past.scenario iface) refl);
  noted = λ iface source group. noted iface source group (edge_of past.scenario iface) refl;
  earlier = earlier_on 0 (slice_set old.restarts node.0 (old.now + 1)) old new follows.earlier goes
      (λ k stamp e. among k stamp (set_among old.restarts node.0 k (old.now + 1) stamp e));
  nodes = ap length goes.restarts ∙ (length_set old.restarts node.0 (old.now + 1) ∙ follows.nodes);
}
  where
    room : node.0 < length old.restarts
    room = (let same = follows.nodes in omega (arith, known, same))

    among : (k stamp : ℕ) → (stamp ≡ old.now + 1) ⊎ (slice_get old.restarts k ≡ Some stamp) → stamp ≤ old.now + 1
    among k stamp (inl same) = omega (arith, same)
    among k stamp (inr e) = (let le = follows.earlier.restarts k stamp e in omega (arith, le))

    restarted_at : (edge : NodeId) (b : Bool) → (edge.0 == node.0) ≡ b
        → stamp_in (slice_get new.restarts edge.0) ≡ cond b (old.now + 1) (stamp_in (slice_get old.restarts edge.0))
    restarted_at edge true e =
        ap (λ l. stamp_in (slice_get l edge.0)) goes.restarts
        ∙ (ap (λ n. stamp_in (slice_get (slice_set old.restarts node.0 (old.now + 1)) n)) (eqb-true edge.0 node.0 e)
        ∙ ap stamp_in (set_same old.restarts node.0 (old.now + 1) room))
    restarted_at edge false e =
        ap (λ l. stamp_in (slice_get l edge.0)) goes.restarts
        ∙ ap stamp_in (set_other old.restarts node.0 edge.0 (old.now + 1) (λ same. true≢false (sym (eq-eqb edge.0 node.0 same) ∙ e)))

    note_kept : (iface : IfaceId) (source group : Addr) → restarted past.scenario new.restarts iface ≡ restarted past.scenario old.restarts iface →
        note_now past.scenario new iface source group ≡ note_now past.scenario old iface source group
    note_kept iface source group same = (λ i. is_some (last_in (goes.note (at_iface iface (entries.Source source group)) i) (same i)))

    note_ended : (iface : IfaceId) (source group : Addr) → old.now + 1 ≤ restarted past.scenario new.restarts iface
        → note_now past.scenario new iface source group ≡ false
    note_ended iface source group le =
        let at : IfaceEntry = at_iface iface (entries.Source source group) in
        ap (λ (o : Option Held). is_some (last_in o (restarted past.scenario new.restarts iface))) (goes.note at)
        ∙ ap is_some (all_off (old.note at) (restarted past.scenario new.restarts iface)
        (λ held e. (let less = follows.earlier.note at held e in omega (arith, less, le))))

    and_yes : (b : Bool) → (b && not false) ≡ b
    and_yes true = refl
    and_yes false = refl

    and_no : (b : Bool) → (b && not true) ≡ false
    and_no true = refl
    and_no false = refl

    -- the interface's edge is the node
    ended : (iface : IfaceId) (entry : JoinEntry) → old.now + 1 ≤ restarted past.scenario new.restarts iface
        → entry_now past.scenario new iface entry ≡ None
    ended iface entry le =
        ap (λ (o : Option Held). last_in o (since_entry past.scenario new.restarts new.shared iface entry)) (goes.entry (at_iface iface entry))
        ∙ all_off (old.entry (at_iface iface entry)) (since_entry past.scenario new.restarts new.shared iface entry)
        (λ held e. (let less = follows.earlier.entry (at_iface iface entry) held e in let since = since_more entry in omega (arith, less, since, le)))
      where
        since_more : (entry : JoinEntry) → restarted past.scenario new.restarts iface ≤ since_entry past.scenario new.restarts new.shared iface entry
        since_more (entries.Star group) = omega arith
        since_more (entries.Source source group) = omega arith
        since_more (entries.Rpt source group) = omega arith

    kept_on : (iface : IfaceId) (entry : JoinEntry) → restarted past.scenario new.restarts iface ≡ restarted past.scenario old.restarts iface
        → entry_now past.scenario new iface entry ≡ entry_now past.scenario old iface entry
    kept_on iface (entries.Rpt source group) same =
        (λ i. last_in (goes.entry (at_iface iface (entries.Rpt source group)) i)
        (max (same i) (stamp_in (goes.shared (at_iface iface (entries.Star group)) i))))
    kept_on iface (entries.Star group) same = (λ i. last_in (goes.entry (at_iface iface (entries.Star group)) i) (same i))
    kept_on iface (entries.Source source group) same = (λ i. last_in (goes.entry (at_iface iface (entries.Source source group)) i) (same i))

    -- the edge of the interface restarts, or keeps its number
    by : (iface : IfaceId) (entry : JoinEntry) (o : Option NodeId) → edge_of past.scenario iface ≡ o →
        Alike old.clock (entry_now past.scenario new iface entry)
        (cond (same_edge node (edge_of past.scenario iface)) None (standing past iface entry).expiry)
    by iface entry None is =
        ap (remaining old.clock) (kept_on iface entry ((λ i. numbers new.restarts (is i)) ∙ sym (λ i. numbers old.restarts (is i)))
        ∙ refl) ∙ (follows.joined iface entry ∙ ap (remaining old.clock)
        (sym (ap (λ b. cond b None (standing past iface entry).expiry) (ap (same_edge node) is))))
    by iface entry (Some edge) is = elim (cases_Bool (edge.0 == node.0)) [
      | inl same ↦
          let at : restarted past.scenario new.restarts iface ≡ old.now + 1 = (λ i. numbers new.restarts (is i)) ∙ restarted_at edge true same in
          ap (remaining old.clock) (ended iface entry (omega (arith, at))
          ∙ sym (ap (λ b. cond b None (standing past iface entry).expiry) (ap (same_edge node) is ∙ same)))
      | inr other ↦
          ap (remaining old.clock) (kept_on iface entry
          ((λ i. numbers new.restarts (is i)) ∙ (restarted_at edge false other ∙ sym (λ i. numbers old.restarts (is i)))))
          ∙ (follows.joined iface entry ∙ ap (remaining old.clock)
          (sym (ap (λ b. cond b None (standing past iface entry).expiry) (ap (same_edge node) is ∙ other))))
    ]

    noted : (iface : IfaceId) (source group : Addr) (o : Option NodeId) → edge_of past.scenario iface ≡ o →
        note_now past.scenario new iface source group ≡ (is_noted past iface source group && not (same_edge node (edge_of past.scenario iface)))
    noted iface source group None is =
        note_kept iface source group ((λ i. numbers new.restarts (is i)) ∙ sym (λ i. numbers old.restarts (is i)))
        ∙ (follows.noted iface source group ∙ (sym (and_yes (is_noted past iface source group))
        ∙ ap (λ b. is_noted past iface source group && not b) (sym (ap (same_edge node) is))))
    noted iface source group (Some edge) is = elim (cases_Bool (edge.0 == node.0)) [
      | inl same ↦
          let at : restarted past.scenario new.restarts iface ≡ old.now + 1 = (λ i. numbers new.restarts (is i)) ∙ restarted_at edge true same in
          note_ended iface source group (omega (arith, at))
          ∙ (sym (and_no (is_noted past iface source group))
          ∙ ap (λ b. is_noted past iface source group && not b) (sym (ap (same_edge node) is ∙ same)))
      | inr other ↦
          note_kept iface source group ((λ i. numbers new.restarts (is i)) ∙ (restarted_at edge false other ∙ sym (λ i. numbers old.restarts (is i))))
          ∙ (follows.noted iface source group ∙ (sym (and_yes (is_noted past iface source group))
          ∙ ap (λ b. is_noted past iface source group && not b) (sym (ap (same_edge node) is ∙ other))))
    ]

-- ---- any accepted event

pub steps_follow : (past : Past) (timed : Timed) (old new : Kept) → IsEventOf past.scenario timed.event → is_accepted past.refused timed ≡ true
    → Follows past old →
    Steps past.scenario timed.event old new → Follows (one_more past timed) new
steps_follow past timed old new known is follows steps = moved_follows past timed old new is follows (by timed.event known steps)
  where
    by : (event : Event) → IsEventOf past.scenario event → Steps past.scenario event old new → Moves past event old new
    by (events.Tick count) known steps =
        quiet_moves past (events.Tick count) old new follows steps (λ iface entry o. refl) (λ iface source group b. refl)
    by (events.Restart node) known steps = restart_moves past node old new known follows steps
    by (events.Customer (customers.Active iface source group)) known steps =
        note_moves past iface source group (Some Never) (events.Customer (customers.Active iface source group)) old new follows steps refl (λ own entry o. refl)
        (λ own s g b. active b (is_flow_at own s g iface source group) ∙ ap (λ f. cond f true b) (flow_at own iface s g source group))
      where
        active : (b is : Bool) → (b || is) ≡ cond is true b
        active true true = refl
        active true false = refl
        active false true = refl
        active false false = refl
    by (events.Customer (customers.Idle iface source group)) known steps =
        note_moves past iface source group None (events.Customer (customers.Idle iface source group)) old new follows steps refl (λ own entry o. refl)
        (λ own s g b. idle b (is_flow_at own s g iface source group) ∙ ap (λ f. cond f false b) (flow_at own iface s g source group))
      where
        idle : (b is : Bool) → (b && not is) ≡ cond is false b
        idle true true = refl
        idle true false = refl
        idle false true = refl
        idle false false = refl
    by (events.Timers node) known steps =
        quiet_moves past (events.Timers node) old new follows steps (λ iface entry o. timed_out iface o) (λ iface source group b. refl)
      where
        timed_out : (iface : IfaceId) (o : Option Expiry) → Alike old.clock o (cond (is_of_edge past.scenario node iface) (remaining old.clock o) o)
        timed_out iface o = either (is_of_edge past.scenario node iface)
          where
            either : (b : Bool) → Alike old.clock o (cond b (remaining old.clock o) o)
            either true = timers_alike old.clock o o refl
            either false = refl
    by events.Settle known steps =
        quiet_moves past events.Settle old new follows steps (λ iface entry o. timers_alike old.clock o o refl) (λ iface source group b. refl)
    by (events.Customer (customers.Join iface entry)) known steps =
        given_moves past (events.Customer (customers.Join iface entry)) (message_of past.scenario (events.Customer (customers.Join iface entry))) old new
        follows steps refl (λ own e o. refl)
        (λ own source group b. refl)
    by (events.Customer (customers.Prune iface entry)) known steps =
        given_moves past (events.Customer (customers.Prune iface entry)) (message_of past.scenario (events.Customer (customers.Prune iface entry))) old
        new follows steps refl (λ own e o. refl)
        (λ own source group b. refl)
    by (events.Customer (customers.Pim iface bytes)) known steps =
        given_moves past (events.Customer (customers.Pim iface bytes)) (message_of past.scenario (events.Customer (customers.Pim iface bytes))) old new
        follows steps refl (λ own e o. refl)
        (λ own source group b. refl)
    by (events.Move kind from to count) known steps =
        quiet_moves past (events.Move kind from to count) old new follows steps (λ iface entry o. refl) (λ iface source group b. refl)
    by (events.Lose kind a b) known steps =
        quiet_moves past (events.Lose kind a b) old new follows steps (λ iface entry o. refl) (λ iface source group x. refl)
    by (events.Notice kind a b) known steps =
        quiet_moves past (events.Notice kind a b) old new follows steps (λ iface entry o. refl) (λ iface source group x. refl)
    by (events.Raise kind a b) known steps =
        quiet_moves past (events.Raise kind a b) old new follows steps (λ iface entry o. refl) (λ iface source group x. refl)
    by (events.Send site source group payload) known steps =
        quiet_moves past (events.Send site source group payload) old new follows steps (λ iface entry o. refl) (λ iface s g x. refl)
    by (events.Packet site bytes) known steps =
        quiet_moves past (events.Packet site bytes) old new follows steps (λ iface entry o. refl) (λ iface s g x. refl)
    by (events.Customer (customers.Select vrf pattern)) known steps =
        quiet_moves past (events.Customer (customers.Select vrf pattern)) old new follows steps (λ iface entry o. refl) (λ iface s g x. refl)
    by (events.Customer (customers.Unselect vrf pattern)) known steps =
        quiet_moves past (events.Customer (customers.Unselect vrf pattern)) old new follows steps (λ iface entry o. refl) (λ iface s g x. refl)
    by (events.Hop from to place) known steps =
        quiet_moves past (events.Hop from to place) old new follows steps (λ iface entry o. refl) (λ iface s g x. refl)
    by (events.DropCopy from to place) known steps =
        quiet_moves past (events.DropCopy from to place) old new follows steps (λ iface entry o. refl) (λ iface s g x. refl)
    by (events.Cost a b cost) known steps =
        quiet_moves past (events.Cost a b cost) old new follows steps (λ iface entry o. refl) (λ iface s g x. refl)
    by events.Heal known steps = quiet_moves past events.Heal old new follows steps (λ iface entry o. refl) (λ iface s g x. refl)
    by events.Drain known steps = quiet_moves past events.Drain old new follows steps (λ iface entry o. refl) (λ iface s g x. refl)
    by events.State known steps = quiet_moves past events.State old new follows steps (λ iface entry o. refl) (λ iface s g x. refl)

-- ---- at first

got_replicate : (count k stamp : ℕ) → slice_get (replicate count 0) k ≡ Some stamp → stamp ≡ 0
got_replicate zero k stamp e = absurd (none-some stamp e)
got_replicate (suc count) zero stamp e = sym (same_some 0 stamp e)
got_replicate (suc count) (suc k) stamp e = got_replicate count k stamp e

length_replicate : (count : ℕ) → length (replicate {A = ℕ} count 0) ≡ count
length_replicate zero = refl
length_replicate (suc count) = ap suc (length_replicate count)

pub empty_follows : (past : Past) (kept : Kept) → past.events ≡ [] → IsEmpty (length past.scenario.nodes) kept → Follows past kept
empty_follows past kept none empty = record {
  clock = λ iface entry. ap (λ (s : Standing). s.clock) (start iface entry) ∙ sym empty.clock;
  joined = λ iface entry.
      ap (λ (o : Option Held). remaining kept.clock (last_in o (since_entry past.scenario kept.restarts kept.shared iface entry)))
      (empty.entry (at_iface iface entry))
      ∙ ap (λ (s : Standing). remaining kept.clock s.expiry) (sym (start iface entry));
  noted = λ iface source group.
      ap (λ (o : Option Held). is_some (last_in o (restarted past.scenario kept.restarts iface)))
      (empty.note (at_iface iface (entries.Source source group)))
      ∙ sym (ap (fold (noted_after past.scenario past.refused iface source group) false) none);
  earlier = record {
    entry = λ at held e. absurd (none-some held (sym (empty.entry at) ∙ e));
    shared = λ at stamp e. absurd (none-some stamp (sym (empty.shared at) ∙ e));
    note = λ at held e. absurd (none-some held (sym (empty.note at) ∙ e));
    restarts =
        λ node stamp e. (let zero_at = got_replicate (length past.scenario.nodes) node stamp
        (subst (λ l. slice_get l node ≡ Some stamp) empty.restarts e) in omega (arith, zero_at));
  };
  nodes = ap length empty.restarts ∙ length_replicate (length past.scenario.nodes);
}
  where
    start : (iface : IfaceId) (entry : JoinEntry) → standing past iface entry ≡ record { clock = 0; expiry = None }
    start iface entry = ap (fold (stands_after past.scenario past.refused iface entry) (record { clock = 0; expiry = None })) none
