-- The tables and the labels of the whole network are in step.
use Rattle.std.specs.Prelude.{count_by}
use Rattle.std.proofs.Common.{◌≡◌, ◌≢◌, ◌+◌, ◌==◌, ◌&&◌, ◌++◌, ℕ, Bool, true, false, cond, inl, inr, map, filter, List, [], ◌∷◌, length, Option, Some, None, refl, sym, ap, subst, ◌∙◌, arith}
use Rattle.std.specs.FinSet as sets
use Rattle.std.specs.Cmp.{both_ways}
use Rattle.std.proofs.lemmas.Bool.{and_parts, eq-eqb}
use Rattle.std.proofs.lemmas.List.{append-nil, append_assoc}
use Rattle.mv_base.specs.declared.ids.NodeId.{NodeId}
use Rattle.mv_base.specs.framing.Units.{Spelled, octets_of, messages_of, AreUnits, NoUnit}
use Rattle.mldp.specs.declared.mldp_fec.fec.Fec.{Fec}
use Rattle.mldp.specs.declared.mldp_msgs.message.LabelMessage.{LabelMessage}
use Rattle.mldp.specs.declared.mldp_msgs.message.LabelMessage.TheVariants as messages
use Rattle.bgp_messages.specs.declared.bgp_attributes.key.Key.{Key}
use Rattle.bgp_messages.specs.declared.bgp_attributes.update.Message.{Message}
use Rattle.bgp_messages.specs.bgp_update.Spelling.{SpellsMessage, header}
use Rattle.scenario_defs.specs.declared.event.Kind.{Kind}
use Rattle.scenario_defs.specs.declared.event.Kind.TheVariants as kinds
use Rattle.scenario_defs.specs.declared.scenario.Scenario.{Scenario}
use Rattle.mv_base.specs.declared.table_defs.change.Change.{Change}
use Rattle.label_defs.specs.LabelData.{same_fec, use_of}
use Rattle.label_defs.specs.Steps.{branch_to}
use Rattle.label_defs.specs.declared.label_use.LabelUse.{LabelUse}
use Rattle.label_defs.specs.declared.label_use.LabelUse.TheVariants as uses
use Rattle.label_defs.proofs.MemberLemmas.{count-cons}
use Rattle.label_defs.proofs.KeyLemmas.{same_fec_equal, same_fec_from, node_equal, node_itself}
use Rattle.label_laws.specs.Rule as rules
use Rattle.label_laws.specs.Rule.{is_of_owner, is_release_of, IsOther, PhaseIs}
use Rattle.network_defs.specs.session_defs.Message.{SessionMessage, Bgp, Label, IsPut}
use Rattle.network_defs.specs.session_defs.Refined.{Carried, IsLine, seen}
use Rattle.network_defs.specs.declared.session_defs.direction.Direction.{Direction}
use Rattle.edge_defs.specs.Keys.{Value}
use Rattle.edge_words.specs.edge_laws.Acts.{message_of}
use Rattle.edge_words.proofs.edge_laws.Tables.{tables_lead, tables_reached}
use Rattle.network_defs.specs.Counts.{direction}
use Rattle.network_defs.specs.LabelRule.{part_at}
use Rattle.network_defs.specs.World.{World}
use Rattle.rule_laws.specs.Edges.{as_message, edge_network}
use Rattle.rule_laws.specs.Labels.{labels_in}
use Rattle.rule_laws.specs.Tables.{RoutesInStep, is_that, branch_after, is_mapped_to, is_withdraw, is_release, LabelsInStep}
use Rattle.rule_laws.proofs.Acts.{InStep}
use Rattle.rule_laws.proofs.Full.{plain_units, no_pdu}

-- ---- octets of BGP

-- units of a BGP session, as units of BGP messages
record PlainBgp (units : List (Spelled SessionMessage)) : Type 0 where
  pub plain : List (Spelled Message)
  pub each : AreUnits SpellsMessage plain
  pub octets : octets_of units ≡ octets_of plain
  pub messages : messages_of units ≡ map (λ m. Bgp m) (messages_of plain)

map_both : (xs ys : List Message) → map (λ m. Bgp m) (xs ++ ys) ≡ map (λ m. Bgp m) xs ++ map (λ m. Bgp m) ys
map_both [] ys = refl
map_both (x ∷ xs) ys = ap (λ (ms : List SessionMessage). Bgp x ∷ ms) (map_both xs ys)

bgp_units : (units : List (Spelled SessionMessage)) → AreUnits (IsPut kinds.Bgp) units → PlainBgp units
bgp_units [] are = record { plain = []; each = tt; octets = refl; messages = refl }
bgp_units (unit ∷ units) are =
    let rest = bgp_units units are.1 in
    let own : List Message = are.0.0.0 in
    record {
      plain = record { messages = own; octets = unit.octets } ∷ rest.plain;
      each = (are.0.0.2, rest.each);
      octets = ap (λ (os : List ℕ). unit.octets ++ os) rest.octets;
      messages = (λ i. are.0.0.1 i ++ rest.messages i) ∙ sym (map_both own (messages_of rest.plain));
    }

no_message : NoUnit SpellsMessage []
no_message ms text after spells e =
    let whole : [] ≡ header (19 + length spells.body) spells.kind ++ (spells.body ++ after) =
    e ∙ ap (λ (os : List ℕ). os ++ after) spells.parts ∙ append_assoc (header (19 + length spells.body) spells.kind) spells.body after in
    let empty : length {A = ℕ} [] ≡ length (header (19 + length spells.body) spells.kind ++ (spells.body ++ after)) =
    ap (λ (os : List ℕ). length os) whole in
    absurd (omega (arith, empty))

bgp_of : SessionMessage → List Message
bgp_of (Bgp message) = message ∷ []
bgp_of (Label message) = []

-- messages that are as many messages of BGP
same_messages : (xs ys : List Message) → map (λ m. Bgp m) xs ≡ map (λ m. Bgp m) ys → xs ≡ ys
same_messages [] [] e = refl
same_messages (x ∷ xs) (y ∷ ys) e = let head : x ≡ y = cc in let tail : map (λ m. Bgp m) xs ≡ map (λ m. Bgp m) ys = cc in
    λ i. head i ∷ same_messages xs ys tail i
same_messages [] (y ∷ ys) e = absurd cc
same_messages (x ∷ xs) [] e = absurd cc

as_messages : (changes : List (Change Key Value)) → map as_message changes ≡ map (λ m. Bgp m) (map message_of changes)
as_messages [] = refl
as_messages (change ∷ more) = ap (λ (ms : List SessionMessage). as_message change ∷ ms) (as_messages more)

there : (scenario : Scenario) (world : World) (s : InStep scenario world) (kind : Kind) (a b : NodeId)
    → world.network.joined (direction kind a b) ≡ true
    → Carried kind (world.network.stream (direction kind a b)) (world.network.transit (direction kind a b)) (s.0 (direction kind a b))
there scenario world s kind a b joined =
    let over : Direction = direction kind a b in
    subst (λ (t : Bool). IsLine kind t (world.network.stream over) (world.network.transit over) (s.0 over)) joined (s.1 over)

pub routes_in_step : (scenario : Scenario) (world : World) → InStep scenario world → (a b : NodeId) → a ≢ b
    → world.network.joined (direction kinds.Bgp a b) ≡ true → RoutesInStep world a b
routes_in_step scenario world s a b ne joined =
    let changes = s.2.edges.0 in
    let c = there scenario world s kinds.Bgp a b joined in
    let p = bgp_units c.units c.each in
    let all : map message_of (changes a b) ≡ messages_of p.plain =
    same_messages (map message_of (changes a b)) (messages_of p.plain)
    (sym (as_messages (changes a b)) ∙ sym (s.2.edges.1 a b) ∙ c.messages ∙ p.messages) in
    record {
      changes = changes a b;
      octets = record {
        begins =
            record { units = p.plain; each = p.each; parts = c.octets ∙ p.octets ∙ sym (append-nil (octets_of p.plain)); carried = all };
        no_unit =
            no_message;
      };
      leads = tables_lead (edge_network (seen world.network s.0) changes) a b s.2.edges.2.rule ne joined;
      reached = tables_reached (edge_network (seen world.network s.0) changes) a b s.2.edges.2.rule ne joined;
    }

-- ---- one label

module _ (fec : Fec) (label : ℕ) where
  not_own : (own : Fec) (number : ℕ) → (number == label) ≡ false → is_that fec label own number ≡ false
  not_own own number e = ap (λ (b : Bool). same_fec own fec && b) e ∙ right (same_fec own fec)
    where
      right : (b : Bool) → (b && false) ≡ false
      right true = refl
      right false = refl

  -- messages of other labels do not matter
  filtered : (before : Bool) (ms : List LabelMessage)
      → branch_after fec label before ms ≡ branch_after fec label before (filter (is_of_owner label) ms)
  filtered before [] = refl
  filtered before (messages.Mapping own number ∷ more) = by (number == label) refl (λ b. filtered b more)
    where
      by : (t : Bool) → (number == label) ≡ t → ((b : Bool)
          → branch_after fec label b more ≡ branch_after fec label b (filter (is_of_owner label) more))
          → branch_after fec label (cond (is_that fec label own number) true before) more
          ≡ branch_after fec label before (cond t (messages.Mapping own number ∷ filter (is_of_owner label) more)
          (filter (is_of_owner label) more))
      by true e rest = rest (cond (is_that fec label own number) true before)
      by false e rest = ap (λ (b : Bool). branch_after fec label (cond b true before) more) (not_own own number e) ∙ rest before
  filtered before (messages.Withdraw own number ∷ more) = by (number == label) refl (λ b. filtered b more)
    where
      by : (t : Bool) → (number == label) ≡ t → ((b : Bool)
          → branch_after fec label b more ≡ branch_after fec label b (filter (is_of_owner label) more))
          → branch_after fec label (cond (is_that fec label own number) false before) more
          ≡ branch_after fec label before (cond t (messages.Withdraw own number ∷ filter (is_of_owner label) more)
          (filter (is_of_owner label) more))
      by true e rest = rest (cond (is_that fec label own number) false before)
      by false e rest = ap (λ (b : Bool). branch_after fec label (cond b false before) more) (not_own own number e) ∙ rest before
  filtered before (messages.Release own number ∷ more) = filtered before more
  filtered before (messages.Ignored kind ∷ more) = filtered before more

  turned : (own : Fec) → same_fec fec own ≡ same_fec own fec
  turned own =
      both_ways (same_fec fec own) (same_fec own fec) (λ h. same_fec_from own fec (sym (same_fec_equal fec own h)))
      (λ h. same_fec_from fec own (sym (same_fec_equal own fec h)))

  mine : (label == label) ≡ true
  mine = eq-eqb label label refl

  that_is : (own : Fec) → is_that fec label own label ≡ same_fec own fec
  that_is own = ap (λ (b : Bool). same_fec own fec && b) mine ∙ right (same_fec own fec)
    where
      right : (b : Bool) → (b && true) ≡ b
      right true = refl
      right false = refl

  mapped_is : (own : Fec) (u : NodeId) → is_mapped_to fec u (Some (uses.Mapped own u)) ≡ same_fec own fec
  mapped_is own u = ap (λ (b : Bool). same_fec own fec && b) (node_itself u u refl) ∙ right (same_fec own fec)
    where
      right : (b : Bool) → (b && true) ≡ b
      right true = refl
      right false = refl

  other_is : (u : NodeId) (usage : Option LabelUse) → IsOther u usage → is_mapped_to fec u usage ≡ false
  other_is u None other = refl
  other_is u (Some uses.Free) other = refl
  other_is u (Some (uses.Leaving own v)) other = refl
  other_is u (Some (uses.Resting until)) other = refl
  other_is u (Some (uses.Mapped own v)) other = by (same_fec own fec && (v.0 == u.0)) refl
    where
      by : (t : Bool) → (same_fec own fec && (v.0 == u.0)) ≡ t → t ≡ false
      by false e = refl
      by true e =
          absurd (other own (inl (ap (λ (m : NodeId). Some (uses.Mapped own m)) (node_equal v u (and_parts (same_fec own fec) (v.0 == u.0) e).1))))

  chosen : (b : Bool) → cond b true false ≡ b
  chosen true = refl
  chosen false = refl

  off : (b : Bool) → cond b false b ≡ false
  off true = refl
  off false = refl

  off_again : (b c : Bool) → b ≡ c → cond b false (cond c true false) ≡ false
  off_again true c e = refl
  off_again false true e = absurd cc
  off_again false false e = refl

  -- what comes of the messages, by the phase
  phase_mapped : (kind : rules.Kind) (u : NodeId) (usage : Option LabelUse) (down up : List LabelMessage) (branches : Fec → Bool)
      → PhaseIs kind u label usage down up branches → branch_after fec label (branches fec) down ≡ is_mapped_to fec u usage
  phase_mapped (rules.Mapping own) u usage down up branches p =
      (λ i. branch_after fec label (p.branch i fec) (p.put i)) ∙ ap (λ (b : Bool). cond b true false) (that_is own) ∙ chosen (same_fec own fec)
      ∙ sym (ap (is_mapped_to fec u) p.used ∙ mapped_is own u)
  phase_mapped (rules.Stands own) u usage down up branches p =
      (λ i. branch_after fec label (p.branch i fec) (p.put i)) ∙ turned own ∙ sym (ap (is_mapped_to fec u) p.used ∙ mapped_is own u)
  phase_mapped (rules.MappingAndWithdraw own) u usage down up branches p =
      (λ i. branch_after fec label (p.branch i fec) (p.put i)) ∙ off_again (is_that fec label own label) (is_that fec label own label) refl
      ∙ sym (ap (is_mapped_to fec u) p.used)
  phase_mapped (rules.Withdraw own) u usage down up branches p =
      (λ i. branch_after fec label (p.branch i fec) (p.put i)) ∙ (λ i. cond (that_is own i) false (turned own i)) ∙ off (same_fec own fec)
      ∙ sym (ap (is_mapped_to fec u) p.used)
  phase_mapped (rules.Release own) u usage down up branches p =
      (λ i. branch_after fec label (p.branch i fec) (p.put i)) ∙ sym (ap (is_mapped_to fec u) p.used)
  phase_mapped rules.Idle u usage down up branches p = (λ i. branch_after fec label (p.1.branch i fec) (p.1.put i)) ∙ sym (other_is u usage p.0)

  -- ---- counts

  count_filtered : (q p : LabelMessage → Bool) → ((m : LabelMessage) → q m ≡ true → p m ≡ true) → (ms : List LabelMessage)
      → count_by q ms ≡ count_by q (filter p ms)
  count_filtered q p h [] = refl
  count_filtered q p h (m ∷ ms) = count-cons q m ms ∙ by (p m) refl (q m) refl (count_filtered q p h ms)
    where
      by : (t : Bool) → p m ≡ t → (s : Bool) → q m ≡ s → count_by q ms ≡ count_by q (filter p ms)
          → cond s 1 0 + count_by q ms ≡ count_by q (cond t (m ∷ filter p ms) (filter p ms))
      by true e s f rest = (λ i. cond (sym f i) 1 0 + rest i) ∙ sym (count-cons q m (filter p ms))
      by false e true f rest = let x : true ≡ false = sym (h m f) ∙ e in absurd cc
      by false e false f rest = omega (arith, rest)

  withdraw_owned : (m : LabelMessage) → is_withdraw fec label m ≡ true → is_of_owner label m ≡ true
  withdraw_owned (messages.Withdraw own number) e = (and_parts (same_fec own fec) (number == label) e).1
  withdraw_owned (messages.Mapping own number) e = absurd cc
  withdraw_owned (messages.Release own number) e = absurd cc
  withdraw_owned (messages.Ignored kind) e = absurd cc

  release_owned : (m : LabelMessage) → is_release fec label m ≡ true → is_release_of label m ≡ true
  release_owned (messages.Release own number) e = (and_parts (same_fec own fec) (number == label) e).1
  release_owned (messages.Mapping own number) e = absurd cc
  release_owned (messages.Withdraw own number) e = absurd cc
  release_owned (messages.Ignored kind) e = absurd cc

  one_count : (q : LabelMessage → Bool) (m : LabelMessage) → q m ≡ true → count_by q (m ∷ []) ≡ 1
  one_count q m e = count-cons q m [] ∙ ap (λ (b : Bool). cond b 1 0 + count_by q []) e

  that_one : (own : Fec) (u : NodeId) → ◌≡◌ {A = Option LabelUse} (Some (uses.Leaving own u)) (Some (uses.Leaving fec u))
      → is_that fec label own label ≡ true
  that_one own u e = let same : own ≡ fec = cc in that_is own ∙ same_fec_from own fec same

  phase_leaving : (kind : rules.Kind) (u : NodeId) (usage : Option LabelUse) (down up : List LabelMessage) (branches : Fec → Bool)
      → PhaseIs kind u label usage down up branches → usage ≡ Some (uses.Leaving fec u)
      → count_by (is_withdraw fec label) down + count_by (is_release fec label) up ≡ 1
  phase_leaving (rules.Mapping own) u usage down up branches p e = let x : Some (uses.Mapped own u) ≡ Some (uses.Leaving fec u) = sym p.used ∙ e in
      absurd cc
  phase_leaving (rules.Stands own) u usage down up branches p e = let x : Some (uses.Mapped own u) ≡ Some (uses.Leaving fec u) = sym p.used ∙ e in
      absurd cc
  phase_leaving (rules.MappingAndWithdraw own) u usage down up branches p e =
      (λ i. count_by (is_withdraw fec label) (p.put i) + count_by (is_release fec label) (p.back i))
      ∙ (λ i. count-cons (is_withdraw fec label) (messages.Mapping own label) (messages.Withdraw own label ∷ []) i + 0)
      ∙ ap (λ (k : ℕ). (0 + k) + 0) (one_count (is_withdraw fec label) (messages.Withdraw own label) (that_one own u (sym p.used ∙ e)))
  phase_leaving (rules.Withdraw own) u usage down up branches p e =
      (λ i. count_by (is_withdraw fec label) (p.put i) + count_by (is_release fec label) (p.back i))
      ∙ ap (λ (k : ℕ). k + 0) (one_count (is_withdraw fec label) (messages.Withdraw own label) (that_one own u (sym p.used ∙ e)))
  phase_leaving (rules.Release own) u usage down up branches p e =
      (λ i. count_by (is_withdraw fec label) (p.put i) + count_by (is_release fec label) (p.back i))
      ∙ ap (λ (k : ℕ). 0 + k) (one_count (is_release fec label) (messages.Release own label) (that_one own u (sym p.used ∙ e)))
  phase_leaving rules.Idle u usage down up branches p e = absurd (p.0 fec (inr e))

-- ---- all labels

pub labels_in_step : (scenario : Scenario) (world : World) → InStep scenario world → (u n : NodeId) → u ≢ n
    → world.network.joined (direction kinds.Ldp u n) ≡ true → LabelsInStep world u n
labels_in_step scenario world s u n ne joined =
    let rule = (s.2.kept []).rule in
    let back : world.network.joined (direction kinds.Ldp n u) ≡ true = sym (rule.session u n ne).alike ∙ joined in
    let c = there scenario world s kinds.Ldp n u back in
    let d = there scenario world s kinds.Ldp u n joined in
    let p = plain_units c.units c.each in
    let q = plain_units d.units d.each in
    let down : labels_in (s.0 (direction kinds.Ldp n u)) ≡ messages_of p.plain = ap labels_in c.messages ∙ p.messages in
    let up : labels_in (s.0 (direction kinds.Ldp u n)) ≡ messages_of q.plain = ap labels_in d.messages ∙ q.messages in
    record {
      to = messages_of p.plain;
      back = messages_of q.plain;
      octets = record {
        begins =
            record { units = p.plain; each = p.each; parts = c.octets ∙ p.octets ∙ sym (append-nil (octets_of p.plain)); carried = refl };
        no_unit =
            no_pdu;
      };
      octets_back =
          record {
            begins =
                record { units = q.plain; each = q.each; parts = d.octets ∙ q.octets ∙ sym (append-nil (octets_of q.plain)); carried = refl };
            no_unit =
                no_pdu;
          };
      mapped = λ fec label.
          let phase = (rule.view u n label ne).phase joined in
          ap (branch_after fec label (sets.contains (part_at world u).branches (branch_to n fec label))) (sym down)
          ∙ filtered fec label (sets.contains (part_at world u).branches (branch_to n fec label)) (labels_in (s.0 (direction kinds.Ldp n u)))
          ∙ phase_mapped fec label phase.kind u (use_of (part_at world n) label)
          (filter (is_of_owner label) (labels_in (s.0 (direction kinds.Ldp n u))))
          (filter (is_release_of label) (labels_in (s.0 (direction kinds.Ldp u n))))
          (λ own. sets.contains (part_at world u).branches (branch_to n own label)) phase.holds;
      leaving = λ fec label e.
          let phase = (rule.view u n label ne).phase joined in
          (λ i. count_by (is_withdraw fec label) (sym down i) + count_by (is_release fec label) (sym up i))
          ∙ (λ i. count_filtered fec label (is_withdraw fec label) (is_of_owner label) (withdraw_owned fec label)
          (labels_in (s.0 (direction kinds.Ldp n u))) i + count_filtered fec label (is_release fec label) (is_release_of label)
          (release_owned fec label) (labels_in (s.0 (direction kinds.Ldp u n))) i)
          ∙ phase_leaving fec label phase.kind u (use_of (part_at world n) label)
          (filter (is_of_owner label) (labels_in (s.0 (direction kinds.Ldp n u))))
          (filter (is_release_of label) (labels_in (s.0 (direction kinds.Ldp u n))))
          (λ own. sets.contains (part_at world u).branches (branch_to n own label)) phase.holds e;
    }
