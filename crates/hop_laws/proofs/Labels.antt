-- The label of each `hop` line is none of the reserved ones, since the neighbour has mapped it.
use Rattle.std.specs.Prelude.{⊤}
use Rattle.std.proofs.Common.{◌≡◌, ℕ, List, [], ◌∷◌, ◌++◌, refl, sym, subst, ◌∙◌, append_assoc}
use Rattle.std.specs.List.{AllByRecursion}
use Rattle.mv_base.specs.framing.Cut.{Yields, sound, faulty}
use Rattle.mv_base.specs.framing.Parts.{ArePartsAfter}
use Rattle.mv_base.specs.framing.Units.{Begins, Spelled, AreUnits, messages_of}
use Rattle.mldp.specs.declared.mldp_fec.fec.Fec.{Fec}
use Rattle.mldp.specs.declared.mldp_msgs.fault.LdpFault.{LdpFault}
use Rattle.mldp.specs.declared.mldp_msgs.message.LabelMessage.{LabelMessage}
use Rattle.mldp.specs.declared.mldp_msgs.message.LabelMessage.TheVariants as messages
use Rattle.mldp.specs.mldp_msgs.FirstFault.{PduFault, version, pdu_length, in_message}
use Rattle.mldp.specs.mldp_msgs.Labels.{HasLabel}
use Rattle.mldp.specs.mldp_msgs.Spelling.{IsLabel, SpellsTlv, IsNew, Carries, Means, SpellsMessage, SpellsPdu}
use Rattle.scenario_defs.specs.declared.report.ReportLine.{ReportLine}
use Rattle.scenario_defs.specs.declared.report.ReportLine.TheVariants as lines
use Rattle.network_defs.specs.Run.{Traced}
use Rattle.license_laws.specs.Hops.{HopMay, HopsMay}
use Rattle.delivery_laws.proofs.network_laws.Lists.{each_append, each_inner, each_weaker}
use Rattle.delivery_laws.proofs.network_laws.LabelTaken.{contained}

-- ---- messages

-- what a mapping maps is a label
abbrev IsOfLabel : LabelMessage → Type 0
IsOfLabel (messages.Mapping fec label) = IsLabel label
IsOfLabel other = ⊤

abbrev AreOfLabels : List LabelMessage → Type 0
AreOfLabels ms = AllByRecursion IsOfLabel ms

-- parts that lie end to end are spelled
spelled : {M : Type 0} (Spells : M → List ℕ → Type 0) (Fits : List M → M → Type 0) (before : List M) (octets : List ℕ) (ms : List M)
    → ArePartsAfter Spells Fits before octets ms []
    → AllByRecursion (λ m. (text : List ℕ) × Spells m text) ms
spelled Spells Fits before octets [] are = tt
spelled Spells Fits before octets (m ∷ ms) (text, after, spells, new, parts, rest) =
    ((text, spells), spelled Spells Fits (before ++ m ∷ []) after ms rest)

carried : (fec : Fec) (label : ℕ) (body : List ℕ) → Carries fec label body → IsLabel label
carried fec label body c =
    (contained (λ t. (text : List ℕ) × SpellsTlv t text) c.said _ (spelled SpellsTlv IsNew [] body c.said c.are) c.has_label).1.says.1

meant : (message : LabelMessage) (kind : ℕ) (body : List ℕ) → Means message kind body → IsOfLabel message
meant (messages.Mapping fec label) kind body m = carried fec label body m.1
meant (messages.Withdraw fec label) kind body m = tt
meant (messages.Release fec label) kind body m = tt
meant (messages.Ignored own) kind body m = tt

-- ---- units

-- what every unit's messages are, those of units end to end are
module _ (Spells : List LabelMessage → List ℕ → Type 0) (one : (ms : List LabelMessage) (text : List ℕ) → Spells ms text → AreOfLabels ms) where
  units : (all : List (Spelled LabelMessage)) → AreUnits Spells all → AreOfLabels (messages_of all)
  units [] each = tt
  units (unit ∷ more) each = each_append IsOfLabel unit.messages (messages_of more) (one unit.messages unit.octets each.0) (units more each.1)

  begun : (stream : List ℕ) (ms : List LabelMessage) (rest : List ℕ) → Begins Spells stream ms rest → AreOfLabels ms
  begun stream ms rest b = subst AreOfLabels (sym b.carried) (units b.units b.each)

of_message : (ms : List LabelMessage) (text : List ℕ) → SpellsMessage ms text → AreOfLabels ms
of_message ms text s = subst AreOfLabels (sym s.one) (meant s.message s.kind s.body s.means, tt)

of_pdu : (ms : List LabelMessage) (text : List ℕ) → SpellsPdu ms text → AreOfLabels ms
of_pdu ms text s = begun SpellsMessage of_message s.body ms [] s.messages

of_fault : (octets : List ℕ) (ms : List LabelMessage) (offset : ℕ) (e : LdpFault) → PduFault octets ms offset e → AreOfLabels ms
of_fault octets ms offset e (version number len rest a b parts other none at is) = subst AreOfLabels (sym none) tt
of_fault octets ms offset e (pdu_length len rest a parts other none at is) = subst AreOfLabels (sym none) tt
of_fault octets ms offset e (in_message ident body after a b parts left place begins some fault at) =
    begun SpellsMessage of_message body ms left begins

yielded : (octets : List ℕ) (ms : List LabelMessage) → Yields SpellsPdu PduFault octets ms → AreOfLabels ms
yielded octets ms (sound rest splits none) = begun SpellsPdu of_pdu octets ms rest splits.begins
yielded octets ms (faulty place e fails) =
    subst AreOfLabels (sym fails.messages)
    (each_append IsOfLabel fails.first fails.last (begun SpellsPdu of_pdu octets fails.first fails.rest fails.begins)
    (of_fault fails.rest fails.last fails.offset e fails.faulty))

has_label : (octets : List ℕ) (fec : Fec) (label : ℕ) → HasLabel octets fec label → IsLabel label
has_label octets fec label (ms, yields, mapped) =
    each_inner IsOfLabel mapped.before (messages.Mapping fec label) mapped.after (subst AreOfLabels mapped.parts (yielded octets ms yields))

-- ---- lines

abbrev pub IsLabelled : ReportLine → Type 0
IsLabelled (lines.Hop from to label ttl number) = IsLabel label
IsLabelled other = ⊤

may_hop : (before : List Traced) (line : ReportLine) → HopMay before line → IsLabelled line
may_hop before (lines.Hop u n label ttl number) (fec, hop) = has_label _ fec label hop.mapped
may_hop before other h = tt

-- Each `hop` line of a run has a label.
module _ (trace : List Traced) (may : HopsMay trace) where
  from_there : (before after : List Traced) → trace ≡ before ++ after
      → AllByRecursion (λ (step : Traced). AllByRecursion IsLabelled step.happened.lines) after
  from_there before [] e = tt
  from_there before (step ∷ after) e = (
    each_weaker (HopMay before) IsLabelled (may_hop before) step.happened.lines (may before after step e),
    from_there (before ++ step ∷ []) after (e ∙ sym (append_assoc before (step ∷ []) after)),
  )

  pub lines_labelled : AllByRecursion (λ (step : Traced). AllByRecursion IsLabelled step.happened.lines) trace
  lines_labelled = from_there [] trace refl
