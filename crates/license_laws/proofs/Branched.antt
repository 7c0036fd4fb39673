-- In each run the branches of a node to a neighbour are labels that it took from there since the last raise.
use Rattle.std.proofs.Common.{◌≡◌, ◌≢◌, ℕ, Bool, true, false, map, List, [], ◌∷◌, ◌++◌, refl, sym, ap, subst, ◌∙◌}
use Rattle.std.specs.FinSet as sets
use Rattle.mv_base.specs.declared.ids.NodeId.{NodeId}
use Rattle.mv_base.specs.framing.Cut.{Front}
use Rattle.mv_base.specs.framing.Cut.Front.{more, whole, bad}
use Rattle.mv_base.specs.framing.Cut.Yields.{sound as AllWhole}
use Rattle.mv_base.proofs.framing.Feedings.{no_fault}
use Rattle.mv_base.specs.framing.Units.{Spelled, octets_of, messages_of, AreUnits}
use Rattle.mldp.specs.declared.mldp_fec.fec.Fec.{Fec}
use Rattle.mldp.proofs.mldp_msgs.Pdus.{pdu_format}
use Rattle.mldp.specs.mldp_msgs.FirstFault.{PduFault}
use Rattle.mldp.specs.mldp_msgs.Labels.{IsMapped, HasLabel}
use Rattle.mldp.specs.mldp_msgs.Reading.{pdu_front}
use Rattle.mldp.specs.mldp_msgs.Spelling.{SpellsPdu}
use Rattle.mldp.specs.declared.mldp_msgs.fault.LdpFault.{LdpFault}
use Rattle.mldp.specs.declared.mldp_msgs.message.LabelMessage.{LabelMessage}
use Rattle.mldp.specs.declared.mldp_msgs.message.LabelMessage.TheVariants as messages
use Rattle.scenario_defs.specs.declared.event.Kind.{Kind}
use Rattle.scenario_defs.specs.declared.event.Kind.TheVariants as kinds
use Rattle.scenario_defs.specs.declared.report.ReportLine.TheVariants as lines
use Rattle.scenario_defs.specs.declared.scenario.Scenario.{Scenario}
use Rattle.label_defs.specs.declared.branch.Branch.{Branch}
use Rattle.network_defs.specs.session_defs.Message.{SessionMessage, Label, LabelFault, as_front, Spells}
use Rattle.network_defs.specs.Counts.{direction, is_up as is_end}
use Rattle.network_defs.specs.LabelRule.{part_at}
use Rattle.network_defs.specs.Local.{is_up_in, taken_since, MayHop}
use Rattle.network_defs.specs.Nodes.{NodeState}
use Rattle.network_defs.specs.Run.{Traced}
use Rattle.network_defs.specs.World.{World, start}
use Rattle.network_defs.specs.Costs.{Cores}
use Rattle.rule_laws.specs.Labels.{labels_in}
use Rattle.rule_laws.proofs.Acts.{InStep}
use Rattle.rule_laws.proofs.Puts.{labels_both}
use Rattle.rule_laws.proofs.Full.{labels_map}
use Rattle.license_laws.proofs.Also.{KeepsAlso, refused_step}
use Rattle.license_laws.proofs.Branches.{Mapped, mapped_follower}
use Rattle.license_laws.proofs.Heard.{Waits, no_unit}
use Rattle.license_laws.proofs.Hearing.{Heard, single_heard, heard_more, still_effect}
use Rattle.license_laws.proofs.Hears.{Follower}
use Rattle.license_laws.proofs.Raising.{pair_heard}
use Rattle.license_laws.proofs.Taking.{Taking, first_taking}

-- ---- what any follower keeps

module _ (kind : Kind) (P : NodeId → List SessionMessage → NodeState → Type 0) (f : (from to : NodeId) → Follower kind from to (P from)) where
  abbrev pub AllHeard : List Traced → World → Type 0
  AllHeard trace world = (from to : NodeId) → Heard kind from to (P from) (f from to) trace world

  pub all_heard_kept : (scenario : Scenario) → ((world : World) → InStep scenario world → (from to : NodeId) → from ≢ to
      → is_end world kind to from ≡ false → P from [] (world.network.state.node to)) → KeepsAlso scenario Taking AllHeard
  all_heard_kept scenario down = record {
    single = λ before number world one acted s sound fit e t k l from to. single_heard kind from to (P from) (f from to) scenario before number world
        k s (l from to) one acted sound fit e;
    pair = λ before number world session first second declared s off back e g t k l from to.
        pair_heard kind from to (P from) (f from to) scenario before number world session first second k
        (first_taking scenario before number world session first declared s.2.base.sound.same e k) (l from to) e g declared.pair.apart
        (λ ne end. down world s from to ne end) off back;
    accepted =
        λ before world datagram s k l from to. (let h = l from to in
        record {
          up = h.up;
          heard =
              λ u. (let x = h.heard u in record { units = x.units; each = x.each; parts = x.parts; waits = x.waits; holds = x.holds });
          silent =
              h.silent;
        });
    refused = λ before number world line reason k l from to.
        let x = still_effect kind from to (P from) (f from to) world world (lines.Refused line reason ∷ []) refl refl in
        heard_more kind from to (P from) (f from to) before world world (refused_step number line reason) refl refl (λ off. refl) (λ j. j) x.hears
        (λ d p. p) (l from to);
  }

  pub all_heard_start : (scenario : Scenario) (cores : Cores) → AllHeard [] (start scenario cores)
  all_heard_start scenario cores from to = record { up = λ j. absurd cc; heard = λ u. absurd cc; silent = λ d. (f from to).fresh [] scenario }

-- ---- branches

abbrev pub Branched : List Traced → World → Type 0
Branched = AllHeard kinds.Ldp Mapped mapped_follower

no_branch : (scenario : Scenario) (world : World) → InStep scenario world → (from to : NodeId) → from ≢ to → is_end world kinds.Ldp to from ≡ false
    → Mapped from [] (world.network.state.node to)
no_branch scenario world s from to ne off fec label h =
    let up : is_end world kinds.Ldp to from ≡ true = ((s.2.kept []).rule.view to from label (λ e. ne (sym e))).branch fec h in
    let x : true ≡ false = sym up ∙ off in absurd cc

pub branched_kept : (scenario : Scenario) → KeepsAlso scenario Taking Branched
branched_kept scenario = all_heard_kept kinds.Ldp Mapped mapped_follower scenario (no_branch scenario)

-- units of a session over LDP as PDUs
record Pdus (units : List (Spelled SessionMessage)) : Type 0 where
  plain : List (Spelled LabelMessage)
  each : AreUnits SpellsPdu plain
  octets : octets_of units ≡ octets_of plain
  says : labels_in (messages_of units) ≡ messages_of plain

pdus_of : (units : List (Spelled SessionMessage)) → AreUnits (Spells kinds.Ldp) units → Pdus units
pdus_of [] are = record { plain = []; each = tt; octets = refl; says = refl }
pdus_of (unit ∷ units) are =
    let rest = pdus_of units are.1 in
    record {
      plain = record { messages = are.0.0; octets = unit.octets } ∷ rest.plain;
      each = (are.0.2, rest.each);
      octets = ap (λ (xs : List ℕ). unit.octets ++ xs) rest.octets;
      says = labels_both unit.messages (messages_of units) ∙ (λ i. (ap labels_in are.0.1 ∙ labels_map are.0.0) i ++ rest.says i);
    }

-- Whole units that carry what maps a label, and then less than a unit: the octets leave it mapped.
pub has_label : (octets : List ℕ) (units : List (Spelled SessionMessage)) (rest : List ℕ) (fec : Fec) (label : ℕ) → AreUnits (Spells kinds.Ldp) units
    → octets ≡ octets_of units ++ rest → Waits kinds.Ldp rest → IsMapped (labels_in (messages_of units)) fec label → HasLabel octets fec label
has_label octets units rest fec label each parts waits is =
    let p = pdus_of units each in (
      messages_of p.plain,
      AllWhole rest
          (record {
            begins = record { units = p.plain; each = p.each; parts = parts ∙ ap (λ (xs : List ℕ). xs ++ rest) p.octets; carried = refl };
            no_unit = λ ms text after spells. no_unit kinds.Ldp rest waits (map (λ message. Label message) ms) text after (ms, refl, spells);
          })
          (no_fault pdu_front SpellsPdu PduFault 4100 pdu_format rest waits.octets (by (pdu_front rest) refl waits.partial)),
      subst (λ (ms : List LabelMessage). IsMapped ms fec label) p.says is,
    )
  where
    by : (front : Front LabelMessage LdpFault) → pdu_front rest ≡ front → as_front (λ message. Label message) (λ fault. LabelFault fault) front ≡ more
        → pdu_front rest ≡ more
    by more is e = is
    by (whole count ms) is e = absurd cc
    by (bad ms offset fault) is e = absurd cc

none_mapped : (fec : Fec) (label : ℕ) → IsMapped [] fec label → ⊥
none_mapped fec label is = by is.before is.parts
  where
    by : (before : List LabelMessage) → [] ≡ before ++ messages.Mapping fec label ∷ is.after → ⊥
    by [] e = cc
    by (x ∷ xs) e = cc

-- A copy may go on a branch that stands.
pub may_hop : (trace : List Traced) (world : World) → Branched trace world → (u : NodeId) (branch : Branch)
    → sets.contains (part_at world u).branches branch ≡ true → MayHop trace u branch.node branch.label branch.fec
may_hop trace world all u branch h = by (is_up_in kinds.Ldp u branch.node trace) refl
  where
    by : (t : Bool) → is_up_in kinds.Ldp u branch.node trace ≡ t → MayHop trace u branch.node branch.label branch.fec
    by true e =
        let x = (all branch.node u).heard e in
        record {
          up = e;
          mapped =
              has_label (taken_since kinds.Ldp branch.node u trace) x.units (world.network.stream (direction kinds.Ldp branch.node u)).held branch.fec
              branch.label x.each x.parts x.waits (x.holds branch.fec branch.label h);
        }
    by false e = absurd (none_mapped branch.fec branch.label ((all branch.node u).silent e branch.fec branch.label h))
