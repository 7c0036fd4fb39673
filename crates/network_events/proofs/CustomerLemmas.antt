-- Events of customers and of the operator, by the edges at which they call.
use Rattle.std.specs.Prelude.{◌||◌, ◌&&◌, not, nat_le, IfOk, IfSome, if◌then◌else◌}
use Rattle.std.proofs.Common.{◌≡◌, ◌∙◌, ℕ, ◌<◌, inl, inr, refl, sym, ap, subst, Bool, true, false, List, [], ◌∷◌, length, Option, Some, None, Result, Ok, Err}
use Rattle.std.proofs.lemmas.Option.{none-some, same_Some}
use Rattle.std.specs.FinMap as maps
use Rattle.std.specs.FinSet as sets
use Rattle.std.specs.Option.{option_or}
use Rattle.mv_base.specs.Address.{IsAddr, addr_octets, same_addr, same_addr_equiv}
use Rattle.mv_base.specs.Octets.{IsOctets}
use Rattle.mv_base.specs.declared.addr.Addr.{Addr}
use Rattle.mv_base.specs.declared.addr.Addr.TheVariants.{V4}
use Rattle.mv_base.specs.declared.ids.IfaceId.{IfaceId}
use Rattle.mv_base.specs.declared.ids.NodeId.{NodeId}
use Rattle.mv_base.specs.declared.ids.VrfId.{VrfId}
use Rattle.mv_base.specs.declared.memory.NoMemory.{NoMemory}
use Rattle.mv_base.specs.declared.pattern.Pattern.{Pattern}
use Rattle.pim_joinprune.specs.Answers.{IsOnly}
use Rattle.pim_joinprune.specs.Reading.{decoded}
use Rattle.pim_joinprune.specs.Spelling.{IsJoinPrune, Spells}
use Rattle.pim_joinprune.specs.declared.fault.PimFault.{PimFault}
use Rattle.pim_joinprune.specs.declared.message.JoinPrune.{JoinPrune}
use Rattle.pim_defs.proofs.SingleLemmas.{join_spelled, prune_spelled}
use Rattle.pim_defs.specs.Entries.{applied, are_too_many}
use Rattle.pim_defs.specs.Single.{join_of, prune_of}
use Rattle.scenario_defs.proofs.RuleLemmas.{iface_rules_at}
use Rattle.scenario_defs.specs.Rules.{AreOfOneFamily, IsOfIface, Rules, group_of}
use Rattle.scenario_defs.specs.Vpn.{edge_of}
use Rattle.scenario_defs.specs.declared.event.Event.{Event}
use Rattle.scenario_defs.specs.declared.event.CustomerEvent.{CustomerEvent}
use Rattle.scenario_defs.specs.declared.event.CustomerEvent.TheVariants as customers
use Rattle.scenario_defs.specs.declared.event.Event.TheVariants as events
use Rattle.scenario_defs.specs.declared.event.JoinEntry.{JoinEntry}
use Rattle.scenario_defs.specs.declared.report.Refusal.{Refusal}
use Rattle.scenario_defs.specs.declared.report.Refusal.TheVariants as refusals
use Rattle.scenario_defs.specs.declared.report.ReportLine.{ReportLine}
use Rattle.scenario_defs.specs.declared.scenario.Iface.{Iface}
use Rattle.scenario_defs.specs.declared.scenario.Scenario.{Scenario}
use Rattle.edge_defs.specs.Edge.{Control, Note, Selected, VrfPattern, pattern_cmp}
use Rattle.edge_defs.specs.Steps as steps
use Rattle.edge_defs.specs.Steps.{Call}
use Rattle.mldp_node.specs.declared.fault.NodeFault.{NodeFault}
use Rattle.mvpn_model.proofs.VpnLemmas.{element_at}
use Rattle.mvpn_model.specs.Messages.{handed, message_of, own_addr}
use Rattle.mvpn_model.specs.Refused.{fault_word, is_ours}
use Rattle.network_defs.specs.Events.{at_edge, done, called}
use Rattle.network_defs.specs.Nodes.{CoreNode, Edge, NodeState}
use Rattle.network_defs.specs.Refusals.{are_sessions_full, control_at, control_of, edge_of_vrf, is_selected, message_refusal, note_limit, refusal, refused_if, selection_limit, selections_at, message_call}
use Rattle.network_defs.specs.World.{World, clock_of, scenario_of}
use Rattle.network_acts.proofs.network_laws.RunMessages.{IsSoundGiven, join_is_sound, prune_is_sound, read_is_sound}
use Rattle.network_acts.specs.network_laws.Sound.{IsFlow, SoundNode, SoundPattern}
use Rattle.network_acts.proofs.run_laws.SoundEvents.{sound_event}
use Rattle.network_acts.specs.Customers.{CustomerActsAs}
use Rattle.network_acts.specs.Instant.{Instant, IsSome, IsWorld, OfPlane, standing_of}
use Rattle.network_acts.specs.NetworkView.{NetworkView}
use Rattle.network_acts.specs.Words.{FitsAt, IsIfaceEdge, IsVrfEdge, is_full_at}
use Rattle.network_acts.specs.declared.control_plane.customers.Verdict.{Verdict}
use Rattle.network_events.specs.Customers.{AnswersOf, Asks, HandsMessage, HasOctets, IsAtIface, IsForIface, IsMakeable, IsWritten}
use Rattle.network_events.specs.Customers.{edge_at, is_amiss, plain_call, verdict_at}
use Rattle.network_events.specs.Meeting.{IsGiven, IsReady, Meets}
use Rattle.network_events.proofs.CallLemmas.{call_meets}
use Rattle.network_events.proofs.MeetLemmas.{meets_refused}
use Rattle.network_events.proofs.PlaceLemmas.{at_iface, at_vrf, own_rules, some_edge, some_vrf_edge}

-- the sessions of every world that the network is are full, or are not
abbrev pub AreFull : NetworkView → Bool → Type 0
AreFull network full = (at : Instant) → IsWorld at network → are_sessions_full at.world ≡ full

pub are_full : (network : NetworkView) (told full : Bool) → ((at : Instant) → IsWorld at network → told ≡ are_sessions_full at.world) → told ≡ full
    → AreFull network full
are_full network told full is e at own = sym (is at own) ∙ e

-- ---- the edge that was found

pub found_edge : (old : NetworkView) (call : Call) (scenario : Scenario) → scenario ≡ old.scenario → (answered found : Option NodeId)
    → answered ≡ edge_at scenario call → answered ≡ found → edge_at old.scenario call ≡ found
found_edge old call scenario same answered found is e = ap (λ (s : Scenario). edge_at s call) (sym same) ∙ (sym is ∙ e)

pub found_vrf_edge : (old : NetworkView) (vrf : VrfId) (scenario : Scenario) → scenario ≡ old.scenario → (answered found : Option NodeId)
    → answered ≡ edge_of_vrf scenario vrf → answered ≡ found → edge_of_vrf old.scenario vrf ≡ found
found_vrf_edge old vrf scenario same answered found is e = ap (λ (s : Scenario). edge_of_vrf s vrf) (sym same) ∙ (sym is ∙ e)

no_edge : (old : NetworkView) (iface : IfaceId) → IsSome IsReady old → iface.0 < length old.scenario.ifaces → edge_of old.scenario iface ≡ None
    → ⊥
no_edge old iface (at, ready, is) within e = some_edge old.scenario (own_rules at old is.scenario is.plane) iface within e

full_first : (full : Bool) (rest : Bool) → full ≡ true → refused_if (full || rest) refusals.Full ≡ Some refusals.Full
full_first full rest e = rw e refl

free_first : (full : Bool) (rest : Bool) → full ≡ false → refused_if (full || rest) refusals.Full ≡ refused_if rest refusals.Full
free_first full rest e = rw e refl

no_rest : (full : Bool) → refused_if full refusals.Full ≡ refused_if (full || false) refusals.Full
no_rest true = refl
no_rest false = refl

-- ---- what is asked for is made

pub made_fits : (call : Call) (old : NetworkView) → IsMakeable call old → (n : NodeId) → edge_at old.scenario call ≡ Some n → IsSome IsReady old
    → IsSome (OfPlane (FitsAt n call)) old
made_fits call old own n e (at, ready, is) = (at, own.fits n e at ready is, is)

module _ (event : Event) (call : Call) (old : NetworkView) (lines : List ReportLine) (asks : Asks event call old) where
  pub asked_full : AreFull old true → Meets event old old lines lines (Ok (Some refusals.Full))
  asked_full full = at_edge_of (edge_at old.scenario call) refl
    where
      at_edge_of : (found : Option NodeId) → edge_at old.scenario call ≡ found → Meets event old old lines lines (Ok (Some refusals.Full))
      at_edge_of None e = absurd (asks.makeable.there e)
      at_edge_of (Some n) e =
          meets_refused event old lines refusals.Full (λ at ready is.
          (asks.asked n e at ready is).why ∙ full_first (are_sessions_full at.world) (is_full_at n call (standing_of at)) (full at is))

  pub asked_made : (n : NodeId) → edge_at old.scenario call ≡ Some n → AreFull old false
      → (new : NetworkView) (new_lines : List ReportLine) (answer : Result Verdict NodeFault) → CustomerActsAs n call old new lines new_lines answer
      → Meets event old new lines new_lines (verdict_at n answer)
  asked_made n e free new new_lines answer acts =
      call_meets event old lines n call new new_lines answer
      (λ at ready is.
      let asked = asks.asked n e at ready is in
      record {
        fits = asks.makeable.fits n e at ready is;
        does = asked.does;
        why = asked.why ∙ free_first (are_sessions_full at.world) (is_full_at n call (standing_of at)) (free at is);
      })
      acts

-- ---- tests, one after another

ours_first : (ours full rest : Bool) → ours ≡ true
    → (if not ours then Some refusals.Ours else if full then Some refusals.Full else refused_if rest refusals.Full)
    ≡ refused_if (full || rest) refusals.Full
ours_first ours true rest e = rw e refl
ours_first ours false rest e = rw e refl

not_ours : (ours : Bool) (rest : Option Refusal) → ours ≡ false → (if not ours then Some refusals.Ours else rest) ≡ Some refusals.Ours
not_ours ours rest e = rw e refl

-- ---- messages

-- What an event that hands a message is refused for, and does.
record OfMessage (iface : IfaceId) (message : JoinPrune) (world : World) (event : Event) : Type 0 where
  why : refusal world event ≡ message_refusal world (handed iface message)
  does : done world event ≡ called (message_call (handed iface message)) world

of_message : (iface : IfaceId) (message : JoinPrune) (world : World) (event : Event) → HandsMessage (scenario_of world) iface message event
    → OfMessage iface message world event
of_message iface message world (events.Customer (customers.Join i entry)) e =
    record { why = ap (message_refusal world) e; does = ap (λ o. called (message_call o) world) e }
of_message iface message world (events.Customer (customers.Prune i entry)) e =
    record { why = ap (message_refusal world) e; does = ap (λ o. called (message_call o) world) e }
of_message iface message world (events.Customer (customers.Pim i octets)) e = by (decoded octets) refl e
  where
    by : (read : Result JoinPrune (ℕ × PimFault)) → decoded octets ≡ read → elim read [ Ok m ↦ handed i m | Err fault ↦ None ] ≡ handed iface message
        → OfMessage iface message world (events.Customer (customers.Pim i octets))
    by (Ok m) is h = record {
      why =
          ap (λ (r : Result JoinPrune (ℕ × PimFault)). option_or
          (elim r [ Ok own ↦ None | Err fault ↦ Some (refusals.Bytes fault.0 (fault_word fault.1)) ])
          (message_refusal world (message_of (scenario_of world) (events.Customer (customers.Pim i octets))))) is
          ∙ ap (message_refusal world) e;
      does = ap (λ o. called (message_call o) world) e;
    }
    by (Err fault) is h = absurd (none-some (record { iface = iface; message = message }) h)
of_message iface message world other e = absurd (none-some (record { iface = iface; message = message }) e)

module _ (old : NetworkView) (iface : IfaceId) (message : JoinPrune) (own : IsForIface old.scenario iface message) where
  message_fits : (n : NodeId) → edge_of old.scenario iface ≡ Some n → (at : Instant) → IsReady at → IsWorld at old
      → FitsAt n (steps.Customer (steps.Pim iface message)) (standing_of at)
  message_fits n e at ready is = (at_iface at old is.scenario is.plane n iface ready.resting.rest e, own.at.spelled, own.at.sound)

  pub message_makeable : IsSome IsReady old → IsMakeable (steps.Customer (steps.Pim iface message)) old
  message_makeable some = record { there = λ e. no_edge old iface some own.at.within e; fits = message_fits }

  module _ (event : Event) (hands : HandsMessage old.scenario iface message event) where
    is_of : (at : Instant) → IsWorld at old → OfMessage iface message at.world event
    is_of at is = of_message iface message at.world event (subst (λ (s : Scenario). HandsMessage s iface message event) is.scenario hands)

    ours_there : (at : Instant) → IsWorld at old → is_ours (scenario_of at.world) (record { iface = iface; message = message }) ≡ true
    ours_there at is = subst (λ (s : Scenario). is_ours s (record { iface = iface; message = message }) ≡ true) is.scenario own.ours

    abbrev too_many : (at : Instant) → Option NodeId → Bool
    too_many at o = are_too_many (applied (control_at at.world o).entries iface message (clock_of at.world))

    pub message_asks : IsSome IsReady old → Asks event (steps.Customer (steps.Pim iface message)) old
    message_asks some = record {
      makeable = message_makeable some;
      asked = λ n e at ready is.
          let fits = message_fits n e at ready is in
          record {
            does = (is_of at is).does ∙ ap (λ (o : Option NodeId). at_edge o (steps.Pim iface message) at.world) fits.0.edge;
            why =
                (is_of at is).why
                ∙ (ours_first (is_ours (scenario_of at.world) (record { iface = iface; message = message })) (are_sessions_full at.world)
                (too_many at (edge_of (scenario_of at.world) iface)) (ours_there at is)
                ∙ ap (λ (o : Option NodeId). refused_if (are_sessions_full at.world || too_many at o) refusals.Full) fits.0.edge);
          };
    }

-- ---- messages that are made

-- what was written is read again
pub only_read : (read message : JoinPrune) → IsOnly (Ok read) message → read ≡ message
only_read read message (inl e) = cc
only_read read message (inr e) = absurd cc

-- what the rules say of an interface's own address
record OwnAddr (scenario : Scenario) (iface : IfaceId) (group : Addr) : Type 0 where
  is : IsAddr (own_addr scenario iface)
  family : AreOfOneFamily (own_addr scenario iface) group

own_addr_is : (scenario : Scenario) → Rules scenario → (iface : IfaceId) (group : Addr) → iface.0 < length scenario.ifaces
    → IsOfIface scenario iface group → OwnAddr scenario iface group
own_addr_is scenario rules iface group within one =
    let own = element_at scenario.ifaces iface.0 within in
    let same : own_addr scenario iface ≡ own.0.addr =
    ap (λ (o : Option Iface). elim o [ None ↦ V4 (0 ∷ 0 ∷ 0 ∷ 0 ∷ []) | Some found ↦ found.addr ]) own.1 in
    record {
      is = subst IsAddr (sym same) (iface_rules_at scenario rules iface.0 own.0 own.1).addr;
      family = subst (λ (a : Addr). AreOfOneFamily a group) (sym same)
          (subst (λ (o : Option Iface). IfSome o (λ found. AreOfOneFamily found.addr group)) own.1 one);
    }

-- what was written can be read again
pub written_spelled : (written : Result JoinPrune NoMemory) (message : JoinPrune) → IfOk written (λ own. own ≡ message) → IsJoinPrune message
    → IfOk written IsJoinPrune
written_spelled (Ok own) message e spelled = subst IsJoinPrune (sym e) spelled
written_spelled (Err fault) message e spelled = tt

module _ (old : NetworkView) (iface : IfaceId) (entry : JoinEntry) (addr : Addr) (own : addr ≡ own_addr old.scenario iface)
    (written : Result JoinPrune NoMemory)
  where
    pub join_written : IsSome IsReady old → IsGiven old.scenario (events.Customer (customers.Join iface entry))
        → IfOk written (λ message. message ≡ join_of addr entry)
        → IsWritten old.scenario iface written (join_of addr entry) (events.Customer (customers.Join iface entry))
    join_written (at, ready, is) given e =
        let addr_is = own_addr_is old.scenario (own_rules at old is.scenario is.plane) iface (group_of entry) given.of_it.0 given.of_it.2 in
        record {
          is = e;
          own = subst (IsForIface old.scenario iface) (sym (ap (λ (a : Addr). join_of a entry) own)) (record {
            at = record {
              within = given.of_it.0;
              spelled = join_spelled (own_addr old.scenario iface) entry addr_is.is given.of_it.1 addr_is.family;
              sound = join_is_sound old.scenario iface entry given.sound.1;
            };
            ours = same_addr_equiv.refl (own_addr old.scenario iface);
          });
          hands = ap (handed iface) (sym (ap (λ (a : Addr). join_of a entry) own));
        }

    pub prune_written : IsSome IsReady old → IsGiven old.scenario (events.Customer (customers.Prune iface entry))
        → IfOk written (λ message. message ≡ prune_of addr entry)
        → IsWritten old.scenario iface written (prune_of addr entry) (events.Customer (customers.Prune iface entry))
    prune_written (at, ready, is) given e =
        let addr_is = own_addr_is old.scenario (own_rules at old is.scenario is.plane) iface (group_of entry) given.of_it.0 given.of_it.2 in
        record {
          is = e;
          own = subst (IsForIface old.scenario iface) (sym (ap (λ (a : Addr). prune_of a entry) own)) (record {
            at = record {
              within = given.of_it.0;
              spelled = prune_spelled (own_addr old.scenario iface) entry addr_is.is given.of_it.1 addr_is.family;
              sound = prune_is_sound old.scenario iface entry given.sound.1;
            };
            ours = same_addr_equiv.refl (own_addr old.scenario iface);
          });
          hands = ap (handed iface) (sym (ap (λ (a : Addr). prune_of a entry) own));
        }

-- a message that was written for the interface, and read again, is asked for by the event
pub written_asks : (old : NetworkView) (iface : IfaceId) (written : Result JoinPrune NoMemory) (message read : JoinPrune) (event : Event)
    → IsWritten old.scenario iface written message event → read ≡ message → IsSome IsReady old
    → Asks event (steps.Customer (steps.Pim iface read)) old
written_asks old iface written message read event is e some =
    subst (λ (m : JoinPrune). Asks event (steps.Customer (steps.Pim iface m)) old) (sym e) (message_asks old iface message is.own event is.hands some)

-- ---- messages that are read

-- a message that was read is taken, where it is for the interface
module _ (old : NetworkView) (iface : IfaceId) (message : JoinPrune) (own : IsAtIface old.scenario iface message) (lines : List ReportLine) where
  pub read_for : same_addr message.neighbour (own_addr old.scenario iface) ≡ true → IsForIface old.scenario iface message
  read_for same = record { at = own; ours = same }

  pub read_not_ours : same_addr message.neighbour (own_addr old.scenario iface) ≡ false → (event : Event)
      → HandsMessage old.scenario iface message event → Meets event old old lines lines (Ok (Some refusals.Ours))
  read_not_ours other event hands =
      meets_refused event old lines refusals.Ours (λ at ready is.
      (of_message iface message at.world event (subst (λ (s : Scenario). HandsMessage s iface message event) is.scenario hands)).why
      ∙ not_ours (is_ours (scenario_of at.world) (record { iface = iface; message = message })) _
      (subst (λ (s : Scenario). same_addr message.neighbour (own_addr s iface) ≡ false) is.scenario other))

module _ (old : NetworkView) (iface : IfaceId) (octets : List ℕ) (lines : List ReportLine) where
  pub read_given : (message : JoinPrune) → decoded octets ≡ Ok message → HandsMessage old.scenario iface message (events.Customer (customers.Pim iface octets))
  read_given m e = ap (λ (r : Result JoinPrune (ℕ × PimFault)). elim r [ Ok m ↦ handed iface m | Err fault ↦ None ]) e

  pub read_at : (message : JoinPrune) → decoded octets ≡ Ok message → Spells message octets → IsGiven old.scenario
      (events.Customer (customers.Pim iface octets))
      → IsAtIface old.scenario iface message
  read_at message e spelled given = record {
    within = given.of_it.0;
    spelled = spelled.spelled.is;
    sound = subst IsSoundGiven (read_given message e) (read_is_sound iface octets given.sound);
  }

  pub read_fault : (place : ℕ) (fault : PimFault) → decoded octets ≡ Err (place, fault)
      → Meets (events.Customer (customers.Pim iface octets)) old old lines lines (Ok (Some (refusals.Bytes place (fault_word fault))))
  read_fault place fault e =
      meets_refused (events.Customer (customers.Pim iface octets)) old lines (refusals.Bytes place (fault_word fault)) (λ at ready is.
      ap (λ (r : Result JoinPrune (ℕ × PimFault)). option_or (elim r [ Ok own ↦ None | Err f ↦ Some (refusals.Bytes f.0 (fault_word f.1)) ])
      (message_refusal at.world (message_of (scenario_of at.world) (events.Customer (customers.Pim iface octets))))) e)

-- ---- notes

abbrev note_of : IfaceId → Addr → Addr → Note
note_of iface source group = record { iface = iface; source = source; group = group }

iface_fits : (old : NetworkView) (iface : IfaceId) (n : NodeId) → edge_of old.scenario iface ≡ Some n → (at : Instant) → IsReady at
    → IsWorld at old → IsIfaceEdge n iface (standing_of at)
iface_fits old iface n e at ready is = at_iface at old is.scenario is.plane n iface ready.resting.rest e

module _ (old : NetworkView) (iface : IfaceId) (source group : Addr) where
  abbrev lacks_room : Control → Bool
  lacks_room control = not (sets.contains control.notes (note_of iface source group)) && nat_le note_limit (sets.len control.notes)

  pub note_asks : IsSome IsReady old → IsGiven old.scenario (events.Customer (customers.Active iface source group))
      → Asks (events.Customer (customers.Active iface source group)) (steps.Customer (steps.Active iface source group)) old
  note_asks some given = record {
    makeable = record {
      there = λ e. no_edge old iface some given.of_it.0 e;
      fits = λ n e at ready is. (iface_fits old iface n e at ready is, given.sound);
    };
    asked = λ n e at ready is.
        let edge = iface_fits old iface n e at ready is in
        record {
          does = ap (λ (o : Option NodeId). at_edge o (steps.Active iface source group) at.world) edge.edge;
          why = ap (λ (o : Option NodeId). refused_if (are_sessions_full at.world || lacks_room (control_at at.world o)) refusals.Full) edge.edge;
        };
  }

  -- an event that names a flow is one of a sound flow
  pub idle_flow : IsSome IsReady old → IsGiven old.scenario (events.Customer (customers.Idle iface source group)) → IsOctets (addr_octets source)
      → IsOctets (addr_octets group) → IsFlow source group
  idle_flow (at, ready, is) given s g =
      sound_event old.scenario (events.Customer (customers.Active iface source group)) (own_rules at old is.scenario is.plane) given.of_it (s, (g, tt))

  pub idle_asks : IsSome IsReady old → IsGiven old.scenario (events.Customer (customers.Idle iface source group))
      → HasOctets (customers.Idle iface source group)
      → Asks (events.Customer (customers.Idle iface source group)) (steps.Customer (steps.Idle iface source group)) old
  idle_asks some given octets = record {
    makeable = record {
      there = λ e. no_edge old iface some given.of_it.0 e;
      fits = λ n e at ready is. (iface_fits old iface n e at ready is, idle_flow some given octets.0 octets.1);
    };
    asked = λ n e at ready is.
        let edge = iface_fits old iface n e at ready is in
        record {
          does = ap (λ (o : Option NodeId). at_edge o (steps.Idle iface source group) at.world) edge.edge;
          why = no_rest (are_sessions_full at.world);
        };
  }

-- ---- selections

module _ (old : NetworkView) (vrf : VrfId) (pattern : Pattern) where
  abbrev key : VrfPattern
  key = record { vrf = vrf; pattern = pattern }

  abbrev pub IsVrfOf : NodeId → Type 0
  IsVrfOf n = edge_of_vrf old.scenario vrf ≡ Some n

  vrf_fits : (n : NodeId) → IsVrfOf n → (at : Instant) → IsReady at → IsWorld at old → IsVrfEdge n vrf (standing_of at)
  vrf_fits n e at ready is = at_vrf at old is.scenario is.plane n vrf ready.resting.rest e

  pub some_vrf : (n : NodeId) → IsVrfOf n → IsSome IsReady old → IsSome (OfPlane (IsVrfEdge n vrf)) old
  some_vrf n e (at, ready, is) = (at, vrf_fits n e at ready is, is)

  -- whether the pattern is selected at the VRF of every world that the network is
  abbrev pub IsSelected : Bool → Type 0
  IsSelected selected = AnswersOf old (λ world. is_selected world vrf pattern) selected

  -- the same of the edge of the VRF
  abbrev pub IsSelectedAt : NodeId → Bool → Type 0
  IsSelectedAt n selected =
      (at : Instant) → IsVrfEdge n vrf (standing_of at) → IsWorld at old
      → selected ≡ maps.contains_key (control_of (at.world.network.state.node n)).selections key

  abbrev has_key : Instant → Option NodeId → Bool
  has_key at o = maps.contains_key (control_at at.world o).selections key

  pub selected_there : (n : NodeId) → IsVrfOf n → (selected : Bool) → IsSelectedAt n selected → IsSelected selected
  selected_there n e selected h at ready is =
      let fits = vrf_fits n e at ready is in
      h at fits is ∙ sym (ap (has_key at) fits.edge)

  selected_at : (n : NodeId) → IsVrfOf n → (selected : Bool) → IsSelected selected → (at : Instant) → IsReady at → IsWorld at old
      → selected ≡ has_key at (Some n)
  selected_at n e selected h at ready is = h at ready is ∙ ap (has_key at) (vrf_fits n e at ready is).edge

  none_there : (o : Option Selected) → false ≡ elim o [ None ↦ false | Some found ↦ true ] → o ≡ None
  none_there None h = refl
  none_there (Some found) h = absurd cc

  some_there : (o : Option Selected) → true ≡ elim o [ None ↦ false | Some found ↦ true ] → (found : Selected) × (o ≡ Some found)
  some_there None h = absurd cc
  some_there (Some found) h = (found, refl)

  -- a pattern that a node has selected is a sound one
  kept_pattern : (node : NodeState) → SoundNode node → (found : Selected) → maps.get (control_of node).selections key ≡ Some found
      → SoundPattern pattern
  kept_pattern (Edge edge) sound found h = sound.0.selections key found h
  kept_pattern (CoreNode part) sound found h = absurd (none-some found (sym (maps.get-empty pattern_cmp key) ∙ h))

  pub select_again : IsSelected true → (lines : List ReportLine)
      → Meets (events.Customer (customers.Select vrf pattern)) old old lines lines (Ok (Some refusals.State))
  select_again h lines =
      meets_refused (events.Customer (customers.Select vrf pattern)) old lines refusals.State (λ at ready is.
      ap (λ (b : Bool). option_or (refused_if b refusals.State)
      (refused_if (are_sessions_full at.world || nat_le selection_limit (selections_at at.world vrf)) refusals.Full))
      (sym (h at ready is)))

  pub select_asks : IsGiven old.scenario (events.Customer (customers.Select vrf pattern)) → IsSelected false
      → Asks (events.Customer (customers.Select vrf pattern)) (steps.Customer (steps.Select vrf pattern)) old
  select_asks given h = record {
    makeable = record {
      there = some_vrf_edge old.scenario vrf given.of_it.0;
      fits = λ n e at ready is. (
        vrf_fits n e at ready is,
        given.sound,
        none_there (maps.get (control_of (at.world.network.state.node n)).selections key) (selected_at n e false h at ready is),
      );
    };
    asked = λ n e at ready is.
        let edge = vrf_fits n e at ready is in
        record {
          does = ap (λ (o : Option NodeId). at_edge o (steps.Select vrf pattern) at.world) edge.edge;
          why =
              ap (λ (b : Bool). option_or (refused_if b refusals.State)
              (refused_if (are_sessions_full at.world || nat_le selection_limit (selections_at at.world vrf)) refusals.Full))
              (sym (h at ready is))
              ∙ ap (λ (o : Option NodeId). refused_if (are_sessions_full at.world || nat_le selection_limit (maps.len (control_at at.world o).selections))
              refusals.Full) edge.edge;
        };
  }

  abbrev unselected_why : (at : Instant) → Bool → Option Refusal
  unselected_why at b = option_or (refused_if (not b) refusals.State) (refused_if (are_sessions_full at.world) refusals.Full)

  pub unselect_none : IsSelected false → (lines : List ReportLine)
      → Meets (events.Customer (customers.Unselect vrf pattern)) old old lines lines (Ok (Some refusals.State))
  unselect_none h lines =
      meets_refused (events.Customer (customers.Unselect vrf pattern)) old lines refusals.State
      (λ at ready is. ap (unselected_why at) (sym (h at ready is)))

  pub unselect_asks : IsGiven old.scenario (events.Customer (customers.Unselect vrf pattern)) → IsSelected true
      → Asks (events.Customer (customers.Unselect vrf pattern)) (steps.Customer (steps.Unselect vrf pattern)) old
  unselect_asks given h = record {
    makeable = record {
      there = some_vrf_edge old.scenario vrf given.of_it.0;
      fits = λ n e at ready is.
          let node = at.world.network.state.node n in
          let some = some_there (maps.get (control_of node).selections key) (selected_at n e true h at ready is) in
          (vrf_fits n e at ready is, kept_pattern node (is.plane.around.steady.sound.node n) some.0 some.1);
    };
    asked = λ n e at ready is.
        let edge = vrf_fits n e at ready is in
        record {
          does = ap (λ (o : Option NodeId). at_edge o (steps.Unselect vrf pattern) at.world) edge.edge;
          why = ap (unselected_why at) (sym (h at ready is)) ∙ no_rest (are_sessions_full at.world);
        };
  }

-- ---- events that hand no message

-- an event that is amiss is refused for the state
pub amiss_met : (event : CustomerEvent) (old : NetworkView) (lines : List ReportLine) → AnswersOf old (λ world. is_amiss world event) true
    → Meets (events.Customer event) old old lines lines (Ok (Some refusals.State))
amiss_met (customers.Select vrf pattern) old lines h = select_again old vrf pattern h lines
amiss_met (customers.Unselect vrf pattern) old lines h = unselect_none old vrf pattern (λ at ready is. turned _ (h at ready is)) lines
  where
    turned : (b : Bool) → true ≡ not b → false ≡ b
    turned true e = absurd cc
    turned false e = refl
amiss_met other old lines h = meets_refused (events.Customer other) old lines refusals.State (λ at ready is. absurd (true_not (h at ready is)))
  where
    true_not : true ≡ false → ⊥
    true_not e = cc

-- another one asks for what it calls for
pub plain_asks : (event : CustomerEvent) (call : Call) (old : NetworkView) → Some call ≡ plain_call event → HasOctets event → IsSome IsReady old
    → IsGiven old.scenario (events.Customer event) → AnswersOf old (λ world. is_amiss world event) false → Asks (events.Customer event) call old
plain_asks (customers.Active iface source group) call old e octets some given h =
    subst (λ (c : Call). Asks (events.Customer (customers.Active iface source group)) c old) (sym (same_Some call _ e))
    (note_asks old iface source group some given)
plain_asks (customers.Idle iface source group) call old e octets some given h =
    subst (λ (c : Call). Asks (events.Customer (customers.Idle iface source group)) c old) (sym (same_Some call _ e))
    (idle_asks old iface source group some given octets)
plain_asks (customers.Select vrf pattern) call old e octets some given h =
    subst (λ (c : Call). Asks (events.Customer (customers.Select vrf pattern)) c old) (sym (same_Some call _ e)) (select_asks old vrf pattern given h)
plain_asks (customers.Unselect vrf pattern) call old e octets some given h =
    subst (λ (c : Call). Asks (events.Customer (customers.Unselect vrf pattern)) c old) (sym (same_Some call _ e))
    (unselect_asks old vrf pattern given (λ at ready is. turned _ (h at ready is)))
  where
    turned : (b : Bool) → false ≡ not b → true ≡ b
    turned true e = refl
    turned false e = absurd cc
plain_asks other call old e octets some given h = absurd (none-some call (sym e))
