-- The branches lead along links, and sessions are those of links, whatever happens to octets.
use Rattle.std.specs.Prelude.{⊤, if◌then◌else◌}
use Rattle.std.proofs.Common.{◌≡◌, ℕ, zero, suc, ◌+◌, ◌-◌, Bool, true, false, not, ◌&&◌, ◌++◌, map, take, drop, List, [], ◌∷◌, Option, Some, None, inl, inr, refl}
use Rattle.std.specs.List.{AllByRecursion}
use Rattle.std.proofs.lemmas.Bool.{cond_both, or_cases, and_parts}
use Rattle.mv_base.specs.declared.ids.NodeId.{NodeId}
use Rattle.mv_base.specs.framing.Cut.{Front, Cut, cut, cut_at}
use Rattle.mv_base.specs.framing.Cut.Front.{more, whole, bad}
use Rattle.mv_base.specs.framing.Feed.{fed, fed_unless, unfed}
use Rattle.scenario_defs.specs.declared.event.Kind.{Kind}
use Rattle.scenario_defs.specs.declared.event.Kind.TheVariants as kinds
use Rattle.scenario_defs.specs.declared.scenario.Scenario.{Scenario}
use Rattle.edge_defs.specs.bgp_messages.declared.bgp_attributes.update.Message.{Message}
use Rattle.edge_defs.specs.bgp_messages.declared.bgp_attributes.fault.StreamFault.{StreamFault}
use Rattle.edge_defs.specs.bgp_messages.bgp_update.Reading.{message_front}
use Rattle.mldp.specs.declared.mldp_msgs.message.LabelMessage.{LabelMessage}
use Rattle.mldp.specs.declared.mldp_msgs.fault.LdpFault.{LdpFault}
use Rattle.mldp.specs.mldp_msgs.Reading.{pdu_front}
use Rattle.network_defs.specs.session_defs.Message.{SessionMessage, Bgp, Label, SessionFault, BgpFault, LabelFault, as_front, front_of, same_direction}
use Rattle.network_defs.specs.session_defs.Octets.{Stream, OctetNetwork, OctetAct, with_step, all_taken, moved, octet_act, octet_run}
use Rattle.network_defs.specs.session_defs.Octets as octets
use Rattle.network_defs.specs.session_defs.System.{Stepped}
use Rattle.network_defs.specs.declared.session_defs.direction.Direction.{Direction}
use Rattle.edge_defs.specs.Steps as steps
use Rattle.network_defs.specs.Nodes.{Nodes, following}
use Rattle.network_defs.specs.System.{NodeCall, Own, Elapse, Reset, Price, Follow, system, node_called, call_of}
use Rattle.delivery_laws.specs.Linked.{NodesLinked, LinkIf, IsOf, NetworkLinked}
use Rattle.delivery_laws.proofs.LinkedParts.{follow_linked, MayCall, called_linked, reset_linked}
use Rattle.network_laws.proofs.Lists.{each_append}
use Rattle.network_laws.proofs.ready_laws.Octets.{leads_then, Leads}
use Rattle.network_laws.proofs.ready_laws.Ends.{Holds}

-- ---- what waits

abbrev OfFront : Kind → Front SessionMessage SessionFault → Type 0
OfFront kind more = ⊤
OfFront kind (whole count messages) = AllByRecursion (IsOf kind) messages
OfFront kind (bad messages offset reason) = AllByRecursion (IsOf kind) messages

bgp_of : (list : List Message) → AllByRecursion (IsOf kinds.Bgp) (map (λ message. Bgp message) list)
bgp_of [] = tt
bgp_of (message ∷ rest) = (tt, bgp_of rest)

label_of : (list : List LabelMessage) → AllByRecursion (IsOf kinds.Ldp) (map (λ message. Label message) list)
label_of [] = tt
label_of (message ∷ rest) = (tt, label_of rest)

front_is_of : (kind : Kind) (bytes : List ℕ) → OfFront kind (front_of kind bytes)
front_is_of kinds.Bgp bytes = by (message_front bytes)
  where
    by : (f : Front Message StreamFault) → OfFront kinds.Bgp (as_front (λ message. Bgp message) (λ fault. BgpFault fault) f)
    by more = tt
    by (whole count messages) = bgp_of messages
    by (bad messages offset reason) = bgp_of messages
front_is_of kinds.Ldp bytes = by (pdu_front bytes)
  where
    by : (f : Front LabelMessage LdpFault) → OfFront kinds.Ldp (as_front (λ message. Label message) (λ fault. LabelFault fault) f)
    by more = tt
    by (whole count messages) = label_of messages
    by (bad messages offset reason) = label_of messages

cut_is_of : (kind : Kind) (place passed : ℕ) (bytes : List ℕ) → AllByRecursion (IsOf kind) (cut_at (front_of kind) place passed bytes).messages
unfolding cut_at
cut_is_of kind place passed [] = tt
cut_is_of kind place (suc passed) (b ∷ bs) = cut_is_of kind (place + 1) passed bs
cut_is_of kind place zero (b ∷ bs) = by (front_of kind (b ∷ bs)) (front_is_of kind (b ∷ bs)) (λ count. cut_is_of kind (place + 1) (count - 1) bs)
  where
    by : (f : Front SessionMessage SessionFault) → OfFront kind f
        → ((count : ℕ) → AllByRecursion (IsOf kind) (cut_at (front_of kind) (place + 1) (count - 1) bs).messages)
        → AllByRecursion (IsOf kind) (elim f as (λ x. Cut SessionMessage SessionFault) [
          | more ↦ record { messages = []; rest = b ∷ bs; fault = None }
          | whole n ms ↦ (let c = cut_at (front_of kind) (place + 1) (n - 1) bs in
              record { messages = ms ++ c.messages; rest = c.rest; fault = c.fault })
          | bad ms offset e ↦ record { messages = ms; rest = b ∷ bs; fault = Some (place + offset, e) }
        ]).messages
    by more h rest = tt
    by (whole count messages) h rest = each_append (IsOf kind) messages (cut_at (front_of kind) (place + 1) (count - 1) bs).messages h (rest count)
    by (bad messages offset reason) h rest = h

fed_is_of : (kind : Kind) (stream : Stream) (piece : List ℕ) → AllByRecursion (IsOf kind) stream.waiting
    → AllByRecursion (IsOf kind) (fed (front_of kind) stream piece).waiting
fed_is_of kind stream piece h = by stream.fault
  where
    by : (o : Option (ℕ × SessionFault)) → AllByRecursion (IsOf kind) (fed_unless (front_of kind) o stream piece).waiting
    by None =
        each_append (IsOf kind) stream.waiting (cut (front_of kind) (stream.held ++ piece)).messages h (cut_is_of kind 0 0 (stream.held ++ piece))
    by (Some f) = h

-- ---- what acts lead to

module _ (scenario : Scenario) where
  step_linked : (old : OctetNetwork Nodes) (stepped : Option (Stepped Nodes)) → NetworkLinked scenario old
      → Holds (λ (next : Stepped Nodes). NodesLinked scenario next.state) stepped → Leads (NetworkLinked scenario) (with_step old stepped)
  step_linked old None l h = tt
  step_linked old (Some next) l h = record { nodes = h; joined = l.joined; waiting = l.waiting }

  -- what a message may call for
  message_may : (kind : Kind) (from to : NodeId) (message : SessionMessage) → LinkIf scenario kind to from → IsOf kind message
      → MayCall scenario to (call_of from message)
  message_may kind from to (Bgp message) l h = tt
  message_may kinds.Ldp from to (Label message) l h = l
  message_may kinds.Bgp from to (Label message) l h = absurd h

  taken_linked : (over : Direction) → LinkIf scenario over.kind over.to over.from → (list : List SessionMessage)
      → AllByRecursion (IsOf over.kind) list → (old : OctetNetwork Nodes) → NetworkLinked scenario old
      → Leads (NetworkLinked scenario) (all_taken system old over list)
  taken_linked over link [] h old l = l
  taken_linked over link (message ∷ rest) h old l =
      leads_then (NetworkLinked scenario) (NetworkLinked scenario) (with_step old (system.taken over message old.state))
      (λ network. all_taken system network over rest)
      (step_linked old (system.taken over message old.state) l
      (called_linked scenario old.state over.to (call_of over.from message) l.nodes (message_may over.kind over.from over.to message link h.0)))
      (λ network p. taken_linked over link rest h.1 network p)

  -- what may happen: calls that nodes may be called for, and sessions that are those of links
  abbrev pub MayHappen : OctetAct NodeCall → Type 0
  MayHappen (octets.Call (Own n call)) = MayCall scenario n call
  MayHappen (octets.Join hit) = (over : Direction) → hit over ≡ true → LinkIf scenario over.kind over.to over.from
  MayHappen other = ⊤

  move_linked : (over : Direction) (count : ℕ) (old : OctetNetwork Nodes) → NetworkLinked scenario old
      → Leads (NetworkLinked scenario) (octet_act system old (octets.Move over count))
  move_linked over count old l = by (old.joined over) refl
    where
      by : (b : Bool) → old.joined over ≡ b → Leads (NetworkLinked scenario)
          (if b then moved system old over count else Some (record { network = old; puts = [] }))
      by false e = l
      by true e =
          let new = fed (front_of over.kind) (old.stream over) (take count (old.transit over)) in
          let left : OctetNetwork Nodes = record old {
            transit = λ other. if same_direction other over then drop count (old.transit over) else old.transit other;
            stream = λ other. if same_direction other over then record new { waiting = [] } else old.stream other;
          } in
          taken_linked over (l.joined over e) new.waiting (fed_is_of over.kind (old.stream over) (take count (old.transit over)) (l.waiting over))
          left (record {
            nodes = l.nodes;
            joined = l.joined;
            waiting =
                λ other. cond_both (same_direction other over) (record new { waiting = [] }) (old.stream other)
                (λ (s : Stream). AllByRecursion (IsOf other.kind) s.waiting) (λ t. tt) (λ f. l.waiting other);
          })

  act_linked : (one : OctetAct NodeCall) → MayHappen one → (old : OctetNetwork Nodes) → NetworkLinked scenario old
      → Leads (NetworkLinked scenario) (octet_act system old one)
  act_linked (octets.Move over count) w old l = move_linked over count old l
  act_linked (octets.Call (Own n call)) w old l =
      step_linked old (node_called old.state n (old.state.node n) call) l (called_linked scenario old.state n call l.nodes w)
  act_linked (octets.Call (Elapse ticks)) w old l =
      record { nodes = record { place = l.nodes.place; links = l.nodes.links }; joined = l.joined; waiting = l.waiting }
  act_linked (octets.Call (Reset n)) w old l = record { nodes = reset_linked scenario old.state n l.nodes; joined = l.joined; waiting = l.waiting }
  act_linked (octets.Call (Price a b cost)) w old l =
      record { nodes = record { place = l.nodes.place; links = l.nodes.links }; joined = l.joined; waiting = l.waiting }
  act_linked (octets.Call (Follow n)) w old l =
      step_linked old (node_called (following old.state n) n (old.state.node n) steps.Rerouted) l (follow_linked scenario old.state n l.nodes)
  act_linked (octets.Lose hit) w old l =
      record { nodes = l.nodes; joined = λ over e. l.joined over (and_parts (old.joined over) (not (hit over)) e).0; waiting = l.waiting }
  act_linked (octets.Forget hit) w old l = record {
    nodes = l.nodes;
    joined = l.joined;
    waiting =
        λ over. cond_both (hit over && not (old.joined over)) unfed (old.stream over) (λ (s : Stream). AllByRecursion (IsOf over.kind) s.waiting)
        (λ t. tt) (λ f. l.waiting over);
  }
  act_linked (octets.Join hit) w old l = record {
    nodes = l.nodes;
    joined = λ over e. elim (or_cases (old.joined over) (hit over) e) [ inl was ↦ l.joined over was | inr now ↦ w over now ];
    waiting =
        λ over. cond_both (hit over) unfed (old.stream over) (λ (s : Stream). AllByRecursion (IsOf over.kind) s.waiting) (λ t. tt)
        (λ f. l.waiting over);
  }

  pub run_linked : (acts : List (OctetAct NodeCall)) → AllByRecursion MayHappen acts → (old : OctetNetwork Nodes) → NetworkLinked scenario old
      → Leads (NetworkLinked scenario) (octet_run system old acts)
  run_linked [] w old l = l
  run_linked (one ∷ rest) w old l =
      leads_then (NetworkLinked scenario) (NetworkLinked scenario) (octet_act system old one) (λ network. octet_run system network rest)
      (act_linked one w.0 old l) (λ network p. run_linked rest w.1 network p)
