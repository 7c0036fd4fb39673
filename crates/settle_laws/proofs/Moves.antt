-- A move of all octets of a direction, in messages and in octets.
use Rattle.std.specs.Prelude.{⊤}
use Rattle.std.proofs.Common.{◌≡◌, ◌<◌, ◌≤◌, ℕ, suc, Bool, true, false, cond, List, [], ◌∷◌, ◌++◌, length, take, drop, Option, Some, None, refl, sym, ap, subst, ◌∙◌, append_assoc, arith}
use Rattle.std.specs.List.{AllByRecursion}
use Rattle.std.proofs.lemmas.List.{append-nil, drop_all}
use Rattle.std.proofs.lemmas.List.Concat.{flat_map-append}
use Rattle.std.proofs.lemmas.Option.{same_Some, none-some}
use Rattle.mv_base.specs.Number.{◌>>?◌}
use Rattle.mv_base.specs.declared.ids.NodeId.{NodeId}
use Rattle.mldp.specs.declared.mldp_fec.fec.Fec.{Fec}
use Rattle.mv_base.specs.framing.Cut.Front.{more}
use Rattle.mv_base.specs.framing.Feed.{fed}
use Rattle.mv_base.specs.framing.Units.{octets_of, messages_of}
use Rattle.scenario_defs.specs.declared.event.Kind.{Kind}
use Rattle.scenario_defs.specs.declared.scenario.Scenario.{Scenario}
use Rattle.network_defs.specs.session_defs.Message.{SessionMessage, front_of, same_direction, Spells}
use Rattle.network_defs.specs.session_defs.Octets as octets
use Rattle.network_defs.specs.session_defs.Octets.{OctetNetwork, Stream, with_octets, with_step, all_taken, moved, octet_run}
use Rattle.network_defs.specs.session_defs.Refined.{Carried, IsLine, AreLines, IsCarried, seen, deliveries}
use Rattle.network_defs.specs.session_defs.System.{Put, Stepped, MessageNetwork, Behind, octets_over, with_earlier, message_run}
use Rattle.network_defs.specs.declared.session_defs.direction.Direction.{Direction}
use Rattle.network_defs.proofs.session_defs.Came.{came_all}
use Rattle.network_defs.proofs.session_defs.Deliveries.{IsSeen}
use Rattle.network_defs.proofs.session_defs.Fronts.{stream_of}
use Rattle.network_defs.proofs.session_defs.Lines.{are_spelled}
use Rattle.network_defs.proofs.session_defs.Moves.{Moved, moved_seen}
use Rattle.network_defs.specs.Nodes.{Nodes}
use Rattle.network_defs.specs.System.{system}
use Rattle.network_defs.specs.World.{Datagram}
use Rattle.network_laws.specs.Sound.{Sound}
use Rattle.network_laws.specs.Honest.{sound_system}
use Rattle.network_laws.proofs.Nodes.{honest_nodes}
use Rattle.network_laws.proofs.RunActs.{taken_alike}
use Rattle.network_laws.proofs.Lists.{each_front}
use Rattle.rule_laws.specs.Labels.{Copies}
use Rattle.rule_laws.proofs.Calls.{left}
use Rattle.rule_laws.proofs.Octets.{units_carried}
use Rattle.settle_laws.proofs.Turns.{Going, Low, lower, turn_on}

-- the network after acts has the property, if there is one
abbrev pub OnNet : (OctetNetwork Nodes → Type 0) → Option (Behind (OctetNetwork Nodes)) → Type 0
OnNet P None = ⊤
OnNet P (Some new) = P new.network

-- the octets of the direction went to the receiver's stream
abbrev pub gone : OctetNetwork Nodes → Direction → ℕ → OctetNetwork Nodes
gone old over count = record old {
  transit = λ other. cond (same_direction other over) (drop count (old.transit over)) (old.transit other);
  stream = λ other. cond (same_direction other over)
      (record (fed (front_of over.kind) (old.stream over) (take count (old.transit over))) { waiting = [] }) (old.stream other);
}

moved_alike : (scenario : Scenario) (old : OctetNetwork Nodes) (over : Direction) (count : ℕ)
    → moved (sound_system scenario) old over count ≡ moved system old over count
moved_alike scenario old over count =
    taken_alike scenario over (fed (front_of over.kind) (old.stream over) (take count (old.transit over))).waiting (gone old over count)

-- a row of one move, over a session that is joined
alone : (P : OctetNetwork Nodes → Type 0) (o : Option (Behind (OctetNetwork Nodes))) → OnNet P o
    → OnNet P (o >>? λ next. with_earlier next.puts (Some (record { network = next.network; puts = [] })))
alone P None h = tt
alone P (Some next) h = h

pub one_move : (P : OctetNetwork Nodes → Type 0) (old : OctetNetwork Nodes) (over : Direction) (count : ℕ) → old.joined over ≡ true
    → OnNet P (moved system old over count) → OnNet P (octet_run system old (octets.Move over count ∷ []))
one_move P old over count joined h =
    let rest : Option (Behind (OctetNetwork Nodes)) → Option (Behind (OctetNetwork Nodes)) =
    λ o. o >>? λ next. with_earlier next.puts (Some (record { network = next.network; puts = [] })) in
    subst (λ (b : Bool). OnNet P (rest (cond b (moved system old over count) (Some (record { network = old; puts = [] }))))) (sym joined)
    (alone P (moved system old over count) h)

-- ---- a direction with nothing in transit

-- Where nothing is in transit and less than a unit is held back, nothing is pending.
pub nothing_pending : (kind : Kind) (joined : Bool) (stream : Stream) (transit : List ℕ) (pending : List SessionMessage)
    → IsLine kind joined stream transit pending → transit ≡ [] → front_of kind stream.held ≡ more → pending ≡ []
nothing_pending kind true stream transit pending line none partial =
    let all : stream.held ++ [] ≡ octets_of line.units = ap (λ (xs : List ℕ). stream.held ++ xs) (sym none) ∙ line.octets in
    line.messages ∙ ap messages_of (came_all (front_of kind) (Spells kind) (stream_of kind) stream.held line.units
    (are_spelled kind line.units line.each) all partial)
nothing_pending kind false stream transit pending line none partial = line.1

-- ---- a move in messages

pub carried_there : (old : OctetNetwork Nodes) (pending : Direction → List SessionMessage) (over : Direction) → AreLines old pending
    → old.joined over ≡ true → Carried over.kind (old.stream over) (old.transit over) (pending over)
carried_there old pending over lines joined =
    subst (λ (b : Bool). IsLine over.kind b (old.stream over) (old.transit over) (pending over)) joined (lines over)

module _ (scenario : Scenario) (copies : Copies) (datagrams : List Datagram) (depth : NodeId → Fec → ℕ) (most : ℕ) where
  -- The octets in transit carry messages, each below the bound of its direction.
  pub record Round (bounds : Direction → ℕ) (network : OctetNetwork Nodes) : Type 0 where
    pub pending : Direction → List SessionMessage
    pub lines : AreLines network pending
    pub going : Going scenario copies datagrams depth (seen network pending)
    pub low : (over : Direction) → Low depth most (bounds over) over (pending over)

  -- the bound of one direction becomes this one
  abbrev pub cut : (Direction → ℕ) → Direction → ℕ → Direction → ℕ
  cut bounds over r other = cond (same_direction other over) r (bounds other)

  from_seen : (bounds : Direction → ℕ) (o : Option (Behind (OctetNetwork Nodes))) (found : Option (Behind (MessageNetwork Nodes)))
      → IsSeen (Sound scenario) o found
      → ((new : Behind (MessageNetwork Nodes)) → found ≡ Some new
      → Going scenario copies datagrams depth new.network × ((d : Direction) → Low depth most (bounds d) d (new.network.transit d)))
      → OnNet (Round bounds) o
  from_seen bounds None found is gives = tt
  from_seen bounds (Some new) found is gives =
      (let g = gives (record { network = seen new.network is.0; puts = new.puts }) is.2 in
      record { pending = is.0; lines = is.1; going = g.0; low = g.1 })

  cut_low : (d : Direction) (t : Bool) (r b : ℕ) (rest old : List SessionMessage) → rest ≡ [] → Low depth most b d old
      → Low depth most (cond t r b) d (cond t rest old)
  cut_low d true r b rest old none h = subst (Low depth most r d) (sym none) tt
  cut_low d false r b rest old none h = h

  least_cut : (t : Bool) (r b : ℕ) → r ≤ b → r ≤ cond t r b
  least_cut true r b le = omega arith
  least_cut false r b le = le

  pub move_round : (bounds : Direction → ℕ) (r : ℕ) (over : Direction) (count : ℕ) → ((n : NodeId) (fec : Fec) → depth n fec < most)
      → over.to.0 < length scenario.nodes → ((d : Direction) → r ≤ bounds d) → bounds over ≤ suc r
      → (old : OctetNetwork Nodes) → length (old.transit over) ≤ count → old.joined over ≡ true → Round bounds old
      → OnNet (Round (cut bounds over r)) (octet_run system old (octets.Move over count ∷ []))
  move_round bounds r over count most_is node least top old le joined round =
      let pending = round.pending in
      let line = carried_there old pending over round.lines joined in
      let m = moved_seen (sound_system scenario) (Sound scenario) (honest_nodes scenario) old pending over count round.lines
      round.going.good.base.sound joined line in
      let all : AllByRecursion (IsCarried over.kind) (m.first ++ m.rest) =
      subst (AllByRecursion (IsCarried over.kind)) (sym line.messages ∙ m.parts) (units_carried over.kind line.units line.each) in
      let first_low : Low depth most (suc r) over m.first =
      lower depth most (bounds over) (suc r) over m.first top
      (each_front (λ (x : SessionMessage). _) m.first m.rest (subst (Low depth most (bounds over) over) m.parts (round.low over))) in
      let rest_low : (d : Direction) → Low depth most (cut bounds over r d) d ((left (seen old pending) over m.rest).transit d) =
      λ d. cut_low d (same_direction d over) r (bounds d) m.rest (pending d) (m.all le) (round.low d) in
      one_move (Round (cut bounds over r)) old over count joined
      (subst (OnNet (Round (cut bounds over r))) (moved_alike scenario old over count)
      (from_seen (cut bounds over r) (moved (sound_system scenario) old over count)
      (message_run (sound_system scenario) (seen old pending) (deliveries over m.first)) m.outcome
      (λ thereafter is. turn_on depth most scenario copies datagrams over.kind over.from over.to most_is node (cut bounds over r) r
      (λ d. least_cut (same_direction d over) r (bounds d) (least d))
      m.first (each_front (IsCarried over.kind) m.first m.rest all) first_low (seen old pending) m.rest round.going joined m.parts rest_low thereafter
      is)))

-- ---- a move in octets

found_some : {N : Type 0} (puts : List Put) (o : Option (Behind N)) (new : Behind N) → with_earlier puts o ≡ Some new
    → (found : Behind N) × (o ≡ Some found) × (record { network = found.network; puts = puts ++ found.puts } ≡ new)
found_some puts None new e = absurd (none-some new e)
found_some puts (Some found) new e = (found, refl, same_Some (record { network = found.network; puts = puts ++ found.puts }) new e)

both_puts : (j : Bool) (old first then_puts : List ℕ)
    → cond j (cond j (old ++ first) old ++ then_puts) (cond j (old ++ first) old) ≡ cond j (old ++ (first ++ then_puts)) old
both_puts true old first then_puts = append_assoc old first then_puts
both_puts false old first then_puts = refl

-- what is in transit after messages that are taken: what was there, and what was put
taken_transit : (over : Direction) (messages : List SessionMessage) (old : OctetNetwork Nodes) (new : Behind (OctetNetwork Nodes))
    → all_taken system old over messages ≡ Some new
    → (d : Direction) → new.network.transit d ≡ cond (old.joined d) (old.transit d ++ octets_over d new.puts) (old.transit d)
taken_transit over [] old new e d =
    let same = same_Some (record { network = old; puts = [] }) new e in
    subst (λ (b : Behind (OctetNetwork Nodes)). b.network.transit d ≡ cond (old.joined d) (old.transit d ++ octets_over d b.puts) (old.transit d))
    same (sym (ap (λ (xs : List ℕ). cond (old.joined d) xs (old.transit d)) (append-nil (old.transit d)) ∙ either (old.joined d)))
  where
    either : (j : Bool) → cond j (old.transit d) (old.transit d) ≡ old.transit d
    either true = refl
    either false = refl
taken_transit over (message ∷ others) old new e d = by (λ next b f. taken_transit over others next b f d) (system.taken over message old.state) e
  where
    by : ((next : OctetNetwork Nodes) (b : Behind (OctetNetwork Nodes)) → all_taken system next over others ≡ Some b
        → b.network.transit d ≡ cond (next.joined d) (next.transit d ++ octets_over d b.puts) (next.transit d))
        → (o : Option (Stepped Nodes)) → (with_step old o >>? λ next. with_earlier next.puts (all_taken system next.network over others)) ≡ Some new
        → new.network.transit d ≡ cond (old.joined d) (old.transit d ++ octets_over d new.puts) (old.transit d)
    by rest None f = absurd (none-some new f)
    by rest (Some stepped) f =
        let next : OctetNetwork Nodes = with_octets old stepped in
        let x = found_some stepped.puts (all_taken system next over others) new f in
        subst (λ (b : Behind (OctetNetwork Nodes)). b.network.transit d ≡ cond (old.joined d) (old.transit d ++ octets_over d b.puts) (old.transit d))
        x.2
        (rest next x.0 x.1 ∙ both_puts (old.joined d) (old.transit d) (octets_over d stepped.puts) (octets_over d x.0.puts)
        ∙ ap (λ (xs : List ℕ). cond (old.joined d) (old.transit d ++ xs) (old.transit d))
        (sym (flat_map-append (λ (put : Put). cond (same_direction put.over d) put.unit.octets []) stepped.puts x.0.puts)))

nothing_first : {X : Type 0} (xs ys : List X) → [] ≡ xs ++ ys → xs ≡ []
nothing_first [] ys e = refl
nothing_first (x ∷ xs) ys e = absurd cc

same_either : (j : Bool) (xs ys : List ℕ) → ys ≡ [] → cond j (xs ++ ys) xs ≡ xs
same_either true xs ys e = ap (λ (zs : List ℕ). xs ++ zs) e ∙ append-nil xs
same_either false xs ys e = refl

-- where nothing is pending, a move of all octets leaves none in transit there, and puts none
abbrev pub Empties : OctetNetwork Nodes → Direction → OctetNetwork Nodes → Type 0
Empties old over new = (d : Direction) → new.transit d ≡ cond (same_direction d over) [] (old.transit d)

pub move_empties : (scenario : Scenario) (old : OctetNetwork Nodes) (pending : Direction → List SessionMessage) (over : Direction) (count : ℕ)
    → AreLines old pending → Sound scenario old.state → length (old.transit over) ≤ count → old.joined over ≡ true → pending over ≡ []
    → OnNet (Empties old over) (octet_run system old (octets.Move over count ∷ []))
move_empties scenario old pending over count lines sound le joined none =
    one_move (Empties old over) old over count joined (by (moved system old over count) refl)
  where
    m : Moved (sound_system scenario) (Sound scenario) old pending over count
    m = moved_seen (sound_system scenario) (Sound scenario) (honest_nodes scenario) old pending over count lines sound joined
        (carried_there old pending over lines joined)

    by : (o : Option (Behind (OctetNetwork Nodes))) → moved system old over count ≡ o → OnNet (Empties old over) o
    by None e = tt
    by (Some new) e =
        let first : m.first ≡ [] = nothing_first m.first m.rest (sym none ∙ m.parts) in
        let is : IsSeen (Sound scenario) (Some new) (message_run (sound_system scenario) (seen old pending) (deliveries over [])) =
        subst (λ (ms : List SessionMessage). IsSeen (Sound scenario) (Some new)
        (message_run (sound_system scenario) (seen old pending) (deliveries over ms))) first
        (subst (λ (o : Option (Behind (OctetNetwork Nodes))). IsSeen (Sound scenario) o
        (message_run (sound_system scenario) (seen old pending) (deliveries over m.first))) (moved_alike scenario old over count ∙ e) m.outcome)
        in
        let puts : [] ≡ new.puts =
        ap (λ (b : Behind (MessageNetwork Nodes)). b.puts)
        (same_Some (record { network = seen old pending; puts = [] }) (record { network = seen new.network is.0; puts = new.puts }) is.2) in
        λ d.
        taken_transit over (fed (front_of over.kind) (old.stream over) (take count (old.transit over))).waiting (gone old over count) new e d
        ∙ same_either (old.joined d) ((gone old over count).transit d) (octets_over d new.puts) (ap (octets_over d) (sym puts))
        ∙ ap (λ (xs : List ℕ). cond (same_direction d over) xs (old.transit d)) (drop_all count (old.transit over) le)
