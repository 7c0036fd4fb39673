-- Rounds lower the ranks of all messages, so that they end; and one more round empties what is in transit in octets.
use Rattle.std.specs.Prelude.{Result, Ok, Err}
use Rattle.std.proofs.Common.{◌≡◌, ◌<◌, ◌≤◌, ℕ, zero, suc, ◌+◌, ◌||◌, take, Bool, true, false, cond, inl, inr, List, [], ◌∷◌, length, Option, Some, None, refl, sym, ap, subst, ◌∙◌, le_trans, arith}
use Rattle.std.specs.List.{AllByRecursion, list_any}
use Rattle.std.proofs.lemmas.Bool.{or_cases}
use Rattle.mv_base.specs.declared.ids.NodeId.{NodeId}
use Rattle.mldp.specs.declared.mldp_fec.fec.Fec.{Fec}
use Rattle.scenario_defs.specs.declared.report.ReportLine.{ReportLine}
use Rattle.scenario_defs.specs.declared.report.ReportLine.TheVariants as lines
use Rattle.scenario_defs.specs.declared.scenario.Scenario.{Scenario}
use Rattle.selective_defs.specs.Selective.{Among}
use Rattle.network_defs.specs.session_defs.Message.{SessionMessage, same_direction}
use Rattle.network_defs.specs.session_defs.Octets as octets
use Rattle.network_defs.specs.session_defs.Octets.{OctetNetwork, octet_run}
use Rattle.network_defs.specs.session_defs.Refined.{IsLine}
use Rattle.network_defs.specs.session_defs.System.{Behind}
use Rattle.network_defs.specs.declared.session_defs.direction.Direction.{Direction}
use Rattle.network_defs.proofs.session_defs.Lines.{own_direction, direction_is}
use Rattle.network_laws.proofs.Costs.{Costs}
use Rattle.edge_words.proofs.calm_laws.Lists.{any_from}
use Rattle.network_defs.specs.Acts.{Act, Move, Acted, with_network, act}
use Rattle.network_defs.specs.Events.{Outcome, Done, Halted, one_act, row, each, times, turn}
use Rattle.network_defs.specs.Nodes.{Nodes}
use Rattle.network_defs.specs.System.{system}
use Rattle.network_defs.specs.World.{World}
use Rattle.network_defs.proofs.Kept.{Gives, Comes, then_comes, comes_as}
use Rattle.network_laws.proofs.Lists.{each_weaker}
use Rattle.settle_laws.proofs.Turns.{Low, lower}
use Rattle.settle_laws.proofs.Streams.{SteadyBehind, WorldSteady, run_steady}
use Rattle.settle_laws.proofs.Moves.{OnNet, nothing_pending, Round, move_round, Empties, move_empties}
use Rattle.rule_laws.proofs.Admits.{all_of_among}

-- the bound of one direction becomes this one
abbrev pub lowered : (Direction → ℕ) → Direction → ℕ → Direction → ℕ
lowered bounds over r other = cond (same_direction other over) r (bounds other)

-- and so of each of these
abbrev pub all_lowered : List Direction → (Direction → ℕ) → ℕ → Direction → ℕ
all_lowered [] bounds r = bounds
all_lowered (over ∷ others) bounds r = all_lowered others (lowered bounds over r) r

-- whether the direction is in the list
abbrev pub is_in : List Direction → Direction → Bool
is_in order over = list_any (same_direction over) order

-- the bound of each direction of the list, and another one of all others
abbrev pub bound_of : List Direction → ℕ → ℕ → Direction → ℕ
bound_of order r high over = cond (is_in order over) r high

-- ---- bounds

least_lowered : (t : Bool) (r b : ℕ) → r ≤ b → r ≤ cond t r b
least_lowered true r b le = omega arith
least_lowered false r b le = le

lowered_le : (t : Bool) (r b : ℕ) → r ≤ b → cond t r b ≤ b
lowered_le true r b le = le
lowered_le false r b le = omega arith

lowered_top : (t : Bool) (r b : ℕ) → b ≤ suc r → cond t r b ≤ suc r
lowered_top true r b le = omega arith
lowered_top false r b le = le

all_lowered_le : (order : List Direction) (bounds : Direction → ℕ) (r : ℕ) → ((d : Direction) → r ≤ bounds d) → (d : Direction)
    → all_lowered order bounds r d ≤ bounds d
all_lowered_le [] bounds r least d = omega arith
all_lowered_le (over ∷ others) bounds r least d =
    let x = all_lowered_le others (lowered bounds over r) r (λ e. least_lowered (same_direction e over) r (bounds e) (least e)) d in
    let y = lowered_le (same_direction d over) r (bounds d) (least d) in
    le_trans x y

listed_low : (order : List Direction) (bounds : Direction → ℕ) (r : ℕ) → ((d : Direction) → r ≤ bounds d) → (d : Direction) → is_in order d ≡ true
    → all_lowered order bounds r d ≤ r
listed_low [] bounds r least d is = absurd cc
listed_low (over ∷ others) bounds r least d is =
    by (λ h. listed_low others (lowered bounds over r) r (λ e. least_lowered (same_direction e over) r (bounds e) (least e)) d h)
    (same_direction d over) refl is
  where
    by : (is_in others d ≡ true → all_lowered others (lowered bounds over r) r d ≤ r) → (t : Bool) → same_direction d over ≡ t
        → (t || is_in others d) ≡ true → all_lowered others (lowered bounds over r) r d ≤ r
    by rest true e h =
        let x = all_lowered_le others (lowered bounds over r) r (λ e. least_lowered (same_direction e over) r (bounds e) (least e)) d in
        let here : lowered bounds over r d ≡ r = ap (λ (b : Bool). cond b r (bounds d)) e in
        omega (arith, x, here)
    by rest false e h = rest h

-- ---- worlds

-- one act of a row
pub one_comes : (P : World → Type 0) (world : World) (first : Act) → Gives P (act world first) → Comes P (row (first ∷ []) world)
one_comes P world first g = then_comes P P (one_act world first) (row []) (by (act world first) g) (λ next p. p)
  where
    by : (o : Result Acted NodeId) → Gives P o → Comes P
        (elim o [ Ok new ↦ Done (record { act = Some first; lines = new.lines } ∷ []) new.world | Err node ↦ Halted [] node ])
    by (Err node) h = tt
    by (Ok new) h = h

both_come : (P Q : World → Type 0) (o : Outcome) → Comes P o → Comes Q o → Comes (λ world. P world × Q world) o
both_come P Q (Halted acts node) p q = tt
both_come P Q (Done acts world) p q = (p, q)

-- a direction that has its turn, by what is in transit there
turn_by : (P : World → Type 0) (over : Direction) (world : World) → (world.network.transit over ≡ [] → P world)
    → ((octet : ℕ) (others : List ℕ) → world.network.transit over ≡ octet ∷ others
    → Gives P (act world (Move over.kind over.from over.to (length (octet ∷ others))))) → Comes P (turn over world)
turn_by P over world none some = by (world.network.transit over) refl
  where
    by : (transit : List ℕ) → world.network.transit over ≡ transit
        → Comes P (elim transit [ [] ↦ Done [] world | octet ∷ others ↦ row (Move over.kind over.from over.to (length (octet ∷ others)) ∷ []) world ])
    by [] e = none e
    by (octet ∷ others) e = one_comes P world (Move over.kind over.from over.to (length (octet ∷ others))) (some octet others e)

-- over a direction with octets in transit the session is joined
joined_by : (kind : _) (joined : Bool) (stream : _) (transit : List ℕ) (pending : List SessionMessage) (octet : ℕ) (others : List ℕ)
    → IsLine kind joined stream transit pending → transit ≡ octet ∷ others → joined ≡ true
joined_by kind true stream transit pending octet others line e = refl
joined_by kind false stream transit pending octet others line e = absurd (let bad : [] ≡ octet ∷ others = sym line.0 ∙ e in cc)

module _ (scenario : Scenario) (costs : Costs) (depth : NodeId → Fec → ℕ) (most : ℕ) (most_is : (n : NodeId) (fec : Fec) → depth n fec < most) where
  -- The messages in transit rank below these bounds, and each stream holds back less than a unit.
  abbrev pub WorldRound : (Direction → ℕ) → World → Type 0
  WorldRound bounds world = Round scenario world.copies world.datagrams depth most bounds world.network × WorldSteady costs world

  with_both : (bounds : Direction → ℕ) (world : World) (before : List ReportLine) (found : Option (Behind (OctetNetwork Nodes))) (node : NodeId)
      → OnNet (Round scenario world.copies world.datagrams depth most bounds) found → SteadyBehind costs found
      → Gives (WorldRound bounds) (with_network world before found node)
  with_both bounds world before None node r s = tt
  with_both bounds world before (Some new) node r s = (r, s)

  none_cut : (d : Direction) (t : Bool) (r b : ℕ) (pending : List SessionMessage) → (t ≡ true → pending ≡ []) → Low depth most b d pending
      → Low depth most (cond t r b) d pending
  none_cut d true r b pending none h = subst (Low depth most r d) (sym (none refl)) tt
  none_cut d false r b pending none h = h

  -- the direction to which a message is moved leads to a node of the scenario
  abbrev pub LeadsToNode : Direction → Type 0
  LeadsToNode over = over.to.0 < length scenario.nodes

  turn_round : (bounds : Direction → ℕ) (r : ℕ) (over : Direction) → LeadsToNode over → ((d : Direction) → r ≤ bounds d) → bounds over ≤ suc r
      → (world : World) → WorldRound bounds world → Comes (WorldRound (lowered bounds over r)) (turn over world)
  turn_round bounds r over node least top world (round, streams) =
      let P : World → Type 0 = WorldRound (lowered bounds over r) in
      turn_by P over world
      (λ e. (
        record {
          pending = round.pending;
          lines = round.lines;
          going = round.going;
          low = λ d. none_cut d (same_direction d over) r (bounds d) (round.pending d)
              (λ t. ap round.pending (direction_is d over t)
              ∙ nothing_pending over.kind (world.network.joined over) (world.network.stream over) (world.network.transit over)
              (round.pending over) (round.lines over) e (streams.streams.partial over)) (round.low d);
        },
        streams,
      ))
      (λ octet others e.
      let count : ℕ = length (octet ∷ others) in
      let joined : world.network.joined over ≡ true =
      joined_by over.kind (world.network.joined over) (world.network.stream over) (world.network.transit over) (round.pending over) octet others
      (round.lines over) e in
      let le : length (world.network.transit over) ≤ count = let same : length (world.network.transit over) ≡ count =
      ap (λ (xs : List ℕ). length xs) e in omega (arith, same) in
      with_both (lowered bounds over r) world (lines.Take over.kind over.from over.to (take count (world.network.transit over)) ∷ [])
      (octet_run system world.network (octets.Move over count ∷ [])) over.to
      (move_round scenario world.copies world.datagrams depth most bounds r over count most_is node least top world.network le joined round)
      (run_steady costs (octets.Move over count ∷ []) (tt, tt) world.network streams))

  each_round : (r : ℕ) (order : List Direction) → AllByRecursion LeadsToNode order → (bounds : Direction → ℕ) → ((d : Direction) → r ≤ bounds d)
      → AllByRecursion (λ (d : Direction). bounds d ≤ suc r) order → (world : World) → WorldRound bounds world
      → Comes (WorldRound (all_lowered order bounds r)) (each turn order world)
  each_round r [] nodes bounds least top world round = round
  each_round r (over ∷ others) nodes bounds least top world round =
      then_comes (WorldRound (lowered bounds over r)) (WorldRound (all_lowered others (lowered bounds over r) r)) (turn over world) (each turn others)
      (turn_round bounds r over nodes.0 least top.0 world round)
      (λ next p. each_round r others nodes.1 (lowered bounds over r) (λ d. least_lowered (same_direction d over) r (bounds d) (least d))
      (each_weaker (λ (d : Direction). bounds d ≤ suc r) (λ d. lowered bounds over r d ≤ suc r)
      (λ d le. lowered_top (same_direction d over) r (bounds d) le) others top.1) next p)

  weaker : (bounds other : Direction → ℕ) → ((d : Direction) → bounds d ≤ other d) → (world : World) → WorldRound bounds world
      → WorldRound other world
  weaker bounds other le world (round, streams) = (
    record {
      pending = round.pending;
      lines = round.lines;
      going = round.going;
      low =
          λ d. lower depth most (bounds d) (other d) d (round.pending d) (le d) (round.low d);
    },
    streams,
  )

  -- ---- a list of directions

  module _ (order : List Direction) (nodes : AllByRecursion LeadsToNode order) where
    -- messages over these directions rank below a number, and all others below another one
    abbrev pub Below : ℕ → World → Type 0
    Below r world = WorldRound (bound_of order r (most + 2)) world

    high_least : (t : Bool) (r : ℕ) → suc r ≤ most + 2 → r ≤ cond t (suc r) (most + 2)
    high_least true r le = omega arith
    high_least false r le = omega (arith, le)

    low_top : (t : Bool) (r high : ℕ) → t ≡ true → cond t (suc r) high ≤ suc r
    low_top true r high e = omega arith
    low_top false r high e = absurd cc

    after_round : (t : Bool) (x r b high : ℕ) → (t ≡ true → x ≤ r) → x ≤ b → (t ≡ false → b ≡ high) → x ≤ cond t r high
    after_round true x r b high h k e = h refl
    after_round false x r b high h k e = let same = e refl in omega (arith, k, same)

    round_lowers : (r : ℕ) → suc r ≤ most + 2 → (world : World) → Below (suc r) world → Comes (Below r) (each turn order world)
    round_lowers r le world round =
        let bounds : Direction → ℕ = bound_of order (suc r) (most + 2) in
        let least : (d : Direction) → r ≤ bounds d = λ d. high_least (is_in order d) r le in
        comes_as (WorldRound (all_lowered order bounds r)) (Below r) (each turn order world)
        (weaker (all_lowered order bounds r) (bound_of order r (most + 2)) (λ d.
        after_round (is_in order d) (all_lowered order bounds r d) r (bounds d) (most + 2) (listed_low order bounds r least d)
        (all_lowered_le order bounds r least d) (λ f. ap (λ (b : Bool). cond b (suc r) (most + 2)) f)))
        (each_round r order nodes bounds least (all_of_among (λ d. bounds d ≤ suc r) order
        (λ d a. low_top (is_in order d) r (most + 2) (any_from (same_direction d) d order a (own_direction d)))) world round)

    -- ---- the last round

    none_low : (over : Direction) (ms : List SessionMessage) → Low depth most 0 over ms → ms ≡ []
    none_low over [] h = refl
    none_low over (m ∷ ms) h = let x = h.0 in absurd (omega (arith, x))

    -- no octet is in transit over the directions that pass the test
    abbrev pub Emptied : (Direction → Bool) → World → Type 0
    Emptied test world = (d : Direction) → test d ≡ true → world.network.transit d ≡ []

    quiet : (over : Direction) → is_in order over ≡ true → (world : World) (round : Below 0 world) → round.0.pending over ≡ []
    quiet over is world round =
        none_low over (round.0.pending over) (subst (λ (b : Bool). Low depth most (cond b 0 (most + 2)) over (round.0.pending over)) is
        (round.0.low over))

    with_found : (P : OctetNetwork Nodes → Type 0) (world : World) (before : List ReportLine) (found : Option (Behind (OctetNetwork Nodes)))
        (node : NodeId) → OnNet P found → Gives (λ next. P next.network) (with_network world before found node)
    with_found P world before None node h = tt
    with_found P world before (Some new) node h = h

    gives_as : (P Q : World → Type 0) (o : Result Acted NodeId) → ((world : World) → P world → Q world) → Gives P o → Gives Q o
    gives_as P Q (Err node) h p = tt
    gives_as P Q (Ok new) h p = h new.world p

    emptied_at : (t q : Bool) (new old : List ℕ) → new ≡ cond t [] old → (q ≡ true → old ≡ []) → (t || q) ≡ true → new ≡ []
    emptied_at true q new old e h is = e
    emptied_at false q new old e h is = e ∙ h is

    turn_empties : (test : Direction → Bool) (over : Direction) → is_in order over ≡ true → (world : World) → Below 0 world → Emptied test world
        → Comes (Emptied (λ d. same_direction d over || test d)) (turn over world)
    turn_empties test over is world round empty =
        let P : World → Type 0 = Emptied (λ d. same_direction d over || test d) in
        turn_by P over world
        (λ e d h. elim (or_cases (same_direction d over) (test d) h) [
          | inl same ↦ ap world.network.transit (direction_is d over same) ∙ e
          | inr passed ↦ empty d passed
        ])
        (λ octet others e.
        let count : ℕ = length (octet ∷ others) in
        let joined : world.network.joined over ≡ true =
        joined_by over.kind (world.network.joined over) (world.network.stream over) (world.network.transit over) (round.0.pending over) octet
        others (round.0.lines over) e in
        let le : length (world.network.transit over) ≤ count = let same : length (world.network.transit over) ≡ count =
        ap (λ (xs : List ℕ). length xs) e in omega (arith, same) in
        gives_as (λ next. Empties world.network over next.network) P (act world (Move over.kind over.from over.to count))
        (λ next h d is_one. emptied_at (same_direction d over) (test d) (next.network.transit d) (world.network.transit d) (h d) (empty d) is_one)
        (with_found (Empties world.network over) world (lines.Take over.kind over.from over.to (take count (world.network.transit over)) ∷ [])
        (octet_run system world.network (octets.Move over count ∷ [])) over.to
        (move_empties scenario world.network round.0.pending over count round.0.lines round.0.going.good.base.sound le joined
        (quiet over is world round))))

    zero_cut : (t l : Bool) (high : ℕ) → cond t 0 (cond l 0 high) ≤ cond l 0 high
    zero_cut true l high = omega arith
    zero_cut false l high = omega arith

    zero_top : (l : Bool) (high : ℕ) → l ≡ true → cond l 0 high ≤ 1
    zero_top true high e = omega arith
    zero_top false high e = absurd cc

    -- the directions that had their turns, and those before
    abbrev pub had_turns : List Direction → (Direction → Bool) → Direction → Bool
    had_turns [] test = test
    had_turns (over ∷ others) test = had_turns others (λ d. same_direction d over || test d)

    each_empties : (part : List Direction) → AllByRecursion (λ (d : Direction). (is_in order d ≡ true) × LeadsToNode d) part
        → (test : Direction → Bool) → (world : World) → Below 0 world × Emptied test world
        → Comes (λ next. Below 0 next × Emptied (had_turns part test) next) (each turn part world)
    each_empties [] are test world h = h
    each_empties (over ∷ others) are test world (round, empty) =
        let next_test : Direction → Bool = λ d. same_direction d over || test d in
        let bounds : Direction → ℕ = bound_of order 0 (most + 2) in
        then_comes (λ next. Below 0 next × Emptied next_test next) (λ next. Below 0 next × Emptied (had_turns others next_test) next)
        (turn over world) (each turn others)
        (both_come (Below 0) (Emptied next_test) (turn over world)
        (comes_as (WorldRound (lowered bounds over 0)) (Below 0) (turn over world)
        (weaker (lowered bounds over 0) bounds (λ d. zero_cut (same_direction d over) (is_in order d) (most + 2)))
        (turn_round bounds 0 over are.0.1 (λ d. omega arith) (zero_top (is_in order over) (most + 2) are.0.0) world round))
        (turn_empties test over are.0.0 world round empty))
        (λ next p. each_empties others are.1 next_test next p)

    had_turn : (part : List Direction) (test : Direction → Bool) (d : Direction) → (is_in part d || test d) ≡ true → had_turns part test d ≡ true
    had_turn [] test d is = is
    had_turn (over ∷ others) test d is =
        had_turn others (λ e. same_direction e over || test e) d (turned (same_direction d over) (is_in others d) (test d) is)
      where
        turned : (a b c : Bool) → ((a || b) || c) ≡ true → (b || (a || c)) ≡ true
        turned true true c e = refl
        turned true false c e = refl
        turned false b c e = e

    -- after all rounds: the messages, and the octets
    abbrev pub Ended : World → Type 0
    Ended world = Below 0 world × Emptied (is_in order) world

    last_round : (world : World) → Below 0 world → Comes Ended (each turn order world)
    last_round world round =
        comes_as (λ next. Below 0 next × Emptied (had_turns order (λ d. false)) next) Ended (each turn order world)
        (λ next p. (p.0, λ d is. p.1 d (had_turn order (λ e. false) d (either (is_in order d) is))))
        (each_empties order (all_of_among (λ d. (is_in order d ≡ true) × LeadsToNode d) order
        (λ d a. (any_from (same_direction d) d order a (own_direction d), node_of order nodes d a))) (λ d. false) world
        (round, λ d is. absurd cc))
      where
        either : (b : Bool) → b ≡ true → (b || false) ≡ true
        either true e = refl
        either false e = absurd cc

        node_of : (part : List Direction) → AllByRecursion LeadsToNode part → (d : Direction) → Among d part → LeadsToNode d
        node_of [] are d a = absurd a
        node_of (x ∷ xs) are d (inl e) = subst LeadsToNode (sym e) are.0
        node_of (x ∷ xs) are d (inr a) = node_of xs are.1 d a

    -- A round more than the rank of all messages.
    pub rounds_end : (r : ℕ) → r ≤ most + 2 → (world : World) → Below r world → Comes Ended (times (each turn order) (suc r) world)
    rounds_end zero le world round =
        then_comes Ended Ended (each turn order world) (times (each turn order) zero) (last_round world round) (λ next p. p)
    rounds_end (suc r) le world round =
        then_comes (Below r) Ended (each turn order world) (times (each turn order) (suc r)) (round_lowers r le world round)
        (λ next p. rounds_end r (let x = le in omega (arith, x)) next p)
