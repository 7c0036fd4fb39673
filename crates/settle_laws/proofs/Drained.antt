-- After `drain` no copy is on a link: each round lowers the TTL of each.
use Rattle.std.proofs.Common.{◌≡◌, ◌≤◌, ℕ, zero, suc, ◌-◌, ◌==◌, ◌&&◌, Bool, true, false, cond, List, [], ◌∷◌, ◌++◌, map, flat_map, replicate, length, slice_get, Option, Some, None, inl, inr, refl, sym, ap, subst, ◌∙◌, le_trans, arith}
use Rattle.std.specs.List.{AllByRecursion, list_any, remove}
use Rattle.std.proofs.lemmas.Bool.{and_parts, and_from, or_cases}
use Rattle.mv_base.specs.declared.ids.NodeId.{NodeId}
use Rattle.label_defs.specs.declared.branch.Branch.{Branch}
use Rattle.label_defs.proofs.KeyLemmas.{node_equal, node_itself}
use Rattle.scenario_defs.specs.declared.event.Event.TheVariants as events
use Rattle.scenario_defs.specs.declared.scenario.Scenario.{Scenario}
use Rattle.selective_defs.specs.Selective.{Among}
use Rattle.network_defs.specs.session_defs.Octets.{OctetNetwork}
use Rattle.edge_words.proofs.calm_laws.Lists.{any_from}
use Rattle.network_defs.specs.Acts.{Act, Land, copy_on, with_branches, datagram_at, fate_at, landed, without_copy, landing, act}
use Rattle.network_defs.specs.Counts.{link_ways}
use Rattle.network_defs.specs.Events.{Happened, Done, one_act, row, times, landings, drain_round, drained}
use Rattle.network_defs.specs.Nodes.{Nodes}
use Rattle.network_defs.specs.Run.{IsDrained, outcome}
use Rattle.network_defs.specs.World.{World, Datagram, LinkCopy, scenario_of, with_copies}
use Rattle.network_defs.proofs.Kept.{Gives, Comes, then_comes, land_keeps, one_comes, both_give, comes_as}
use Rattle.settle_laws.proofs.Ttl.{IsAlive, AreAlive, on_branches}

-- ---- the copies of one way

-- the first so many copies go at most one hop further than a number says, and those after them at most so far
abbrev Fronted : ℕ → ℕ → List LinkCopy → Type 0
Fronted most zero copies = AllByRecursion (IsAlive most) copies
Fronted most (suc count) [] = Unit {0}
Fronted most (suc count) (copy ∷ others) = IsAlive (suc most) copy × Fronted most count others

further : (most : ℕ) (copy : LinkCopy) → IsAlive most copy → IsAlive (suc most) copy
further most copy is = (is.0, (let le = is.1 in omega (arith, le)))

all_fronted : (most : ℕ) (copies : List LinkCopy) → AllByRecursion (IsAlive (suc most)) copies → Fronted most (length copies) copies
all_fronted most [] all = tt
all_fronted most (copy ∷ others) all = (all.0, all_fronted most others all.1)

fronted_none : (most count : ℕ) → Fronted most count []
fronted_none most zero = tt
fronted_none most (suc count) = tt

fronted_more : (most count : ℕ) (copies : List LinkCopy) (new : LinkCopy) → IsAlive most new → Fronted most count copies
    → Fronted most count (copies ++ new ∷ [])
fronted_more most zero [] new is h = (is, tt)
fronted_more most zero (copy ∷ others) new is h = (h.0, fronted_more most zero others new is h.1)
fronted_more most (suc count) [] new is h = (further most new is, fronted_none most count)
fronted_more most (suc count) (copy ∷ others) new is h = (h.0, fronted_more most count others new is h.1)

fronted_rest : (most count : ℕ) (copy : LinkCopy) (others : List LinkCopy) → Fronted most count (copy ∷ others) → Fronted most (count - 1) others
fronted_rest most zero copy others h = h.1
fronted_rest most (suc count) copy others h = let same : count ≡ suc count - 1 = omega arith in subst (λ (k : ℕ). Fronted most k others) same h.1

fronted_first : (most count : ℕ) (copy : LinkCopy) (others : List LinkCopy) → Fronted most count (copy ∷ others) → IsAlive (suc most) copy
fronted_first most zero copy others h = further most copy h.0
fronted_first most (suc count) copy others h = h.0

-- ---- ways

abbrev Counts : Type 0
Counts = NodeId → NodeId → ℕ

abbrev is_here : NodeId → NodeId → NodeId → NodeId → Bool
is_here from to u n = (u.0 == from.0) && (n.0 == to.0)

abbrev is_way : List (NodeId × NodeId) → NodeId → NodeId → Bool
is_way ways u n = list_any (λ way. is_here way.0 way.1 u n) ways

here_is : (P : NodeId → NodeId → Type 0) (from to u n : NodeId) → is_here from to u n ≡ true → P from to → P u n
here_is P from to u n e p =
    let x = and_parts (u.0 == from.0) (n.0 == to.0) e in
    subst (λ (v : NodeId). P v n) (sym (node_equal u from x.0)) (subst (λ (m : NodeId). P from m) (sym (node_equal n to x.1)) p)

-- one copy fewer of one way
abbrev fewer : Counts → NodeId → NodeId → Counts
fewer counts from to u n = cond (is_here from to u n) (counts u n - 1) (counts u n)

fewer_le : (t : Bool) (k : ℕ) → cond t (k - 1) k ≤ k
fewer_le true k = omega arith
fewer_le false k = omega arith

-- the counts after landings on these ways
abbrev after : List (NodeId × NodeId) → Counts → Counts
after [] counts = counts
after (way ∷ others) counts = after others (fewer counts way.0 way.1)

after_both : (ways others : List (NodeId × NodeId)) (counts : Counts) → after (ways ++ others) counts ≡ after others (after ways counts)
after_both [] others counts = refl
after_both (way ∷ ways) others counts = after_both ways others (fewer counts way.0 way.1)

after_le : (ways : List (NodeId × NodeId)) (counts : Counts) (u n : NodeId) → after ways counts u n ≤ counts u n
after_le [] counts u n = omega arith
after_le (way ∷ others) counts u n = le_trans (after_le others (fewer counts way.0 way.1) u n) (fewer_le (is_here way.0 way.1 u n) (counts u n))

-- as many landings as there are copies
all_land : (count : ℕ) (way : NodeId × NodeId) (counts : Counts) (u n : NodeId) → is_here way.0 way.1 u n ≡ true → counts u n ≤ count
    → after (replicate count way) counts u n ≡ 0
all_land zero way counts u n e le = omega (arith, le)
all_land (suc count) way counts u n e le =
    let one : fewer counts way.0 way.1 u n ≡ counts u n - 1 = ap (λ (b : Bool). cond b (counts u n - 1) (counts u n)) e in
    all_land count way (fewer counts way.0 way.1) u n e (omega (arith, one, le))

module _ (lengths : Counts) where
  abbrev each_way : NodeId × NodeId → List (NodeId × NodeId)
  each_way way = replicate (lengths way.0 way.1) way

  none_left : (ways : List (NodeId × NodeId)) (counts : Counts) → ((u n : NodeId) → counts u n ≤ lengths u n) → (u n : NodeId)
      → is_way ways u n ≡ true → after (flat_map each_way ways) counts u n ≡ 0
  none_left [] counts le u n is = absurd cc
  none_left (way ∷ others) counts le u n is =
      let next : Counts = after (each_way way) counts in
      let whole = after_both (each_way way) (flat_map each_way others) counts in
      let lower : (v m : NodeId) → next v m ≤ lengths v m = λ v m. le_trans (after_le (each_way way) counts v m) (le v m) in
      ap (λ (c : Counts). c u n) whole ∙ elim (or_cases (is_here way.0 way.1 u n) (is_way others u n) is) [
        | inr later ↦ none_left others next lower u n later
        | inl here ↦
            let same : lengths u n ≡ lengths way.0 way.1 = here_is (λ v m. lengths v m ≡ lengths way.0 way.1) way.0 way.1 u n here refl in
            let x = le u n in
            let none : next u n ≡ 0 = all_land (lengths way.0 way.1) way counts u n here (omega (arith, x, same)) in
            let y = after_le (flat_map each_way others) next u n in
            omega (arith, none, y)
      ]

-- ---- worlds

-- on these ways the first copies go one hop further than those after them
abbrev Staged : List (NodeId × NodeId) → ℕ → Counts → World → Type 0
Staged ways most counts world = (u n : NodeId) → is_way ways u n ≡ true → Fronted most (counts u n) (world.copies u n)

put_fronted : (most count : ℕ) (t : Bool) (here old : List LinkCopy) (new : LinkCopy) → IsAlive most new → (t ≡ true → Fronted most count here)
    → Fronted most count old → Fronted most count (cond t (here ++ new ∷ []) old)
put_fronted most count true here old new is h k = fronted_more most count here new is (h refl)
put_fronted most count false here old new is h k = k

module _ (ways : List (NodeId × NodeId)) (most : ℕ) where
  branches_staged : (node : NodeId) (ttl number : ℕ) (branches : List Branch) (counts : Counts) (world : World) → (1 ≤ ttl) × (ttl ≤ most)
      → Staged ways most counts world → Staged ways most counts (with_branches node ttl number branches world)
  branches_staged node ttl number [] counts world is staged = staged
  branches_staged node ttl number (branch ∷ others) counts world is staged =
      let here : List LinkCopy = world.copies node branch.node in
      let copy : LinkCopy = copy_on world ttl number branch in
      branches_staged node ttl number others counts (with_copies node branch.node (here ++ copy ∷ []) world) is
      (λ u n listed. put_fronted most (counts u n) (is_here node branch.node u n) here (world.copies u n) copy is
      (λ t. here_is (λ v m. Fronted most (counts u n) (world.copies v m) → Fronted most (counts u n) here) node branch.node u n t (λ h. h)
      (staged u n listed)) (staged u n listed))

  -- a first copy that leaves its link
  cut_fronted : (counts : Counts) (from to u n : NodeId) (t : Bool) (rest old : List LinkCopy) → (t ≡ true → Fronted most (counts u n - 1) rest)
      → Fronted most (counts u n) old → Fronted most (cond t (counts u n - 1) (counts u n)) (cond t rest old)
  cut_fronted counts from to u n true rest old h k = h refl
  cut_fronted counts from to u n false rest old h k = k

  landed_staged : (counts : Counts) (world : World) (from to : NodeId) (copy : LinkCopy) (d : Option Datagram) → IsAlive (suc most) copy
      → Staged ways most counts world → Staged ways most counts (landed world from to copy d).world
  landed_staged counts world from to copy None is staged = staged
  landed_staged counts world from to copy (Some datagram) is staged =
      on_branches (Staged ways most counts) to copy.ttl most copy.number (fate_at world to (world.network.state.node to) from copy.label datagram)
      world is.1 staged
      (λ branches fits. branches_staged to (copy.ttl - 1) copy.number branches counts world fits staged)

  none_here : (t : Bool) (count : ℕ) (copies : List LinkCopy) → (t ≡ true → copies ≡ []) → Fronted most count copies
      → Fronted most (cond t (count - 1) count) copies
  none_here true count copies none h = subst (Fronted most (count - 1)) (sym (none refl)) (fronted_none most (count - 1))
  none_here false count copies none h = h

  land_by : (counts : Counts) (world : World) (from to : NodeId) (copies : List LinkCopy) → world.copies from to ≡ copies → is_way ways from to ≡ true
      → Staged ways most counts world
      → Staged ways most (fewer counts from to) (landing world from to 1 (slice_get copies 0)).world
  land_by counts world from to [] e listed staged = λ u n is.
      none_here (is_here from to u n) (counts u n) (world.copies u n) (λ t. here_is (λ v m. world.copies v m ≡ []) from to u n t e) (staged u n is)
  land_by counts world from to (copy ∷ others) e listed staged =
      let front : Fronted most (counts from to) (copy ∷ others) = subst (Fronted most (counts from to)) e (staged from to listed) in
      let rest : remove (world.copies from to) 0 ≡ others = ap (λ (cs : List LinkCopy). remove cs 0) e in
      let left : Staged ways most (fewer counts from to) (without_copy world from to 1) = λ u n is.
      cut_fronted counts from to u n (is_here from to u n) (remove (world.copies from to) 0) (world.copies u n)
      (λ t. subst (Fronted most (counts u n - 1)) (sym rest)
      (here_is (λ v m. Fronted most (counts v m - 1) others) from to u n t (fronted_rest most (counts from to) copy others front)))
      (staged u n is) in
      landed_staged (fewer counts from to) (without_copy world from to 1) from to copy (datagram_at world copy.number)
      (fronted_first most (counts from to) copy others front) left

  land_staged : (counts : Counts) (world : World) (from to : NodeId) → is_way ways from to ≡ true → Staged ways most counts world
      → Gives (Staged ways most (fewer counts from to)) (act world (Land from to 1))
  land_staged counts world from to listed staged = land_by counts world from to (world.copies from to) refl listed staged

-- the first copy of a way lands
abbrev land : NodeId × NodeId → Act
land way = Land way.0 way.1 1

module _ (scenario : Scenario) where
  abbrev ways : List (NodeId × NodeId)
  ways = link_ways scenario

  abbrev Same : World → Type 0
  Same world = scenario_of world ≡ scenario

  row_staged : (most : ℕ) (order : List (NodeId × NodeId)) → AllByRecursion (λ (way : NodeId × NodeId). is_way ways way.0 way.1 ≡ true) order
      → (counts : Counts) (world : World) → Same world × Staged ways most counts world
      → Comes (λ next. Same next × Staged ways most (after order counts) next) (row (map land order) world)
  row_staged most [] listed counts world h = h
  row_staged most (way ∷ others) listed counts world h =
      let next_counts : Counts = fewer counts way.0 way.1 in
      then_comes (λ next. Same next × Staged ways most next_counts next) (λ next. Same next × Staged ways most (after others next_counts) next)
      (one_act world (land way)) (row (map land others))
      (one_comes (λ next. Same next × Staged ways most next_counts next) world (land way)
      (both_give Same (Staged ways most next_counts) (act world (land way))
      (land_keeps (λ (network : OctetNetwork Nodes). network.state.scenario ≡ scenario) world way.0 way.1 1 h.0)
      (land_staged ways most counts world way.0 way.1 listed.0 h.1)))
      (λ next p. row_staged most others listed.1 next_counts next p)

  -- ---- rounds

  map_replicate : (count : ℕ) (way : NodeId × NodeId) → replicate count (land way) ≡ map land (replicate count way)
  map_replicate zero way = refl
  map_replicate (suc count) way = ap (λ (acts : List Act). land way ∷ acts) (map_replicate count way)

  map_both : (xs ys : List (NodeId × NodeId)) → map land xs ++ map land ys ≡ map land (xs ++ ys)
  map_both [] ys = refl
  map_both (x ∷ xs) ys = ap (λ (acts : List Act). land x ∷ acts) (map_both xs ys)

  landings_are : (world : World) (order : List (NodeId × NodeId))
      → flat_map (landings world) order ≡ map land (flat_map (each_way (λ u n. length (world.copies u n))) order)
  landings_are world [] = refl
  landings_are world (way ∷ others) =
      (λ i. map_replicate (length (world.copies way.0 way.1)) way i ++ landings_are world others i)
      ∙ map_both (replicate (length (world.copies way.0 way.1)) way) (flat_map (each_way (λ u n. length (world.copies u n))) others)

  way_listed : (order : List (NodeId × NodeId)) (way : NodeId × NodeId) → Among way order → is_way order way.0 way.1 ≡ true
  way_listed order way a =
      any_from (λ other. is_here other.0 other.1 way.0 way.1) way order a
      (and_from (way.0.0 == way.0.0) (way.1.0 == way.1.0) (node_itself way.0 way.0 refl) (node_itself way.1 way.1 refl))

  all_listed : (P : NodeId × NodeId → Type 0) (count : NodeId × NodeId → ℕ) (order : List (NodeId × NodeId))
      → ((way : NodeId × NodeId) → Among way order → P way) → AllByRecursion P (flat_map (λ way. replicate (count way) way) order)
  all_listed P count [] h = tt
  all_listed P count (way ∷ others) h = together (count way) (all_listed P count others (λ w a. h w (inr a)))
    where
      together : (k : ℕ) → AllByRecursion P (flat_map (λ w. replicate (count w) w) others)
          → AllByRecursion P (replicate k way ++ flat_map (λ w. replicate (count w) w) others)
      together zero rest = rest
      together (suc k) rest = (h way (inl refl), together k rest)

  -- each copy on a link goes at most so far
  abbrev Within : ℕ → World → Type 0
  Within most world = Same world × ((u n : NodeId) → is_way ways u n ≡ true → AllByRecursion (IsAlive most) (world.copies u n))

  round_lowers : (most : ℕ) (world : World) → Within (suc most) world → Comes (Within most) (drain_round world)
  round_lowers most world (same, alive) =
      let lengths : Counts = λ u n. length (world.copies u n) in
      let order : List (NodeId × NodeId) = flat_map (each_way lengths) ways in
      let acts_are : map land order ≡ flat_map (landings world) (link_ways (scenario_of world)) =
      sym (landings_are world ways) ∙ ap (λ (s : Scenario). flat_map (landings world) (link_ways s)) (sym same) in
      subst (λ (acts : List Act). Comes (Within most) (row acts world)) acts_are
      (comes_as (λ next. Same next × Staged ways most (after order lengths) next) (Within most) (row (map land order) world)
      (λ next p. (
        p.0,
        λ u n listed. subst (λ (k : ℕ). Fronted most k (next.copies u n))
            (none_left lengths ways lengths (λ v m. omega arith) u n listed) (p.1 u n listed),
      ))
      (row_staged most order (all_listed (λ way. is_way ways way.0 way.1 ≡ true) (λ way. lengths way.0 way.1) ways (way_listed ways)) lengths world
      (same, λ u n listed. all_fronted most (world.copies u n) (alive u n listed))))

  rounds_lower : (most : ℕ) (world : World) → Within most world → Comes (Within 0) (times drain_round most world)
  rounds_lower zero world h = h
  rounds_lower (suc most) world h =
      then_comes (Within most) (Within 0) (drain_round world) (times drain_round most) (round_lowers most world h)
      (λ next p. rounds_lower most next p)

  none_alive : (copies : List LinkCopy) → AllByRecursion (IsAlive 0) copies → copies ≡ []
  none_alive [] all = refl
  none_alive (copy ∷ others) all = let low = all.0.0 in let high = all.0.1 in absurd (omega (arith, low, high))

  no_copies : (copies : NodeId × NodeId → List LinkCopy) (order : List (NodeId × NodeId))
      → ((way : NodeId × NodeId) → Among way order → copies way ≡ []) → flat_map copies order ≡ []
  no_copies copies [] h = refl
  no_copies copies (way ∷ others) h =
      ap (λ (cs : List LinkCopy). cs ++ flat_map copies others) (h way (inl refl)) ∙ no_copies copies others (λ w a. h w (inr a))

  is_drained : (world : World) → Within 0 world → IsDrained world
  is_drained world (same, alive) =
      ap (λ (s : Scenario). flat_map (λ (way : NodeId × NodeId). world.copies way.0 way.1) (link_ways s)) same
      ∙ no_copies (λ way. world.copies way.0 way.1) ways (λ way a. none_alive (world.copies way.0 way.1) (alive way.0 way.1 (way_listed ways way a)))

drained_comes : (world : World) → AreAlive world → Comes IsDrained (drained world)
drained_comes world alive =
    let scenario = scenario_of world in
    comes_as (Within scenario 0) IsDrained (drained world) (is_drained scenario) (rounds_lower scenario 255 world (refl, λ u n listed. alive u n))

pub drain_drains : (world : World) → AreAlive world → (line : ℕ) (acts : List Happened) (next : World)
    → outcome world (record { line = line; event = events.Drain }) ≡ Done acts next → IsDrained next
drain_drains world alive line acts next e = subst (Comes IsDrained) e (drained_comes world alive)
