-- A drain leaves no copy on a link.
use Rattle.std.specs.Prelude.{⊤, replicate, count_by, slice_get, ◌==◌, ◌&&◌}
use Rattle.std.proofs.Common.{◌≡◌, ℕ, zero, suc, ◌-◌, ◌≤◌, Bool, true, cond, ◌++◌, drop, length, List, [], ◌∷◌, Option, None, Some, is_some, refl, sym, ap, subst, inl, inr, ◌∙◌, arith}
use Rattle.std.specs.List.{flat_map, AllByRecursion, remove}
use Rattle.std.proofs.lemmas.Bool.{cases_Bool, and_parts, and_from, eq-eqb, cond_both, cond-true, cond-false, true≢false}
use Rattle.mv_base.specs.declared.addr.Addr.TheVariants.{V4}
use Rattle.mv_base.specs.declared.ids.NodeId.{NodeId}
use Rattle.label_defs.specs.declared.branch.Branch.{Branch}
use Rattle.label_defs.proofs.KeyLemmas.{node_equal}
use Rattle.label_defs.proofs.MemberLemmas.{count-cons}
use Rattle.network_defs.specs.session_defs.Octets.{OctetNetwork}
use Rattle.network_defs.specs.Acts.{Act, Land, act, copy_on, with_branches, datagram_at, fate_at, with_ttl, landed, without_copy, landing}
use Rattle.network_defs.specs.Counts.{link_ways}
use Rattle.network_defs.specs.Events.{Happened, Outcome, Done, Halted, one_act, row, times, landings, drain_round, drained}
use Rattle.network_defs.specs.Nodes.{Nodes}
use Rattle.network_defs.specs.World.{World, Datagram, LinkCopy, scenario_of, with_copies}
use Rattle.delivery_laws.specs.Flood.{is_way, SoundCopy, OnLinks}
use Rattle.delivery_laws.proofs.Copies.{all_at, all_but_one, EachCopy, each_replaced, branches_each}
use Rattle.delivery_laws.proofs.Rows.{Ready, Comes, are_landings, landings_come}
use Rattle.delivery_laws.proofs.Outcomes.{IsOfLines, Leads, Gives, then_leads, one_leads}
use Rattle.network_laws.proofs.Lists.{each_weaker, each_append}

-- ---- one direction

-- of a list with more after, what is left of the list, and more
drop_both : {X : Type 0} (P : X → Type 0) (count : ℕ) (xs ys : List X) → AllByRecursion P (drop count xs) → AllByRecursion P ys
    → AllByRecursion P (drop count (xs ++ ys))
drop_both P zero xs ys h k = each_append P xs ys h k
drop_both P (suc count) [] ys h k = shorter count ys k
  where
    shorter : (n : ℕ) (list : List _) → AllByRecursion P list → AllByRecursion P (drop (suc n) list)
    shorter n [] a = tt
    shorter zero (x ∷ list) a = a.1
    shorter (suc n) (x ∷ list) a = shorter n list a.1
drop_both P (suc count) (x ∷ xs) ys h k = drop_both P count xs ys h k

-- a copy with at most that TTL
abbrev pub AtMost : ℕ → LinkCopy → Type 0
AtMost limit copy = copy.ttl ≤ limit

abbrev pub EachAtMost : ℕ → World → Type 0
EachAtMost limit world = EachCopy (λ u n. AtMost limit) world.copies

no_lines : IsOfLines (λ all. ⊤)
no_lines = record { none = tt; both = λ first more a b. tt }

module _ (limit : ℕ) (u n : NodeId) where
  -- Each copy has at most one more than that TTL; on this direction all but the first ones have at most that TTL.
  pub record Mixed (first : ℕ) (world : World) : Type 0 where
    pub each : EachAtMost (suc limit) world
    pub thereafter : AllByRecursion (AtMost limit) (drop first (world.copies u n))

  branches_after : (first : ℕ) (node : NodeId) (ttl number : ℕ) → ttl ≤ limit → (list : List Branch) (world : World)
      → AllByRecursion (AtMost limit) (drop first (world.copies u n))
      → AllByRecursion (AtMost limit) (drop first ((with_branches node ttl number list world).copies u n))
  branches_after first node ttl number le [] world h = h
  branches_after first node ttl number le (branch ∷ more) world h =
      let old = world.copies node branch.node in
      let new = old ++ copy_on world ttl number branch ∷ [] in
      branches_after first node ttl number le more (with_copies node branch.node new world)
      (cond_both ((u.0 == node.0) && (n.0 == branch.node.0)) new (world.copies u n)
      (λ (l : List LinkCopy). AllByRecursion (AtMost limit) (drop first l))
      (λ t.
      let parts = and_parts (u.0 == node.0) (n.0 == branch.node.0) t in
      let here : world.copies u n ≡ old = λ i. world.copies (node_equal u node parts.0 i) (node_equal n branch.node parts.1 i) in
      drop_both (AtMost limit) first old (copy_on world ttl number branch ∷ [])
      (subst (λ (l : List LinkCopy). AllByRecursion (AtMost limit) (drop first l)) here h) (le, tt))
      (λ f. h))

  -- how many first ones are left after a landing
  abbrev left_by : ℕ → NodeId → NodeId → ℕ
  left_by first from to = cond ((u.0 == from.0) && (n.0 == to.0)) (first - 1) first

  first_gone : (first : ℕ) (xs : List LinkCopy) → AllByRecursion (AtMost limit) (drop first xs)
      → AllByRecursion (AtMost limit) (drop (first - 1) (remove xs 0))
  first_gone zero [] h = tt
  first_gone zero (x ∷ xs) h = h.1
  first_gone (suc first) [] h = nothing (suc first - 1)
    where
      nothing : (count : ℕ) → AllByRecursion (AtMost limit) (drop count [])
      nothing zero = tt
      nothing (suc count) = tt
  first_gone (suc first) (x ∷ xs) h =
      (let less : suc first - 1 ≡ first = omega arith in subst (λ k. AllByRecursion (AtMost limit) (drop k xs)) (sym less) h)

  without_first : (first : ℕ) (from to : NodeId) (world : World) → Mixed first world → Mixed (left_by first from to) (without_copy world from to 1)
  without_first first from to world m = record {
    each = each_replaced (λ a b. AtMost (suc limit)) from to (remove (world.copies from to) 0) world.copies
        (all_but_one (AtMost (suc limit)) (world.copies from to) 0 (m.each from to)) m.each;
    thereafter = elim (cases_Bool ((u.0 == from.0) && (n.0 == to.0))) [
      | inl t ↦
          let parts = and_parts (u.0 == from.0) (n.0 == to.0) t in
          let here : world.copies u n ≡ world.copies from to = λ i. world.copies (node_equal u from parts.0 i) (node_equal n to parts.1 i) in
          subst (λ (b : Bool). AllByRecursion (AtMost limit)
          (drop (cond b (first - 1) first) (cond b (remove (world.copies from to) 0) (world.copies u n)))) (sym t)
          (first_gone first (world.copies from to) (subst (λ (l : List LinkCopy). AllByRecursion (AtMost limit) (drop first l)) here m.thereafter))
      | inr f ↦ subst (λ (b : Bool). AllByRecursion (AtMost limit)
          (drop (cond b (first - 1) first) (cond b (remove (world.copies from to) 0) (world.copies u n)))) (sym f) m.thereafter
    ];
  }

  empty_first : (first : ℕ) (from to : NodeId) (world : World) → slice_get (world.copies from to) 0 ≡ None → Mixed first world
      → Mixed (left_by first from to) world
  empty_first first from to world e m = record {
    each = m.each;
    thereafter = elim (cases_Bool ((u.0 == from.0) && (n.0 == to.0))) [
      | inl t ↦
          let parts = and_parts (u.0 == from.0) (n.0 == to.0) t in
          let here : world.copies from to ≡ world.copies u n =
          λ i. world.copies (sym (node_equal u from parts.0) i) (sym (node_equal n to parts.1) i) in
          nothing (left_by first from to) (world.copies u n) (subst (λ (l : List LinkCopy). slice_get l 0 ≡ None) here e)
      | inr f ↦ subst (λ (b : Bool). AllByRecursion (AtMost limit) (drop (cond b (first - 1) first) (world.copies u n))) (sym f) m.thereafter
    ];
  }
    where
      nothing : (count : ℕ) (list : List LinkCopy) → slice_get list 0 ≡ None → AllByRecursion (AtMost limit) (drop count list)
      nothing zero [] h = tt
      nothing (suc count) [] h = tt
      nothing count (x ∷ list) h = absurd (true≢false (ap is_some h))

  landed_mixed : (first : ℕ) (from to : NodeId) (world : World) (copy : LinkCopy) → copy.ttl ≤ suc limit → Mixed first world → (o : Option Datagram)
      → Mixed (left_by first from to) (landed (without_copy world from to 1) from to copy o).world
  landed_mixed first from to world copy le m None = without_first first from to world m
  landed_mixed first from to world copy le m (Some own) =
      let before = without_copy world from to 1 in
      let fate = with_ttl copy.ttl (fate_at before to (before.network.state.node to) from copy.label own) in
      let w = without_first first from to world m in
      let less : copy.ttl - 1 ≤ limit = omega (arith, le) in
      record {
        each = branches_each (λ a b. AtMost (suc limit)) to (copy.ttl - 1) copy.number fate.branches before
            (every fate.branches (omega (arith, less))) w.each;
        thereafter = branches_after (left_by first from to) to (copy.ttl - 1) copy.number less fate.branches before w.thereafter;
      }
    where
      every : (list : List Branch) → copy.ttl - 1 ≤ suc limit
          → AllByRecursion (λ branch. AtMost (suc limit) (copy_on (without_copy world from to 1) (copy.ttl - 1) copy.number branch)) list
      every [] h = tt
      every (branch ∷ more) h = (h, every more h)

  landing_mixed : (first : ℕ) (from to : NodeId) (world : World) → Mixed first world → (o : Option LinkCopy) → slice_get (world.copies from to) 0 ≡ o
      → Mixed (left_by first from to) (landing world from to 1 o).world
  landing_mixed first from to world m None e = empty_first first from to world e m
  landing_mixed first from to world m (Some copy) e =
      landed_mixed first from to world copy (all_at (AtMost (suc limit)) (world.copies from to) 0 copy (m.each from to) e) m
      (datagram_at world copy.number)

  -- ---- a row of landings

  -- each act lands the first copy of a direction
  abbrev IsFirst : Act → Type 0
  IsFirst (Land from to place) = place ≡ 1
  IsFirst other = ⊥

  abbrev left_over : ℕ → List Act → ℕ
  left_over first [] = first
  left_over first (Land from to place ∷ more) = left_over (left_by first from to) more
  left_over first (other ∷ more) = left_over first more

  row_mixed : (acts : List Act) → AllByRecursion IsFirst acts → (first : ℕ) (world : World) → Mixed first world
      → Leads (λ all. ⊤) (Mixed (left_over first acts)) (row acts world)
  row_mixed [] h first world m = (tt, m)
  row_mixed (Land from to place ∷ more) h first world m =
      then_leads (λ all. ⊤) no_lines (Mixed (left_by first from to)) (Mixed (left_over (left_by first from to) more))
      (one_act world (Land from to place)) (row more)
      (one_leads (λ all. ⊤) no_lines (Mixed (left_by first from to)) world (Land from to place)
      (subst (λ p. Gives (λ all. ⊤) (Mixed (left_by first from to)) (act world (Land from to p))) (sym h.0)
      (tt, landing_mixed first from to world m (slice_get (world.copies from to) 0) refl)))
      (λ next w. row_mixed more h.1 (left_by first from to) next w)
  row_mixed (other ∷ more) h first world m = absurd h.0

  -- ---- what is left of a direction

  left_both : (xs ys : List Act) (first : ℕ) → left_over first (xs ++ ys) ≡ left_over (left_over first xs) ys
  left_both [] ys first = refl
  left_both (Land from to place ∷ xs) ys first = left_both xs ys (left_by first from to)
  left_both (other ∷ xs) ys first = left_both xs ys first

  by_less : (first : ℕ) (from to : NodeId) → left_by first from to ≤ first
  by_less first from to = cond_both ((u.0 == from.0) && (n.0 == to.0)) (first - 1) first (λ k. k ≤ first) (λ t. omega arith) (λ f. omega arith)

  left_less : (acts : List Act) (first : ℕ) → left_over first acts ≤ first
  left_less [] first = omega arith
  left_less (Land from to place ∷ more) first = omega (arith, left_less more (left_by first from to), by_less first from to)
  left_less (other ∷ more) first = left_less more first

  left_copies : (from to : NodeId) → u ≡ from → n ≡ to → (count first : ℕ) → left_over first (replicate count (Land from to 1)) ≡ first - count
  left_copies from to a b zero first = omega arith
  left_copies from to a b (suc count) first =
      let same : ((u.0 == from.0) && (n.0 == to.0)) ≡ true =
      and_from (u.0 == from.0) (n.0 == to.0) (eq-eqb u.0 from.0 (ap (λ (x : NodeId). x.0) a)) (eq-eqb n.0 to.0 (ap (λ (x : NodeId). x.0) b)) in
      let one : left_by first from to ≡ first - 1 = cond-true ((u.0 == from.0) && (n.0 == to.0)) (first - 1) first same in
      omega (arith, left_copies from to a b count (left_by first from to), one)

  left_ways : (world : World) (ways : List (NodeId × NodeId)) → count_by (is_way u n) ways ≡ 1 → (first : ℕ) → first ≤ length (world.copies u n)
      → left_over first (flat_map (landings world) ways) ≡ 0
  left_ways world [] h first le = absurd (omega (arith, h))
  left_ways world (way ∷ more) h first le =
      let here = landings world way in
      let thereafter = flat_map (landings world) more in
      elim (cases_Bool (is_way u n way)) [
        | inl t ↦
            let parts = and_parts (way.0.0 == u.0) (way.1.0 == n.0) t in
            let near : u ≡ way.0 = sym (node_equal way.0 u parts.0) in
            let far : n ≡ way.1 = sym (node_equal way.1 n parts.1) in
            let long : length (world.copies u n) ≡ length (world.copies way.0 way.1) = λ i. length (world.copies (near i) (far i)) in
            let gone = left_copies way.0 way.1 near far (length (world.copies way.0 way.1)) first in
            omega (arith, left_both here thereafter first, left_less thereafter (left_over first here), gone, long, le)
        | inr f ↦
            let none : cond {A = ℕ} (is_way u n way) 1 0 ≡ 0 = cond-false (is_way u n way) 1 0 f in
            let rest =
            left_ways world more (omega (arith, count-cons (is_way u n) way more, none, h)) (left_over first here)
            (omega (arith, left_less here first, le)) in
            left_both here thereafter first ∙ rest
      ]

  are_first : (world : World) (ways : List (NodeId × NodeId)) → AllByRecursion IsFirst (flat_map (landings world) ways)
  are_first world [] = tt
  are_first world (way ∷ more) =
      each_append IsFirst (landings world way) (flat_map (landings world) more) (copies (length (world.copies way.0 way.1))) (are_first world more)
    where
      copies : (count : ℕ) → AllByRecursion IsFirst (replicate count (Land way.0 way.1 1))
      copies zero = tt
      copies (suc count) = (refl, copies count)

  -- After a round each copy on this direction has at most that TTL.
  round_mixed : (world : World) (ways : List (NodeId × NodeId)) → count_by (is_way u n) ways ≡ 1 → EachAtMost (suc limit) world
      → Leads (λ all. ⊤) (Mixed 0) (row (flat_map (landings world) ways) world)
  round_mixed world ways h each =
      let first = length (world.copies u n) in
      subst (λ k. Leads (λ all. ⊤) (Mixed k) (row (flat_map (landings world) ways) world)) (left_ways world ways h first (omega arith))
      (row_mixed (flat_map (landings world) ways) (are_first world ways) first world (record { each = each; thereafter = gone (world.copies u n) }))
    where
      gone : (list : List LinkCopy) → AllByRecursion (AtMost limit) (drop (length list) list)
      gone [] = tt
      gone (x ∷ list) = gone list

-- ---- rounds

-- no copy is on a link
abbrev pub IsEmpty : World → Type 0
IsEmpty world = (u n : NodeId) → world.copies u n ≡ []

module _ (network : OctetNetwork Nodes) (datagrams : List Datagram) (links : OnLinks network) where
  abbrev Bounded : ℕ → World → Type 0
  Bounded limit world = Ready network datagrams world × EachAtMost limit world

  nobody : Datagram
  nobody = record { site = record { 0 = 0 }; source = V4 []; group = V4 []; octets = [] }

  -- After a round each copy has one less.
  round_bounded : (limit : ℕ) (world : World) → Bounded (suc limit) world → Leads (λ all. ⊤) (Bounded limit) (drain_round world)
  round_bounded limit world b =
      let ways : List (NodeId × NodeId) = link_ways (scenario_of world) in
      by (drain_round world)
      (landings_come network datagrams links (suc (length datagrams)) nobody (record { 0 = 0 }) (λ le. absurd (omega (arith, le)))
      (flat_map (landings world) ways) (are_landings network datagrams links (suc (length datagrams)) nobody (record { 0 = 0 })
      (λ le. absurd (omega (arith, le))) world ways) world b.0)
      (λ u n h. round_mixed limit u n world ways (subst (λ (x : OctetNetwork Nodes). count_by (is_way u n) (link_ways x.state.scenario) ≡ 1)
      (sym b.0.network_is) h) b.1)
    where
      each : (u n : NodeId) (list : List LinkCopy) → AllByRecursion (SoundCopy (link_ways network.state.scenario) (length datagrams) u n) list
          → (count_by (is_way u n) (link_ways network.state.scenario) ≡ 1 → AllByRecursion (AtMost limit) list) → AllByRecursion (AtMost limit) list
      each u n [] s h = tt
      each u n (copy ∷ more) s h = h s.0.on_way

      by : (o : Outcome) → Comes network datagrams links (suc (length datagrams)) nobody (record { 0 = 0 }) (λ le. absurd (omega (arith, le))) world 0
          o
          → ((u n : NodeId) → count_by (is_way u n) (link_ways network.state.scenario) ≡ 1 → Leads (λ all. ⊤) (Mixed limit u n 0) o)
          → Leads (λ all. ⊤) (Bounded limit) o
      by (Halted done node) c m = tt
      by (Done done new) c m = (tt, (c.ready, λ u n. each u n (new.copies u n) (c.ready.sound u n) (λ h. (m u n h).1.thereafter)))

  rounds_bounded : (count : ℕ) (world : World) → Bounded count world → Leads (λ all. ⊤) (Bounded 0) (times drain_round count world)
  rounds_bounded zero world b = (tt, b)
  rounds_bounded (suc count) world b =
      then_leads (λ all. ⊤) no_lines (Bounded count) (Bounded 0) (drain_round world) (times drain_round count) (round_bounded count world b)
      (λ next c. rounds_bounded count next c)

  none_left : (world : World) → Bounded 0 world → IsEmpty world
  none_left world b u n = by (world.copies u n) (b.0.sound u n) (b.1 u n)
    where
      by : (list : List LinkCopy) → AllByRecursion (SoundCopy (link_ways network.state.scenario) (length datagrams) u n) list
          → AllByRecursion (AtMost 0) list → list ≡ []
      by [] s h = refl
      by (copy ∷ more) s h = (let alive = s.0.alive in let low = h.0 in absurd (omega (arith, alive, low)))

  -- After a drain no copy is on a link.
  pub drain_empties : (world : World) → Ready network datagrams world → (acts : List Happened) (next : World) → drained world ≡ Done acts next
      → IsEmpty next
  drain_empties world r acts next e =
      let bounded : EachAtMost 255 world =
      λ u n. each_weaker (SoundCopy (link_ways network.state.scenario) (length datagrams) u n) (AtMost 255) (λ copy s. s.bounded)
      (world.copies u n) (r.sound u n) in
      none_left next (subst (Leads (λ all. ⊤) (Bounded 0)) e (rounds_bounded 255 world (r, bounded))).1
