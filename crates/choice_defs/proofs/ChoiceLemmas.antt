-- What is chosen.
use Rattle.std.proofs.Common.{◌≡◌, ℕ, Bool, cond, ◌<◌, ◌≤◌, ◌==◌, true, false, ◌↔◌, inl, inr, List, Option, Some, None, option_map, refl, sym, ap, subst, ◌∙◌, arith}
use Rattle.std.proofs.lemmas.Bool.Decides.{nat_tests}
use Rattle.std.proofs.lemmas.Option.{same_Some}
use Rattle.std.specs.Ordering.{nat_cmp, is_lt, ordering_then}
use Rattle.std.specs.declared.cmp.Ordering.TheVariants.{Less}
use Rattle.scenario_defs.specs.mv_base.Prefix.{covers, same_front}
use Rattle.scenario_defs.specs.mv_base.declared.addr.Addr.{Addr}
use Rattle.scenario_defs.specs.mv_base.declared.addr.Addr.TheVariants.{V4, V6}
use Rattle.scenario_defs.specs.mv_base.declared.ids.NodeId.{NodeId}
use Rattle.scenario_defs.specs.mv_base.declared.ids.SiteId.{SiteId}
use Rattle.scenario_defs.specs.mv_base.declared.prefix.Prefix.{Prefix}
use Rattle.scenario_defs.specs.mv_base.declared.rd.Rd.{Rd}
use Rattle.scenario_defs.specs.mv_base.declared.rd.Rule.{Rule}
use Rattle.scenario_defs.specs.mv_base.declared.rd.Rule.TheVariants.{Highest, Nearest, Hash}
use Rattle.choice_defs.specs.declared.known_route.KnownRoute.{KnownRoute}
use Rattle.choice_defs.specs.declared.origin.Origin.{Origin}
use Rattle.choice_defs.specs.declared.origin.Origin.TheVariants.{Local, Remote}
use Rattle.choice_defs.specs.Choice.{Among, addr_cmp, rd_cmp, IsLower, cost_unless, cost_by, remote_cmp, origin_cmp, is_better, best_route, choose, IsHigher, IsFirst, Precedes, IsCandidate, IsHashed, IsChosen, IsUncovered, AreTold, AreOfEdges, IsOnePrefix, AreOfSites, AreLocal, IsSiteOfLongest}
use Rattle.choice_defs.proofs.OrderLemmas.{less_twice, then_not_less, nat_greater, nat_equal, greater_back, not_itself, not_both, tied, addr_cmp_total, rd_cmp_total, one_addr, one_rd}
use Rattle.choice_defs.proofs.BestLemmas.{opposite, Best, BestIs, best}
use Rattle.choice_defs.proofs.HashLemmas.{edge_of_candidate, Names, names, one_hashed}

-- ---- the best is chosen

higher : (e : NodeId) (a : Addr) (r : Rd) (f : NodeId) (b : Addr) (s : Rd) → (e ≡ f) ↔ (a ≡ b)
    → is_lt (ordering_then (addr_cmp a b) (rd_cmp s r)) ≡ false → IsHigher e a r f b s
higher e a r f b s told h = elim (then_not_less (addr_cmp a b) (rd_cmp s r) h) [
  | inl g ↦ inl (greater_back addr_cmp_total a b g)
  | inr k ↦ inr (told.1 (one_addr a b k.0), λ l. less_twice (rd_cmp s r) l k.1)
]

first_by : (rule : Rule) (cost : NodeId → ℕ) (routes : List KnownRoute) (source group : Addr) (e : NodeId) (a : Addr) (r : Rd) (f : NodeId) (b : Addr)
    (s : Rd) → (e ≡ f) ↔ (a ≡ b)
    → (rule ≡ Hash → IsHashed routes source group a) → is_lt (remote_cmp (cost_by rule cost routes source group) f b s e a r) ≡ false
    → IsFirst rule cost (IsHashed routes source group) e a r f b s
first_by Highest cost routes source group e a r f b s told named h = higher e a r f b s told h
first_by Nearest cost routes source group e a r f b s told named h =
    elim (then_not_less (nat_cmp (cost f) (cost e)) (ordering_then (addr_cmp a b) (rd_cmp s r)) h) [
      | inl g ↦ inl (nat_greater (cost f) (cost e) g)
      | inr k ↦ inr (sym (nat_equal (cost f) (cost e) k.0), higher e a r f b s told k.1)
    ]
first_by Hash cost routes source group e a r f b s told named h = (named refl, not_less_rd)
  where
    by_hash : NodeId → ℕ
    by_hash = cost_by Hash cost routes source group

    not_less_rd : e ≡ f → rd_cmp s r ≡ Less → ⊥
    not_less_rd same l = elim (then_not_less (nat_cmp (by_hash f) (by_hash e)) (ordering_then (addr_cmp a b) (rd_cmp s r)) h) [
      | inl g ↦ absurd (let less = nat_greater (by_hash f) (by_hash e) g in let level = ap by_hash same in omega (arith, less, level))
      | inr k ↦ elim (higher e a r f b s told k.1) [
        | inl lower ↦ not_itself addr_cmp_total a (subst (λ (x : Addr). IsLower x a) (sym (told.0 same)) lower)
        | inr one ↦ one.1 l
      ]
    ]

precedes : (rule : Rule) (cost : NodeId → ℕ) (routes : List KnownRoute) (source group : Addr) (x y : Origin) → AreTold x y
    → (rule ≡ Hash → (e : NodeId) (a : Addr) (r : Rd) → x ≡ Remote e a r → IsHashed routes source group a)
    → is_lt (origin_cmp (cost_by rule cost routes source group) y x) ≡ false → Precedes rule cost (IsHashed routes source group) x y
precedes rule cost routes source group (Local s) y told named h = tt
precedes rule cost routes source group (Remote e a r) (Local t) told named h = absurd cc
precedes rule cost routes source group (Remote e a r) (Remote f b s) told named h =
    first_by rule cost routes source group e a r f b s (told e f a b r s refl refl) (λ by. named by e a r refl) h

no_longer : (cost : NodeId → ℕ) (o r : KnownRoute) → is_better cost o r ≡ false → o.prefix.bits ≤ r.prefix.bits
no_longer cost o r h = elim (then_not_less (nat_cmp r.prefix.bits o.prefix.bits) (origin_cmp cost o.origin r.origin) h) [
  | inl g ↦ (let less : o.prefix.bits < r.prefix.bits = nat_greater r.prefix.bits o.prefix.bits g in omega (arith, less))
  | inr k ↦ (let same : r.prefix.bits ≡ o.prefix.bits = nat_equal r.prefix.bits o.prefix.bits k.0 in omega (arith, same))
]

no_better : (cost : NodeId → ℕ) (o r : KnownRoute) → is_better cost o r ≡ false → o.prefix.bits ≡ r.prefix.bits
    → is_lt (origin_cmp cost o.origin r.origin) ≡ false
no_better cost o r h e = elim (then_not_less (nat_cmp r.prefix.bits o.prefix.bits) (origin_cmp cost o.origin r.origin) h) [
  | inl g ↦ absurd (let less : o.prefix.bits < r.prefix.bits = nat_greater r.prefix.bits o.prefix.bits g in omega (arith, less, e))
  | inr k ↦ k.1
]

-- what the best route says of a choice
record Gives (cost : NodeId → ℕ) (routes : List KnownRoute) (source : Addr) (origin : Origin) : Type 0 where
  route : KnownRoute
  is_best : Best cost routes source route
  of_origin : route.origin ≡ origin

given_by : (cost : NodeId → ℕ) (routes : List KnownRoute) (source : Addr) (origin : Origin) (found : Option KnownRoute)
    → BestIs cost routes source found
    → option_map (λ route. route.origin) found ≡ Some origin → Gives cost routes source origin
given_by cost routes source origin None b e = absurd cc
given_by cost routes source origin (Some r) b e = record { route = r; is_best = b; of_origin = same_Some r.origin origin e }

given : (cost : NodeId → ℕ) (routes : List KnownRoute) (source : Addr) (origin : Origin)
    → option_map (λ route. route.origin) (best_route cost routes source) ≡ Some origin → Gives cost routes source origin
given cost routes source origin e = given_by cost routes source origin (best_route cost routes source) (best cost routes source) e

-- a best route is a candidate
candidate : (cost : NodeId → ℕ) (routes : List KnownRoute) (source : Addr) (r : KnownRoute) → Best cost routes source r → IsCandidate routes source r
candidate cost routes source r b = record { among = b.among; covering = b.covering; longest = λ o a c. no_longer cost o r (b.best o a c) }

-- candidates are of one length
one_length : (routes : List KnownRoute) (source : Addr) (x y : KnownRoute) → IsCandidate routes source x → IsCandidate routes source y
    → x.prefix.bits ≡ y.prefix.bits
one_length routes source x y c d =
    let below : y.prefix.bits ≤ x.prefix.bits = c.longest y d.among d.covering in
    let above : x.prefix.bits ≤ y.prefix.bits = d.longest x c.among c.covering in
    omega (arith, below, above)

-- ---- the best by Hash is of the edge that the hash names

costs_nothing : (e f : NodeId) (h : Option NodeId) → h ≡ Some f → cost_unless h f ≡ 0
costs_nothing e f h is = ap (λ (o : Option NodeId). cost_unless o f) is ∙ ap (λ (t : Bool). cond t 0 1) (itself f.0)
  where
    itself : (n : ℕ) → (n == n) ≡ true
    itself n = grind (arith, nat_tests)

one_node : (e f : NodeId) → (f.0 == e.0) ≡ true → e ≡ f
one_node e f t = let same : e.0 ≡ f.0 = grind (arith, nat_tests, t) in λ i. record { 0 = same i }

named_by : (e f : NodeId) (h : Option NodeId) → h ≡ Some f → cost_unless h e ≤ 0 → e ≡ f
named_by e f h is c = by (f.0 == e.0) refl (subst (λ (o : Option NodeId). cost_unless o e ≤ 0) is c)
  where
    by : (t : Bool) → (f.0 == e.0) ≡ t → cond t 0 1 ≤ 0 → e ≡ f
    by true same l = one_node e f same
    by false other l = absurd (omega (arith, l))

not_worse : (cost : NodeId → ℕ) (e : NodeId) (a : Addr) (r : Rd) (f : NodeId) (b : Addr) (s : Rd) → is_lt (remote_cmp cost f b s e a r) ≡ false
    → cost e ≤ cost f
not_worse cost e a r f b s h = elim (then_not_less (nat_cmp (cost f) (cost e)) (ordering_then (addr_cmp a b) (rd_cmp s r)) h) [
  | inl g ↦ (let less : cost e < cost f = nat_greater (cost f) (cost e) g in omega (arith, less))
  | inr k ↦ (let same : cost f ≡ cost e = nat_equal (cost f) (cost e) k.0 in omega (arith, same))
]

module _ (cost : NodeId → ℕ) (routes : List KnownRoute) (source group : Addr) (edges : AreOfEdges routes) where
  by_hash : NodeId → ℕ
  by_hash = cost_by Hash cost routes source group

  named_best : (x : KnownRoute) → Best by_hash routes source x → (e : NodeId) (a : Addr) (r : Rd) → x.origin ≡ Remote e a r
      → IsHashed routes source group a
  unfolding by_hash
  named_best x b e a r h = subst (IsHashed routes source group) (sym addresses) n.hashed
    where
      is : IsCandidate routes source x
      is = candidate by_hash routes source x b

      n : Names routes source group
      n = names routes source group a (record { route = x; edge = e; rd = r; candidate = is; of_edge = h })

      o : (route : KnownRoute) × (rd : Rd) × IsCandidate routes source route × (route.origin ≡ Remote n.edge n.address rd)
      o = edge_of_candidate routes source n.edge n.address n.among

      not_better : is_lt (origin_cmp by_hash o.0.origin x.origin) ≡ false
      not_better = no_better by_hash o.0 x (b.best o.0 o.2.among o.2.covering) (one_length routes source o.0 x o.2 is)

      no_worse : by_hash e ≤ by_hash n.edge
      no_worse = not_worse by_hash e a r n.edge n.address o.1 (ap (λ (t : Origin). is_lt (origin_cmp by_hash (Remote n.edge n.address o.1) t)) (sym h)
          ∙ ap (λ (t : Origin). is_lt (origin_cmp by_hash t x.origin)) (sym o.3) ∙ not_better)

      least : by_hash e ≤ 0
      least = subst (λ (k : ℕ). by_hash e ≤ k) (costs_nothing e n.edge _ n.is_named) no_worse

      addresses : a ≡ n.address
      addresses = (edges x o.0 b.among o.2.among e n.edge a n.address r o.1 h o.3).0 (named_by e n.edge _ n.is_named least)

named_when : (rule : Rule) (cost : NodeId → ℕ) (routes : List KnownRoute) (source group : Addr) → AreOfEdges routes → (x : KnownRoute)
    → Best (cost_by rule cost routes source group) routes source x → rule ≡ Hash → (e : NodeId) (a : Addr) (r : Rd) → x.origin ≡ Remote e a r
    → IsHashed routes source group a
unfolding by_hash
named_when Highest cost routes source group edges x b h = absurd cc
named_when Nearest cost routes source group edges x b h = absurd cc
named_when Hash cost routes source group edges x b h = named_best cost routes source group edges x b

pub chosen_when : (rule : Rule) (cost : NodeId → ℕ) (routes : List KnownRoute) (source group : Addr) (origin : Origin) → AreOfEdges routes
    → choose rule cost routes source group ≡ Some origin → IsChosen rule cost routes source group origin
chosen_when rule cost routes source group origin edges e =
    let costs = cost_by rule cost routes source group in
    let g = given costs routes source origin e in
    let is = candidate costs routes source g.route g.is_best in
    record {
      route = g.route;
      candidate = is;
      of_origin = g.of_origin;
      first = λ o c. precedes rule cost routes source group g.route.origin o.origin (edges g.route o g.is_best.among c.among)
          (named_when rule cost routes source group edges g.route g.is_best)
          (no_better costs o g.route (g.is_best.best o c.among c.covering) (one_length routes source o g.route c is));
    }

-- ---- no choice

none_by : (cost : NodeId → ℕ) (routes : List KnownRoute) (source : Addr) (found : Option KnownRoute) → BestIs cost routes source found
    → (option_map (λ route. route.origin) found ≡ None) ↔ IsUncovered routes source
none_by cost routes source None b = (λ e. b, λ u. refl)
none_by cost routes source (Some r) b = (λ e. absurd cc, λ u. absurd (opposite (covers r.prefix source) b.covering (u r b.among)))

pub none_when : (rule : Rule) (cost : NodeId → ℕ) (routes : List KnownRoute) (source group : Addr)
    → (choose rule cost routes source group ≡ None) ↔ IsUncovered routes source
none_when rule cost routes source group =
    let costs = cost_by rule cost routes source group in
    none_by costs routes source (best_route costs routes source) (best costs routes source)

-- ---- one choice

one_number : (x y z : ℕ) → (x == z) ≡ true → (y == z) ≡ true → (x == y) ≡ true
one_number x y z h k = grind (arith, nat_tests)

one_front : (a b c : Addr) (bits : ℕ) → same_front a c bits ≡ true → same_front b c bits ≡ true → same_front a b bits ≡ true
one_front (V4 xs) (V4 ys) (V4 zs) bits h k = one_number _ _ _ h k
one_front (V6 xs) (V6 ys) (V6 zs) bits h k = one_number _ _ _ h k
one_front (V4 xs) (V4 ys) (V6 zs) bits h k = absurd cc
one_front (V4 xs) (V6 ys) (V4 zs) bits h k = absurd cc
one_front (V4 xs) (V6 ys) (V6 zs) bits h k = absurd cc
one_front (V6 xs) (V4 ys) (V4 zs) bits h k = absurd cc
one_front (V6 xs) (V4 ys) (V6 zs) bits h k = absurd cc
one_front (V6 xs) (V6 ys) (V4 zs) bits h k = absurd cc

one_prefix : (a b : Prefix) (source : Addr) → a.bits ≡ b.bits → covers a source ≡ true → covers b source ≡ true → IsOnePrefix a b
one_prefix a b source e h k = (e, one_front a.addr b.addr source a.bits h (subst (λ (n : ℕ). same_front b.addr source n ≡ true) (sym e) k))

one_higher : (e : NodeId) (a : Addr) (r : Rd) (f : NodeId) (b : Addr) (s : Rd) → (e ≡ f) ↔ (a ≡ b) → IsHigher e a r f b s → IsHigher f b s e a r
    → Remote e a r ≡ Remote f b s
one_higher e a r f b s told (inl l) (inl m) = absurd (not_both addr_cmp_total b a l m)
one_higher e a r f b s told (inl l) (inr m) = absurd (not_itself addr_cmp_total a (subst (λ (x : Addr). IsLower x a) (sym (told.0 (sym m.0))) l))
one_higher e a r f b s told (inr l) (inl m) = absurd (not_itself addr_cmp_total b (subst (λ (x : Addr). IsLower x b) (told.0 l.0) m))
one_higher e a r f b s told (inr l) (inr m) =
    let addresses = told.0 l.0 in
    let rds = one_rd r s (tied rd_cmp_total r s m.1 l.1) in
    λ i. Remote (l.0 i) (addresses i) (rds i)

one_first : (rule : Rule) (cost : NodeId → ℕ) (Named : Addr → Type 0) → ((x y : Addr) → Named x → Named y → x ≡ y)
    → (e : NodeId) (a : Addr) (r : Rd) (f : NodeId) (b : Addr) (s : Rd) → (e ≡ f) ↔ (a ≡ b)
    → IsFirst rule cost Named e a r f b s → IsFirst rule cost Named f b s e a r → Remote e a r ≡ Remote f b s
one_first Highest cost Named one e a r f b s told l m = one_higher e a r f b s told l m
one_first Nearest cost Named one e a r f b s told (inl l) (inl m) = absurd (omega (arith, l, m))
one_first Nearest cost Named one e a r f b s told (inl l) (inr m) = absurd (let same : cost f ≡ cost e = m.0 in omega (arith, l, same))
one_first Nearest cost Named one e a r f b s told (inr l) (inl m) = absurd (let same : cost e ≡ cost f = l.0 in omega (arith, m, same))
one_first Nearest cost Named one e a r f b s told (inr l) (inr m) = one_higher e a r f b s told l.1 m.1
one_first Hash cost Named one e a r f b s told l m =
    let addresses : a ≡ b = one a b l.0 m.0 in
    let edges : e ≡ f = told.1 addresses in
    let rds = one_rd r s (tied rd_cmp_total r s (m.1 (sym edges)) (l.1 edges)) in
    λ i. Remote (edges i) (addresses i) (rds i)

one_origin : (rule : Rule) (cost : NodeId → ℕ) (Named : Addr → Type 0) → ((a b : Addr) → Named a → Named b → a ≡ b) → (x y : Origin) → AreTold x y
    → ((s t : SiteId) → x ≡ Local s → y ≡ Local t → s ≡ t) → Precedes rule cost Named x y → Precedes rule cost Named y x → x ≡ y
one_origin rule cost Named one (Local s) (Local t) told sites l m = ap (λ (site : SiteId). Local site) (sites s t refl refl)
one_origin rule cost Named one (Local s) (Remote f b d) told sites l m = absurd m
one_origin rule cost Named one (Remote e a r) (Local t) told sites l m = absurd l
one_origin rule cost Named one (Remote e a r) (Remote f b d) told sites l m =
    one_first rule cost Named one e a r f b d (told e f a b r d refl refl) l m

pub one_choice : (rule : Rule) (cost : NodeId → ℕ) (routes : List KnownRoute) (source group : Addr) (origin other : Origin) → AreOfEdges routes
    → AreOfSites routes
    → IsChosen rule cost routes source group origin → IsChosen rule cost routes source group other → origin ≡ other
one_choice rule cost routes source group origin other edges sites x y =
    let c = x.candidate in
    let d = y.candidate in
    let prefix = one_prefix x.route.prefix y.route.prefix source (one_length routes source x.route y.route c d) c.covering d.covering in
    sym x.of_origin
    ∙ one_origin rule cost (IsHashed routes source group) (one_hashed routes source group) x.route.origin y.route.origin
    (edges x.route y.route c.among d.among)
    (λ s t. sites x.route y.route s t c.among d.among prefix) (x.first y.route d) (y.first x.route c)
    ∙ y.of_origin

all_by : (rule : Rule) (cost : NodeId → ℕ) (routes : List KnownRoute) (source group : Addr) (origin : Origin) → AreOfEdges routes → AreOfSites routes
    → IsChosen rule cost routes source group origin → (one : Option Origin) → choose rule cost routes source group ≡ one → one ≡ Some origin
all_by rule cost routes source group origin edges sites c None e =
    absurd (opposite (covers c.route.prefix source) c.candidate.covering ((none_when rule cost routes source group).0 e c.route c.candidate.among))
all_by rule cost routes source group origin edges sites c (Some x) e =
    ap (λ (o : Origin). Some o) (one_choice rule cost routes source group x origin edges sites (chosen_when rule cost routes source group x edges e)
    c)

pub all_chosen : (rule : Rule) (cost : NodeId → ℕ) (routes : List KnownRoute) (source group : Addr) (origin : Origin) → AreOfEdges routes
    → AreOfSites routes
    → IsChosen rule cost routes source group origin → choose rule cost routes source group ≡ Some origin
all_chosen rule cost routes source group origin edges sites c =
    all_by rule cost routes source group origin edges sites c (choose rule cost routes source group) refl

-- ---- the order of the list

module _ (routes others : List KnownRoute) (source : Addr) (same : (route : KnownRoute) → Among route routes ↔ Among route others) where
  candidate_too : (x : KnownRoute) → IsCandidate routes source x → IsCandidate others source x
  candidate_too x c = record { among = (same x).0 c.among; covering = c.covering; longest = λ o a. c.longest o ((same o).1 a) }

  candidate_back : (x : KnownRoute) → IsCandidate others source x → IsCandidate routes source x
  candidate_back x c = record { among = (same x).1 c.among; covering = c.covering; longest = λ o a. c.longest o ((same o).0 a) }

  hashed_back : (group a : Addr) → IsHashed others source group a → IsHashed routes source group a
  hashed_back group a h = record {
    addresses = h.addresses;
    rising = h.rising;
    each = λ b. (
      λ m. (let c = (h.each b).0 m in
          record { route = c.route; edge = c.edge; rd = c.rd; candidate = candidate_back c.route c.candidate; of_edge = c.of_edge }),
      λ c. (h.each b).1 (record { route = c.route; edge = c.edge; rd = c.rd; candidate = candidate_too c.route c.candidate; of_edge = c.of_edge }),
    );
    named = h.named;
  }

  first_back : (rule : Rule) (cost : NodeId → ℕ) (group : Addr) (x y : Origin) → Precedes rule cost (IsHashed others source group) x y
      → Precedes rule cost (IsHashed routes source group) x y
  first_back rule cost group (Local s) y p = tt
  first_back rule cost group (Remote e a r) (Local t) p = p
  first_back Highest cost group (Remote e a r) (Remote f b d) p = p
  first_back Nearest cost group (Remote e a r) (Remote f b d) p = p
  first_back Hash cost group (Remote e a r) (Remote f b d) p = (hashed_back group a p.0, p.1)

  -- what is chosen of one list is chosen of another one of the same routes
  carried : (rule : Rule) (cost : NodeId → ℕ) (group : Addr) (origin : Origin) → IsChosen rule cost others source group origin
      → IsChosen rule cost routes source group origin
  carried rule cost group origin c = record {
    route = c.route;
    candidate = candidate_back c.route c.candidate;
    of_origin = c.of_origin;
    first = λ o k. first_back rule cost group c.route.origin o.origin (c.first o (candidate_too o k));
  }

alike : (routes others : List KnownRoute) → ((route : KnownRoute) → Among route routes ↔ Among route others) → AreOfEdges routes → AreOfEdges others
alike routes others same edges r o a b = edges r o ((same r).1 a) ((same o).1 b)

order_by : (rule : Rule) (cost : NodeId → ℕ) (routes others : List KnownRoute) (source group : Addr) → AreOfEdges routes → AreOfSites routes
    → ((route : KnownRoute) → Among route routes ↔ Among route others)
    → (one two : Option Origin) → choose rule cost routes source group ≡ one → choose rule cost others source group ≡ two → one ≡ two
order_by rule cost routes others source group edges sites same None None e f = refl
order_by rule cost routes others source group edges sites same None (Some y) e f =
    let none = (none_when rule cost routes source group).0 e in
    let c = chosen_when rule cost others source group y (alike routes others same edges) f in
    absurd (opposite (covers c.route.prefix source) c.candidate.covering (none c.route ((same c.route).1 c.candidate.among)))
order_by rule cost routes others source group edges sites same (Some x) None e f =
    let none = (none_when rule cost others source group).0 f in
    let c = chosen_when rule cost routes source group x edges e in
    absurd (opposite (covers c.route.prefix source) c.candidate.covering (none c.route ((same c.route).0 c.candidate.among)))
order_by rule cost routes others source group edges sites same (Some x) (Some y) e f =
    ap (λ (o : Origin). Some o) (one_choice rule cost routes source group x y edges sites (chosen_when rule cost routes source group x edges e)
    (carried routes others source same rule cost group y (chosen_when rule cost others source group y (alike routes others same edges) f)))

pub any_order : (rule : Rule) (cost : NodeId → ℕ) (routes others : List KnownRoute) (source group : Addr) → AreOfEdges routes → AreOfSites routes
    → ((route : KnownRoute) → Among route routes ↔ Among route others) → choose rule cost routes source group ≡ choose rule cost others source group
any_order rule cost routes others source group edges sites same =
    order_by rule cost routes others source group edges sites same (choose rule cost routes source group) (choose rule cost others source group) refl
    refl

-- ---- local routes alone

pub site_of_longest : (rule : Rule) (cost : NodeId → ℕ) (routes : List KnownRoute) (source group : Addr) (origin : Origin) → AreLocal routes
    → choose rule cost routes source group ≡ Some origin → IsSiteOfLongest routes source origin
site_of_longest rule cost routes source group origin locals e =
    let costs = cost_by rule cost routes source group in
    let g = given costs routes source origin e in
    let own = locals g.route g.is_best.among in
    record {
      site = own.0;
      route = g.route;
      is_site = sym g.of_origin ∙ own.1;
      among = g.is_best.among;
      covering = g.is_best.covering;
      of_site = own.1;
      longest = λ o a c. no_longer costs o g.route (g.is_best.best o a c);
    }
