-- What is reached over so many links, by walks and by marks.
use Rattle.std.proofs.Common.{◌≡◌, ◌⊎◌, ◌↔◌, ℕ, zero, suc, ◌<◌, ◌≤◌, ◌+◌, Bool, true, false, cond, nat_eq, ◌||◌, ◌&&◌, List, [], ◌∷◌, length, get_or, set, take, inl, inr, subst, sym, refl, ap, ◌∙◌, add-one, arith, IsTrue}
use Rattle.std.specs.List.{All, Contains, list_all, list_any, fold}
use Rattle.std.proofs.lemmas.List.{get_or-set_same, get_or-set_other, get_or-replicate, length-set}
use Rattle.std.proofs.lemmas.List.Elements.{All-head, All-tail, All-weaker}
use Rattle.std.proofs.lemmas.List.Folds.{Any-from_list_any, list_any-from_Any, list_all_more}
use Rattle.std.proofs.lemmas.Bool.{eqb-true, eq-eqb, ne_eqb, cases_eq, cases_lt, or_cases, and_parts, and_from, or_left, or_right}
use Rattle.mv_base.specs.declared.core_link.Link.{Link}
use Rattle.mv_base.specs.core_walks.Walks.{IsLinked, IsWalk, Reaches}
use Rattle.mv_base.specs.core_walks.Topology.{HasEnds, IsTopology, IsConnected}
use Rattle.mv_base.specs.core_walks.Reached.{joins_to, reached_within, all_below, is_connected}
use Rattle.mv_base.specs.core_walks.Marks.{first_marks, marked, marked_link, next_marks}
use Rattle.mv_base.proofs.core_walks.WalkLemmas.{good, reaches_itself, reaches_through, step_reaches, linked_there, linked_here}

-- ---- what is reached over so many links is reached by a walk

joined_reaches : (links : List Link) (passes : ℕ → Bool) (node : ℕ) (link : Link) → ((other : ℕ) → passes other ≡ true → Reaches links 0 other)
    → Contains links link → joins_to passes node link ≡ true → Reaches links 0 node
joined_reaches links passes node link reach listed h = by_end (or_cases _ _ h)
  where
    by_end : ((nat_eq link.a.0 node && passes link.b.0) ≡ true) ⊎ ((nat_eq link.b.0 node && passes link.a.0) ≡ true) → Reaches links 0 node
    by_end (inl e) =
        let parts = and_parts (nat_eq link.a.0 node) (passes link.b.0) e in
        subst (λ (k : ℕ). Reaches links 0 k) (eqb-true link.a.0 node parts.0)
        (reaches_through links 0 link.b.0 link.a.0 (reach link.b.0 parts.1)
        (step_reaches links link.b.0 link.a.0 link.a.0 link.cost (linked_here links link listed) (reaches_itself links link.a.0)))
    by_end (inr e) =
        let parts = and_parts (nat_eq link.b.0 node) (passes link.a.0) e in
        subst (λ (k : ℕ). Reaches links 0 k) (eqb-true link.b.0 node parts.0)
        (reaches_through links 0 link.a.0 link.b.0 (reach link.a.0 parts.1)
        (step_reaches links link.a.0 link.b.0 link.b.0 link.cost (linked_there links link listed) (reaches_itself links link.b.0)))

pub reaches_within : (links : List Link) (count node : ℕ) → reached_within links count node ≡ true → Reaches links 0 node
reaches_within links zero node h = subst (λ (k : ℕ). Reaches links 0 k) (sym (eqb-true node 0 h)) (reaches_itself links 0)
reaches_within links (suc count) node h = by_last (reaches_within links count) (or_cases _ _ h)
  where
    by_last : ((other : ℕ) → reached_within links count other ≡ true → Reaches links 0 other)
        → (reached_within links count node ≡ true) ⊎ (list_any (joins_to (reached_within links count) node) links ≡ true) → Reaches links 0 node
    by_last reach (inl e) = reach node e
    by_last reach (inr e) =
        let found = Any-from_list_any (joins_to (reached_within links count) node) links e in
        joined_reaches links (reached_within links count) node found.1 reach (found.0, found.2, found.3) found.4

-- ---- one link more

joined : (passes : ℕ → Bool) (a b : ℕ) (link : Link) → ((link.a.0 ≡ a) × (link.b.0 ≡ b)) ⊎ ((link.a.0 ≡ b) × (link.b.0 ≡ a)) → passes a ≡ true
    → joins_to passes b link ≡ true
joined passes a b link (inl e) h = or_right _ _ (and_from _ _ (eq-eqb link.b.0 b e.1) (ap passes e.0 ∙ h))
joined passes a b link (inr e) h = or_left _ _ (and_from _ _ (eq-eqb link.a.0 b e.0) (ap passes e.1 ∙ h))

further_within : (links : List Link) (count a b cost : ℕ) → IsLinked links a b cost → reached_within links count a ≡ true
    → reached_within links (suc count) b ≡ true
further_within links count a b cost linked h =
    let at = linked.listed in
    or_right (reached_within links count b) _
    (list_any-from_Any (joins_to (reached_within links count) b) links
    (at.0, linked.link, at.1, at.2, joined (reached_within links count) a b linked.link linked.ends h))

still_within : (links : List Link) (node some more : ℕ) → some ≤ more → reached_within links some node ≡ true → reached_within links more node ≡ true
still_within links node some zero le h = subst (λ (k : ℕ). reached_within links k node ≡ true) (let e : some ≡ 0 = omega arith in e) h
still_within links node some (suc more) le h = by_order (still_within links node some more) (cases_eq some (suc more))
  where
    by_order : (some ≤ more → reached_within links some node ≡ true → reached_within links more node ≡ true)
        → (some ≡ suc more) ⊎ (some ≡ suc more → ⊥) → reached_within links (suc more) node ≡ true
    by_order still (inl e) = subst (λ (k : ℕ). reached_within links k node ≡ true) e h
    by_order still (inr n) = or_left _ _ (still (omega arith) h)

-- ---- how many nodes are reached

-- how many numbers below that one pass the test
abbrev count_below : (ℕ → Bool) → ℕ → ℕ
count_below passes zero = 0
count_below passes (suc number) = count_below passes number + cond (passes number) 1 0

one-le : (b : Bool) → cond b 1 0 ≤ 1
one-le true = omega arith
one-le false = omega arith

count_below-le : (passes : ℕ → Bool) (number : ℕ) → count_below passes number ≤ number
count_below-le passes zero = omega arith
count_below-le passes (suc number) = omega (arith, count_below-le passes number, one-le (passes number))

first_counts : (passes : ℕ → Bool) (number : ℕ) → passes 0 ≡ true → 0 < number → 1 ≤ count_below passes number
first_counts passes zero h pos = omega arith
first_counts passes (suc zero) h pos = rw h (omega arith)
first_counts passes (suc (suc number)) h pos = omega (arith, first_counts passes (suc number) h (omega arith))

one-more : (b c : Bool) → (b ≡ true → c ≡ true) → cond b 1 0 ≤ cond c 1 0
one-more false c h = omega arith
one-more true c h = subst (λ (x : Bool). 1 ≤ cond x 1 0) (sym (h refl)) (omega arith)

-- a test that passes wherever the first one does
abbrev IsWider : (ℕ → Bool) → (ℕ → Bool) → Type 0
IsWider passes wider = (k : ℕ) → passes k ≡ true → wider k ≡ true

count_below-wider : (passes wider : ℕ → Bool) (number : ℕ) → IsWider passes wider → count_below passes number ≤ count_below wider number
count_below-wider passes wider zero h = omega arith
count_below-wider passes wider (suc number) h =
    omega (arith, count_below-wider passes wider number h, one-more (passes number) (wider number) (h number))

one-same : (b c : Bool) → cond c 1 0 ≤ cond b 1 0 → c ≡ true → b ≡ true
one-same true c le h = refl
one-same false true le h = absurd (omega arith)
one-same false false le h = h

-- A wider test that as many numbers pass is passed by no other ones.
none_wider : (passes wider : ℕ → Bool) (number : ℕ) → IsWider passes wider → count_below wider number ≤ count_below passes number → (k : ℕ)
    → k < number → wider k ≡ true → passes k ≡ true
none_wider passes wider zero h le k within e = absurd (omega arith)
none_wider passes wider (suc number) h le k within e =
    by_place (none_wider passes wider number h (omega (arith, one-more (passes number) (wider number) (h number)))) (cases_eq k number)
  where
    by_place : ((j : ℕ) → j < number → wider j ≡ true → passes j ≡ true) → (k ≡ number) ⊎ (k ≡ number → ⊥) → passes k ≡ true
    by_place lower (inl same) =
        ap passes same
        ∙ one-same (passes number) (wider number) (omega (arith, count_below-wider passes wider number h)) (sym (ap wider same) ∙ e)
    by_place lower (inr other) = lower k (omega arith) e

-- ---- a round that adds no node

-- one link more reaches no other node
abbrev IsClosed : List Link → ℕ → ℕ → Type 0
IsClosed links nodes round = (node : ℕ) → node < nodes → reached_within links (suc round) node ≡ true → reached_within links round node ≡ true

record ClosesBy (links : List Link) (nodes count : ℕ) : Type 0 where
  round : ℕ
  early : round ≤ count
  closed : IsClosed links nodes round

grows_or_closes : (links : List Link) (nodes : ℕ) → 0 < nodes → (count : ℕ)
    → ClosesBy links nodes count ⊎ (count < count_below (reached_within links count) nodes)
grows_or_closes links nodes pos zero = inr (omega (arith, first_counts (reached_within links 0) nodes refl pos))
grows_or_closes links nodes pos (suc count) = by_round (grows_or_closes links nodes pos count)
  where
    by_count : count < count_below (reached_within links count) nodes
        → (count_below (reached_within links count) nodes < count_below (reached_within links (suc count)) nodes)
        ⊎ (count_below (reached_within links (suc count)) nodes ≤ count_below (reached_within links count) nodes)
        → ClosesBy links nodes (suc count) ⊎ (suc count < count_below (reached_within links (suc count)) nodes)
    by_count grown (inl less) = inr (omega arith)
    by_count grown (inr le) = inl (record {
      round = count;
      early = omega arith;
      closed = none_wider (reached_within links count) (reached_within links (suc count)) nodes (λ k h. or_left _ _ h) le;
    })

    by_round : ClosesBy links nodes count ⊎ (count < count_below (reached_within links count) nodes)
        → ClosesBy links nodes (suc count) ⊎ (suc count < count_below (reached_within links (suc count)) nodes)
    by_round (inl c) = inl (let le = c.early in record { round = c.round; early = omega arith; closed = c.closed })
    by_round (inr grown) = by_count grown (cases_lt _ _)

closes : (links : List Link) (nodes : ℕ) → 0 < nodes → ClosesBy links nodes nodes
closes links nodes pos = by_growth (grows_or_closes links nodes pos nodes)
  where
    by_growth : ClosesBy links nodes nodes ⊎ (nodes < count_below (reached_within links nodes) nodes) → ClosesBy links nodes nodes
    by_growth (inl c) = c
    by_growth (inr grown) = absurd (omega (arith, count_below-le (reached_within links nodes) nodes))

-- ---- what a walk reaches is reached over as many links as there are nodes

along : (nodes : ℕ) (links : List Link) (round : ℕ) → IsTopology nodes links → IsClosed links nodes round → (steps : List ℕ) (from to cost : ℕ)
    → reached_within links round from ≡ true → IsWalk links from steps to cost → reached_within links round to ≡ true
along nodes links round t closed [] from to cost h walk = subst (λ (k : ℕ). reached_within links round k ≡ true) walk.0 h
along nodes links round t closed (next ∷ thereafter) from to cost h walk =
    along nodes links round t closed thereafter next to walk.1
    (closed next (good nodes links from next walk.0 t walk.2).b_within (further_within links round from next walk.0 walk.2 h)) walk.3

pub within_nodes : (nodes : ℕ) (links : List Link) (node : ℕ) → IsTopology nodes links → node < nodes → Reaches links 0 node
    → reached_within links nodes node ≡ true
within_nodes nodes links node t within h =
    let c = closes links nodes (omega arith) in
    still_within links node c.round nodes c.early
    (along nodes links c.round t c.closed h.steps 0 node h.cost (still_within links 0 0 c.round (omega arith) refl) h.walk)

-- ---- each node

all_below-at : (passes : ℕ → Bool) (number k : ℕ) → all_below passes number ≡ true → k < number → passes k ≡ true
all_below-at passes zero k h within = absurd (omega arith)
all_below-at passes (suc number) k h within = by_place (all_below-at passes number k) (and_parts _ _ h) (cases_eq k number)
  where
    by_place : (all_below passes number ≡ true → k < number → passes k ≡ true) → (all_below passes number ≡ true) × (passes number ≡ true)
        → (k ≡ number) ⊎ (k ≡ number → ⊥) → passes k ≡ true
    by_place lower parts (inl same) = ap passes same ∙ parts.1
    by_place lower parts (inr other) = lower parts.0 (omega arith)

all_below-from : (passes : ℕ → Bool) (number : ℕ) → ((k : ℕ) → k < number → passes k ≡ true) → all_below passes number ≡ true
all_below-from passes zero h = refl
all_below-from passes (suc number) h = and_from _ _ (all_below-from passes number (λ k within. h k (omega arith))) (h number (omega arith))

-- The core is connected exactly where walks from node 0 reach each node.
pub connected_walks : (nodes : ℕ) (links : List Link) → IsTopology nodes links → IsTrue (is_connected nodes links) ↔ IsConnected nodes links
connected_walks nodes links t = (
  λ h node within. reaches_within links nodes node (all_below-at (reached_within links nodes) nodes node h within),
  λ h. all_below-from (reached_within links nodes) nodes (λ node within. within_nodes nodes links node t within (h node within)),
)

-- ---- marks

-- the marks are those of the nodes that are reached over so many links
pub record AreMarks (links : List Link) (count : ℕ) (marks : List Bool) : Type 0 where
  pub size : length marks ≡ 64
  pub same : (node : ℕ) → node < 64 → get_or marks node false ≡ reached_within links count node

first_at : (node : ℕ) → node < 64 → get_or first_marks node false ≡ nat_eq node 0
first_at zero within = refl
first_at (suc node) within = get_or-replicate 63 node false false (omega arith) ∙ sym (ne_eqb (suc node) 0 (λ e. omega arith))

pub are_first : (links : List Link) → AreMarks links 0 first_marks
are_first links = record { size = refl; same = first_at }

or_again : (x y z : Bool) → ((x || y) || z) ≡ (x || (y || z))
or_again true y z = refl
or_again false y z = refl

or_none : (x y : Bool) → y ≡ false → x ≡ (x || y)
or_none true y e = refl
or_none false y e = sym e

or_one : (x y : Bool) → y ≡ true → true ≡ (x || y)
or_one x y e = sym (or_right x y e)

marked_by : (b : Bool) (next : List Bool) (node k : ℕ) → node < length next
    → get_or (cond b (set next node true) next) k false ≡ (get_or next k false || (nat_eq node k && b))
marked_by false next node k within = or_none (get_or next k false) (nat_eq node k && false) (and_none (nat_eq node k))
  where
    and_none : (x : Bool) → (x && false) ≡ false
    and_none true = refl
    and_none false = refl
marked_by true next node k within = by_place (cases_eq k node)
  where
    by_place : (k ≡ node) ⊎ (k ≡ node → ⊥) → get_or (set next node true) k false ≡ (get_or next k false || (nat_eq node k && true))
    by_place (inl e) =
        ap (λ (j : ℕ). get_or (set next node true) j false) e
        ∙ (get_or-set_same next node true false within
        ∙ or_one (get_or next k false) (nat_eq node k && true) (and_from _ _ (eq-eqb node k (sym e)) refl))
    by_place (inr n) =
        get_or-set_other next node k true false n
        ∙ or_none (get_or next k false) (nat_eq node k && true) (ap (λ (b : Bool). b && true) (ne_eqb node k (λ e. n (sym e))))

marked-length : (b : Bool) (next : List Bool) (node : ℕ) → length (cond b (set next node true) next) ≡ length next
marked-length true next node = length-set next node true
marked-length false next node = refl

link-length : (marks next : List Bool) (link : Link) → length (marked_link marks next link) ≡ length next
link-length marks next link =
    marked-length (get_or marks link.a.0 false) (marked marks next link.a.0 link.b.0) link.b.0
    ∙ marked-length (get_or marks link.b.0 false) next link.a.0

all-length : (marks next : List Bool) (links : List Link) → length (fold (marked_link marks) next links) ≡ length next
all-length marks next [] = refl
all-length marks next (link ∷ more) = all-length marks (marked_link marks next link) more ∙ link-length marks next link

link_at : (marks next : List Bool) (link : Link) (k : ℕ) → length next ≡ 64 → HasEnds 64 link
    → get_or (marked_link marks next link) k false ≡ (get_or next k false || joins_to (λ (n : ℕ). get_or marks n false) k link)
link_at marks next link k size ends =
    let a : link.a.0 < length next = let w = ends.a in omega arith in
    let b : link.b.0 < length (marked marks next link.a.0 link.b.0) = let w = ends.b in
    omega (arith, marked-length (get_or marks link.b.0 false) next link.a.0) in
    marked_by (get_or marks link.a.0 false) (marked marks next link.a.0 link.b.0) link.b.0 k b
    ∙ (ap (λ (x : Bool). x || (nat_eq link.b.0 k && get_or marks link.a.0 false)) (marked_by (get_or marks link.b.0 false) next link.a.0 k a)
    ∙ or_again (get_or next k false) (nat_eq link.a.0 k && get_or marks link.b.0 false) (nat_eq link.b.0 k && get_or marks link.a.0 false))

joins-same : (some other : ℕ → Bool) (k : ℕ) (link : Link) → HasEnds 64 link → ((node : ℕ) → node < 64 → some node ≡ other node)
    → joins_to some k link ≡ joins_to other k link
joins-same some other k link ends same =
    ap (λ (x : Bool). (nat_eq link.a.0 k && x) || (nat_eq link.b.0 k && some link.a.0)) (same link.b.0 ends.b)
    ∙ ap (λ (x : Bool). (nat_eq link.a.0 k && other link.b.0) || (nat_eq link.b.0 k && x)) (same link.a.0 ends.a)

round_at : (marks : List Bool) (passes : ℕ → Bool) → ((node : ℕ) → node < 64 → get_or marks node false ≡ passes node)
    → (links : List Link) (next : List Bool) (k : ℕ) → length next ≡ 64 → All (HasEnds 64) links
    → get_or (fold (marked_link marks) next links) k false ≡ (get_or next k false || list_any (joins_to passes k) links)
round_at marks passes same [] next k size ends = or_none (get_or next k false) false refl
round_at marks passes same (link ∷ more) next k size ends =
    let head = All-head (HasEnds 64) link more ends in
    round_at marks passes same more (marked_link marks next link) k (link-length marks next link ∙ size) (All-tail (HasEnds 64) link more ends)
    ∙ (ap (λ (x : Bool). x || list_any (joins_to passes k) more)
    (link_at marks next link k size head ∙ ap (λ (x : Bool). get_or next k false || x)
    (joins-same (λ (n : ℕ). get_or marks n false) passes k link head same))
    ∙ or_again (get_or next k false) (joins_to passes k link) (list_any (joins_to passes k) more))

ends_of_64 : (nodes : ℕ) (links : List Link) → IsTopology nodes links → All (HasEnds 64) links
ends_of_64 nodes links t = All-weaker (HasEnds nodes) (HasEnds 64) wider links t.ends
  where
    few : nodes ≤ 64
    few = t.few_nodes

    wider : (link : Link) → HasEnds nodes link → HasEnds 64 link
    wider link h = let x = h.a in let y = h.b in record { a = omega (arith, few); b = omega (arith, few); two = h.two }

pub are_next : (nodes : ℕ) (links : List Link) (count : ℕ) (marks : List Bool) → IsTopology nodes links → AreMarks links count marks
    → AreMarks links (count + 1) (next_marks marks links)
are_next nodes links count marks t h = rw add-one (record { size = all-length marks marks links ∙ h.size; same = same })
  where
    same : (node : ℕ) → node < 64 → get_or (next_marks marks links) node false ≡ reached_within links (suc count) node
    same node within =
        round_at marks (reached_within links count) h.same links marks node h.size (ends_of_64 nodes links t)
        ∙ ap (λ (x : Bool). x || list_any (joins_to (reached_within links count) node) links) (h.same node within)

all_taken : (marks : List Bool) (passes : ℕ → Bool) (number : ℕ) → number ≤ length marks → ((k : ℕ) → k < number → get_or marks k false ≡ passes k)
    → list_all (λ (mark : Bool). mark) (take number marks) ≡ all_below passes number
all_taken marks passes zero fits same = refl
all_taken marks passes (suc number) fits same =
    subst (λ (n : ℕ). list_all (λ (mark : Bool). mark) (take n marks) ≡ (all_below passes number && passes number)) (add-one number)
    (list_all_more (λ (mark : Bool). mark) marks number false (omega arith)
    ∙ (ap (λ (x : Bool). x && get_or marks number false) (all_taken marks passes number (omega arith) (λ k within. same k (omega arith)))
    ∙ ap (λ (x : Bool). all_below passes number && x) (same number (omega arith))))

-- The test of all marks after the last round.
pub all_marks : (nodes round : ℕ) (links : List Link) (marks : List Bool) (result : Bool) → IsTopology nodes links → round ≡ nodes
    → AreMarks links round marks → result ≡ list_all (λ (mark : Bool). mark) (take nodes marks) → result ≡ is_connected nodes links
all_marks nodes round links marks result t last h told =
    let few = t.few_nodes in
    let size = h.size in
    told ∙ all_taken marks (reached_within links nodes) nodes (omega arith)
    (λ k within. h.same k (omega arith) ∙ ap (λ (count : ℕ). reached_within links count k) last)

pub all_walks : (nodes : ℕ) (links : List Link) (result : Bool) → IsTopology nodes links → result ≡ is_connected nodes links
    → IsTrue result ↔ IsConnected nodes links
all_walks nodes links result t told = subst (λ (r : Bool). IsTrue r ↔ IsConnected nodes links) (sym told) (connected_walks nodes links t)
