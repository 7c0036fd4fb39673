-- Rows of least costs.
use Rattle.std.proofs.Common.{◌≡◌, ◌≢◌, ◌⊎◌, ◌+◌, ◌*◌, ◌≤◌, ◌<◌, ◌&&◌, ℕ, Bool, true, false, cond, ltb, leb, List, [], ◌∷◌, length, ◌++◌, get_or, set, take, drop, sum, inl, inr, subst, sym, refl, ap, ◌∙◌, arith}
use Rattle.std.specs.List.{All, Contains, sum_by, list_all}
use Rattle.std.proofs.lemmas.List.{get_or-set_same, get_or-set_other, length-set, append-nil, drop_all, take_all}
use Rattle.std.proofs.lemmas.List.Elements.{All-contains, All-contains_itself, All-head, All-tail}
use Rattle.std.proofs.lemmas.List.Sums.{sum_by-set, count_by-le-length, AllPass-from_list_all}
use Rattle.std.proofs.lemmas.Bool.{and_parts, cases_eq, cases_lt}
use Rattle.std.proofs.lemmas.Bool.Decides.{nat_tests}
use Rattle.mv_base.specs.declared.core_link.Link.{Link}
use Rattle.mv_base.specs.core_walks.Walks.{IsLinked, IsWalk}
use Rattle.mv_base.specs.core_walks.Topology.{HasEnds, IsTopology}
use Rattle.core_paths.specs.Rows.{far, relaxed, relaxed_link, relaxed_all, is_tight, IsCostRow}
use Rattle.mv_base.proofs.core_walks.WalkLemmas.{IsGood, good, further, linked_there, linked_here}

pub record HasWalk (links : List Link) (from to cost : ℕ) : Type 0 where
  pub steps : List ℕ
  pub walk : IsWalk links from steps to cost

-- whether a walk is known, as 1 or 0
abbrev known : ℕ → ℕ
known x = cond (ltb x far) 1 0

-- from how many nodes a walk is known
abbrev pub reached : List ℕ → ℕ
reached row = sum_by known row

-- Each entry is the cost of a walk, or `far`. An entry is not above 65535 for each node from which a walk is known.
pub record IsSound (links : List Link) (nodes root : ℕ) (row : List ℕ) : Type 0 where
  pub size : length row ≡ nodes
  pub here : get_or row root 0 ≡ 0
  pub top : (k : ℕ) → get_or row k 0 ≤ far
  pub walks : (k : ℕ) → k < nodes → get_or row k 0 < far → HasWalk links k root (get_or row k 0)
  pub near : (k : ℕ) → k < nodes → get_or row k 0 < far → get_or row k 0 ≤ 65535 * reached row

known-le : (x : ℕ) → known x ≤ 1
known-le x = grind (arith, nat_tests)

known-yes : (x : ℕ) → x < far → known x ≡ 1
known-yes x h = grind (arith, nat_tests)

known-no : (x : ℕ) → far ≤ x → known x ≡ 0
known-no x h = grind (arith, nat_tests)

cases_at : (k i : ℕ) → (k ≡ i) ⊎ (k ≢ i)
cases_at k i = cases_eq k i

set_sound : (links : List Link) (nodes root : ℕ) (row : List ℕ) (from v : ℕ) → IsSound links nodes root row → from < nodes → v < get_or row from 0
    → HasWalk links from root v → v ≤ 65535 * reached row + 65535 → IsSound links nodes root (set row from v)
set_sound links nodes root row from v h within lower walk bound = record {
  size = length-set row from v ∙ h.size;
  here = get_or-set_other row from root v 0 other_root ∙ h.here;
  top = top;
  walks = walks;
  near = near;
}
  where
    inside : from < length row
    inside = let e = h.size in omega arith

    old_top : get_or row from 0 ≤ far
    old_top = h.top from

    v_near : v < far
    v_near = omega (arith, old_top)

    other_root : root ≢ from
    other_root e = let z : get_or row from 0 ≡ 0 = subst (λ (k : ℕ). get_or row k 0 ≡ 0) e h.here in omega arith

    counts : reached (set row from v) + known (get_or row from 0) ≡ reached row + 1
    counts = sum_by-set known row from v 0 inside ∙ ap (λ n. reached row + n) (known-yes v v_near)

    at_from : get_or (set row from v) from 0 ≡ v
    at_from = get_or-set_same row from v 0 inside

    top : (k : ℕ) → get_or (set row from v) k 0 ≤ far
    top k = elim (cases_at k from) [
      | inl e ↦ subst (λ (j : ℕ). get_or (set row from v) j 0 ≤ far) (sym e) (omega (arith, at_from, v_near))
      | inr n ↦ omega (arith, get_or-set_other row from k v 0 n, h.top k)
    ]

    walks : (k : ℕ) → k < nodes → get_or (set row from v) k 0 < far → HasWalk links k root (get_or (set row from v) k 0)
    walks k l f = elim (cases_at k from) [
      | inl e ↦ subst (λ (j : ℕ). HasWalk links j root (get_or (set row from v) j 0)) (sym e)
          (subst (λ (x : ℕ). HasWalk links from root x) (sym at_from) walk)
      | inr n ↦
          let same = get_or-set_other row from k v 0 n in
          subst (λ (x : ℕ). HasWalk links k root x) (sym same) (h.walks k l (omega (arith, same)))
    ]

    more : reached row ≤ reached (set row from v)
    more = omega (arith, counts, known-le (get_or row from 0))

    near_from : v ≤ 65535 * reached (set row from v)
    near_from = by_known (cases_far (get_or row from 0))
      where
        cases_far : (x : ℕ) → (x < far) ⊎ (far ≤ x)
        cases_far x = cases_lt x far

        by_known : (get_or row from 0 < far) ⊎ (far ≤ get_or row from 0) → v ≤ 65535 * reached (set row from v)
        by_known (inl y) = omega (arith, counts, known-yes (get_or row from 0) y, h.near from within y)
        by_known (inr n) = omega (arith, counts, known-no (get_or row from 0) n)

    near : (k : ℕ) → k < nodes → get_or (set row from v) k 0 < far → get_or (set row from v) k 0 ≤ 65535 * reached (set row from v)
    near k l f = elim (cases_at k from) [
      | inl e ↦ subst (λ (j : ℕ). get_or (set row from v) j 0 ≤ 65535 * reached (set row from v)) (sym e) (omega (arith, at_from, near_from))
      | inr n ↦
          let same = get_or-set_other row from k v 0 n in
          omega (arith, same, more, h.near k l (omega (arith, same)))
    ]

lowered : (links : List Link) (nodes root : ℕ) (row : List ℕ) (from via cost : ℕ) (b : Bool) → ltb (get_or row via 0 + cost) (get_or row from 0) ≡ b →
    IsSound links nodes root row → IsLinked links from via cost → IsGood nodes from via cost
    → IsSound links nodes root (cond b (set row from (get_or row via 0 + cost)) row)
lowered links nodes root row from via cost false e h linked g = h
lowered links nodes root row from via cost true e h linked g =
    let less : get_or row via 0 + cost < get_or row from 0 = grind (arith, nat_tests) in
    let top : get_or row from 0 ≤ far = h.top from in
    let near : get_or row via 0 < far = omega arith in
    let w = h.walks via g.b_within near in
    let bound : get_or row via 0 ≤ 65535 * reached row = h.near via g.b_within near in
    let cheap : cost ≤ 65535 = g.cheap in
    let v : get_or row via 0 + cost ≡ cost + get_or row via 0 = omega arith in
    set_sound links nodes root row from (get_or row via 0 + cost) h g.a_within less
    (subst (λ (x : ℕ). HasWalk links from root x) (sym v)
    (record { steps = via ∷ w.steps; walk = further links from via root cost (get_or row via 0) w.steps linked w.walk }))
    (omega arith)

relaxed_sound : (links : List Link) (nodes root : ℕ) (row : List ℕ) (from via cost : ℕ) → IsSound links nodes root row → IsLinked links from via cost
    → IsGood nodes from via cost → IsSound links nodes root (relaxed row from via cost)
relaxed_sound links nodes root row from via cost h linked g = lowered links nodes root row from via cost _ refl h linked g

relaxed_link_sound : (links : List Link) (nodes root : ℕ) (row : List ℕ) (link : Link) → IsTopology nodes links → Contains links link
    → IsSound links nodes root row → IsSound links nodes root (relaxed_link row link)
relaxed_link_sound links nodes root row link t c h =
    let there = linked_there links link c in
    let here = linked_here links link c in
    relaxed_sound links nodes root (relaxed row link.a.0 link.b.0 link.cost) link.b.0 link.a.0 link.cost
    (relaxed_sound links nodes root row link.a.0 link.b.0 link.cost h there (good nodes links _ _ _ t there))
    here (good nodes links _ _ _ t here)

all_sound : (links : List Link) (nodes root : ℕ) (some : List Link) (row : List ℕ) → IsTopology nodes links → All (Contains links) some
    → IsSound links nodes root row → IsSound links nodes root (relaxed_all row some)
all_sound links nodes root [] row t c h = h
all_sound links nodes root (link ∷ more) row t c h =
    all_sound links nodes root more (relaxed_link row link) t (All-tail (Contains links) link more c)
    (relaxed_link_sound links nodes root row link t (All-head (Contains links) link more c) h)

-- A round keeps what is known of a row.
pub relaxed_all_sound : (links : List Link) (nodes root : ℕ) (row : List ℕ) → IsTopology nodes links → IsSound links nodes root row
    → IsSound links nodes root (relaxed_all row links)
relaxed_all_sound links nodes root row t h = all_sound links nodes root links row t (All-contains_itself links) h

-- ---- a round makes the row lower, unless each link is tight

-- the other row has the same length and no larger sum
record IsLower (row other : List ℕ) : Type 0 where
  size : length other ≡ length row
  lower : sum other ≤ sum row

-- the sum of a row with one entry lower
set_sum : (row : List ℕ) (from v : ℕ) → from < length row → v < get_or row from 0 → sum (set row from v) < sum row
set_sum row from v within lower = omega (arith, sum_by-set (λ (x : ℕ). x) row from v 0 within)

lowered_lower : (row : List ℕ) (from v : ℕ) (b : Bool) → ltb v (get_or row from 0) ≡ b → from < length row → IsLower row (cond b (set row from v) row)
lowered_lower row from v false e within = record { size = refl; lower = omega arith }
lowered_lower row from v true e within =
    let less : v < get_or row from 0 = grind (arith, nat_tests) in
    record { size = length-set row from v; lower = omega (arith, set_sum row from v within less) }

relaxed_lower : (row : List ℕ) (from via cost : ℕ) → from < length row → IsLower row (relaxed row from via cost)
relaxed_lower row from via cost within = lowered_lower row from _ _ refl within

lower_through : (row other third : List ℕ) → IsLower row other → IsLower other third → IsLower row third
lower_through row other third h k = record { size = k.size ∙ h.size; lower = let x = h.lower in let y = k.lower in omega arith }

ends_kept : (row other : List ℕ) (some : List Link) → length other ≡ length row → All (HasEnds (length row)) some → All (HasEnds (length other)) some
ends_kept row other some e h = subst (λ (n : ℕ). All (HasEnds n) some) (sym e) h

relaxed_link_lower : (row : List ℕ) (link : Link) → HasEnds (length row) link → IsLower row (relaxed_link row link)
relaxed_link_lower row link ends =
    let first = relaxed_lower row link.a.0 link.b.0 link.cost ends.a in
    let b : link.b.0 < length row = ends.b in
    let size = first.size in
    lower_through row (relaxed row link.a.0 link.b.0 link.cost) (relaxed_link row link) first
    (relaxed_lower (relaxed row link.a.0 link.b.0 link.cost) link.b.0 link.a.0 link.cost (omega arith))

all_lower : (some : List Link) (row : List ℕ) → All (HasEnds (length row)) some → IsLower row (relaxed_all row some)
all_lower [] row h = record { size = refl; lower = omega arith }
all_lower (link ∷ more) row h =
    let first = relaxed_link_lower row link (All-head (HasEnds (length row)) link more h) in
    lower_through row (relaxed_link row link) (relaxed_all (relaxed_link row link) more) first
    (all_lower more (relaxed_link row link) (ends_kept row (relaxed_link row link) more first.size (All-tail (HasEnds (length row)) link more h)))

-- A round keeps the length of a row.
pub length-relaxed_all : (some : List Link) (row : List ℕ) → All (HasEnds (length row)) some → length (relaxed_all row some) ≡ length row
length-relaxed_all some row h = (all_lower some row h).size

-- the link makes no entry of `from` lower
abbrev tight_one : List ℕ → ℕ → ℕ → ℕ → Bool
tight_one row from via cost = leb (get_or row from 0) (get_or row via 0 + cost)

tight_same : (row : List ℕ) (from via cost : ℕ) → tight_one row from via cost ≡ true → relaxed row from via cost ≡ row
tight_same row from via cost h =
    ap (λ (b : Bool). cond b (set row from (get_or row via 0 + cost)) row) (loose_not (get_or row from 0) (get_or row via 0 + cost) h)
  where
    loose_not : (x y : ℕ) → leb x y ≡ true → ltb y x ≡ false
    loose_not x y e = grind (arith, nat_tests)

loose_falls : (row : List ℕ) (from via cost : ℕ) → from < length row → tight_one row from via cost ≡ false → sum (relaxed row from via cost) < sum row
loose_falls row from via cost within h =
    let less : get_or row via 0 + cost < get_or row from 0 = grind (arith, nat_tests) in
    subst (λ (b : Bool). sum (cond b (set row from (get_or row via 0 + cost)) row) < sum row) (sym (is_less _ _ less))
    (set_sum row from (get_or row via 0 + cost) within less)
  where
    is_less : (x y : ℕ) → x < y → ltb x y ≡ true
    is_less x y e = grind (arith, nat_tests)

link_falls : (row : List ℕ) (link : Link) → HasEnds (length row) link → is_tight row link ≡ false → sum (relaxed_link row link) < sum row
link_falls row link ends h = by_first (tight_one row link.a.0 link.b.0 link.cost) refl
  where
    there : List ℕ
    there = relaxed row link.a.0 link.b.0 link.cost

    by_first : (b : Bool) → tight_one row link.a.0 link.b.0 link.cost ≡ b → sum (relaxed_link row link) < sum row
    by_first false e =
        let first = loose_falls row link.a.0 link.b.0 link.cost ends.a e in
        let size = (relaxed_lower row link.a.0 link.b.0 link.cost ends.a).size in
        let b = ends.b in
        let second = (relaxed_lower (relaxed row link.a.0 link.b.0 link.cost) link.b.0 link.a.0 link.cost (omega arith)).lower in
        omega arith
    by_first true e =
        let same = tight_same row link.a.0 link.b.0 link.cost e in
        let loose : tight_one row link.b.0 link.a.0 link.cost ≡ false =
        sym (ap (λ (b : Bool). b && tight_one row link.b.0 link.a.0 link.cost) e) ∙ h in
        subst (λ (r : List ℕ). sum (relaxed r link.b.0 link.a.0 link.cost) < sum row) (sym same)
        (loose_falls row link.b.0 link.a.0 link.cost ends.b loose)

link_same : (row : List ℕ) (link : Link) → is_tight row link ≡ true → relaxed_link row link ≡ row
link_same row link h =
    let parts = and_parts (tight_one row link.a.0 link.b.0 link.cost) (tight_one row link.b.0 link.a.0 link.cost) h in
    ap (λ (r : List ℕ). relaxed r link.b.0 link.a.0 link.cost) (tight_same row link.a.0 link.b.0 link.cost parts.0)
    ∙ tight_same row link.b.0 link.a.0 link.cost parts.1

-- A round makes the sum of a row less, where some link is not tight.
pub relaxed_all_falls : (some : List Link) (row : List ℕ) → All (HasEnds (length row)) some → list_all (is_tight row) some ≡ false
    → sum (relaxed_all row some) < sum row
relaxed_all_falls [] row h e = absurd cc
relaxed_all_falls (link ∷ more) row h e = by_link (relaxed_all_falls more row (All-tail (HasEnds (length row)) link more h)) (is_tight row link) refl
  where
    head : HasEnds (length row) link
    head = All-head (HasEnds (length row)) link more h

    tail : All (HasEnds (length row)) more
    tail = All-tail (HasEnds (length row)) link more h

    by_link : (list_all (is_tight row) more ≡ false → sum (relaxed_all row more) < sum row) → (b : Bool) → is_tight row link ≡ b
        → sum (relaxed_all (relaxed_link row link) more) < sum row
    by_link falls false t =
        let first = link_falls row link head t in
        let size = (relaxed_link_lower row link head).size in
        let rest = (all_lower more (relaxed_link row link) (ends_kept row (relaxed_link row link) more size tail)).lower in
        omega arith
    by_link falls true t =
        let rest : list_all (is_tight row) more ≡ false = sym (ap (λ (b : Bool). b && list_all (is_tight row) more) t) ∙ e in
        subst (λ (r : List ℕ). sum (relaxed_all r more) < sum row) (sym (link_same row link t)) (falls rest)

-- A round, as the code leaves it: the items of the Vec are written over.
pub whole : (items row : List ℕ) (len : ℕ) → length row ≡ length items → len ≡ length items → take len (row ++ drop (length row) items) ≡ row
whole items row len h k =
    ap (λ (rest : List ℕ). take len (row ++ rest)) (drop_all (length row) items (omega (arith, h)))
    ∙ ap (take len) (append-nil row) ∙ take_all len row (omega (arith, h, k))

ends_at : (links : List Link) (nodes : ℕ) (row : List ℕ) → IsTopology nodes links → length row ≡ nodes → All (HasEnds (length row)) links
ends_at links nodes row t e = subst (λ (n : ℕ). All (HasEnds n) links) (sym e) t.ends

rounded : (links : List Link) (nodes : ℕ) (items row : List ℕ) (len : ℕ) → IsTopology nodes links → length items ≡ nodes
    → row ≡ relaxed_all items links → len ≡ length items → take len (row ++ drop (length row) items) ≡ relaxed_all items links
rounded links nodes items row len t size e k =
    whole items row len (ap (λ (r : List ℕ). length r) e ∙ length-relaxed_all links items (ends_at links nodes items t size)) k ∙ e

pub round_sound : (links : List Link) (nodes root : ℕ) (items row : List ℕ) (len : ℕ) → IsTopology nodes links → IsSound links nodes root items
    → row ≡ relaxed_all items links → len ≡ length items → IsSound links nodes root (take len (row ++ drop (length row) items))
round_sound links nodes root items row len t h e k =
    subst (IsSound links nodes root) (sym (rounded links nodes items row len t h.size e k)) (relaxed_all_sound links nodes root items t h)

pub round_falls : (links : List Link) (nodes root : ℕ) (items row : List ℕ) (len : ℕ) → IsTopology nodes links → IsSound links nodes root items
    → row ≡ relaxed_all items links → len ≡ length items → list_all (is_tight items) links ≡ false
    → sum (take len (row ++ drop (length row) items)) < sum items
round_falls links nodes root items row len t h e k loose =
    subst (λ (r : List ℕ). sum r < sum items) (sym (rounded links nodes items row len t h.size e k))
    (relaxed_all_falls links items (ends_at links nodes items t h.size) loose)

-- ---- a row whose links are all tight

abbrev IsTight : List Link → List ℕ → Type 0
IsTight links row = (from via cost : ℕ) → IsLinked links from via cost → get_or row from 0 ≤ get_or row via 0 + cost

tight_linked : (links : List Link) (row : List ℕ) → list_all (is_tight row) links ≡ true → IsTight links row
tight_linked links row h from via cost linked = by_ends linked.ends
  where
    parts : (tight_one row linked.link.a.0 linked.link.b.0 linked.link.cost ≡ true)
        × (tight_one row linked.link.b.0 linked.link.a.0 linked.link.cost ≡ true)
    parts = and_parts _ _ (All-contains (λ (l : Link). is_tight row l ≡ true) links linked.link (AllPass-from_list_all (is_tight row) links h)
        linked.listed)

    under : (x y : ℕ) → leb x y ≡ true → x ≤ y
    under x y e = grind (arith, nat_tests)

    same : (p q c : ℕ) → p ≡ from → q ≡ via → c ≡ cost → get_or row p 0 ≤ get_or row q 0 + c → get_or row from 0 ≤ get_or row via 0 + cost
    same p q c d e f g =
        subst (λ (x : ℕ). get_or row x 0 ≤ get_or row via 0 + cost) d
        (subst (λ (y : ℕ). get_or row p 0 ≤ get_or row y 0 + cost) e (subst (λ (z : ℕ). get_or row p 0 ≤ get_or row q 0 + z) f g))

    by_ends : ((linked.link.a.0 ≡ from) × (linked.link.b.0 ≡ via)) ⊎ ((linked.link.a.0 ≡ via) × (linked.link.b.0 ≡ from))
        → get_or row from 0 ≤ get_or row via 0 + cost
    by_ends (inl e) = same _ _ _ e.0 e.1 linked.priced (under _ _ parts.0)
    by_ends (inr e) = same _ _ _ e.1 e.0 linked.priced (under _ _ parts.1)

-- the entry is below `far`, and no walk of this cost is cheaper
record IsUnder (entry cost : ℕ) : Type 0 where
  near : entry < far
  below : entry ≤ cost

under_by : (x y first rest cost : ℕ) (nodes known_of : ℕ) → x ≤ y + first → IsUnder y rest → y ≤ 65535 * known_of → known_of ≤ nodes → nodes ≤ 64
    → first ≤ 65535 → cost ≡ first + rest → IsUnder x cost
under_by x y first rest cost nodes known_of h u near few nodes_few cheap e = let b = u.below in record { near = omega arith; below = omega arith }

under_walk : (links : List Link) (nodes root : ℕ) (row : List ℕ) → IsTopology nodes links → IsSound links nodes root row → IsTight links row
    → (steps : List ℕ) (from cost : ℕ) → from < nodes → IsWalk links from steps root cost → IsUnder (get_or row from 0) cost
under_walk links nodes root row t h tight [] from cost within walk =
    let here : get_or row from 0 ≡ 0 = subst (λ (k : ℕ). get_or row k 0 ≡ 0) (sym walk.0) h.here in
    record { near = omega arith; below = omega arith }
under_walk links nodes root row t h tight (next ∷ thereafter) from cost within walk =
    let g = good nodes links from next walk.0 t walk.2 in
    let u = under_walk links nodes root row t h tight thereafter next walk.1 g.b_within walk.3 in
    under_by (get_or row from 0) (get_or row next 0) walk.0 walk.1 cost nodes (reached row) (tight from next walk.0 walk.2) u
    (h.near next g.b_within u.near)
    (let size = h.size in omega (arith, known-le_length row)) t.few_nodes g.cheap walk.4
  where
    known-le_length : (xs : List ℕ) → reached xs ≤ length xs
    known-le_length xs = count_by-le-length (λ (x : ℕ). ltb x far) xs

-- A row whose links are all tight has the least costs.
pub cost_row : (links : List Link) (nodes root : ℕ) (row : List ℕ) → IsTopology nodes links → IsSound links nodes root row
    → list_all (is_tight row) links ≡ true → IsCostRow links nodes root row
cost_row links nodes root row t h e = record {
  size = h.size;
  top = h.top;
  least = λ k l f.
      let w = h.walks k l f in
      record {
        steps = w.steps;
        walk = w.walk;
        least =
            λ steps other walk. (under_walk links nodes root row t h (tight_linked links row e) steps k other l walk).below;
      };
  near = λ k l r. (under_walk links nodes root row t h (tight_linked links row e) r.steps k r.cost l r.walk).near;
}
