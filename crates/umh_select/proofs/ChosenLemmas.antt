-- What is found at the greatest length that covers the source is what is chosen of all routes.
use Rattle.std.proofs.Common.{◌≡◌, ◌<◌, ℕ, zero, suc, replicate, ◌≤◌, ◌==◌, ◌&&◌, max, Bool, true, false, inl, inr, List, [], ◌∷◌, ◌++◌, map, filter, Option, Some, None, option_map, slice_index_or, refl, sym, ap, subst, ◌∙◌, cond, arith, eqb-true, eq-eqb}
use Rattle.std.proofs.lemmas.Bool.{and_parts, cases_Bool, cases_lt}
use Rattle.std.specs.BTreeMap.{is_at}
use Rattle.std.specs.FinMap as maps
use Rattle.std.specs.FinMap.{FinMap, from_sorted}
use Rattle.mv_base.specs.Prefix.{covers}
use Rattle.mv_base.specs.declared.addr.Addr.{Addr}
use Rattle.mv_base.specs.declared.ids.NodeId.{NodeId}
use Rattle.mv_base.specs.declared.ids.SiteId.{SiteId}
use Rattle.mv_base.specs.declared.prefix.Prefix.{Prefix}
use Rattle.mv_base.specs.declared.rd.Rd.{Rd}
use Rattle.mv_base.specs.declared.rd.Rule.{Rule}
use Rattle.mv_base.specs.declared.rd.Rule.TheVariants.{Highest, Nearest, Hash}
use Rattle.choice_defs.specs.declared.known_route.KnownRoute.{KnownRoute}
use Rattle.choice_defs.specs.declared.origin.Origin.TheVariants.{Local}
use Rattle.choice_defs.specs.Choice.{Among, best_route, better_of, candidate_edges, cost_by, edges_of, hash_of, hashed_of, is_candidate, longest_bits, put_edge}
use Rattle.choice_defs.proofs.BestLemmas.{Best, BestIs, best, opposite}
use Rattle.umh_select.specs.declared.candidate.Candidate.{Candidate}
use Rattle.umh_select.specs.declared.key.Place.{Place}
use Rattle.umh_select.specs.declared.key.Place.TheVariants.{First, Here, From, Last}
use Rattle.umh_select.specs.declared.key.RouteKey.{RouteKey}
use Rattle.umh_select.specs.declared.route.Choice.{Choice}
use Rattle.umh_select.specs.declared.route.Choice.TheVariants as choices
use Rattle.umh_select.specs.declared.route.Held.{Held}
use Rattle.umh_select.specs.Edges.{cost_at, edge_of, edges_in}
use Rattle.umh_select.specs.Order.{key_cmp, key_total}
use Rattle.umh_select.specs.Routes.{AreFromNodes, AreOfCore, IsIndexed, IsNoneAt, Routes, at_length, best_of, candidate_of, choice_of, chosen, first_site, is_attached_place, is_learned_place, key_from, known, known_at, known_from, known_here, is_found, measure, named_by, origin_of, peer_of, rd_of, remote_choice}
use Rattle.umh_select.proofs.BestLemmas.{AllAt, AreAt, Cut, NoneLonger, best_winner, cut, local_first, winner, winner_among, winner_best}
use Rattle.mv_base.proofs.SortedMaps.{entries_of, get-lookup}
use Rattle.umh_select.proofs.OrderLemmas.{IsInner, Sorted, entry_found, entry_get, same_key, there}

-- ---- lists

module _ {X : Type 0} where
  among_kept : (p : X → Bool) (x : X) (xs : List X) → Among x (filter p xs) → Among x xs
  among_kept p x [] m = m
  among_kept p x (y ∷ ys) m = by (p y) m (among_kept p x ys)
    where
      by : (t : Bool) → Among x (cond t (y ∷ filter p ys) (filter p ys)) → (Among x (filter p ys) → Among x ys) → Among x (y ∷ ys)
      by true (inl e) k = inl e
      by true (inr n) k = inr (k n)
      by false n k = inr (k n)

  among_passed : (p : X → Bool) (x : X) (xs : List X) → p x ≡ true → Among x xs → Among x (filter p xs)
  among_passed p x [] h m = m
  among_passed p x (y ∷ ys) h (inl e) = subst (λ (t : Bool). Among x (cond t (y ∷ filter p ys) (filter p ys))) (sym (ap p (sym e) ∙ h)) (inl e)
  among_passed p x (y ∷ ys) h (inr m) = by (p y) (among_passed p x ys h m)
    where
      by : (t : Bool) → Among x (filter p ys) → Among x (cond t (y ∷ filter p ys) (filter p ys))
      by true n = inr n
      by false n = n

  filter_both : (p : X → Bool) (xs ys : List X) → filter p (xs ++ ys) ≡ filter p xs ++ filter p ys
  filter_both p [] ys = refl
  filter_both p (x ∷ xs) ys = by (p x) (filter_both p xs ys)
    where
      by : (t : Bool) → filter p (xs ++ ys) ≡ filter p xs ++ filter p ys
          → cond t (x ∷ filter p (xs ++ ys)) (filter p (xs ++ ys)) ≡ cond t (x ∷ filter p xs) (filter p xs) ++ filter p ys
      by true h = ap (λ (l : List X). x ∷ l) h
      by false h = h

  none_in : (x : X) (xs : List X) → xs ≡ [] → Among x xs → ⊥
  none_in x [] e m = m
  none_in x (y ∷ ys) e m = absurd cc

filter_mapped : {X Y : Type 0} (p : Y → Bool) (f : X → Y) (xs : List X) → filter p (map f xs) ≡ map f (filter (λ x. p (f x)) xs)
filter_mapped p f [] = refl
filter_mapped {X = X} {Y = Y} p f (x ∷ xs) = by (p (f x)) (filter_mapped p f xs)
  where
    by : (t : Bool) → filter p (map f xs) ≡ map f (filter (λ y. p (f y)) xs)
        → cond t (f x ∷ filter p (map f xs)) (filter p (map f xs)) ≡ map f (cond t (x ∷ filter (λ y. p (f y)) xs) (filter (λ y. p (f y)) xs))
    by true h = ap (λ (l : List Y). f x ∷ l) h
    by false h = h

pub known_filter : (routes : Routes) (source : Addr) (bits : ℕ) → filter (is_candidate bits source) (known routes) ≡ known_at routes source bits
known_filter routes source bits =
    filter_both (is_candidate bits source) (map known_here (maps.entries routes.attached)) (map known_from (maps.entries routes.learned))
    ∙ (λ i. filter_mapped (is_candidate bits source) known_here (maps.entries routes.attached) i
    ++ filter_mapped (is_candidate bits source) known_from (maps.entries routes.learned) i)

-- ---- places

learned_by : (p : Place) → is_learned_place p ≡ true → IsInner p
learned_by First h = absurd cc
learned_by Here h = tt
learned_by (From peer rd) h = tt
learned_by Last h = absurd cc

attached_by : (p : Place) → is_attached_place p ≡ true → IsInner p
attached_by First h = absurd cc
attached_by Here h = tt
attached_by (From peer rd) h = tt
attached_by Last h = absurd cc

module _ {X : Type 0} (is_place : Place → Bool) (lengths : List Bool) (es : List (RouteKey × X)) (indexed : IsIndexed is_place lengths es) where
  pub placed : (e : RouteKey × X) → Among e es → is_place e.0.place ≡ true
  placed e m = elim (cases_Bool (is_place e.0.place)) [ inl h ↦ h | inr h ↦ absurd (there e es m (indexed.placed e.0 h)) ]

  marked : (e : RouteKey × X) → Among e es → slice_index_or lengths e.0.prefix.bits false ≡ true
  marked e m = elim (cases_Bool (slice_index_or lengths e.0.prefix.bits false)) [ inl h ↦ h | inr h ↦ absurd (there e es m (indexed.marked e.0 h)) ]

  none_by : (source : Addr) (bits : ℕ) (found : List (RouteKey × X))
      → ((e : RouteKey × X) → Among e found → (Among e es) × ((covers e.0.prefix source && e.0.prefix.bits == bits) ≡ true))
      → ((e : RouteKey × X) → Among e es → e.0.prefix.bits ≡ bits → ⊥) → found ≡ []
  none_by source bits [] h k = refl
  none_by source bits (e ∷ more) h k =
      let own = h e (inl refl) in
      absurd (k e own.0 (eqb-true e.0.prefix.bits bits (and_parts (covers e.0.prefix source) (e.0.prefix.bits == bits) own.1).1))

  passes : (p : RouteKey × X → Bool) (e : RouteKey × X) (xs : List (RouteKey × X)) → Among e (filter p xs) → p e ≡ true
  passes p e [] m = absurd m
  passes p e (y ∷ ys) m = by (p y) refl m (passes p e ys)
    where
      by : (t : Bool) → p y ≡ t → Among e (cond t (y ∷ filter p ys) (filter p ys)) → (Among e (filter p ys) → p e ≡ true) → p e ≡ true
      by true q (inl same) k = ap p same ∙ q
      by true q (inr n) k = k n
      by false q n k = k n

  none_there : (source : Addr) (bits : ℕ) → ((e : RouteKey × X) → Among e es → e.0.prefix.bits ≡ bits → ⊥) → at_length source bits es ≡ []
  none_there source bits k =
      none_by source bits (at_length source bits es)
      (λ e m. (
        among_kept (λ (e : RouteKey × X). covers e.0.prefix source && e.0.prefix.bits == bits) e es m,
        passes (λ (e : RouteKey × X). covers e.0.prefix source && e.0.prefix.bits == bits) e es m,
      )) k

  -- no route is of a length that isn't marked
  pub unmarked : (source : Addr) (bits : ℕ) → slice_index_or lengths bits false ≡ false → (map : FinMap key_cmp X) → maps.entries map ≡ es
      → at_length source bits (maps.entries map) ≡ []
  unmarked source bits k map is =
      ap (at_length source bits) is
      ∙ none_there source bits (λ e m same. opposite (slice_index_or lengths bits false)
      (subst (λ (n : ℕ). slice_index_or lengths n false ≡ true) same (marked e m)) k)

-- of lengths that are all unmarked none is marked
pub none_marked : (count bits : ℕ) → slice_index_or (replicate count false) bits false ≡ false
none_marked zero bits = refl
none_marked (suc count) zero = refl
none_marked (suc count) (suc bits) = none_marked count bits

pub learned_inner : (lengths : List Bool) (es : List (RouteKey × Held)) → IsIndexed is_learned_place lengths es → (e : RouteKey × Held) → Among e es
    → IsInner e.0.place
learned_inner lengths es indexed e m = learned_by e.0.place (placed is_learned_place lengths es indexed e m)

pub attached_inner : (lengths : List Bool) (es : List (RouteKey × SiteId)) → IsIndexed is_attached_place lengths es → (e : RouteKey × SiteId)
    → Among e es → IsInner e.0.place
attached_inner lengths es indexed e m = attached_by e.0.place (placed is_attached_place lengths es indexed e m)

-- ---- routes of one length

pub are_at : (cost : NodeId → ℕ) (source : Addr) (bits : ℕ) (es : List (RouteKey × Held)) → AreAt cost bits source (at_length source bits es)
are_at cost source bits [] = tt
are_at cost source bits (e ∷ es) = by (covers e.0.prefix source) (e.0.prefix.bits == bits) refl refl (are_at cost source bits es)
  where
    by : (c t : Bool) → covers e.0.prefix source ≡ c → (e.0.prefix.bits == bits) ≡ t → AreAt cost bits source (at_length source bits es)
        → AreAt cost bits source (cond (c && t) (e ∷ at_length source bits es) (at_length source bits es))
    by true true h k rest = (h, eqb-true e.0.prefix.bits bits k, rest)
    by true false h k rest = rest
    by false t h k rest = rest

all_from_nodes : (nodes : ℕ) (es : List (RouteKey × Held)) → ((e : RouteKey × Held) → Among e es → (peer_of e.0.place).0 < nodes)
    → AreFromNodes nodes es
all_from_nodes nodes [] h = tt
all_from_nodes nodes (e ∷ es) h = (h e (inl refl), all_from_nodes nodes es (λ f m. h f (inr m)))

pub of_core : (nodes : ℕ) (source : Addr) (bits : ℕ) (learned : FinMap key_cmp Held) → AreOfCore nodes learned
    → AreFromNodes nodes (at_length source bits (maps.entries learned))
of_core nodes source bits learned h =
    all_from_nodes nodes (at_length source bits (maps.entries learned))
    (λ e m. h e.0 e.1 (entry_get learned e (among_kept (λ (e : RouteKey × Held). covers e.0.prefix source && e.0.prefix.bits == bits) e
    (maps.entries learned) m)))

-- ---- the best one of learned routes

from_again : (key : RouteKey) → is_learned_place key.place ≡ true → key_from (peer_of key.place) (rd_of key.place) key.prefix ≡ key
from_again key h = by key.place h
  where
    by : (p : Place) → is_learned_place p ≡ true → key_from (peer_of p) (rd_of p) key.prefix ≡ record { prefix = key.prefix; place = p }
    by First h = absurd cc
    by Here h = absurd cc
    by (From peer rd) h = refl
    by Last h = absurd cc

module _ (cost : NodeId → ℕ) (lengths : List Bool) (es : List (RouteKey × Held)) (a : Sorted es) (indexed : IsIndexed is_learned_place lengths es)
  where
    abbrev learned : FinMap key_cmp Held
    learned = from_sorted es

    get_of : (e : RouteKey × Held) → Among e es → maps.get learned (key_from (peer_of e.0.place) (rd_of e.0.place) e.0.prefix) ≡ Some e.1
    get_of e m =
        ap (maps.get learned) (from_again e.0 (placed is_learned_place lengths es indexed e m)) ∙ (get-lookup key_cmp es e.0 a ∙ entry_found e es a m)

    first_better : (e : RouteKey × Held) (t : Bool) → t ≡ true → (rest : Option KnownRoute)
        → better_of cost true (known_from e) rest ≡ better_of cost t (known_from e) rest
    first_better e t h rest = ap (λ (b : Bool). better_of cost b (known_from e) rest) (sym h)

    abbrev found : Addr → ℕ → List (RouteKey × Held)
    found source bits = at_length source bits es

    best_by : (source : Addr) (bits : ℕ) (xs : List (RouteKey × Held)) → AreAt cost bits source xs → ((e : RouteKey × Held) → Among e xs → Among e es)
        → (choice_of (best_of None (map (candidate_of cost) xs)) ≡ chosen learned (best_route cost (map known_from xs) source))
        × (origin_of (choice_of (best_of None (map (candidate_of cost) xs)))
        ≡ option_map (λ route. route.origin) (best_route cost (map known_from xs) source))
    best_by source bits [] h k = (refl, refl)
    best_by source bits (e ∷ more) h k =
        let won = winner cost e more in
        let is : best_of None (map (candidate_of cost) (e ∷ more)) ≡ Some (candidate_of cost won) = best_winner cost e more in
        let route : best_route cost (map known_from (e ∷ more)) source ≡ Some (known_from won) =
        sym (winner_best cost bits source e more h ∙ first_better e (covers e.0.prefix source) h.0 (best_route cost (map known_from more) source)) in
        let got = get_of won (k won (winner_among cost e more)) in (
          ap choice_of is ∙ (sym (ap (λ (o : Option Held). remote_choice (peer_of won.0.place) (rd_of won.0.place) o) got)
              ∙ sym (ap (chosen learned) route)),
          ap (λ (c : Option Candidate). origin_of (choice_of c)) is ∙ sym (ap (option_map (λ (r : KnownRoute). r.origin)) route),
        )

    pub best_is : (source : Addr) (bits : ℕ)
        → (choice_of (best_of None (map (candidate_of cost) (at_length source bits es)))
        ≡ chosen learned (best_route cost (map known_from (at_length source bits es)) source))
        × (origin_of (choice_of (best_of None (map (candidate_of cost) (at_length source bits es))))
        ≡ option_map (λ route. route.origin) (best_route cost (map known_from (at_length source bits es)) source))
    best_is source bits =
        best_by source bits (at_length source bits es) (are_at cost source bits es)
        (λ e m. among_kept (λ (e : RouteKey × Held). covers e.0.prefix source && e.0.prefix.bits == bits) e es m)

pub remote_is : (cost : NodeId → ℕ) (lengths : List Bool) (es : List (RouteKey × Held)) → Sorted es → IsIndexed is_learned_place lengths es
    → (known : FinMap key_cmp Held) → from_sorted es ≡ known → (source : Addr) (bits : ℕ)
    → (choice_of (best_of None (map (candidate_of cost) (at_length source bits (maps.entries known))))
    ≡ chosen known (best_route cost (map known_from (at_length source bits (maps.entries known))) source))
    × (origin_of (choice_of (best_of None (map (candidate_of cost) (at_length source bits (maps.entries known)))))
    ≡ option_map (λ route. route.origin) (best_route cost (map known_from (at_length source bits (maps.entries known))) source))
remote_is cost lengths es a indexed known is source bits =
    subst (λ (m : FinMap key_cmp Held).
    (choice_of (best_of None (map (candidate_of cost) (at_length source bits (maps.entries m))))
    ≡ chosen m (best_route cost (map known_from (at_length source bits (maps.entries m))) source))
    × (origin_of (choice_of (best_of None (map (candidate_of cost) (at_length source bits (maps.entries m)))))
    ≡ option_map (λ (route : KnownRoute). route.origin) (best_route cost (map known_from (at_length source bits (maps.entries m))) source)))
    is
    (subst (λ (l : List (RouteKey × Held)).
    (choice_of (best_of None (map (candidate_of cost) (at_length source bits l)))
    ≡ chosen (from_sorted es) (best_route cost (map known_from (at_length source bits l)) source))
    × (origin_of (choice_of (best_of None (map (candidate_of cost) (at_length source bits l))))
    ≡ option_map (λ (route : KnownRoute). route.origin) (best_route cost (map known_from (at_length source bits l)) source)))
    (sym (entries_of key_cmp es a)) (best_is cost lengths es a indexed source bits))

-- ---- an attached prefix

module _ (cost : NodeId → ℕ) (source : Addr) (bits : ℕ) where
  all_from : (xs : List (RouteKey × Held)) → AreAt cost bits source xs → AllAt cost bits (map known_from xs)
  all_from [] h = tt
  all_from (x ∷ xs) h = (h.1, all_from xs h.2)

  all_both : (xs ys : List KnownRoute) → AllAt cost bits xs → AllAt cost bits ys → AllAt cost bits (xs ++ ys)
  all_both [] ys h k = k
  all_both (x ∷ xs) ys h k = (h.0, all_both xs ys h.1 k)

  abbrev AreHere : List (RouteKey × SiteId) → Type 0
  AreHere [] = Unit {0}
  AreHere (e ∷ es) = (covers e.0.prefix source ≡ true) × (e.0.prefix.bits ≡ bits) × AreHere es

  are_here : (es : List (RouteKey × SiteId)) → AreHere (at_length source bits es)
  are_here [] = tt
  are_here (e ∷ es) = by (covers e.0.prefix source) (e.0.prefix.bits == bits) refl refl (are_here es)
    where
      by : (c t : Bool) → covers e.0.prefix source ≡ c → (e.0.prefix.bits == bits) ≡ t → AreHere (at_length source bits es)
          → AreHere (cond (c && t) (e ∷ at_length source bits es) (at_length source bits es))
      by true true h k rest = (h, eqb-true e.0.prefix.bits bits k, rest)
      by true false h k rest = rest
      by false t h k rest = rest

  all_here : (es : List (RouteKey × SiteId)) → AreHere es → AllAt cost bits (map known_here es)
  all_here [] h = tt
  all_here (e ∷ es) h = (h.1, all_here es h.2)

  site_by : (here : List (RouteKey × SiteId)) (site : SiteId) → AreHere here → first_site here ≡ Some site → (more : List KnownRoute)
      → AllAt cost bits more
      → (learned : FinMap key_cmp Held)
      → (choices.Local site ≡ chosen learned (best_route cost (map known_here here ++ more) source))
      × (origin_of (choices.Local site) ≡ option_map (λ route. route.origin) (best_route cost (map known_here here ++ more) source))
  site_by [] site h e more k learned = absurd cc
  site_by (x ∷ xs) site h e more k learned =
      let same : x.1 ≡ site = cc in
      let is = local_first cost bits source x (map known_here xs ++ more) h.0 h.1 (all_both (map known_here xs) more (all_here xs h.2) k) in (
        ap (λ (s : SiteId). choices.Local s) (sym same) ∙ sym (ap (chosen learned) is),
        ap (λ (s : SiteId). Some (Local s)) (sym same) ∙ sym (ap (option_map (λ (r : KnownRoute). r.origin)) is),
      )

  pub site_is : (here : List (RouteKey × SiteId)) (es : List (RouteKey × Held)) (site : SiteId) (learned : FinMap key_cmp Held)
      → first_site (at_length source bits here) ≡ Some site
      → (choices.Local site ≡ chosen learned (best_route cost
      (map known_here (at_length source bits here) ++ map known_from (at_length source bits es)) source))
      × (origin_of (choices.Local site) ≡ option_map (λ route. route.origin)
      (best_route cost (map known_here (at_length source bits here) ++ map known_from (at_length source bits es)) source))
  site_is here es site learned e =
      site_by (at_length source bits here) site (are_here here) e (map known_from (at_length source bits es))
      (all_from (at_length source bits es) (are_at cost source bits es)) learned

pub no_site : (xs : List (RouteKey × SiteId)) → first_site xs ≡ None → xs ≡ []
no_site [] h = refl
no_site (x ∷ xs) h = absurd cc

-- ---- all lengths

module _ (routes : Routes) (source group : Addr) (bits : ℕ) where
  among_longer : ((length : ℕ) → suc bits ≤ length → IsNoneAt routes source length) → (r : KnownRoute) → Among r (known routes)
      → covers r.prefix source ≡ true → r.prefix.bits ≤ bits
  among_longer none r m h = elim (cases_lt bits r.prefix.bits) [
    | inr le ↦ le
    | inl more ↦ absurd (
        let empty = none r.prefix.bits more in
        none_in r (known_at routes source r.prefix.bits) (λ i. map known_here (empty.0 i) ++ map known_from (empty.1 i))
        (subst (λ (l : List KnownRoute). Among r l) (known_filter routes source r.prefix.bits)
        (among_passed (is_candidate r.prefix.bits source) r (known routes)
        (ap (λ (t : Bool). t && r.prefix.bits == r.prefix.bits) h ∙ eq-eqb r.prefix.bits r.prefix.bits refl) m)))
  ]

  longer_by : (xs : List KnownRoute) → ((r : KnownRoute) → Among r xs → covers r.prefix source ≡ true → r.prefix.bits ≤ bits) → (cost : NodeId → ℕ)
      → NoneLonger cost bits source xs
  longer_by [] h cost = tt
  longer_by (x ∷ xs) h cost = (λ c. h x (inl refl) c, longer_by xs (λ r m. h r (inr m)) cost)

  -- the edges of the candidates
  edges_from : (es : List (RouteKey × Held)) → edges_of bits (map known_from es) source ≡ edges_in (at_length source bits es)
  edges_from [] = refl
  edges_from (e ∷ es) = by (covers e.0.prefix source && e.0.prefix.bits == bits) (edges_from es)
    where
      by : (t : Bool) → edges_of bits (map known_from es) source ≡ edges_in (at_length source bits es)
          → cond t (put_edge (edge_of e) (edges_of bits (map known_from es) source)) (edges_of bits (map known_from es) source)
          ≡ edges_in (cond t (e ∷ at_length source bits es) (at_length source bits es))
      by true h = ap (put_edge (edge_of e)) h
      by false h = h

  same_either : {X : Type 0} (t : Bool) (x : X) → cond t x x ≡ x
  same_either true x = refl
  same_either false x = refl

  edges_past : (here : List (RouteKey × SiteId)) (more : List KnownRoute)
      → edges_of bits (map known_here here ++ more) source ≡ edges_of bits more source
  edges_past [] more = refl
  edges_past (e ∷ es) more =
      same_either (covers e.0.prefix source && e.0.prefix.bits == bits) (edges_of bits (map known_here es ++ more) source) ∙ edges_past es more

  longest_most : (xs : List KnownRoute) → ((r : KnownRoute) → Among r xs → covers r.prefix source ≡ true → r.prefix.bits ≤ bits)
      → longest_bits xs source ≤ bits
  longest_most [] h = zero_least bits
    where
      zero_least : (n : ℕ) → 0 ≤ n
      zero_least n = omega arith
  longest_most (x ∷ xs) h =
      at_most (cond (covers x.prefix source) x.prefix.bits 0) (longest_bits xs source) (by (covers x.prefix source) refl)
      (longest_most xs (λ r m. h r (inr m)))
    where
      at_most : (m n : ℕ) → m ≤ bits → n ≤ bits → max m n ≤ bits
      at_most m n h k = grind (arith)

      by : (t : Bool) → covers x.prefix source ≡ t → cond t x.prefix.bits 0 ≤ bits
      by true e = h x (inl refl) e
      by false e = omega arith

  longest_least : (xs : List KnownRoute) (r : KnownRoute) → Among r xs → covers r.prefix source ≡ true → r.prefix.bits ≤ longest_bits xs source
  longest_least [] r m c = absurd m
  longest_least (x ∷ xs) r (inl e) c =
      first r.prefix.bits (longest_bits xs source) (cond (covers x.prefix source) x.prefix.bits 0)
      (sym (ap (λ (t : Bool). cond t x.prefix.bits 0) (ap (λ (y : KnownRoute). covers y.prefix source) (sym e) ∙ c)
      ∙ ap (λ (y : KnownRoute). y.prefix.bits) (sym e)))
    where
      first : (m n k : ℕ) → m ≡ k → m ≤ max k n
      first m n k e = grind (arith, e)
  longest_least (x ∷ xs) r (inr m) c =
      rest r.prefix.bits (longest_bits xs source) (cond (covers x.prefix source) x.prefix.bits 0) (longest_least xs r m c)
    where
      rest : (m n k : ℕ) → m ≤ n → m ≤ max k n
      rest m n k h = grind (arith, h)

  costs_by : (rule : Rule) (cost : NodeId → ℕ) (edges : List (NodeId × Addr)) → edges ≡ candidate_edges (known routes) source
      → measure rule cost (named_by rule (hashed_of (hash_of source group) edges)) ≡ cost_by rule cost (known routes) source group
  costs_by Highest cost edges e = refl
  costs_by Nearest cost edges e = refl
  costs_by Hash cost edges e = ap (λ (l : List (NodeId × Addr)). measure Hash cost (hashed_of (hash_of source group) l)) e

  abbrev costs : (NodeId → ℕ) → NodeId → ℕ
  costs cost = cost_at routes source group bits cost

  abbrev Most : Type 0
  Most = (r : KnownRoute) → Among r (known routes) → covers r.prefix source ≡ true → r.prefix.bits ≤ bits

  same_edges : (r : KnownRoute) → Most → Among r (known routes) → covers r.prefix source ≡ true → r.prefix.bits ≡ bits
      → edges_in (at_length source bits (maps.entries routes.learned)) ≡ candidate_edges (known routes) source
  same_edges r most m c e =
      let above : r.prefix.bits ≤ longest_bits (known routes) source = longest_least (known routes) r m c in
      let below : longest_bits (known routes) source ≤ bits = longest_most (known routes) most in
      let same : bits ≡ longest_bits (known routes) source = one_bound bits (longest_bits (known routes) source) r.prefix.bits e above below in
      sym (edges_past (maps.entries routes.attached) (map known_from (maps.entries routes.learned)) ∙ edges_from (maps.entries routes.learned))
      ∙ ap (λ (n : ℕ). edges_of n (known routes) source) same
    where
      one_bound : (b l n : ℕ) → n ≡ b → n ≤ l → l ≤ b → b ≡ l
      one_bound b l n e h k = grind (arith, e, h, k)

  abbrev Wanted : (NodeId → ℕ) → Type 0
  Wanted cost =
      best_route (costs cost) (known_at routes source bits) source
      ≡ best_route (cost_by routes.rule cost (known routes) source group) (known routes) source

  found_by : (cost : NodeId → ℕ) → Most → (found : Option KnownRoute) → best_route (costs cost) (known_at routes source bits) source ≡ found
      → Cut (costs cost) bits found (best_route (costs cost) (known routes) source)
      → (found ≡ None → ⊥) → Wanted cost
  found_by cost most None e c n = absurd (n refl)
  found_by cost most (Some r) e c n =
      let is : Best (costs cost) (known routes) source r =
      subst (λ (o : Option KnownRoute). BestIs (costs cost) (known routes) source o) c.0 (best (costs cost) (known routes) source) in
      let same =
      costs_by routes.rule cost (edges_in (at_length source bits (maps.entries routes.learned))) (same_edges r most is.among is.covering c.1) in
      e ∙ (sym c.0 ∙ ap (λ (m : NodeId → ℕ). best_route m (known routes) source) same)

  -- the best one of that length, where none is longer, is the best one of all by the rule
  pub all_lengths : (cost : NodeId → ℕ) → ((length : ℕ) → suc bits ≤ length → IsNoneAt routes source length)
      → (best_route (costs cost) (known_at routes source bits) source ≡ None → ⊥) → Wanted cost
  all_lengths cost none some =
      let most = among_longer none in
      let c = cut (costs cost) bits source (known routes) (longer_by (known routes) most (costs cost)) in
      found_by cost most (best_route (costs cost) (known_at routes source bits) source) refl
      (subst (λ (l : List KnownRoute). Cut (costs cost) bits (best_route (costs cost) l source) (best_route (costs cost) (known routes) source))
      (known_filter routes source bits) c) some

-- ---- no length

module _ (routes : Routes) (source : Addr) where
  uncovered_by : (cost : NodeId → ℕ) (xs : List KnownRoute) → ((r : KnownRoute) → Among r xs → covers r.prefix source ≡ true → ⊥)
      → best_route cost xs source ≡ None
  uncovered_by cost [] h = refl
  uncovered_by cost (x ∷ xs) h = by (covers x.prefix source) refl (uncovered_by cost xs (λ r m. h r (inr m)))
    where
      by : (t : Bool) → covers x.prefix source ≡ t → best_route cost xs source ≡ None → better_of cost t x (best_route cost xs source) ≡ None
      by true e k = absurd (h x (inl refl) e)
      by false e k = k

  -- where no prefix of any length covers the source, no route is chosen
  pub no_length : (cost : NodeId → ℕ) → ((length : ℕ) → IsNoneAt routes source length) → best_route cost (known routes) source ≡ None
  no_length cost none =
      uncovered_by cost (known routes) (λ r m c.
      let empty = none r.prefix.bits in
      none_in r (known_at routes source r.prefix.bits) (λ i. map known_here (empty.0 i) ++ map known_from (empty.1 i))
      (subst (λ (l : List KnownRoute). Among r l) (known_filter routes source r.prefix.bits)
      (among_passed (is_candidate r.prefix.bits source) r (known routes)
      (ap (λ (t : Bool). t && r.prefix.bits == r.prefix.bits) c ∙ eq-eqb r.prefix.bits r.prefix.bits refl) m)))

-- ---- whether there is a choice

pub found_not : (choice : Choice) → is_found choice ≡ true → choice ≡ choices.None → ⊥
found_not choice h e = absurd (let bad : true ≡ false = sym h ∙ ap is_found e in cc)

pub not_found : (choice : Choice) → is_found choice ≡ false → choice ≡ choices.None
not_found choices.None h = refl
not_found (choices.Local site) h = absurd cc
not_found (choices.Remote edge rd import source_as) h = absurd cc

-- ---- the peers of routes that are learned

pub none_of_core : (nodes : ℕ) → AreOfCore nodes maps.empty
none_of_core nodes key held h = absurd (let bad : None ≡ Some held = sym (maps.get-empty key_cmp key) ∙ h in cc)

pub learned_of_core : (nodes : ℕ) (learned : FinMap key_cmp Held) (peer : NodeId) (rd : Rd) (prefix : Prefix) (held : Held) → peer.0 < nodes
    → AreOfCore nodes learned → AreOfCore nodes (maps.insert learned (key_from peer rd prefix) held)
learned_of_core nodes learned peer rd prefix held h k key found e =
    by (is_at (key_cmp key) (key_from peer rd prefix)) refl (sym (maps.get-insert key_total learned (key_from peer rd prefix) held key) ∙ e)
  where
    by : (t : Bool) → is_at (key_cmp key) (key_from peer rd prefix) ≡ t → cond t (Some held) (maps.get learned key) ≡ Some found
        → (peer_of key.place).0 < nodes
    by true same g = subst (λ (q : RouteKey). (peer_of q.place).0 < nodes) (sym (same_key key (key_from peer rd prefix) same)) h
    by false other g = k key found g
