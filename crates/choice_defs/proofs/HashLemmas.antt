-- The edge that the hash names.
use Rattle.std.proofs.Common.{◌≡◌, ℕ, zero, suc, ◌<◌, ◌≤◌, ◌%◌, max, ◌==◌, ◌&&◌, Bool, true, false, ◌⊎◌, ◌↔◌, inl, inr, List, [], ◌∷◌, map, length, slice_get, Some, option_map, refl, sym, ap, subst, ◌∙◌, cond, arith}
use Rattle.std.proofs.lemmas.Bool.Decides.{nat_tests}
use Rattle.std.proofs.lemmas.Nat.{mod_below}
use Rattle.std.specs.declared.cmp.Ordering.{Ordering}
use Rattle.std.specs.declared.cmp.Ordering.TheVariants.{Less, Equal, Greater}
use Rattle.scenario_defs.specs.mv_base.Prefix.{covers}
use Rattle.scenario_defs.specs.mv_base.declared.addr.Addr.{Addr}
use Rattle.scenario_defs.specs.mv_base.declared.ids.NodeId.{NodeId}
use Rattle.scenario_defs.specs.mv_base.declared.rd.Rd.{Rd}
use Rattle.choice_defs.specs.declared.known_route.KnownRoute.{KnownRoute}
use Rattle.choice_defs.specs.declared.origin.Origin.{Origin}
use Rattle.choice_defs.specs.declared.origin.Origin.TheVariants.{Local, Remote}
use Rattle.choice_defs.specs.Choice.{Among, addr_cmp, IsLower, hash_of, longest_bits, is_candidate, put_by, put_edge, put_origin, edges_of, candidate_edges, hashed_of, IsCandidate, IsEdgeOfCandidate, AreRising, IsHashed}
use Rattle.choice_defs.proofs.OrderLemmas.{greater_back, not_itself, not_both, addr_cmp_total, one_addr}

abbrev Edge : Type 0
Edge = NodeId × Addr

abbrev pub addresses : List Edge → List Addr
addresses edges = map (λ (edge : Edge). edge.1) edges

-- ---- lists by rising address

-- two rising lists of the same addresses are one
rising_heads : (x y : Addr) (xs ys : List Addr) → AreRising (x ∷ xs) → AreRising (y ∷ ys) → Among x (y ∷ ys) → Among y (x ∷ xs) → x ≡ y
rising_heads x y xs ys r s (inl e) m = e
rising_heads x y xs ys r s (inr n) (inl e) = sym e
rising_heads x y xs ys r s (inr n) (inr m) = absurd (not_both addr_cmp_total x y (r.0 y m) (s.0 x n))

thereafter : (x y : Addr) (xs ys : List Addr) → x ≡ y → AreRising (x ∷ xs) → ((a : Addr) → Among a (x ∷ xs) → Among a (y ∷ ys)) → (a : Addr) → Among a xs
    → Among a ys
thereafter x y xs ys e r same a m = elim (same a (inr m)) [
  | inl f ↦ absurd (not_itself addr_cmp_total x (subst (λ (b : Addr). IsLower x b) (f ∙ sym e) (r.0 a m)))
  | inr n ↦ n
]

pub one_rising : (xs ys : List Addr) → AreRising xs → AreRising ys → ((a : Addr) → Among a xs → Among a ys) → ((a : Addr) → Among a ys → Among a xs)
    → xs ≡ ys
one_rising [] [] r s there back = refl
one_rising [] (y ∷ ys) r s there back = absurd (back y (inl refl))
one_rising (x ∷ xs) [] r s there back = absurd (there x (inl refl))
one_rising (x ∷ xs) (y ∷ ys) r s there back =
    let heads = rising_heads x y xs ys r s (there x (inl refl)) (back y (inl refl)) in
    let tails = one_rising xs ys r.1 s.1 (thereafter x y xs ys heads r there) (thereafter y x ys xs (sym heads) s back) in
    λ i. heads i ∷ tails i

-- ---- one more edge

put_from_by : (new x p : Edge) (xs put : List Edge) → (Among p put → (p ≡ new) ⊎ Among p xs) → (o : Ordering) → Among p (put_by o new x xs put)
    → (p ≡ new) ⊎ Among p (x ∷ xs)
put_from_by new x p xs put k Less (inl h) = inl h
put_from_by new x p xs put k Less (inr m) = inr m
put_from_by new x p xs put k Equal m = inr m
put_from_by new x p xs put k Greater (inl h) = inr (inl h)
put_from_by new x p xs put k Greater (inr m) = elim (k m) [ inl h ↦ inl h | inr n ↦ inr (inr n) ]

put_from : (new p : Edge) (xs : List Edge) → Among p (put_edge new xs) → (p ≡ new) ⊎ Among p xs
put_from new p [] (inl h) = inl h
put_from new p [] (inr n) = absurd n
put_from new p (x ∷ xs) m = put_from_by new x p xs (put_edge new xs) (put_from new p xs) (addr_cmp new.1 x.1) m

put_here_by : (new x : Edge) (xs put : List Edge) → Among new.1 (addresses put) → (o : Ordering) → addr_cmp new.1 x.1 ≡ o
    → Among new.1 (addresses (put_by o new x xs put))
put_here_by new x xs put k Less h = inl refl
put_here_by new x xs put k Equal h = inl (one_addr new.1 x.1 h)
put_here_by new x xs put k Greater h = inr k

put_here : (new : Edge) (xs : List Edge) → Among new.1 (addresses (put_edge new xs))
put_here new [] = inl refl
put_here new (x ∷ xs) = put_here_by new x xs (put_edge new xs) (put_here new xs) (addr_cmp new.1 x.1) refl

put_kept_by : (new x : Edge) (a : Addr) (xs put : List Edge) → (Among a (addresses xs) → Among a (addresses put)) → (o : Ordering)
    → Among a (addresses (x ∷ xs))
    → Among a (addresses (put_by o new x xs put))
put_kept_by new x a xs put k Less m = inr m
put_kept_by new x a xs put k Equal m = m
put_kept_by new x a xs put k Greater (inl h) = inl h
put_kept_by new x a xs put k Greater (inr m) = inr (k m)

put_kept : (new : Edge) (a : Addr) (xs : List Edge) → Among a (addresses xs) → Among a (addresses (put_edge new xs))
put_kept new a [] m = absurd m
put_kept new a (x ∷ xs) m = put_kept_by new x a xs (put_edge new xs) (put_kept new a xs) (addr_cmp new.1 x.1) m

-- an address of edges is that of one of them
pub of_edge : (a : Addr) (xs : List Edge) → Among a (addresses xs) → (edge : NodeId) × Among (edge, a) xs
of_edge a [] m = absurd m
of_edge a ((f, b) ∷ xs) (inl h) = (f, inl (λ i. (f, h i)))
of_edge a (x ∷ xs) (inr m) = let found = of_edge a xs m in (found.0, inr found.1)

address_from : (new : Edge) (a : Addr) (xs : List Edge) → Among a (addresses (put_edge new xs)) → (a ≡ new.1) ⊎ Among a (addresses xs)
address_from new a xs m = let found = of_edge a (put_edge new xs) m in elim (put_from new (found.0, a) xs found.1) [
  | inl h ↦ inl (ap (λ (p : Edge). p.1) h)
  | inr n ↦ inr (among_addresses found.0 a xs n)
]
  where
    among_addresses : (e : NodeId) (b : Addr) (ys : List Edge) → Among (e, b) ys → Among b (addresses ys)
    among_addresses e b [] n = absurd n
    among_addresses e b (y ∷ ys) (inl h) = inl (ap (λ (p : Edge). p.1) h)
    among_addresses e b (y ∷ ys) (inr n) = inr (among_addresses e b ys n)

below : (new x : Edge) (xs : List Edge) → AreRising (addresses (x ∷ xs)) → IsLower new.1 x.1 → (a : Addr) → Among a (addresses (x ∷ xs))
    → IsLower new.1 a
below new x xs r l a (inl h) = subst (λ (b : Addr). IsLower new.1 b) (sym h) l
below new x xs r l a (inr m) = addr_cmp_total.trans new.1 x.1 a l (r.0 a m)

above : (new x : Edge) (xs : List Edge) → AreRising (addresses (x ∷ xs)) → IsLower x.1 new.1 → (a : Addr) → (a ≡ new.1) ⊎ Among a (addresses xs)
    → IsLower x.1 a
above new x xs r l a (inl h) = subst (λ (b : Addr). IsLower x.1 b) (sym h) l
above new x xs r l a (inr m) = r.0 a m

put_rising_by : (new x : Edge) (xs : List Edge) → AreRising (addresses (x ∷ xs)) → AreRising (addresses (put_edge new xs)) → (o : Ordering)
    → addr_cmp new.1 x.1 ≡ o
    → AreRising (addresses (put_by o new x xs (put_edge new xs)))
put_rising_by new x xs r k Less h = (below new x xs r h, r)
put_rising_by new x xs r k Equal h = r
put_rising_by new x xs r k Greater h = (λ a m. above new x xs r (greater_back addr_cmp_total new.1 x.1 h) a (address_from new a xs m), k)

put_rising : (new : Edge) (xs : List Edge) → AreRising (addresses xs) → AreRising (addresses (put_edge new xs))
put_rising new [] r = (λ a m. absurd m, tt)
put_rising new (x ∷ xs) r = put_rising_by new x xs r (put_rising new xs r.1) (addr_cmp new.1 x.1) refl

-- ---- the edges of routes

-- a route that covers the source, has that length, and is of that edge
record IsOf (bits : ℕ) (routes : List KnownRoute) (source : Addr) (edge : NodeId) (address : Addr) : Type 0 where
  route : KnownRoute
  rd : Rd
  among : Among route routes
  covering : covers route.prefix source ≡ true
  of_bits : route.prefix.bits ≡ bits
  of_edge : route.origin ≡ Remote edge address rd

later : (bits : ℕ) (x : KnownRoute) (xs : List KnownRoute) (source : Addr) (e : NodeId) (a : Addr) → IsOf bits xs source e a
    → IsOf bits (x ∷ xs) source e a
later bits x xs source e a f =
    record { route = f.route; rd = f.rd; among = inr f.among; covering = f.covering; of_bits = f.of_bits; of_edge = f.of_edge }

both : (p q : Bool) → (p && q) ≡ true → (p ≡ true) × (q ≡ true)
both true q h = (refl, h)
both false q h = absurd cc

same_number : (m n : ℕ) → (m == n) ≡ true → m ≡ n
same_number m n h = grind (arith, nat_tests)

number_itself : (m n : ℕ) → m ≡ n → (m == n) ≡ true
number_itself m n h = grind (arith, nat_tests)

first_of : (bits : ℕ) (x : KnownRoute) (xs : List KnownRoute) (source : Addr) → is_candidate bits source x ≡ true
    → (e : NodeId) (a : Addr) (o : Origin) → x.origin ≡ o
    → (rest : List Edge) → (Among (e, a) rest → IsOf bits xs source e a) → Among (e, a) (put_origin o rest) → IsOf bits (x ∷ xs) source e a
first_of bits x xs source c e a (Local site) h rest k m = later bits x xs source e a (k m)
first_of bits x xs source c e a (Remote f b rd) h rest k m = elim (put_from (f, b) (e, a) rest m) [
  | inl same ↦
      (let tests = both (covers x.prefix source) (x.prefix.bits == bits) c in
      let edges = ap (λ (p : Edge). p.0) same in
      let addrs = ap (λ (p : Edge). p.1) same in
      record {
        route = x;
        rd = rd;
        among = inl refl;
        covering = tests.0;
        of_bits = same_number x.prefix.bits bits tests.1;
        of_edge = h ∙ (λ i. Remote (sym edges i) (sym addrs i) rd);
      })
  | inr n ↦ later bits x xs source e a (k n)
]

edge_from : (bits : ℕ) (xs : List KnownRoute) (source : Addr) (e : NodeId) (a : Addr) → Among (e, a) (edges_of bits xs source)
    → IsOf bits xs source e a
edge_from bits [] source e a m = absurd m
edge_from bits (x ∷ xs) source e a m = by (edge_from bits xs source e a) (is_candidate bits source x) refl m
  where
    rest : List Edge
    rest = edges_of bits xs source

    by : (Among (e, a) rest → IsOf bits xs source e a) → (t : Bool) → is_candidate bits source x ≡ t
        → Among (e, a) (cond t (put_origin x.origin rest) rest)
        → IsOf bits (x ∷ xs) source e a
    by k true h n = first_of bits x xs source h e a x.origin refl rest k n
    by k false h n = later bits x xs source e a (k n)

kept_origin : (o : Origin) (a : Addr) (rest : List Edge) → Among a (addresses rest) → Among a (addresses (put_origin o rest))
kept_origin (Local site) a rest m = m
kept_origin (Remote f b rd) a rest m = put_kept (f, b) a rest m

kept_by : (t : Bool) (o : Origin) (a : Addr) (rest : List Edge) → Among a (addresses rest) → Among a (addresses (cond t (put_origin o rest) rest))
kept_by true o a rest m = kept_origin o a rest m
kept_by false o a rest m = m

here_by : (o : Origin) (e : NodeId) (a : Addr) (r : Rd) (rest : List Edge) → o ≡ Remote e a r → Among a (addresses (put_origin o rest))
here_by o e a r rest h = subst (λ (x : Origin). Among a (addresses (put_origin x rest))) (sym h) (put_here (e, a) rest)

edge_to : (bits : ℕ) (xs : List KnownRoute) (source : Addr) (x : KnownRoute) (e : NodeId) (a : Addr) (r : Rd) → Among x xs
    → is_candidate bits source x ≡ true → x.origin ≡ Remote e a r
    → Among a (addresses (edges_of bits xs source))
edge_to bits [] source x e a r m c h = absurd m
edge_to bits (y ∷ ys) source x e a r (inl same) c h =
    let rest = edges_of bits ys source in
    let passes : is_candidate bits source y ≡ true = ap (is_candidate bits source) (sym same) ∙ c in
    subst (λ (t : Bool). Among a (addresses (cond t (put_origin y.origin rest) rest))) (sym passes)
    (here_by y.origin e a r rest (ap (λ (z : KnownRoute). z.origin) (sym same) ∙ h))
edge_to bits (y ∷ ys) source x e a r (inr m) c h =
    kept_by (is_candidate bits source y) y.origin a (edges_of bits ys source) (edge_to bits ys source x e a r m c h)

edges_rising : (bits : ℕ) (xs : List KnownRoute) (source : Addr) → AreRising (addresses (edges_of bits xs source))
edges_rising bits [] source = tt
edges_rising bits (x ∷ xs) source = by (edges_of bits xs source) (edges_rising bits xs source) (is_candidate bits source x) x.origin
  where
    by : (rest : List Edge) → AreRising (addresses rest) → (t : Bool) (o : Origin) → AreRising (addresses (cond t (put_origin o rest) rest))
    by rest k false o = k
    by rest k true (Local site) = k
    by rest k true (Remote f b rd) = put_rising (f, b) rest k

-- ---- the longest routes

at_most : (x y n : ℕ) → x ≤ n → y ≤ n → max x y ≤ n
at_most x y n h k = grind (arith, nat_tests)

first_most : (x y : ℕ) → x ≤ max x y
first_most x y = grind (arith, nat_tests)

rest_most : (x y z : ℕ) → z ≤ y → z ≤ max x y
rest_most x y z h = grind (arith, nat_tests)

bits_above : (xs : List KnownRoute) (source : Addr) (o : KnownRoute) → Among o xs → covers o.prefix source ≡ true
    → o.prefix.bits ≤ longest_bits xs source
bits_above [] source o m c = absurd m
bits_above (x ∷ xs) source o (inl e) c = subst (λ (z : KnownRoute). z.prefix.bits ≤ longest_bits (x ∷ xs) source) (sym e) first
  where
    covering : covers x.prefix source ≡ true
    covering = ap (λ (z : KnownRoute). covers z.prefix source) (sym e) ∙ c

    first : x.prefix.bits ≤ longest_bits (x ∷ xs) source
    first = subst (λ (t : Bool). x.prefix.bits ≤ max (cond t x.prefix.bits 0) (longest_bits xs source)) (sym covering)
        (first_most x.prefix.bits (longest_bits xs source))
bits_above (x ∷ xs) source o (inr m) c =
    rest_most (cond (covers x.prefix source) x.prefix.bits 0) (longest_bits xs source) o.prefix.bits (bits_above xs source o m c)

zero_least : (n : ℕ) → 0 ≤ n
zero_least n = omega (arith)

bits_least : (xs : List KnownRoute) (source : Addr) (n : ℕ) → ((o : KnownRoute) → Among o xs → covers o.prefix source ≡ true → o.prefix.bits ≤ n)
    → longest_bits xs source ≤ n
bits_least [] source n k = zero_least n
bits_least (x ∷ xs) source n k =
    at_most (cond (covers x.prefix source) x.prefix.bits 0) (longest_bits xs source) n (by (covers x.prefix source) refl)
    (bits_least xs source n (λ o m. k o (inr m)))
  where
    by : (t : Bool) → covers x.prefix source ≡ t → cond t x.prefix.bits 0 ≤ n
    by true c = k x (inl refl) c
    by false c = zero_least n

level : (m n : ℕ) → m ≤ n → n ≤ m → m ≡ n
level m n h k = omega (arith, h, k)

-- a candidate is of the longest length, and passes the test
passes : (xs : List KnownRoute) (source : Addr) (x : KnownRoute) → IsCandidate xs source x → is_candidate (longest_bits xs source) source x ≡ true
passes xs source x c =
    let same =
    level x.prefix.bits (longest_bits xs source) (bits_above xs source x c.among c.covering) (bits_least xs source x.prefix.bits c.longest) in
    ap (λ (t : Bool). t && x.prefix.bits == longest_bits xs source) c.covering ∙ number_itself x.prefix.bits (longest_bits xs source) same

pub edge_of_candidate : (xs : List KnownRoute) (source : Addr) (e : NodeId) (a : Addr) → Among (e, a) (candidate_edges xs source)
    → (route : KnownRoute) × (rd : Rd) × IsCandidate xs source route × (route.origin ≡ Remote e a rd)
edge_of_candidate xs source e a m =
    let found = edge_from (longest_bits xs source) xs source e a m in (
      found.route,
      found.rd,
      record {
        among = found.among;
        covering = found.covering;
        longest = λ o n c. subst (λ (z : ℕ). o.prefix.bits ≤ z) (sym found.of_bits) (bits_above xs source o n c);
      },
      found.of_edge,
    )

address_of_candidate : (xs : List KnownRoute) (source a : Addr) → Among a (addresses (candidate_edges xs source)) ↔ IsEdgeOfCandidate xs source a
address_of_candidate xs source a = (there, back)
  where
    there : Among a (addresses (candidate_edges xs source)) → IsEdgeOfCandidate xs source a
    there m =
        let edge = of_edge a (candidate_edges xs source) m in
        let found = edge_of_candidate xs source edge.0 a edge.1 in
        record { route = found.0; edge = edge.0; rd = found.1; candidate = found.2; of_edge = found.3 }

    back : IsEdgeOfCandidate xs source a → Among a (addresses (candidate_edges xs source))
    back c = edge_to (longest_bits xs source) xs source c.route c.edge a c.rd c.candidate.among (passes xs source c.route c.candidate) c.of_edge

-- ---- the edge that is named

module _ {X : Type 0} where
  some_length : (x : X) (xs : List X) → Among x xs → 0 < length xs
  some_length x [] m = absurd m
  some_length x (y ∷ ys) m = omega (arith)

  -- what stands at a place of a list is one of it
  pub at_place : (xs : List X) (k : ℕ) (x : X) → slice_get xs k ≡ Some x → Among x xs
  at_place [] k x h = absurd cc
  at_place (y ∷ ys) zero x h = inl (let same : x ≡ y = cc in same)
  at_place (y ∷ ys) (suc k) x h = inr (at_place ys k x h)

  pub some_place : (xs : List X) (k : ℕ) → k < length xs → (x : X) × (slice_get xs k ≡ Some x)
  some_place [] k h = absurd (omega (arith, h))
  some_place (y ∷ ys) zero h = (y, refl)
  some_place (y ∷ ys) (suc k) h = some_place ys k (omega (arith, h))

lengths : (xs : List Edge) → length (addresses xs) ≡ length xs
lengths [] = refl
lengths (x ∷ xs) = ap (λ (n : ℕ). suc n) (lengths xs)

address_at : (xs : List Edge) (k : ℕ) (x : Edge) → slice_get xs k ≡ Some x → slice_get (addresses xs) k ≡ Some x.1
address_at [] k x h = absurd cc
address_at (y ∷ ys) zero x h = let same : y ≡ x = cc in ap (λ (p : Edge). Some p.1) same
address_at (y ∷ ys) (suc k) x h = address_at ys k x h

-- what the hash names among the edges of the candidates
pub record Names (routes : List KnownRoute) (source group : Addr) : Type 0 where
  pub edge : NodeId
  pub address : Addr
  pub is_named : hashed_of (hash_of source group) (candidate_edges routes source) ≡ Some edge
  pub among : Among (edge, address) (candidate_edges routes source)
  pub hashed : IsHashed routes source group address

pub names : (routes : List KnownRoute) (source group address : Addr) → IsEdgeOfCandidate routes source address → Names routes source group
names routes source group address c =
    let some = some_length address (addresses edges) ((address_of_candidate routes source address).1 c) in
    let within = mod_below (hash_of source group) (length edges) (subst (λ (n : ℕ). 0 < n) (lengths edges) some) in
    let found = some_place edges (hash_of source group % length edges) within in
    record {
      edge = found.0.0;
      address = found.0.1;
      is_named = ap (option_map (λ (p : Edge). p.0)) found.1;
      among = at_place edges (hash_of source group % length edges) found.0 found.1;
      hashed =
          record {
            addresses = addresses edges;
            rising = edges_rising (longest_bits routes source) routes source;
            each = address_of_candidate routes source;
            named =
                ap (λ (n : ℕ). slice_get (addresses edges) (hash_of source group % n)) (lengths edges)
                ∙ address_at edges (hash_of source group % length edges) found.0 found.1;
          };
    }
  where
    edges : List Edge
    edges = candidate_edges routes source

pub some_hashed : (routes : List KnownRoute) (source group address : Addr) → IsEdgeOfCandidate routes source address
    → (named : Addr) × IsHashed routes source group named
some_hashed routes source group address c = let found = names routes source group address c in (found.address, found.hashed)

same_some : {X : Type 0} (x y : X) → Some x ≡ Some y → x ≡ y
same_some x y h = cc

pub one_hashed : (routes : List KnownRoute) (source group named other : Addr) → IsHashed routes source group named
    → IsHashed routes source group other → named ≡ other
one_hashed routes source group named other h k =
    let same = one_rising h.addresses k.addresses h.rising k.rising (λ a m. (k.each a).1 ((h.each a).0 m)) (λ a m. (h.each a).1 ((k.each a).0 m)) in
    same_some named other (sym h.named ∙ ap (λ (xs : List Addr). slice_get xs (hash_of source group % length xs)) same ∙ k.named)

pub hashed_candidate : (routes : List KnownRoute) (source group named : Addr) → IsHashed routes source group named
    → IsEdgeOfCandidate routes source named
hashed_candidate routes source group named h = (h.each named).0 (at_place h.addresses (hash_of source group % length h.addresses) named h.named)
