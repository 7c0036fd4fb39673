-- Which tunnels of an edge a flow wants does not depend on routes of other edges, nor on those that do not match the flow.
use Rattle.std.proofs.Common.{◌≡◌, ℕ, ◌==◌, ◌&&◌, ◌||◌, Bool, true, false, not, cond, T, List, [], ◌∷◌, ◌++◌, map, Option, None, Some, refl, sym, ap, subst, ◌∙◌, arith}
use Rattle.std.specs.List.{AllByRecursion, filter, list_any}
use Rattle.std.specs.Option.{option_eq, option_map}
use Rattle.std.specs.Ordering.{eq_by_cmp, is_lt}
use Rattle.std.specs.Cmp.{Equal-is}
use Rattle.std.specs.FinMap.{entries, entries-from_sorted, entries-insert, entries_sorted, find, get, get-entries, insert, is_sorted, remove, same_map}
use Rattle.std.specs.FinMap.Entries.{below_all, is_sorted-where_key}
use Rattle.std.proofs.lemmas.Bool.{and_from, and_parts, or_parts}
use Rattle.std.proofs.lemmas.Bool.Decides.{nat_tests}
use Rattle.mv_base.specs.Address.{same_addr}
use Rattle.mv_base.specs.declared.addr.Addr.{Addr}
use Rattle.mv_base.specs.declared.ids.NodeId.{NodeId}
use Rattle.mv_base.specs.declared.pattern.Pattern.{Pattern}
use Rattle.mv_base.specs.declared.rd.Rd.{Rd}
use Rattle.mv_base.proofs.SortedMaps.{map_sorted}
use Rattle.selective_defs.specs.Selective.{allows, matches}
use Rattle.selective.specs.declared.route_key.Learned.{Learned}
use Rattle.selective.specs.declared.route_key.RouteKey.{RouteKey}
use Rattle.selective.specs.Delays.{is_due}
use Rattle.selective.specs.Order.{route_cmp, route_total}
use Rattle.selective.specs.Patterns.{same_pattern}
use Rattle.selective.specs.Leaves.{Leaf, Routes, fecs_of, is_of_peer, is_waiting, key_of, patterns_of, routes_at, routes_run, run_due, until_run, without_peer}
use Rattle.selective.proofs.LeafLemmas.{wanted_found}
use Rattle.selective.proofs.OrderLemmas.{route_exact}
use Rattle.vrf_words.specs.declared.tree_defs.flow.Flow.{Flow}
use Rattle.vrf_flows.proofs.EntryLemmas.{entries-remove, filter-put, filter-within}
use Rattle.vrf_trees.specs.declared.wants.Cause.TheVariants as causes
use Rattle.vrf_trees.specs.Wants.{touches, tunnels_of, waits_for}

-- ---- patterns

lesser : (a b c d : Bool) → (a ≡ true → c ≡ true) → (b ≡ true → d ≡ true) → (c && d) ≡ false → (a && b) ≡ false
lesser false b c d f g h = refl
lesser true false c d f g h = refl
lesser true true c d f g h = (λ i. sym (f refl) i && sym (g refl) i) ∙ h

-- the wildcard or the address
abbrev May : Option Addr → Addr → Type 0
May target addr = (word : Option Addr) → option_eq same_addr word target ≡ true → allows word addr ≡ true

named : (addr : Addr) → May (Some addr) addr
named addr None h = refl
named addr (Some x) h = h

wild : (addr : Addr) → May None addr
wild addr None h = refl
wild addr (Some x) h = let e : false ≡ true = h in absurd cc

-- A flow is one of the pattern that it is found by.
found : (own pattern : Pattern) (source group : Addr) → May pattern.source source → May pattern.group group → same_pattern own pattern ≡ true
    → matches own source group ≡ true
found own pattern source group from to h =
    let both = and_parts (option_eq same_addr own.source pattern.source) (option_eq same_addr own.group pattern.group) h in
    and_from _ _ (from own.source both.0) (to own.group both.1)

turned : (a b : ℕ) → (a == b) ≡ true → (b == a) ≡ true
turned a b h = grind (arith, nat_tests)

-- A key of a route that does not touch the flow is found by none of its patterns.
abbrev Apart : NodeId → NodeId → Pattern → List Pattern → Type 0
Apart edge peer pattern patterns = AllByRecursion (λ (p : Pattern). (peer.0 == edge.0 && same_pattern pattern p) ≡ false) patterns

apart : (peer : NodeId) (pattern : Pattern) (q : Flow) (edge : NodeId) → touches (causes.Routes peer pattern) q edge ≡ false
    → Apart edge peer pattern (patterns_of q.source q.group)
apart peer pattern q edge h = (
  one (record { source = Some q.source; group = Some q.group }) (named q.source) (named q.group),
  (
    one (record { source = Some q.source; group = None }) (named q.source) (wild q.group),
    (
      one (record { source = None; group = Some q.group }) (wild q.source) (named q.group),
      (one (record { source = None; group = None }) (wild q.source) (wild q.group), tt),
    ),
  ),
)
  where
    one : (p : Pattern) → May p.source q.source → May p.group q.group → (peer.0 == edge.0 && same_pattern pattern p) ≡ false
    one p from to =
        lesser (peer.0 == edge.0) (same_pattern pattern p) (edge.0 == peer.0) (matches pattern q.source q.group) (turned peer.0 edge.0)
        (found pattern p q.source q.group from to) h

-- ---- what a flow wants

abbrev Entry : Type 0
Entry = RouteKey × Learned

until-same : (edge : NodeId) (patterns : List Pattern) (es fs : List Entry)
    → AllByRecursion (λ (p : Pattern). routes_at edge p es ≡ routes_at edge p fs) patterns → until_run edge patterns es ≡ until_run edge patterns fs
until-same edge [] es fs h = refl
until-same edge (p ∷ more) es fs h =
    let rest = until-same edge more es fs h.1 in
    λ i. fecs_of (h.0 i) ++ cond (list_any (λ (entry : Entry). entry.1.run) (h.0 i)) [] (rest i)

all-more : {X : Type 0} (P Q : X → Type 0) → ((x : X) → P x → Q x) → (xs : List X) → AllByRecursion P xs → AllByRecursion Q xs
all-more P Q f [] h = tt
all-more P Q f (x ∷ xs) h = (f x h.0, all-more P Q f xs h.1)

all-of : {X : Type 0} (P : X → Type 0) → ((x : X) → P x) → (xs : List X) → AllByRecursion P xs
all-of P f [] = tt
all-of P f (x ∷ xs) = (f x, all-of P f xs)

tunnels-same : (leaf next : Leaf) (edge : NodeId) (q : Flow)
    → AllByRecursion (λ (p : Pattern). routes_at edge p (entries leaf.routes) ≡ routes_at edge p (entries next.routes)) (patterns_of q.source q.group)
    → tunnels_of leaf edge q ≡ tunnels_of next edge q
tunnels-same leaf next edge q h =
    sym (wanted_found edge q.source q.group (entries leaf.routes) (map_sorted route_cmp leaf.routes))
    ∙ (until-same edge (patterns_of q.source q.group) (entries leaf.routes) (entries next.routes) h
    ∙ wanted_found edge q.source q.group (entries next.routes) (map_sorted route_cmp next.routes))

abbrev finds : NodeId → Pattern → RouteKey → Bool
finds edge p key = key.peer.0 == edge.0 && same_pattern key.pattern p

-- By none of its patterns is a flow found by a route that does not touch it.
apart-each : (q : Flow) (edge : NodeId) → AllByRecursion (λ (p : Pattern).
    (e : Entry) → touches (causes.Routes e.0.peer e.0.pattern) q edge ≡ false → finds edge p e.0 ≡ false) (patterns_of q.source q.group)
apart-each q edge = (
  λ e h. (apart e.0.peer e.0.pattern q edge h).0,
  (
    λ e h. (apart e.0.peer e.0.pattern q edge h).1.0,
    (λ e h. (apart e.0.peer e.0.pattern q edge h).1.1.0, (λ e h. (apart e.0.peer e.0.pattern q edge h).1.1.1.0, tt)),
  ),
)

pub tunnels-learned : (leaf : Leaf) (peer : NodeId) (rd : Rd) (pattern : Pattern) (own : Learned) (q : Flow) (edge : NodeId)
    → touches (causes.Routes peer pattern) q edge ≡ false →
    tunnels_of leaf edge q ≡ tunnels_of (record leaf { routes = insert leaf.routes (key_of peer rd pattern) own }) edge q
tunnels-learned leaf peer rd pattern own q edge h =
    tunnels-same leaf (record leaf { routes = insert leaf.routes (key_of peer rd pattern) own }) edge q
    (all-more _ _ (λ p out. sym (ap (routes_at edge p) (entries-insert route_total leaf.routes (key_of peer rd pattern) own)
    ∙ filter-put route_cmp route_exact (finds edge p) (key_of peer rd pattern) own (entries leaf.routes) out))
    (patterns_of q.source q.group) (apart peer pattern q edge h))

pub tunnels-forgotten : (leaf : Leaf) (peer : NodeId) (rd : Rd) (pattern : Pattern) (q : Flow) (edge : NodeId)
    → touches (causes.Routes peer pattern) q edge ≡ false →
    tunnels_of leaf edge q ≡ tunnels_of (record leaf { routes = remove leaf.routes (key_of peer rd pattern) }) edge q
tunnels-forgotten leaf peer rd pattern q edge h =
    tunnels-same leaf (record leaf { routes = remove leaf.routes (key_of peer rd pattern) }) edge q
    (all-more _ _ (λ p out. sym (ap (routes_at edge p) (entries-remove route_total route_exact leaf.routes (key_of peer rd pattern))
    ∙ filter-within (λ (e : Entry). finds edge p e.0) (λ (e : Entry). not (eq_by_cmp route_cmp (key_of peer rd pattern) e.0)) (gone p out)
    (entries leaf.routes)))
    (patterns_of q.source q.group) (apart peer pattern q edge h))
  where
    not-false : (b : Bool) → not b ≡ false → b ≡ true
    not-false true k = refl
    not-false false k = let e : true ≡ false = k in absurd cc

    gone : (p : Pattern) → finds edge p (key_of peer rd pattern) ≡ false → (e : Entry)
        → not (eq_by_cmp route_cmp (key_of peer rd pattern) e.0) ≡ false → finds edge p e.0 ≡ false
    gone p out e k =
        ap (finds edge p) (sym (route_exact (key_of peer rd pattern) e.0
        ((Equal-is (route_cmp (key_of peer rd pattern) e.0)).0 (not-false (eq_by_cmp route_cmp (key_of peer rd pattern) e.0) k)))) ∙ out

-- ---- all routes of a peer

entries-without : (peer : NodeId) (routes : Routes)
    → entries (without_peer peer routes) ≡ filter (λ (e : Entry). not (is_of_peer peer e)) (entries routes)
entries-without peer routes =
    entries-from_sorted route_cmp _ (is_sorted-where_key route_cmp (λ (key : RouteKey). not (key.peer.0 == peer.0)) (entries routes)
    (entries_sorted routes))

apart-numbers : (key peer edge : ℕ) → not (key == peer) ≡ false → (edge == peer) ≡ false → (key == edge) ≡ false
apart-numbers key peer edge k h = grind (arith, nat_tests)

pub tunnels-without : (leaf : Leaf) (peer : NodeId) (q : Flow) (edge : NodeId) → touches (causes.Peer peer) q edge ≡ false
    → tunnels_of leaf edge q ≡ tunnels_of (record leaf { routes = without_peer peer leaf.routes }) edge q
tunnels-without leaf peer q edge h =
    tunnels-same leaf (record leaf { routes = without_peer peer leaf.routes }) edge q
    (all-of _ one (patterns_of q.source q.group))
  where
    elsewhere : (key : ℕ) → not (key == peer.0) ≡ false → (key == edge.0) ≡ false
    elsewhere key k = apart-numbers key peer.0 edge.0 k h

    one : (p : Pattern) → routes_at edge p (entries leaf.routes) ≡ routes_at edge p (entries (without_peer peer leaf.routes))
    one p = sym (ap (routes_at edge p) (entries-without peer leaf.routes)
        ∙ filter-within (λ (e : Entry). finds edge p e.0) (λ (e : Entry). not (is_of_peer peer e))
        (λ e k. ap (λ (b : Bool). b && same_pattern e.0.pattern p) (elsewhere e.0.peer.0 k)) (entries leaf.routes))

-- ---- delays

idle-run : (delay now : ℕ) (own : Learned) → is_waiting delay now own ≡ false → run_due delay now own ≡ own
idle-run delay now own h = let e = by own.run _ h in λ i. record { fec = own.fec; since = own.since; run = e i }
  where
    by : (r d : Bool) → (not r && d) ≡ false → (r || d) ≡ r
    by true d k = refl
    by false d k = k

-- the entries, each with its delay run where that is due
abbrev all_run : ℕ → ℕ → List Entry → List Entry
all_run delay now es = map (λ (e : Entry). (e.0, run_due delay now e.1)) es

below-run : (delay now : ℕ) (x : RouteKey) (es : List Entry) → below_all route_cmp x (all_run delay now es) ≡ below_all route_cmp x es
below-run delay now x [] = refl
below-run delay now x (e ∷ es) = ap (λ (b : Bool). is_lt (route_cmp x e.0) && b) (below-run delay now x es)

sorted-run : (delay now : ℕ) (es : List Entry) → is_sorted route_cmp (all_run delay now es) ≡ is_sorted route_cmp es
sorted-run delay now [] = refl
sorted-run delay now (e ∷ es) = λ i. below-run delay now e.0 es i && sorted-run delay now es i

entries-run : (delay now : ℕ) (routes : Routes) → entries (routes_run delay now routes) ≡ all_run delay now (entries routes)
entries-run delay now routes =
    entries-from_sorted route_cmp (all_run delay now (entries routes)) (subst T (sym (sorted-run delay now (entries routes))) (entries_sorted routes))

-- Routes of a pattern by which the flow is found are the same where none of them waits for it.
run-at : (delay now : ℕ) (q : Flow) (edge : NodeId) (p : Pattern)
    → ((e : Entry) → touches (causes.Routes e.0.peer e.0.pattern) q edge ≡ false → finds edge p e.0 ≡ false)
    → (es : List Entry) → list_any (waits_for delay now q edge) es ≡ false → routes_at edge p es ≡ routes_at edge p (all_run delay now es)
run-at delay now q edge p out [] none = refl
run-at delay now q edge p out (e ∷ es) none =
    let both = or_parts (waits_for delay now q edge e) (list_any (waits_for delay now q edge) es) none in
    by (is_waiting delay now e.1) (touches (causes.Routes e.0.peer e.0.pattern) q edge) refl refl both.0 (run-at delay now q edge p out es both.1)
  where
    by : (w t : Bool) → is_waiting delay now e.1 ≡ w → touches (causes.Routes e.0.peer e.0.pattern) q edge ≡ t
        → waits_for delay now q edge e ≡ false → routes_at edge p es ≡ routes_at edge p (all_run delay now es)
        → cond (finds edge p e.0) (e ∷ routes_at edge p es) (routes_at edge p es)
        ≡ cond (finds edge p e.0) ((e.0, run_due delay now e.1) ∷ routes_at edge p (all_run delay now es)) (routes_at edge p (all_run delay now es))
    by false t w k h rest =
        λ i. cond (finds edge p e.0) ((e.0, sym (idle-run delay now e.1 w) i) ∷ rest i) (rest i)
    by true false w k h rest =
        ap (λ (b : Bool). cond b (e ∷ routes_at edge p es) (routes_at edge p es)) (out e k)
        ∙ (rest ∙ sym (ap (λ (b : Bool). cond b ((e.0, run_due delay now e.1) ∷ routes_at edge p (all_run delay now es))
        (routes_at edge p (all_run delay now es))) (out e k)))
    by true true w k h rest = let e : true ≡ false = (λ i. sym w i && sym k i) ∙ h in absurd cc

-- With the delays run that are due, a flow wants the same tunnels where no route waits for it.
pub tunnels-run : (leaf : Leaf) (now : ℕ) (q : Flow) (edge : NodeId) → list_any (waits_for leaf.delay now q edge) (entries leaf.routes) ≡ false
    → tunnels_of leaf edge q ≡ tunnels_of (record leaf { routes = routes_run leaf.delay now leaf.routes }) edge q
tunnels-run leaf now q edge none =
    tunnels-same leaf (record leaf { routes = routes_run leaf.delay now leaf.routes }) edge q
    (all-more _ _ (λ p out. run-at leaf.delay now q edge p out (entries leaf.routes) none
    ∙ sym (ap (routes_at edge p) (entries-run leaf.delay now leaf.routes)))
    (patterns_of q.source q.group) (apart-each q edge))

-- ---- delays of which none is due

find-run : (delay now : ℕ) (q : RouteKey) (es : List (RouteKey × Learned))
    → find route_cmp q (all_run delay now es) ≡ option_map (run_due delay now) (find route_cmp q es)
find-run delay now q [] = refl
find-run delay now q (e ∷ es) = by (eq_by_cmp route_cmp q e.0) (find-run delay now q es)
  where
    by : (b : Bool) → find route_cmp q (all_run delay now es) ≡ option_map (run_due delay now) (find route_cmp q es)
        → cond b (Some (run_due delay now e.1)) (find route_cmp q (all_run delay now es))
        ≡ option_map (run_due delay now) (cond b (Some e.1) (find route_cmp q es))
    by true rest = refl
    by false rest = rest

was-run : (run due : Bool) → (not run && due) ≡ false → (run || due) ≡ run
was-run true due h = refl
was-run false due h = h

-- Where no route waits, all stay as they are.
pub none-run : (delay now : ℕ) (routes : Routes) →
    ((key : RouteKey) (learned : Learned) → get routes key ≡ Some learned → is_waiting delay now learned ≡ false) → routes ≡ routes_run delay now routes
none-run delay now routes none =
    same_map route_total route_exact routes (routes_run delay now routes) (λ q.
    sym (get-entries (routes_run delay now routes) q
    ∙ (ap (find route_cmp q) (entries-run delay now routes)
    ∙ (find-run delay now q (entries routes)
    ∙ (ap (option_map (run_due delay now)) (sym (get-entries routes q)) ∙ by q (get routes q) refl)))))
  where
    by : (q : RouteKey) (o : Option Learned) → get routes q ≡ o → option_map (run_due delay now) o ≡ o
    by q None e = refl
    by q (Some learned) e =
        let same = was-run learned.run (is_due delay now learned.since) (none q learned e) in
        λ i. Some (record learned { run = same i })
