-- The upstream of a flow does not depend on routes that do not cover its source.
use Rattle.std.proofs.Common.{◌≡◌, ℕ, ◌==◌, ◌&&◌, Bool, true, false, not, cond, List, [], ◌∷◌, ◌++◌, map, Option, None, Some, refl, sym, ap, ◌∙◌, arith}
use Rattle.std.specs.Prelude.{max}
use Rattle.std.specs.List.{filter, list_any}
use Rattle.std.specs.Ordering.{eq_by_cmp}
use Rattle.std.specs.Cmp.{Equal-is}
use Rattle.std.specs.FinMap as maps
use Rattle.std.specs.FinMap.{FinMap, entries, entries-insert, find, get-entries, get-insert, get-remove}
use Rattle.std.specs.FinMap.Entries.{where_key}
use Rattle.std.proofs.lemmas.Bool.{or_parts}
use Rattle.std.proofs.lemmas.List.Elements.{filter-append}
use Rattle.mv_base.specs.Prefix.{covers}
use Rattle.mv_base.specs.declared.addr.Addr.{Addr}
use Rattle.mv_base.specs.declared.ids.NodeId.{NodeId}
use Rattle.mv_base.specs.declared.prefix.Prefix.{Prefix}
use Rattle.mv_base.specs.declared.rd.Rd.{Rd}
use Rattle.mv_base.specs.declared.rd.Rule.{Rule}
use Rattle.mv_base.specs.declared.rd.Rule.TheVariants.{Highest, Nearest, Hash}
use Rattle.choice_defs.specs.declared.known_route.KnownRoute.{KnownRoute}
use Rattle.choice_defs.specs.declared.origin.Origin.{Origin}
use Rattle.choice_defs.specs.declared.origin.Origin.TheVariants.{Local, Remote}
use Rattle.choice_defs.specs.Choice.{best_route, better_of, candidate_edges, cost_by, cost_unless, edges_of, hash_of, hashed_of, longest_bits, put_origin}
use Rattle.choice_defs.proofs.BestLemmas.{BestIs, best}
use Rattle.umh_select.specs.declared.key.RouteKey.{RouteKey}
use Rattle.umh_select.specs.declared.route.Held.{Held}
use Rattle.umh_select.specs.Order.{key_cmp, key_total}
use Rattle.umh_select.specs.Routes.{Routes, choice_by, chosen, is_from, key_from, known, known_from, known_here, remote_choice, without_peer}
use Rattle.umh_select.proofs.OrderLemmas.{key_exact}
use Rattle.vrf_words.specs.declared.tree_defs.flow.Flow.{Flow}
use Rattle.vrf_words.specs.tree_defs.Flows.{chosen_for}
use Rattle.vrf_flows.specs.Held.{covers_from}
use Rattle.vrf_flows.proofs.EntryLemmas.{entries-remove, entries-where, filter-put, filter-within, get-where}

-- ---- routes that cover a source

abbrev pub covering : Addr → List KnownRoute → List KnownRoute
covering source routes = filter (λ (r : KnownRoute). covers r.prefix source) routes

best-covering : (cost : NodeId → ℕ) (routes : List KnownRoute) (source : Addr)
    → best_route cost routes source ≡ best_route cost (covering source routes) source
best-covering cost [] source = refl
best-covering cost (r ∷ rs) source = by (covers r.prefix source) refl (best-covering cost rs source)
  where
    by : (b : Bool) → covers r.prefix source ≡ b → best_route cost rs source ≡ best_route cost (covering source rs) source →
        better_of cost b r (best_route cost rs source) ≡ best_route cost (cond b (r ∷ covering source rs) (covering source rs)) source
    by true c rest = ap (better_of cost true r) rest ∙ sym (ap (λ (b : Bool). better_of cost b r (best_route cost (covering source rs) source)) c)
    by false c rest = rest

max-none : (n : ℕ) → max 0 n ≡ n
max-none n = omega arith

longest-covering : (routes : List KnownRoute) (source : Addr) → longest_bits routes source ≡ longest_bits (covering source routes) source
longest-covering [] source = refl
longest-covering (r ∷ rs) source = by (covers r.prefix source) refl (longest-covering rs source)
  where
    by : (b : Bool) → covers r.prefix source ≡ b → longest_bits rs source ≡ longest_bits (covering source rs) source →
        max (cond b r.prefix.bits 0) (longest_bits rs source) ≡ longest_bits (cond b (r ∷ covering source rs) (covering source rs)) source
    by true c rest = ap (max r.prefix.bits) rest ∙ sym (ap (λ (b : Bool). max (cond b r.prefix.bits 0) (longest_bits (covering source rs) source)) c)
    by false c rest = max-none (longest_bits rs source) ∙ rest

abbrev Edge : Type 0
Edge = NodeId × Addr

edges-covering : (bits : ℕ) (routes : List KnownRoute) (source : Addr) → edges_of bits routes source ≡ edges_of bits (covering source routes) source
edges-covering bits [] source = refl
edges-covering bits (r ∷ rs) source = by (covers r.prefix source) refl (edges-covering bits rs source)
  where
    by : (b : Bool) → covers r.prefix source ≡ b → edges_of bits rs source ≡ edges_of bits (covering source rs) source →
        cond (b && r.prefix.bits == bits) (put_origin r.origin (edges_of bits rs source)) (edges_of bits rs source)
        ≡ edges_of bits (cond b (r ∷ covering source rs) (covering source rs)) source
    by true c rest =
        ap (λ (edges : List Edge). cond (r.prefix.bits == bits) (put_origin r.origin edges) edges) rest
        ∙ sym (ap (λ (b : Bool). cond (b && r.prefix.bits == bits) (put_origin r.origin (edges_of bits (covering source rs) source))
        (edges_of bits (covering source rs) source)) c)
    by false c rest = rest

candidates-covering : (routes : List KnownRoute) (source : Addr) → candidate_edges routes source ≡ candidate_edges (covering source routes) source
candidates-covering routes source =
    edges-covering (longest_bits routes source) routes source
    ∙ ap (λ (n : ℕ). edges_of n (covering source routes) source) (longest-covering routes source)

-- ---- what is chosen

cost-same : (rule : Rule) (cost : NodeId → ℕ) (own other : List KnownRoute) (source group : Addr)
    → candidate_edges own source ≡ candidate_edges other source → cost_by rule cost own source group ≡ cost_by rule cost other source group
cost-same Highest cost own other source group e = λ i edge. 0
cost-same Nearest cost own other source group e = λ i edge. cost edge
cost-same Hash cost own other source group e = λ i edge. cost_unless (hashed_of (hash_of source group) (e i)) edge

best-same : (rule : Rule) (cost : NodeId → ℕ) (own other : List KnownRoute) (source group : Addr) → covering source own ≡ covering source other →
    best_route (cost_by rule cost own source group) own source ≡ best_route (cost_by rule cost other source group) other source
best-same rule cost own other source group e =
    let edges : candidate_edges own source ≡ candidate_edges other source =
    candidates-covering own source ∙ (ap (λ (l : List KnownRoute). candidate_edges l source) e ∙ sym (candidates-covering other source)) in
    ap (λ (by : NodeId → ℕ). best_route by own source) (cost-same rule cost own other source group edges)
    ∙ (best-covering (cost_by rule cost other source group) own source
    ∙ (ap (λ (l : List KnownRoute). best_route (cost_by rule cost other source group) l source) e
    ∙ sym (best-covering (cost_by rule cost other source group) other source)))

-- Both have the same routes for prefixes that cover the source.
abbrev pub AgreeOn : Addr → FinMap key_cmp Held → FinMap key_cmp Held → Type 0
AgreeOn source own other =
    (edge : NodeId) (rd : Rd) (prefix : Prefix) → covers prefix source ≡ true
    → maps.get own (key_from edge rd prefix) ≡ maps.get other (key_from edge rd prefix)

chosen-same : (source : Addr) (own other : FinMap key_cmp Held) → AgreeOn source own other
    → (cost : NodeId → ℕ) (routes : List KnownRoute) (found : Option KnownRoute) → BestIs cost routes source found
    → chosen own found ≡ chosen other found
chosen-same source own other agree cost routes None b = refl
chosen-same source own other agree cost routes (Some route) b = by route.origin
  where
    by : (origin : Origin) → choice_by own route.prefix origin ≡ choice_by other route.prefix origin
    by (Local site) = refl
    by (Remote edge address rd) = ap (remote_choice edge rd) (agree edge rd route.prefix b.covering)

abbrev pub covers_entry : Addr → RouteKey × Held → Bool
covers_entry source e = covers e.0.prefix source

from-covering : (source : Addr) (es : List (RouteKey × Held)) → covering source (map known_from es) ≡ map known_from (filter (covers_entry source) es)
from-covering source [] = refl
from-covering source (e ∷ es) = by (covers e.0.prefix source) (from-covering source es)
  where
    by : (b : Bool) → covering source (map known_from es) ≡ map known_from (filter (covers_entry source) es) →
        cond b (known_from e ∷ covering source (map known_from es)) (covering source (map known_from es))
        ≡ map known_from (cond b (e ∷ filter (covers_entry source) es) (filter (covers_entry source) es))
    by true rest = ap (λ (l : List KnownRoute). known_from e ∷ l) rest
    by false rest = rest

known-covering : (routes : Routes) (source : Addr)
    → covering source (known routes) ≡ covering source (map known_here (entries routes.attached))
    ++ map known_from (filter (covers_entry source) (entries routes.learned))
known-covering routes source =
    filter-append (λ (r : KnownRoute). covers r.prefix source) (map known_here (entries routes.attached)) (map known_from (entries routes.learned))
    ∙ ap (λ (l : List KnownRoute). covering source (map known_here (entries routes.attached)) ++ l) (from-covering source (entries routes.learned))

for-same : (routes : Routes) (next : FinMap key_cmp Held) (cost : NodeId → ℕ) (q : Flow)
    → filter (covers_entry q.source) (entries routes.learned) ≡ filter (covers_entry q.source) (entries next) → AgreeOn q.source routes.learned next →
    chosen_for routes cost q ≡ chosen_for (record routes { learned = next }) cost q
for-same routes next cost q same agree =
    let own = known routes in
    let other = known (record routes { learned = next }) in
    let e : covering q.source (known routes) ≡ covering q.source (known (record routes { learned = next })) =
    known-covering routes q.source ∙ (ap (λ (l : List (RouteKey × Held)). covering q.source (map known_here (entries routes.attached))
    ++ map known_from l) same ∙ sym (known-covering (record routes { learned = next }) q.source)) in
    ap (chosen routes.learned) (best-same routes.rule cost own other q.source q.group e)
    ∙ chosen-same q.source routes.learned next agree (cost_by routes.rule cost other q.source q.group) other
    (best_route (cost_by routes.rule cost other q.source q.group) other q.source)
    (best (cost_by routes.rule cost other q.source q.group) other q.source)

-- ---- a route that comes or goes

apart : (source : Addr) (edge peer : NodeId) (rd other : Rd) (prefix own : Prefix) → covers own source ≡ false → covers prefix source ≡ true
    → eq_by_cmp key_cmp (key_from edge rd prefix) (key_from peer other own) ≡ false
apart source edge peer rd other prefix own out in_it = by (eq_by_cmp key_cmp (key_from edge rd prefix) (key_from peer other own)) refl
  where
    by : (b : Bool) → eq_by_cmp key_cmp (key_from edge rd prefix) (key_from peer other own) ≡ b → b ≡ false
    by false e = refl
    by true e =
        let key : key_from edge rd prefix ≡ key_from peer other own =
        key_exact (key_from edge rd prefix) (key_from peer other own)
        ((Equal-is (key_cmp (key_from edge rd prefix) (key_from peer other own))).0 e) in
        sym in_it ∙ (ap (λ (k : RouteKey). covers k.prefix source) key ∙ out)

pub learned-apart : (routes : Routes) (cost : NodeId → ℕ) (peer : NodeId) (rd : Rd) (prefix : Prefix) (held : Held) (q : Flow)
    → covers prefix q.source ≡ false →
    chosen_for routes cost q ≡ chosen_for (record routes { learned = maps.insert routes.learned (key_from peer rd prefix) held }) cost q
learned-apart routes cost peer rd prefix held q out =
    for-same routes (maps.insert routes.learned (key_from peer rd prefix) held) cost q
    (sym (ap (filter (covers_entry q.source)) (entries-insert key_total routes.learned (key_from peer rd prefix) held)
    ∙ filter-put key_cmp key_exact (λ (k : RouteKey). covers k.prefix q.source) (key_from peer rd prefix) held (entries routes.learned) out))
    (λ edge other own in_it. sym (get-insert key_total routes.learned (key_from peer rd prefix) held (key_from edge other own)
    ∙ ap (λ (b : Bool). cond b (Some held) (maps.get routes.learned (key_from edge other own)))
    (apart q.source edge peer other rd own prefix out in_it)))

pub forgotten-apart : (routes : Routes) (cost : NodeId → ℕ) (peer : NodeId) (rd : Rd) (prefix : Prefix) (q : Flow) → covers prefix q.source ≡ false →
    chosen_for routes cost q ≡ chosen_for (record routes { learned = maps.remove routes.learned (key_from peer rd prefix) }) cost q
forgotten-apart routes cost peer rd prefix q out =
    for-same routes (maps.remove routes.learned (key_from peer rd prefix)) cost q
    (sym (ap (filter (covers_entry q.source)) (entries-remove key_total key_exact routes.learned (key_from peer rd prefix))
    ∙ filter-within (covers_entry q.source) (λ (e : RouteKey × Held). not (eq_by_cmp key_cmp (key_from peer rd prefix) e.0)) gone
    (entries routes.learned)))
    (λ edge other own in_it. sym (get-remove key_total routes.learned (key_from peer rd prefix) (key_from edge other own)
    ∙ ap (λ (b : Bool). cond b None (maps.get routes.learned (key_from edge other own))) (apart q.source edge peer other rd own prefix out in_it)))
  where
    not-false : (b : Bool) → not b ≡ false → b ≡ true
    not-false true k = refl
    not-false false k = let e : true ≡ false = k in absurd cc

    gone : (e : RouteKey × Held) → not (eq_by_cmp key_cmp (key_from peer rd prefix) e.0) ≡ false → covers_entry q.source e ≡ false
    gone e k =
        let key : key_from peer rd prefix ≡ e.0 =
        key_exact (key_from peer rd prefix) e.0 ((Equal-is (key_cmp (key_from peer rd prefix) e.0)).0
        (not-false (eq_by_cmp key_cmp (key_from peer rd prefix) e.0) k)) in
        ap (λ (x : RouteKey). covers x.prefix q.source) (sym key) ∙ out

-- ---- the routes of a peer

module _ (peer : NodeId) (q : Flow) where
  abbrev stays : RouteKey → Bool
  stays key = not (is_from peer key.place)

  filter-others : (es : List (RouteKey × Held)) → list_any (covers_from peer q) es ≡ false
      → filter (covers_entry q.source) (where_key key_cmp stays es) ≡ filter (covers_entry q.source) es
  filter-others [] none = refl
  filter-others (e ∷ es) none =
      let both = or_parts (covers_from peer q e) (list_any (covers_from peer q) es) none in
      by (is_from peer e.0.place) (covers e.0.prefix q.source) refl refl both.0 (filter-others es both.1)
    where
      by : (b c : Bool) → is_from peer e.0.place ≡ b → covers e.0.prefix q.source ≡ c → covers_from peer q e ≡ false
          → filter (covers_entry q.source) (where_key key_cmp stays es) ≡ filter (covers_entry q.source) es
          → filter (covers_entry q.source) (cond (not (is_from peer e.0.place)) (e ∷ where_key key_cmp stays es) (where_key key_cmp stays es))
          ≡ cond (covers e.0.prefix q.source) (e ∷ filter (covers_entry q.source) es) (filter (covers_entry q.source) es)
      by false c f k out rest =
          ap (λ (b : Bool). filter (covers_entry q.source) (cond (not b) (e ∷ where_key key_cmp stays es) (where_key key_cmp stays es))) f
          ∙ ap (λ (l : List (RouteKey × Held)). cond (covers e.0.prefix q.source) (e ∷ l) l) rest
      by true false f k out rest =
          ap (λ (b : Bool). filter (covers_entry q.source) (cond (not b) (e ∷ where_key key_cmp stays es) (where_key key_cmp stays es))) f
          ∙ (rest ∙ sym (ap (λ (b : Bool). cond b (e ∷ filter (covers_entry q.source) es) (filter (covers_entry q.source) es)) k))
      by true true f k out rest = let e : true ≡ false = (λ i. sym f i && sym k i) ∙ out in absurd cc

  none-found : (key : RouteKey) → is_from peer key.place ≡ true → covers key.prefix q.source ≡ true → (es : List (RouteKey × Held))
      → list_any (covers_from peer q) es ≡ false → None ≡ find key_cmp key es
  none-found key from in_it [] none = refl
  none-found key from in_it (e ∷ es) none =
      let both = or_parts (covers_from peer q e) (list_any (covers_from peer q) es) none in
      by (eq_by_cmp key_cmp key e.0) refl both.0 (none-found key from in_it es both.1)
    where
      by : (b : Bool) → eq_by_cmp key_cmp key e.0 ≡ b → covers_from peer q e ≡ false → None ≡ find key_cmp key es
          → None ≡ cond (eq_by_cmp key_cmp key e.0) (Some e.1) (find key_cmp key es)
      by false s out rest = rest ∙ sym (ap (λ (b : Bool). cond b (Some e.1) (find key_cmp key es)) s)
      by true s out rest =
          let same : key ≡ e.0 = key_exact key e.0 ((Equal-is (key_cmp key e.0)).0 s) in
          let e : true ≡ false =
          sym (λ i. from i && in_it i) ∙ (ap (λ (k : RouteKey). is_from peer k.place && covers k.prefix q.source) same ∙ out) in
          absurd cc

  -- Where no route of the peer covers its source, the upstream of a flow is the same without these routes.
  pub lost-apart : (routes : Routes) (cost : NodeId → ℕ) → list_any (covers_from peer q) (entries routes.learned) ≡ false
      → chosen_for routes cost q ≡ chosen_for (record routes { learned = without_peer peer routes.learned }) cost q
  lost-apart routes cost none =
      for-same routes (without_peer peer routes.learned) cost q
      (sym (ap (filter (covers_entry q.source)) (entries-where key_exact routes.learned stays) ∙ filter-others (entries routes.learned) none))
      (λ edge rd prefix in_it. by edge rd prefix in_it (edge.0 == peer.0) refl
      ∙ sym (get-where key_exact routes.learned stays (key_from edge rd prefix)))
    where
      by : (edge : NodeId) (rd : Rd) (prefix : Prefix) → covers prefix q.source ≡ true → (b : Bool) → edge.0 == peer.0 ≡ b
          → maps.get routes.learned (key_from edge rd prefix)
          ≡ cond (not (edge.0 == peer.0)) (find key_cmp (key_from edge rd prefix) (entries routes.learned)) None
      by edge rd prefix in_it false s =
          get-entries routes.learned (key_from edge rd prefix)
          ∙ sym (ap (λ (b : Bool). cond (not b) (find key_cmp (key_from edge rd prefix) (entries routes.learned)) None) s)
      by edge rd prefix in_it true s =
          get-entries routes.learned (key_from edge rd prefix)
          ∙ (sym (none-found (key_from edge rd prefix) s in_it (entries routes.learned) none)
          ∙ sym (ap (λ (b : Bool). cond (not b) (find key_cmp (key_from edge rd prefix) (entries routes.learned)) None) s))
