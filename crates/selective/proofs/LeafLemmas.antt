-- What an egress wants is what its look-ups find.
use Rattle.std.proofs.Common.{◌≡◌, ℕ, suc, ◌&&◌, ◌||◌, ◌<◌, ◌≤◌, ◌⊎◌, Bool, true, false, cond, not, inl, inr, List, [], ◌∷◌, ◌++◌, map, Option, Some, None, refl, sym, ap, subst, ◌∙◌, arith, lit<}
use Rattle.std.specs.Prelude.{nat_lt}
use Rattle.std.specs.List.{AllByRecursion, filter, list_any}
use Rattle.std.specs.List.Sorted.{IsStrictlySortedBy}
use Rattle.std.specs.Map.{keys_of}
use Rattle.std.specs.Option.{option_eq}
use Rattle.std.specs.Ordering.{nat_cmp, ordering_then}
use Rattle.std.specs.Cmp.{nat_cmp_total, ranked, tied_itself}
use Rattle.std.specs.Cmp.Lexicographic.{slice_cmp, nat_list_cmp_total}
use Rattle.std.specs.FinMap.{entries}
use Rattle.std.specs.declared.cmp.Ordering.{Ordering}
use Rattle.std.specs.declared.cmp.Ordering.TheVariants.{Less, Equal, Greater}
use Rattle.std.proofs.lemmas.Bool.{and_parts, eqb-true}
use Rattle.selective_defs.specs.mldp.declared.mldp_fec.fec.Fec.{Fec}
use Rattle.mv_base.specs.Address.{same_addr}
use Rattle.mv_base.specs.Pattern.{rank, rank_of}
use Rattle.mv_base.specs.declared.addr.Addr.{Addr}
use Rattle.mv_base.specs.declared.ids.NodeId.{NodeId}
use Rattle.mv_base.specs.declared.pattern.Pattern.{Pattern}
use Rattle.selective_defs.specs.Selective.{Among, allows, is_wanted, matches, overtakes, wanted}
use Rattle.selective_defs.specs.declared.learned_route.LearnedRoute.{LearnedRoute}
use Rattle.selective_defs.specs.Parts.{word_part}
use Rattle.selective_defs.proofs.PatternLemmas.{opposite}
use Rattle.selective_defs.proofs.WantedLemmas.{filtered}
use Rattle.selective.specs.declared.route_key.Learned.{Learned}
use Rattle.selective.specs.declared.route_key.RouteKey.{RouteKey}
use Rattle.selective.specs.Order.{route_cmp}
use Rattle.selective.specs.Patterns.{same_pattern}
use Rattle.selective.specs.Leaves.{InOrder, IsBefore, Routes, is_of_peer, learned_route, patterns_of, peer_entries, routes_at, until_run}
use Rattle.mv_base.proofs.SortedMaps.{map_sorted}
use Rattle.selective.proofs.OrderLemmas.{Sorted, by_group, by_place, by_rank, by_source, filter_alike}
use Rattle.selective.proofs.RootLemmas.{one_pattern}

abbrev Entry : Type 0
Entry = RouteKey × Learned

abbrev fec_of : Entry → Fec
fec_of e = e.1.fec

abbrev was_run : Entry → Bool
was_run e = e.1.run

-- ---- truth values

and_false : (a : Bool) → (a && false) ≡ false
and_false true = refl
and_false false = refl

and_true : (a : Bool) → (a && true) ≡ a
and_true true = refl
and_true false = refl

enters : (m : Bool) → (m && true) ≡ ((m && false) || m)
enters true = refl
enters false = refl

stays_in : (m n : Bool) → n ≡ false → (m && true) ≡ ((m && true) || n)
stays_in true n h = refl
stays_in false n h = sym h

stays_out : (m n : Bool) → n ≡ false → (m && false) ≡ ((m && false) || n)
stays_out true n h = sym h
stays_out false n h = sym h

spread : (b r u v n : Bool) → u ≡ (v || n) → (b && (r && u)) ≡ ((b && (r && v)) || ((b && n) && r))
spread true true u v n h = h ∙ ap (λ (x : Bool). v || x) (sym (and_true n))
spread true false u v n h = sym (and_false n)
spread false r u v n h = refl

-- one look-up more, by what is found at its pattern
skip : (b n r x : Bool) → n ≡ false → ((b && n) || (not r && x)) ≡ (not r && x)
skip b n r x h = ap (λ (t : Bool). t || (not r && x)) (ap (λ (t : Bool). b && t) h ∙ and_false b)

shut : (b n r x : Bool) → n ≡ false → x ≡ false → ((b && n) || (not r && x)) ≡ false
shut b n r x h k = skip b n r x h ∙ (ap (λ (t : Bool). not r && t) k ∙ and_false (not r))

pub or_false : (a : Bool) → (a || false) ≡ a
or_false true = refl
or_false false = refl

top : (b m r x : Bool) → x ≡ false → ((b && m) || (not r && x)) ≡ (b && m)
top b m r x k = ap (λ (t : Bool). (b && m) || t) (ap (λ (t : Bool). not r && t) k ∙ and_false (not r)) ∙ or_false (b && m)

moves : (r b y : Bool) → (not r && (b && y)) ≡ (b && (y && not r))
moves true true true = refl
moves true true false = refl
moves true false y = refl
moves false true true = refl
moves false true false = refl
moves false false y = refl

neither : (m r s : Bool) → ((m && not s) && not r) ≡ (m && not (r || s))
neither false r s = refl
neither true true true = refl
neither true true false = refl
neither true false true = refl
neither true false false = refl

none_of : (r s t : Bool) → (((true && not t) && not s) && not r) ≡ (true && not ((r || s) || t))
none_of true true true = refl
none_of true true false = refl
none_of true false true = refl
none_of true false false = refl
none_of false true true = refl
none_of false true false = refl
none_of false false true = refl
none_of false false false = refl

-- ---- lists

any_map : {X Y : Type 0} (p : Y → Bool) (f : X → Y) (xs : List X) → list_any p (map f xs) ≡ list_any (λ x. p (f x)) xs
any_map p f [] = refl
any_map p f (x ∷ xs) = ap (λ (b : Bool). p (f x) || b) (any_map p f xs)

any_filter : {X : Type 0} (p q : X → Bool) (xs : List X) → list_any p (filter q xs) ≡ list_any (λ x. q x && p x) xs
any_filter p q [] = refl
any_filter p q (x ∷ xs) = by (q x) (any_filter p q xs)
  where
    by : (b : Bool) → list_any p (filter q xs) ≡ list_any (λ y. q y && p y) xs
        → list_any p (cond b (x ∷ filter q xs) (filter q xs)) ≡ ((b && p x) || list_any (λ y. q y && p y) xs)
    by true h = ap (λ (b : Bool). p x || b) h
    by false h = h

spread_or : (a b c d : Bool) → ((a || b) || (c || d)) ≡ ((a || c) || (b || d))
spread_or true b c d = refl
spread_or false true true d = refl
spread_or false true false d = refl
spread_or false false c d = refl

any_or : {X : Type 0} (p a b : X → Bool) → ((x : X) → p x ≡ (a x || b x)) → (xs : List X) → list_any p xs ≡ (list_any a xs || list_any b xs)
any_or p a b h [] = refl
any_or p a b h (x ∷ xs) =
    (λ i. h x i || any_or p a b h xs i) ∙ spread_or (a x) (b x) (list_any a xs) (list_any b xs)

any_none : {X : Type 0} (p : X → Bool) → ((x : X) → p x ≡ false) → (xs : List X) → list_any p xs ≡ false
any_none p h [] = refl
any_none p h (x ∷ xs) = (λ i. h x i || list_any p xs) ∙ any_none p h xs

filter_map : {X Y : Type 0} (p : Y → Bool) (f : X → Y) (xs : List X) → filter p (map f xs) ≡ map f (filter (λ x. p (f x)) xs)
filter_map p f [] = refl
filter_map {Y = Y} p f (x ∷ xs) = by (p (f x)) (filter_map p f xs)
  where
    by : (b : Bool) → filter p (map f xs) ≡ map f (filter (λ y. p (f y)) xs)
        → cond b (f x ∷ filter p (map f xs)) (filter p (map f xs)) ≡ map f (cond b (x ∷ filter (λ y. p (f y)) xs) (filter (λ y. p (f y)) xs))
    by true h = ap (λ (l : List Y). f x ∷ l) h
    by false h = h

filter_filter : {X : Type 0} (p q : X → Bool) (xs : List X) → filter p (filter q xs) ≡ filter (λ x. q x && p x) xs
filter_filter p q [] = refl
filter_filter p q (x ∷ xs) = by (q x) (filter_filter p q xs)
  where
    by : (b : Bool) → filter p (filter q xs) ≡ filter (λ y. q y && p y) xs
        → filter p (cond b (x ∷ filter q xs) (filter q xs)) ≡ cond (b && p x) (x ∷ filter (λ y. q y && p y) xs) (filter (λ y. q y && p y) xs)
    by true h = λ i. cond (p x) (x ∷ h i) (h i)
    by false h = h

filter_none : {X : Type 0} (xs : List X) → filter (λ x. false) xs ≡ []
filter_none [] = refl
filter_none (x ∷ xs) = filter_none xs

map_append : {X Y : Type 0} (f : X → Y) (xs ys : List X) → map f (xs ++ ys) ≡ map f xs ++ map f ys
map_append f [] ys = refl
map_append f (x ∷ xs) ys = ap (λ (l : List _). f x ∷ l) (map_append f xs ys)

map_map : (p : Entry → Bool) (xs : List Entry) → map (λ (r : LearnedRoute). r.fec) (map learned_route xs) ≡ map fec_of xs
map_map p [] = refl
map_map p (x ∷ xs) = ap (λ (l : List Fec). x.1.fec ∷ l) (map_map p xs)

-- ---- the order along the list

-- No entry of the first kind stands after one of the second.
abbrev NoneBehind : (Entry → Bool) → (Entry → Bool) → Type 0
NoneBehind t u = (e f : Entry) → u e ≡ true → t f ≡ true → route_cmp e.0 f.0 ≡ Less → ⊥

none_left : (t u : Entry → Bool) → NoneBehind t u → (e : Entry) → u e ≡ true → (es : List Entry)
    → AllByRecursion (λ y. route_cmp e.0 y ≡ Less) (keys_of es) → filter t es ≡ []
none_left t u apart e h [] a = refl
none_left t u apart e h (f ∷ fs) a = by (t f) refl (none_left t u apart e h fs a.1)
  where
    by : (b : Bool) → t f ≡ b → filter t fs ≡ [] → cond b (f ∷ filter t fs) (filter t fs) ≡ []
    by true k rest = absurd (apart e f h k a.0)
    by false k rest = rest

split : (t u : Entry → Bool) → NoneBehind t u → ((e : Entry) → t e ≡ true → u e ≡ true → ⊥) → (es : List Entry) → Sorted es
    → filter (λ e. t e || u e) es ≡ filter t es ++ filter u es
unfolding IsStrictlySortedBy
split t u apart one [] a = refl
split t u apart one (e ∷ es) a = by (t e) (u e) refl refl (split t u apart one es a.1)
  where
    by : (b c : Bool) → t e ≡ b → u e ≡ c → filter (λ f. t f || u f) es ≡ filter t es ++ filter u es
        → cond (b || c) (e ∷ filter (λ f. t f || u f) es) (filter (λ f. t f || u f) es) ≡ cond b (e ∷ filter t es) (filter t es)
        ++ cond c (e ∷ filter u es) (filter u es)
    by true true h k rest = absurd (one e h k)
    by true false h k rest = ap (λ (l : List Entry). e ∷ l) rest
    by false true h k rest =
        let none = none_left t u apart e k es a.0 in
        ap (λ (l : List Entry). e ∷ l) (rest ∙ ap (λ (l : List Entry). l ++ filter u es) none)
        ∙ ap (λ (l : List Entry). l ++ (e ∷ filter u es)) (sym none)
    by false false h k rest = rest

-- of one peer the ranks fall
front_is : (a b : Ordering) → ordering_then a b ≡ Less → a ≡ Equal → b ≡ Less
front_is Less b h e = absurd cc
front_is Equal b h e = h
front_is Greater b h e = absurd cc

not_greater : (a b : Ordering) → ordering_then a b ≡ Less → (a ≡ Less) ⊎ (a ≡ Equal)
not_greater Less b h = inl refl
not_greater Equal b h = inr refl
not_greater Greater b h = absurd cc

ranks_fall : (e f : RouteKey) → route_cmp e f ≡ Less → e.peer.0 ≡ f.peer.0 → rank f.pattern ≤ rank e.pattern
ranks_fall e f h same =
    let tie : nat_cmp e.peer.0 f.peer.0 ≡ Equal = subst (λ (n : ℕ). nat_cmp e.peer.0 n ≡ Equal) same (tied_itself nat_cmp_total e.peer.0) in
    elim (not_greater (nat_cmp (rank f.pattern) (rank e.pattern)) _ (front_is (nat_cmp e.peer.0 f.peer.0) (by_rank e f) h tie)) [
      | inl less ↦ (let below : rank f.pattern < rank e.pattern = ranked (rank f.pattern) (rank e.pattern) Less (sym less) in omega (arith, below))
      | inr equal ↦ (let is : rank f.pattern ≡ rank e.pattern = ranked (rank f.pattern) (rank e.pattern) Equal (sym equal) in omega (arith, is))
    ]

-- ---- the look-ups, one after another

module _ (peer : NodeId) (es : List Entry) where
  abbrev at : Pattern → Entry → Bool
  at pattern e = is_of_peer peer e && same_pattern e.0.pattern pattern

  abbrev ran : Pattern → Bool
  ran pattern = list_any was_run (routes_at peer pattern es)

  -- whether the entry is found along the patterns
  abbrev is_found : List Pattern → Entry → Bool
  is_found [] e = false
  is_found (pattern ∷ more) e = at pattern e || (not (ran pattern) && is_found more e)

  -- all patterns have a lower rank
  abbrev AllBelow : ℕ → List Pattern → Type 0
  AllBelow n [] = Unit {0}
  AllBelow n (pattern ∷ more) = (rank pattern < n) × AllBelow n more

  abbrev Fall : List Pattern → Type 0
  Fall [] = Unit {0}
  Fall (pattern ∷ more) = AllBelow (rank pattern) more × Fall more

  or_parts : (a b : Bool) → (a || b) ≡ true → (a ≡ true) ⊎ (b ≡ true)
  or_parts true b h = inl refl
  or_parts false b h = inr h

  found_low : (n : ℕ) (patterns : List Pattern) → AllBelow n patterns → (e : Entry) → is_found patterns e ≡ true
      → (rank e.0.pattern < n) × (e.0.peer.0 ≡ peer.0)
  found_low n [] low e h = absurd (opposite false h refl)
  found_low n (pattern ∷ more) low e h = elim (or_parts (at pattern e) (not (ran pattern) && is_found more e) h) [
    | inl own ↦ (
        let both = and_parts (is_of_peer peer e) (same_pattern e.0.pattern pattern) own in
        (subst (λ (p : Pattern). rank p < n) (sym (one_pattern e.0.pattern pattern both.1)) low.0, eqb-true e.0.peer.0 peer.0 both.0))
    | inr rest ↦ found_low n more low.1 e (and_parts (not (ran pattern)) (is_found more e) rest).1
  ]

  at_is : (pattern : Pattern) (e : Entry) → at pattern e ≡ true → (e.0.pattern ≡ pattern) × (e.0.peer.0 ≡ peer.0)
  at_is pattern e h =
      let both = and_parts (is_of_peer peer e) (same_pattern e.0.pattern pattern) h in
      (one_pattern e.0.pattern pattern both.1, eqb-true e.0.peer.0 peer.0 both.0)

  skipped : (b : Bool) (u : Entry → Bool) → filter (λ e. not b && u e) es ≡ cond b [] (filter u es)
  skipped true u = filter_none es
  skipped false u = refl

  until_found : (patterns : List Pattern) → Fall patterns → Sorted es → until_run peer patterns es ≡ map fec_of (filter (is_found patterns) es)
  until_found [] fall a = sym (ap (map fec_of) (filter_none es))
  until_found (pattern ∷ more) fall a =
      let t = at pattern in
      let u = λ (e : Entry). not (ran pattern) && is_found more e in
      ap (λ (l : List Fec). map fec_of (routes_at peer pattern es) ++ l) (by (ran pattern) (until_found more fall.1 a))
      ∙ (sym (map_append fec_of (filter t es) (filter u es)) ∙ ap (map fec_of) (sym (split t u apart one es a)))
    where
      by : (b : Bool) → until_run peer more es ≡ map fec_of (filter (is_found more) es)
          → cond b [] (until_run peer more es) ≡ map fec_of (filter (λ e. not b && is_found more e) es)
      by true h = sym (ap (map fec_of) (filter_none es))
      by false h = h

      apart : NoneBehind (at pattern) (λ e. not (ran pattern) && is_found more e)
      apart e f h k less =
          let low = found_low (rank pattern) more fall.0 e (and_parts (not (ran pattern)) (is_found more e) h).1 in
          let own = at_is pattern f k in
          let falls : rank f.0.pattern ≤ rank e.0.pattern = ranks_fall e.0 f.0 less (low.1 ∙ sym own.1) in
          let here : rank f.0.pattern ≡ rank pattern = ap rank own.0 in
          let below : rank e.0.pattern < rank pattern = low.0 in
          absurd (omega (arith, falls, here, below))

      one : (e : Entry) → at pattern e ≡ true → (not (ran pattern) && is_found more e) ≡ true → ⊥
      one e k h =
          let low = found_low (rank pattern) more fall.0 e (and_parts (not (ran pattern)) (is_found more e) h).1 in
          let here : rank e.0.pattern ≡ rank pattern = ap rank (at_is pattern e k).0 in
          let below : rank e.0.pattern < rank pattern = low.0 in
          absurd (omega (arith, here, below))

-- ---- what is found is wanted

module _ (peer : NodeId) (source group : Addr) (es : List Entry) where
  abbrev p4 : Pattern
  p4 = record { source = Some source; group = Some group }

  abbrev p3 : Pattern
  p3 = record { source = Some source; group = None }

  abbrev p2 : Pattern
  p2 = record { source = None; group = Some group }

  abbrev p1 : Pattern
  p1 = record { source = None; group = None }

  -- whether the entry is one of the peer, was run, matches, and has a rank above
  abbrev higher : ℕ → Entry → Bool
  higher k e = is_of_peer peer e && (e.1.run && (matches e.0.pattern source group && nat_lt k (rank e.0.pattern)))

  abbrev over : ℕ → Bool
  over k = list_any (higher k) es

  abbrev ran_at : Pattern → Bool
  ran_at pattern = ran peer es pattern

  abbrev at_it : Pattern → Entry → Bool
  at_it pattern = at peer es pattern

  level4 : (sw gw : Option Addr) → ((allows sw source && allows gw group) && nat_lt 4 (rank_of sw gw)) ≡ false
  level4 (Some x) (Some y) = and_false (same_addr x source && same_addr y group)
  level4 (Some x) None = and_false (same_addr x source && true)
  level4 None (Some y) = and_false (same_addr y group)
  level4 None None = refl

  level3 : (sw gw : Option Addr) → ((allows sw source && allows gw group) && nat_lt 3 (rank_of sw gw))
      ≡ (((allows sw source && allows gw group) && nat_lt 4 (rank_of sw gw))
      || (option_eq same_addr sw (Some source) && option_eq same_addr gw (Some group)))
  level3 (Some x) (Some y) = enters (same_addr x source && same_addr y group)
  level3 (Some x) None = stays_out (same_addr x source && true) (same_addr x source && false) (and_false (same_addr x source))
  level3 None (Some y) = stays_out (same_addr y group) false refl
  level3 None None = refl

  level2 : (sw gw : Option Addr) → ((allows sw source && allows gw group) && nat_lt 2 (rank_of sw gw))
      ≡ (((allows sw source && allows gw group) && nat_lt 3 (rank_of sw gw)) || (option_eq same_addr sw (Some source) && option_eq same_addr gw None))
  level2 (Some x) (Some y) = stays_in (same_addr x source && same_addr y group) (same_addr x source && false) (and_false (same_addr x source))
  level2 (Some x) None = enters (same_addr x source && true)
  level2 None (Some y) = stays_out (same_addr y group) false refl
  level2 None None = refl

  level1 : (sw gw : Option Addr) → ((allows sw source && allows gw group) && nat_lt 1 (rank_of sw gw))
      ≡ (((allows sw source && allows gw group) && nat_lt 2 (rank_of sw gw)) || (option_eq same_addr sw None && option_eq same_addr gw (Some group)))
  level1 (Some x) (Some y) = stays_in (same_addr x source && same_addr y group) false refl
  level1 (Some x) None = stays_in (same_addr x source && true) false refl
  level1 None (Some y) = enters (same_addr y group)
  level1 None None = refl

  over_step : (k : ℕ) (pattern : Pattern) → ((e : Entry)
      → (matches e.0.pattern source group && nat_lt k (rank e.0.pattern))
      ≡ ((matches e.0.pattern source group && nat_lt (suc k) (rank e.0.pattern)) || same_pattern e.0.pattern pattern))
      → over k ≡ (over (suc k) || ran_at pattern)
  over_step k pattern h =
      any_or (higher k) (higher (suc k)) (λ e. at_it pattern e && was_run e)
      (λ e. spread (is_of_peer peer e) e.1.run (matches e.0.pattern source group && nat_lt k (rank e.0.pattern))
      (matches e.0.pattern source group && nat_lt (suc k) (rank e.0.pattern)) (same_pattern e.0.pattern pattern) (h e)) es
      ∙ ap (λ (b : Bool). over (suc k) || b) (sym (any_filter was_run (at_it pattern) es))

  over4 : over 4 ≡ false
  over4 = any_none (higher 4) (λ e. none e.1.run (is_of_peer peer e) (level4 e.0.pattern.source e.0.pattern.group)) es
    where
      none : (r b : Bool) {u : Bool} → u ≡ false → (b && (r && u)) ≡ false
      none r true h = ap (λ (x : Bool). r && x) h ∙ and_false r
      none r false h = refl

  over3 : over 3 ≡ ran_at p4
  over3 = over_step 3 p4 (λ e. level3 e.0.pattern.source e.0.pattern.group) ∙ ap (λ (b : Bool). b || ran_at p4) over4

  over2 : over 2 ≡ (ran_at p4 || ran_at p3)
  over2 = over_step 2 p3 (λ e. level2 e.0.pattern.source e.0.pattern.group) ∙ ap (λ (b : Bool). b || ran_at p3) over3

  over1 : over 1 ≡ ((ran_at p4 || ran_at p3) || ran_at p2)
  over1 = over_step 1 p2 (λ e. level1 e.0.pattern.source e.0.pattern.group) ∙ ap (λ (b : Bool). b || ran_at p2) over2

  found_by : (b : Bool) (sw gw : Option Addr) → (b && ((allows sw source && allows gw group) && not (over (rank_of sw gw)))) ≡
      ((b && (option_eq same_addr sw (Some source) && option_eq same_addr gw (Some group))) || (not (ran_at p4) &&
      ((b && (option_eq same_addr sw (Some source) && option_eq same_addr gw None)) || (not (ran_at p3) &&
      ((b && (option_eq same_addr sw None && option_eq same_addr gw (Some group))) || (not (ran_at p2) &&
      ((b && (option_eq same_addr sw None && option_eq same_addr gw None)) || (not (ran_at p1) && false))))))))
  found_by b (Some x) (Some y) =
      let m = same_addr x source && same_addr y group in
      let z = shut b false (ran_at p1) false refl refl in
      let y2 = shut b false (ran_at p2) _ refl z in
      let x3 = shut b (same_addr x source && false) (ran_at p3) _ (and_false (same_addr x source)) y2 in
      ap (λ (t : Bool). b && (m && not t)) over4 ∙ (ap (λ (t : Bool). b && t) (and_true m) ∙ sym (top b m (ran_at p4) _ x3))
  found_by b (Some x) None =
      let m = same_addr x source && true in
      let z = shut b false (ran_at p1) false refl refl in
      let y2 = shut b false (ran_at p2) _ refl z in
      ap (λ (t : Bool). b && (m && not t)) over3 ∙ (sym (moves (ran_at p4) b m)
      ∙ (ap (λ (t : Bool). not (ran_at p4) && t) (sym (top b m (ran_at p3) _ y2))
      ∙ sym (skip b (same_addr x source && false) (ran_at p4) _ (and_false (same_addr x source)))))
  found_by b None (Some y) =
      let m = same_addr y group in
      let z = shut b false (ran_at p1) false refl refl in
      ap (λ (t : Bool). b && (m && not t)) over2 ∙ (ap (λ (t : Bool). b && t) (sym (neither m (ran_at p4) (ran_at p3)))
      ∙ (sym (moves (ran_at p4) b (m && not (ran_at p3))) ∙ (ap (λ (t : Bool). not (ran_at p4) && t) (sym (moves (ran_at p3) b m)
      ∙ (ap (λ (t : Bool). not (ran_at p3) && t) (sym (top b m (ran_at p2) _ z)) ∙ sym (skip b false (ran_at p3) _ refl)))
      ∙ sym (skip b false (ran_at p4) _ refl))))
  found_by b None None =
      ap (λ (t : Bool). b && (true && not t)) over1 ∙ (ap (λ (t : Bool). b && t) (sym (none_of (ran_at p4) (ran_at p3) (ran_at p2)))
      ∙ (sym (moves (ran_at p4) b ((true && not (ran_at p2)) && not (ran_at p3)))
      ∙ (ap (λ (t : Bool). not (ran_at p4) && t) (sym (moves (ran_at p3) b (true && not (ran_at p2)))
      ∙ (ap (λ (t : Bool). not (ran_at p3) && t) (sym (moves (ran_at p2) b true)
      ∙ (ap (λ (t : Bool). not (ran_at p2) && t) (sym (top b true (ran_at p1) false refl)) ∙ sym (skip b false (ran_at p2) _ refl)))
      ∙ sym (skip b false (ran_at p3) _ refl)))
      ∙ sym (skip b false (ran_at p4) _ refl))))

  abbrev routes : List LearnedRoute
  routes = map learned_route (filter (is_of_peer peer) es)

  overtaken : (e : Entry) → list_any (overtakes source group (learned_route e)) routes ≡ over (rank e.0.pattern)
  overtaken e = any_map (overtakes source group (learned_route e)) learned_route (filter (is_of_peer peer) es)
      ∙ any_filter (λ (x : Entry). overtakes source group (learned_route e) (learned_route x)) (is_of_peer peer) es

  is_wanted_here : (e : Entry) → (is_of_peer peer e && is_wanted routes source group (learned_route e))
      ≡ is_found peer es (patterns_of source group) e
  is_wanted_here e =
      ap (λ (t : Bool). is_of_peer peer e && (matches e.0.pattern source group && not t)) (overtaken e)
      ∙ found_by (is_of_peer peer e) e.0.pattern.source e.0.pattern.group

  pub wanted_found : Sorted es → until_run peer (patterns_of source group) es ≡ map (λ (r : LearnedRoute). r.fec) (wanted routes source group)
  wanted_found a =
      until_found peer es (patterns_of source group) ((lit< tt, (lit< tt, (lit< tt, tt))), ((lit< tt, (lit< tt, tt)), ((lit< tt, tt), (tt, tt)))) a
      ∙ (ap (map fec_of) (sym (filter_filter (λ (e : Entry). is_wanted routes source group (learned_route e)) (is_of_peer peer) es
      ∙ filter_alike (λ (e : Entry). is_of_peer peer e && is_wanted routes source group (learned_route e))
      (is_found peer es (patterns_of source group)) is_wanted_here es))
      ∙ (sym (map_map (λ e. true) (filter (λ (e : Entry). is_wanted routes source group (learned_route e)) (filter (is_of_peer peer) es)))
      ∙ ap (map (λ (r : LearnedRoute). r.fec)) (sym (filter_map (is_wanted routes source group) learned_route (filter (is_of_peer peer) es)))))

-- ---- the order of a peer's routes

among_less : (x : RouteKey) (es : List Entry) → AllByRecursion (λ y. route_cmp x y ≡ Less) (keys_of es) → (f : Entry) → Among f es
    → route_cmp x f.0 ≡ Less
among_less x [] a f m = absurd m
among_less x (e ∷ es) a f (inl same) = ap (λ (g : Entry). route_cmp x g.0) same ∙ a.0
among_less x (e ∷ es) a f (inr m) = among_less x es a.1 f m

tie_numbers : (a b : ℕ) → a ≡ b → nat_cmp a b ≡ Equal
tie_numbers a b e = subst (λ (n : ℕ). nat_cmp a n ≡ Equal) e (tied_itself nat_cmp_total a)

tie_parts : (a b : List ℕ) → a ≡ b → slice_cmp nat_cmp a b ≡ Equal
tie_parts a b e = subst (λ (l : List ℕ). slice_cmp nat_cmp a l ≡ Equal) e (tied_itself nat_list_cmp_total a)

before : (e f : Entry) → e.0.peer.0 ≡ f.0.peer.0 → route_cmp e.0 f.0 ≡ Less → IsBefore e f
before e f same h = record {
  rank = ranks_fall e.0 f.0 h same;
  rd = λ one.
      front_is (slice_cmp nat_cmp (word_part e.0.pattern.group) (word_part f.0.pattern.group)) (by_place e.0 f.0)
      (front_is (slice_cmp nat_cmp (word_part e.0.pattern.source) (word_part f.0.pattern.source)) (by_group e.0 f.0)
      (front_is (nat_cmp (rank f.0.pattern) (rank e.0.pattern)) (by_source e.0 f.0)
      (front_is (nat_cmp e.0.peer.0 f.0.peer.0) (by_rank e.0 f.0) h (tie_numbers e.0.peer.0 f.0.peer.0 same))
      (tie_numbers (rank f.0.pattern) (rank e.0.pattern) (ap rank (sym one))))
      (tie_parts (word_part e.0.pattern.source) (word_part f.0.pattern.source) (ap (λ (p : Pattern). word_part p.source) one)))
      (tie_parts (word_part e.0.pattern.group) (word_part f.0.pattern.group) (ap (λ (p : Pattern). word_part p.group) one));
}

ordered : (peer : NodeId) (es : List Entry) → Sorted es → InOrder (filter (is_of_peer peer) es)
unfolding IsStrictlySortedBy
ordered peer [] a = tt
ordered peer (e ∷ es) a = by (is_of_peer peer e) refl (ordered peer es a.1)
  where
    by : (b : Bool) → is_of_peer peer e ≡ b → InOrder (filter (is_of_peer peer) es)
        → InOrder (cond b (e ∷ filter (is_of_peer peer) es) (filter (is_of_peer peer) es))
    by true h rest = (
      λ f m. let own = filtered (is_of_peer peer) f es m in
          before e f (eqb-true e.0.peer.0 peer.0 h ∙ sym (eqb-true f.0.peer.0 peer.0 own.1)) (among_less e.0 es a.0 f own.0),
      rest,
    )
    by false h rest = rest

pub in_order : (peer : NodeId) (routes : Routes) → InOrder (peer_entries peer routes)
in_order peer routes = ordered peer (entries routes) (map_sorted route_cmp routes)
