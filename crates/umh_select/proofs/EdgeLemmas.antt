-- The edges that routes are from, by rising address.
use Rattle.std.proofs.Common.{◌≡◌, ℕ, zero, suc, ◌+◌, ◌*◌, ◌%◌, ◌<◌, ◌≤◌, Bool, true, false, List, [], ◌∷◌, map, length, slice_get, Option, Some, None, option_map, refl, sym, ap, subst, ◌∙◌, cond, arith}
use Rattle.std.proofs.lemmas.Nat.{mod-mul-add}
use Rattle.std.specs.Ordering.{is_lt}
use Rattle.std.specs.declared.cmp.Ordering.{Ordering}
use Rattle.std.specs.declared.cmp.Ordering.TheVariants.{Less, Equal, Greater}
use Rattle.mv_base.specs.declared.addr.Addr.{Addr}
use Rattle.mv_base.specs.declared.ids.NodeId.{NodeId}
use Rattle.choice_defs.specs.Choice.{addr_cmp, IsLower, hashed_of, put_by, put_edge}
use Rattle.choice_defs.proofs.BestLemmas.{opposite}
use Rattle.choice_defs.proofs.OrderLemmas.{greater_back, is_less, less_twice, not_both, not_itself, not_less, not_less_chain, addr_cmp_total, one_addr}
use Rattle.umh_select.specs.declared.key.RouteKey.{RouteKey}
use Rattle.umh_select.specs.declared.route.Held.{Held}
use Rattle.umh_select.specs.Edges.{edge_of, edges_in, first_above, is_above, lower, lowest, lowest_of}

abbrev Edge : Type 0
Edge = NodeId × Addr

-- ---- the lowest one

abbrev merged : Option Edge → Option Edge → Option Edge
merged None o = o
merged (Some b) None = Some b
merged (Some b) (Some x) = cond (is_lt (addr_cmp b.1 x.1)) (Some b) (Some x)

lt_of : (a b : Addr) → addr_cmp a b ≡ Less → is_lt (addr_cmp a b) ≡ true
lt_of a b h = ap is_lt h

above_chain : (after : Option Addr) (a b : Addr) → is_above after a ≡ true → addr_cmp a b ≡ Less → is_above after b ≡ true
above_chain None a b h k = refl
above_chain (Some after) a b h k = lt_of after b (addr_cmp_total.trans after a b (is_less (addr_cmp after a) h) k)

merged_left : (b : Edge) (x e : Edge) (t : Bool)
    → merged (Some b) (cond t (Some e) (Some x))
    ≡ cond t (cond (is_lt (addr_cmp b.1 e.1)) (Some b) (Some e)) (cond (is_lt (addr_cmp b.1 x.1)) (Some b) (Some x))
merged_left b x e true = refl
merged_left b x e false = refl

merged_right : (b : Edge) (x e : Edge) (t : Bool)
    → merged (cond t (Some b) (Some e)) (Some x)
    ≡ cond t (cond (is_lt (addr_cmp b.1 x.1)) (Some b) (Some x)) (cond (is_lt (addr_cmp e.1 x.1)) (Some e) (Some x))
merged_right b x e true = refl
merged_right b x e false = refl

merged_none : (b e : Edge) (t : Bool) → cond t (Some b) (Some e) ≡ merged (cond t (Some b) (Some e)) None
merged_none b e true = refl
merged_none b e false = refl

three : (b e x : Edge) (p q r : Bool) → is_lt (addr_cmp e.1 x.1) ≡ p → is_lt (addr_cmp b.1 e.1) ≡ q → is_lt (addr_cmp b.1 x.1) ≡ r
    → cond p (cond q (Some b) (Some e)) (cond r (Some b) (Some x)) ≡ cond q (cond r (Some b) (Some x)) (cond p (Some e) (Some x))
three b e x true true true h k l = refl
three b e x true true false h k l =
    absurd (less_twice (addr_cmp b.1 x.1) (addr_cmp_total.trans b.1 e.1 x.1 (is_less (addr_cmp b.1 e.1) k) (is_less (addr_cmp e.1 x.1) h)) l)
three b e x true false r h k l = refl
three b e x false true r h k l = refl
three b e x false false true h k l = absurd (opposite (is_lt (addr_cmp b.1 x.1)) l (not_less_chain addr_cmp_total b.1 e.1 x.1 k h))
three b e x false false false h k l = refl

regroup : (best : Option Edge) (e : Edge) (o : Option Edge) → merged best (merged (Some e) o) ≡ merged (lower best e) o
regroup None e o = refl
regroup (Some b) e None = merged_none b e (is_lt (addr_cmp b.1 e.1))
regroup (Some b) e (Some x) =
    merged_left b x e (is_lt (addr_cmp e.1 x.1))
    ∙ (three b e x (is_lt (addr_cmp e.1 x.1)) (is_lt (addr_cmp b.1 e.1)) (is_lt (addr_cmp b.1 x.1)) refl refl refl
    ∙ sym (merged_right b x e (is_lt (addr_cmp b.1 e.1))))

module _ (after : Option Addr) where
  -- the first one above, with one edge more
  abbrev One : Edge → List Edge → List Edge → Type 0
  One e xs put = first_above after put ≡ cond (is_above after e.1) (merged (Some e) (first_above after xs)) (first_above after xs)

  put_less : (e x : Edge) (xs : List Edge) → addr_cmp e.1 x.1 ≡ Less → (t u : Bool) → is_above after e.1 ≡ t → is_above after x.1 ≡ u
      → (rest : Option Edge)
      → cond t (Some e) (cond u (Some x) rest) ≡ cond t (merged (Some e) (cond u (Some x) rest)) (cond u (Some x) rest)
  put_less e x xs h true true p q rest = sym (ap (λ (b : Bool). cond b (Some e) (Some x)) (lt_of e.1 x.1 h))
  put_less e x xs h true false p q rest = absurd (opposite (is_above after x.1) (above_chain after e.1 x.1 p h) q)
  put_less e x xs h false u p q rest = refl

  put_equal : (e x : Edge) → addr_cmp e.1 x.1 ≡ Equal → (t u : Bool) → is_above after e.1 ≡ t → is_above after x.1 ≡ u → (rest : Option Edge)
      → cond u (Some x) rest ≡ cond t (merged (Some e) (cond u (Some x) rest)) (cond u (Some x) rest)
  put_equal e x h true true p q rest = sym (ap (λ (o : Ordering). cond (is_lt o) (Some e) (Some x)) h)
  put_equal e x h true false p q rest =
      absurd (opposite (is_above after x.1) (subst (λ (a : Addr). is_above after a ≡ true) (one_addr e.1 x.1 h) p) q)
  put_equal e x h false u p q rest = refl

  put_greater : (e x : Edge) → addr_cmp e.1 x.1 ≡ Greater → (t u : Bool) → is_above after e.1 ≡ t → is_above after x.1 ≡ u → (rest put : Option Edge)
      → put ≡ cond t (merged (Some e) rest) rest → cond u (Some x) put ≡ cond t (merged (Some e) (cond u (Some x) rest)) (cond u (Some x) rest)
  put_greater e x h true true p q rest put k = sym (ap (λ (o : Ordering). cond (is_lt o) (Some e) (Some x)) h)
  put_greater e x h false true p q rest put k = refl
  put_greater e x h t false p q rest put k = k

  put_first : (e : Edge) (xs : List Edge) → One e xs (put_edge e xs)
  put_first e [] = refl
  put_first e (x ∷ xs) = by (addr_cmp e.1 x.1) refl (put_first e xs)
    where
      by : (o : Ordering) → addr_cmp e.1 x.1 ≡ o → One e xs (put_edge e xs) → One e (x ∷ xs) (put_by o e x xs (put_edge e xs))
      by Less h k = put_less e x xs h (is_above after e.1) (is_above after x.1) refl refl (first_above after xs)
      by Equal h k = put_equal e x h (is_above after e.1) (is_above after x.1) refl refl (first_above after xs)
      by Greater h k =
          put_greater e x h (is_above after e.1) (is_above after x.1) refl refl (first_above after xs) (first_above after (put_edge e xs)) k

  step : (best : Option Edge) (e : Edge) (t : Bool) (rest : Option Edge)
      → merged best (cond t (merged (Some e) rest) rest) ≡ merged (cond t (lower best e) best) rest
  step best e true rest = regroup best e rest
  step best e false rest = refl

  merged_end : (best : Option Edge) → best ≡ merged best None
  merged_end None = refl
  merged_end (Some b) = refl

  along : (best : Option Edge) (es : List (RouteKey × Held)) → lowest_of after best (map edge_of es) ≡ merged best (first_above after (edges_in es))
  along best [] = merged_end best
  along best (e ∷ es) =
      along (lowest after best (edge_of e)) es
      ∙ sym (ap (merged best) (put_first (edge_of e) (edges_in es))
      ∙ step best (edge_of e) (is_above after (edge_of e).1) (first_above after (edges_in es)))

  pub lowest_first : (es : List (RouteKey × Held)) → lowest_of after None (map edge_of es) ≡ first_above after (edges_in es)
  lowest_first es = along None es

-- ---- edges rise

abbrev AllAbove : Addr → List Edge → Type 0
AllAbove a [] = Unit {0}
AllAbove a (x ∷ xs) = IsLower a x.1 × AllAbove a xs

abbrev pub Rising : List Edge → Type 0
Rising [] = Unit {0}
Rising (x ∷ xs) = AllAbove x.1 xs × Rising xs

above_put : (a : Addr) (e : Edge) (xs : List Edge) → IsLower a e.1 → AllAbove a xs → AllAbove a (put_edge e xs)
above_put a e [] h k = (h, tt)
above_put a e (x ∷ xs) h k = by (addr_cmp e.1 x.1) (above_put a e xs h k.1)
  where
    by : (o : Ordering) → AllAbove a (put_edge e xs) → AllAbove a (put_by o e x xs (put_edge e xs))
    by Less rest = (h, k)
    by Equal rest = k
    by Greater rest = (k.0, rest)

lower_above : (a b : Addr) (xs : List Edge) → IsLower a b → AllAbove b xs → AllAbove a xs
lower_above a b [] h k = tt
lower_above a b (x ∷ xs) h k = (addr_cmp_total.trans a b x.1 h k.0, lower_above a b xs h k.1)

put_rises : (e : Edge) (xs : List Edge) → Rising xs → Rising (put_edge e xs)
put_rises e [] r = (tt, tt)
put_rises e (x ∷ xs) r = by (addr_cmp e.1 x.1) refl (put_rises e xs r.1)
  where
    by : (o : Ordering) → addr_cmp e.1 x.1 ≡ o → Rising (put_edge e xs) → Rising (put_by o e x xs (put_edge e xs))
    by Less h rest = ((h, lower_above e.1 x.1 xs h r.0), r)
    by Equal h rest = r
    by Greater h rest = (above_put x.1 e xs (greater_back addr_cmp_total e.1 x.1 h) r.0, rest)

pub edges_rise : (es : List (RouteKey × Held)) → Rising (edges_in es)
edges_rise [] = tt
edges_rise (e ∷ es) = put_rises (edge_of e) (edges_in es) (edges_rise es)

-- ---- from one edge to the next

head : List Edge → Option Edge
head xs = slice_get xs 0

above_none : (xs : List Edge) → first_above None xs ≡ slice_get xs 0
above_none [] = refl
above_none (x ∷ xs) = refl

above_all : (a : Addr) (xs : List Edge) → AllAbove a xs → first_above (Some a) xs ≡ slice_get xs 0
above_all a [] h = refl
above_all a (x ∷ xs) h = ap (λ (b : Bool). cond b (Some x) (first_above (Some a) xs)) (lt_of a x.1 h.0)

listed_above : (a : Addr) (xs : List Edge) (i : ℕ) (x : Edge) → AllAbove a xs → slice_get xs i ≡ Some x → IsLower a x.1
listed_above a [] i x h k = absurd cc
listed_above a (y ∷ ys) zero x h k = subst (λ (z : Edge). IsLower a z.1) (some_is y x k) h.0
  where
    some_is : (y x : Edge) → Some y ≡ Some x → y ≡ x
    some_is y x e = cc
listed_above a (y ∷ ys) (suc i) x h k = listed_above a ys i x h.1 k

pub next_above : (xs : List Edge) (i : ℕ) (x : Edge) → Rising xs → slice_get xs i ≡ Some x → first_above (Some x.1) xs ≡ slice_get xs (suc i)
next_above [] i x r k = absurd cc
next_above (y ∷ ys) zero x r k =
    let same : y ≡ x = cc in
    subst (λ (z : Edge). first_above (Some z.1) (y ∷ ys) ≡ slice_get ys 0) same
    (ap (λ (b : Bool). cond b (Some y) (first_above (Some y.1) ys)) (not_less (addr_cmp y.1 y.1) (not_itself addr_cmp_total y.1))
    ∙ above_all y.1 ys r.0)
next_above (y ∷ ys) (suc i) x r k =
    let below = listed_above y.1 ys i x r.0 k in
    ap (λ (b : Bool). cond b (Some y) (first_above (Some x.1) ys)) (not_less (addr_cmp x.1 y.1) (λ l. not_both addr_cmp_total x.1 y.1 l below))
    ∙ next_above ys i x r.1 k

pub first_edge : (es : List (RouteKey × Held)) → first_above None (edges_in es) ≡ slice_get (edges_in es) 0
first_edge es = above_none (edges_in es)

-- ---- how many there are

pub past_end : (xs : List Edge) (n : ℕ) → n ≤ length xs → slice_get xs n ≡ None → n ≡ length xs
past_end [] zero h e = refl
past_end [] (suc n) h e = absurd (omega (arith, h))
past_end (x ∷ xs) zero h e = absurd cc
past_end (x ∷ xs) (suc n) h e =
    let below : n ≤ length xs = omega (arith, h) in
    ap suc (past_end xs n below e)

pub one_more : (xs : List Edge) (n : ℕ) (x : Edge) → slice_get xs n ≡ Some x → suc n ≤ length xs
one_more [] n x e = absurd cc
one_more (y ∷ ys) zero x e = omega arith
one_more (y ∷ ys) (suc n) x e = let rest : suc n ≤ length ys = one_more ys n x e in omega (arith, rest)

pub next_edge : (xs : List Edge) (i : ℕ) (x : Edge) (o : Option Edge) → Rising xs → slice_get xs i ≡ Some x → o ≡ first_above (Some x.1) xs
    → o ≡ slice_get xs (i + 1)
next_edge xs i x o r e h = let up : suc i ≡ i + 1 = omega arith in h ∙ (next_above xs i x r e ∙ ap (slice_get xs) up)

-- ---- the edge that is named

of_number : (xs : List Edge) (hash : ℕ) (x : Edge) → slice_get xs (hash % length xs) ≡ Some x → Some x.0 ≡ hashed_of hash xs
of_number xs hash x e = sym (ap (option_map (λ (edge : Edge). edge.0)) e)

pub named_low : (xs : List Edge) (hash : ℕ) (x : Edge) → slice_get xs hash ≡ Some x → Some x.0 ≡ hashed_of hash xs
named_low xs hash x e =
    let within : suc hash ≤ length xs = one_more xs hash x e in
    let below : hash < length xs = omega (arith, within) in
    let none : 0 * length xs + hash ≡ hash = omega arith in
    let same : hash % length xs ≡ hash = ap (λ (n : ℕ). n % length xs) (sym none) ∙ mod-mul-add 0 (length xs) hash below in
    of_number xs hash x (ap (slice_get xs) same ∙ e)
