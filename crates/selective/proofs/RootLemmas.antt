-- Selections of a root, and what leaves them distinct.
use Rattle.std.proofs.Common.{◌≡◌, ℕ, zero, suc, ◌+◌, ◌-◌, ◌<◌, ◌≤◌, ◌^◌, ◌↔◌, ◌⊎◌, Bool, true, false, cond, not, inl, inr, List, [], ◌∷◌, ◌++◌, length, map, filter, take, drop, Option, None, Some, is_some, refl, sym, ap, subst, ◌∙◌, arith}
use Rattle.std.specs.Prelude.{IfSome, option_map}
use Rattle.std.specs.List.{find}
use Rattle.std.specs.Option.{option_eq}
use Rattle.std.proofs.lemmas.Bool.{cases_Bool, and_parts}
use Rattle.std.proofs.Math.ListN.{get_or, set}
use Rattle.std.proofs.lemmas.List.{get_or_default}
use Rattle.std.proofs.lemmas.List.Edits.{map_over_more}
use Rattle.std.proofs.lemmas.List.Filters.{length-filter_both}
use Rattle.mv_base.specs.Address.{same_addr, same_addr_equal, same_addr_equiv}
use Rattle.mv_base.specs.declared.addr.Addr.{Addr}
use Rattle.mv_base.specs.declared.pattern.Pattern.{Pattern}
use Rattle.selective_defs.specs.declared.selection.Selection.{Selection}
use Rattle.selective_defs.specs.Selective.{Among, AreDistinct, IsLeastNumber, Matches, free_number, matches, next_number, transmitted}
use Rattle.selective_defs.proofs.NumberLemmas.{least_number}
use Rattle.selective_defs.proofs.PatternLemmas.{both_true, opposite, matched, matching}
use Rattle.selective_defs.proofs.TransmittedLemmas.{best_of}
use Rattle.selective_defs.proofs.WantedLemmas.{filtered}
use Rattle.selective.specs.Patterns.{same_pattern}
use Rattle.selective.specs.Roots.{AreSelections, IsRoot, IsSelected, added, is_of, number_at, run_due}

-- ---- patterns

pub same_test : (b : Bool) (pattern : Pattern) (source group : Addr) → ((b ≡ true) ↔ Matches pattern source group) → b ≡ matches pattern source group
same_test true pattern source group h = sym (matching pattern source group (h.0 refl))
same_test false pattern source group h = elim (cases_Bool (matches pattern source group)) [
  | inl t ↦ h.1 (matched pattern source group t) ∙ sym t
  | inr f ↦ sym f
]

one_word : (a b : Option Addr) → option_eq same_addr a b ≡ true → a ≡ b
one_word None None h = refl
one_word None (Some b) h = absurd (opposite false h refl)
one_word (Some a) None h = absurd (opposite false h refl)
one_word (Some a) (Some b) h = ap (λ (x : Addr). Some x) (same_addr_equal a b h)

word_itself : (a : Option Addr) → option_eq same_addr a a ≡ true
word_itself None = refl
word_itself (Some a) = same_addr_equiv.refl a

pub one_pattern : (a b : Pattern) → same_pattern a b ≡ true → a ≡ b
one_pattern a b h =
    let both = and_parts (option_eq same_addr a.source b.source) (option_eq same_addr a.group b.group) h in
    let sources = one_word a.source b.source both.0 in
    let groups = one_word a.group b.group both.1 in
    λ i. record { source = sources i; group = groups i }

pub pattern_itself : (a : Pattern) → same_pattern a a ≡ true
pattern_itself a =
    both_true (option_eq same_addr a.source a.source) (option_eq same_addr a.group a.group) (word_itself a.source) (word_itself a.group)

-- ---- the selection of a pattern

is_of_it : (pattern : Pattern) (x : Selection) → x.pattern ≡ pattern → is_of pattern x ≡ true
is_of_it pattern x e = ap (λ (p : Pattern). same_pattern p pattern) e ∙ pattern_itself pattern

-- of an option that is found along a list
pub record IsFound (pattern : Pattern) (xs : List Selection) (x : Selection) : Type 0 where
  pub among : Among x xs
  pub own : x.pattern ≡ pattern

pub FoundIs : Pattern → List Selection → Option Selection → Type 0
FoundIs pattern xs None = IsSelected pattern xs → ⊥
FoundIs pattern xs (Some x) = IsFound pattern xs x

found_one : (pattern : Pattern) (y : Selection) (ys : List Selection) (b : Bool) → is_of pattern y ≡ b → (o : Option Selection) → FoundIs pattern ys o
    → FoundIs pattern (y ∷ ys) (cond b (Some y) o)
unfolding FoundIs
found_one pattern y ys true h o f = record { among = inl refl; own = one_pattern y.pattern pattern h }
found_one pattern y ys false h (Some x) f = record { among = inr f.among; own = f.own }
found_one pattern y ys false h None f = none
  where
    none : IsSelected pattern (y ∷ ys) → ⊥
    none (x, inl e, own) = opposite (is_of pattern y) (is_of_it pattern y (ap (λ (s : Selection). s.pattern) (sym e) ∙ own)) h
    none (x, inr a, own) = f (x, a, own)

found : (pattern : Pattern) (xs : List Selection) → FoundIs pattern xs (find (is_of pattern) xs)
unfolding FoundIs
found pattern [] = λ s. absurd s.1
found pattern (x ∷ xs) = found_one pattern x xs (is_of pattern x) refl (find (is_of pattern) xs) (found pattern xs)

selected_by : (pattern : Pattern) (xs : List Selection) (o : Option Selection) → FoundIs pattern xs o
    → (is_some (option_map (λ (s : Selection). s.number) o) ≡ true) ↔ IsSelected pattern xs
unfolding FoundIs
selected_by pattern xs None f = (λ e. absurd (opposite false e refl), λ s. absurd (f s))
selected_by pattern xs (Some x) f = (λ e. (x, f.among, f.own), λ s. refl)

pub is_selected : (pattern : Pattern) (xs : List Selection) → (is_some (number_at pattern xs) ≡ true) ↔ IsSelected pattern xs
is_selected pattern xs = selected_by pattern xs (find (is_of pattern) xs) (found pattern xs)

within_by : (pattern : Pattern) (xs : List Selection) → AreSelections xs → (o : Option Selection) → FoundIs pattern xs o
    → IfSome (option_map (λ (s : Selection). s.number) o) (λ n. n < 2 ^ 20)
unfolding FoundIs
within_by pattern xs k None f = tt
within_by pattern xs k (Some x) f = (k.within x f.among).1

pub number_within : (pattern : Pattern) (xs : List Selection) (o : Option ℕ) → o ≡ number_at pattern xs → AreSelections xs
    → IfSome o (λ n. n < 2 ^ 20)
number_within pattern xs o e k =
    subst (λ (p : Option ℕ). IfSome p (λ n. n < 2 ^ 20)) (sym e) (within_by pattern xs k (find (is_of pattern) xs) (found pattern xs))

-- ---- the tunnel of a flow

added_by : (xs : List Selection) (source group : Addr) → AreSelections xs → (o : Option Selection) → transmitted xs source group ≡ o
    → added o < 2 ^ 20
added_by xs source group k None e = omega arith
added_by xs source group k (Some x) e = (k.within x (best_of xs source group x e).among).1

pub added_within : (xs : List Selection) (source group : Addr) (n : ℕ) → n ≡ added (transmitted xs source group) → AreSelections xs → n < 2 ^ 20
added_within xs source group n e k =
    let below : added (transmitted xs source group) < 2 ^ 20 = added_by xs source group k (transmitted xs source group) refl in
    omega (arith, e, below)

-- ---- changes

pub none_kept : AreSelections []
none_kept = record { patterns = λ one other a b e. absurd a; numbers = λ one other a b e. absurd a; within = λ x a. absurd a }

pub filter_kept : (p : Selection → Bool) (xs : List Selection) → AreSelections xs → AreSelections (filter p xs)
filter_kept p xs k = record {
  patterns = λ one other a b e. k.patterns one other (filtered p one xs a).0 (filtered p other xs b).0 e;
  numbers = λ one other a b e. k.numbers one other (filtered p one xs a).0 (filtered p other xs b).0 e;
  within = λ x a. k.within x (filtered p x xs a).0;
}

filter_fewer : (p : Selection → Bool) (xs : List Selection) → length (filter p xs) ≤ length xs
filter_fewer p xs = omega (arith, length-filter_both p (λ x. not (p x)) (λ _. refl) xs)

pub filter_root : (number delay : ℕ) (p : Selection → Bool) (xs ys : List Selection) → ys ≡ filter p xs → IsRoot number delay xs
    → IsRoot number delay ys
filter_root number delay p xs ys e r =
    let fewer : length (filter p xs) ≤ length xs = filter_fewer p xs in
    let few : length xs ≤ 256 = r.few in
    subst (IsRoot number delay) (sym e) (record {
      least = r.least;
      most = r.most;
      short = r.short;
      few = omega (arith, fewer, few);
      kept =
          filter_kept p xs r.kept;
    })

-- what a changed list has comes from what the list has
mapped : (f : Selection → Selection) (x : Selection) (xs : List Selection) → Among x (map f xs) → (y : Selection) × (Among y xs) × (x ≡ f y)
mapped f x [] a = absurd a
mapped f x (y ∷ ys) (inl e) = (y, inl refl, e)
mapped f x (y ∷ ys) (inr a) = let more = mapped f x ys a in (more.0, inr more.1, more.2)

length-mapped : (f : Selection → Selection) (xs : List Selection) → length (map f xs) ≡ length xs
length-mapped f [] = refl
length-mapped f (x ∷ xs) = ap suc (length-mapped f xs)

module _ (delay now : ℕ) (xs : List Selection) (k : AreSelections xs) where
  run_kept : AreSelections (map (run_due delay now) xs)
  run_kept = record { patterns = patterns; numbers = numbers; within = within }
    where
      patterns : AreDistinct (map (run_due delay now) xs)
      patterns one other a b e =
          let m = mapped (run_due delay now) one xs a in
          let n = mapped (run_due delay now) other xs b in
          let same = k.patterns m.0 n.0 m.1 n.1 (ap (λ (s : Selection). s.pattern) (sym m.2) ∙ (e ∙ ap (λ (s : Selection). s.pattern) n.2)) in
          m.2 ∙ (ap (run_due delay now) same ∙ sym n.2)

      numbers : (one other : Selection) → Among one (map (run_due delay now) xs) → Among other (map (run_due delay now) xs)
          → one.number ≡ other.number → one ≡ other
      numbers one other a b e =
          let m = mapped (run_due delay now) one xs a in
          let n = mapped (run_due delay now) other xs b in
          let same = k.numbers m.0 n.0 m.1 n.1 (ap (λ (s : Selection). s.number) (sym m.2) ∙ (e ∙ ap (λ (s : Selection). s.number) n.2)) in
          m.2 ∙ (ap (run_due delay now) same ∙ sym n.2)

      within : (x : Selection) → Among x (map (run_due delay now) xs) → (1 ≤ x.number) × (x.number < 2 ^ 20)
      within x a =
          let m = mapped (run_due delay now) x xs a in
          subst (λ (n : ℕ). (1 ≤ n) × (n < 2 ^ 20)) (ap (λ (s : Selection). s.number) (sym m.2)) (k.within m.0 m.1)

pub run_root : (number delay now : ℕ) (xs ys : List Selection) → ys ≡ map (run_due delay now) xs → IsRoot number delay xs → IsRoot number delay ys
run_root number delay now xs ys e r =
    let same : length (map (run_due delay now) xs) ≡ length xs = length-mapped (run_due delay now) xs in
    let few : length xs ≤ 256 = r.few in
    subst (IsRoot number delay) (sym e) (record {
      least = r.least;
      most = r.most;
      short = r.short;
      few = omega (arith, same, few);
      kept =
          run_kept delay now xs r.kept;
    })

pub run_more : (delay now : ℕ) (xs ys : List Selection) (i : ℕ) (d new : Selection) → length ys ≡ length xs → i < length xs
    → ys ≡ map (run_due delay now) (take i xs) ++ drop i xs → new ≡ run_due delay now (get_or ys i d)
    → set ys i new ≡ map (run_due delay now) (take (i + 1) xs) ++ drop (i + 1) xs
run_more delay now xs ys i d new same low so e =
    let within : i < length ys = omega (arith, same, low) in
    ap (set ys i) e ∙ map_over_more (run_due delay now) xs ys i (get_or ys i d) low so (get_or_default ys i d (get_or ys i d) within)

pushed : (x y : Selection) (xs : List Selection) → Among x (xs ++ y ∷ []) → Among x xs ⊎ (x ≡ y)
pushed x y [] (inl e) = inr e
pushed x y [] (inr none) = absurd none
pushed x y (z ∷ zs) (inl e) = inl (inl e)
pushed x y (z ∷ zs) (inr a) = elim (pushed x y zs a) [ inl b ↦ inl (inr b) | inr e ↦ inr e ]

length-pushed : (y : Selection) (xs : List Selection) → length (xs ++ y ∷ []) ≡ length xs + 1
length-pushed y [] = refl
length-pushed y (x ∷ xs) = let more : length (xs ++ y ∷ []) ≡ length xs + 1 = length-pushed y xs in omega (arith, more)

module _ (xs : List Selection) (k : AreSelections xs) (few : length xs < 256) (y : Selection) (new : IsSelected y.pattern xs → ⊥)
    (number : y.number ≡ next_number xs) where
  is_least : IsLeastNumber xs y.number
  is_least = subst (IsLeastNumber xs) (sym number) (least_number xs)

  push_kept : AreSelections (xs ++ y ∷ [])
  push_kept = record { patterns = patterns; numbers = numbers; within = within }
    where
      patterns : AreDistinct (xs ++ y ∷ [])
      patterns one other a b e = elim (pushed one y xs a) [
        | inl c ↦ elim (pushed other y xs b) [
          | inl d ↦ k.patterns one other c d e
          | inr f ↦ absurd (new (one, c, e ∙ ap (λ (s : Selection). s.pattern) f))
        ]
        | inr g ↦ elim (pushed other y xs b) [
          | inl d ↦ absurd (new (other, d, sym e ∙ ap (λ (s : Selection). s.pattern) g))
          | inr f ↦ g ∙ sym f
        ]
      ]

      numbers : (one other : Selection) → Among one (xs ++ y ∷ []) → Among other (xs ++ y ∷ []) → one.number ≡ other.number → one ≡ other
      numbers one other a b e = elim (pushed one y xs a) [
        | inl c ↦ elim (pushed other y xs b) [
          | inl d ↦ k.numbers one other c d e
          | inr f ↦ absurd (is_least.free one c (e ∙ ap (λ (s : Selection). s.number) f))
        ]
        | inr g ↦ elim (pushed other y xs b) [
          | inl d ↦ absurd (is_least.free other d (sym e ∙ ap (λ (s : Selection). s.number) g))
          | inr f ↦ g ∙ sym f
        ]
      ]

      within : (x : Selection) → Among x (xs ++ y ∷ []) → (1 ≤ x.number) × (x.number < 2 ^ 20)
      within x a = elim (pushed x y xs a) [
        | inl c ↦ k.within x c
        | inr e ↦ (
            let same : x.number ≡ y.number = ap (λ (s : Selection). s.number) e in
            let low : 1 ≤ y.number = is_least.counted in
            let high : y.number ≤ length xs + 1 = is_least.few in
            (omega (arith, same, low), omega (arith, same, high, few)))
      ]

pub push_root : (vrf delay : ℕ) (xs ys : List Selection) (y : Selection) → ys ≡ xs ++ y ∷ [] → IsRoot vrf delay xs → length xs < 256
    → (IsSelected y.pattern xs → ⊥) → y.number ≡ next_number xs → IsRoot vrf delay ys
push_root vrf delay xs ys y e r few new number =
    let more : length (xs ++ y ∷ []) ≡ length xs + 1 = length-pushed y xs in
    subst (IsRoot vrf delay) (sym e) (record {
      least = r.least;
      most = r.most;
      short = r.short;
      few = omega (arith, more, few);
      kept =
          push_kept xs r.kept few y new number;
    })

pub next_within : (xs : List Selection) (n : ℕ) → n ≡ next_number xs → length xs < 256 → n < 2 ^ 20
next_within xs n e few =
    let high : next_number xs ≤ length xs + 1 = (least_number xs).few in
    omega (arith, e, high, few)

-- ---- the search for a number

pub free_next : (used : ℕ → Bool) (count number : ℕ) → used number ≡ true → 0 < count
    → free_number used count number ≡ free_number used (count - 1) (number + 1)
free_next used count number h some = by (count - 1) (omega arith)
  where
    by : (c : ℕ) → count ≡ suc c → free_number used count number ≡ free_number used c (number + 1)
    by c e = ap (λ (n : ℕ). free_number used n number) e ∙ ap (λ (b : Bool). cond b (free_number used c (number + 1)) number) h

pub free_here : (used : ℕ → Bool) (count number : ℕ) → used number ≡ false → free_number used count number ≡ number
free_here used zero number h = refl
free_here used (suc count) number h = ap (λ (b : Bool). cond b (free_number used count (number + 1)) number) h

pub free_last : (used : ℕ → Bool) (count number : ℕ) → count ≡ 0 → free_number used count number ≡ number
free_last used count number e = ap (λ (n : ℕ). free_number used n number) e
