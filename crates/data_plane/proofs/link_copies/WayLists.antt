-- The copies on all links, by the ways of a list.
use Rattle.std.proofs.Common.{◌≡◌, ℕ, zero, suc, ◌+◌, ◌==◌, ◌||◌, Bool, true, false, List, [], ◌∷◌, length, refl, sym, ap, ◌∙◌, arith}
use Rattle.std.specs.FinMap as maps
use Rattle.std.specs.List.{count_by}
use Rattle.std.proofs.lemmas.List.{length-append, length-map}
use Rattle.std.proofs.lemmas.List.Sums.{sum_by-cons, sum_by-append}
use Rattle.mv_base.specs.declared.ids.NodeId.{NodeId}
use Rattle.network_defs.specs.World.{LinkCopy}
use Rattle.network_defs.specs.Counts.{datagrams_with_copy}
use Rattle.data_plane.specs.link_copies.CopiesData.{KeptCopy, CopiesData, kept_at, copies_at, all_kept, HasWays, copies_on_ways}
use Rattle.data_plane.proofs.link_copies.Basics.{one_if}
use Rattle.data_plane.proofs.link_copies.Sums.{total_ways, sum-ways, ways-cons}
use Rattle.data_plane.proofs.link_copies.Lists.{count-cons, count-all}
use Rattle.data_plane.proofs.link_copies.Holdings.{length_total}
use Rattle.data_plane.proofs.link_copies.Datagrams.{copies, numbered, has}

abbrev Way : Type 0
Way = NodeId × NodeId

abbrev is_of : ℕ → LinkCopy → Bool
is_of number copy = copy.number == number

-- ---- how many copies

on_ways : (d : CopiesData) (ways : List Way) → length (copies_on_ways ways d) ≡ sum-ways length refl d.ways ways
on_ways d [] = refl
on_ways d (w ∷ ws) = omega (
  arith,
  length-append (copies_at d w.0 w.1) (copies_on_ways ws d),
  length-map (kept_at d w.0 w.1) (λ (k : KeptCopy). k.copy),
  ways-cons length refl d.ways w ws,
  on_ways d ws,
)

pub as_many_on_ways : (d : CopiesData) (ways : List Way) → HasWays ways d → length (all_kept d) ≡ length (copies_on_ways ways d)
as_many_on_ways d ways on =
    length_total d ∙ total_ways length refl ways d.ways on.once (λ way none. ap length (on.all way.0 way.1 none)) ∙ sym (on_ways d ways)

-- ---- which datagrams

abbrev is_positive : ℕ → Bool
is_positive zero = false
is_positive (suc n) = true

is_some_of : (number : ℕ) (cs : List LinkCopy) → has number cs ≡ is_positive (count_by (is_of number) cs)
is_some_of number [] = refl
is_some_of number (c ∷ cs) = by (c.number == number) (is_some_of number cs) ∙ ap is_positive (sym (sum_by-cons (λ x. one_if (is_of number x)) c cs))
  where
    by : (b : Bool) → has number cs ≡ is_positive (count_by (is_of number) cs)
        → (b || has number cs) ≡ is_positive (one_if b + count_by (is_of number) cs)
    by true rest = ap is_positive (one_more (count_by (is_of number) cs))
      where
        one_more : (n : ℕ) → suc n ≡ 1 + n
        one_more n = omega arith
    by false rest = rest ∙ ap is_positive (none_more (count_by (is_of number) cs))
      where
        none_more : (n : ℕ) → n ≡ 0 + n
        none_more n = omega arith

of_copies : (number : ℕ) (ks : List KeptCopy) → count_by (is_of number) (copies ks) ≡ count_by (numbered number) ks
of_copies number [] = refl
of_copies number (k ∷ ks) =
    omega (arith, sum_by-cons (λ x. one_if (is_of number x)) k.copy (copies ks), count-cons (numbered number) k ks, of_copies number ks)

of_ways : (number : ℕ) (d : CopiesData) (ways : List Way)
    → count_by (is_of number) (copies_on_ways ways d) ≡ sum-ways (count_by (numbered number)) refl d.ways ways
of_ways number d [] = refl
of_ways number d (w ∷ ws) = omega (
  arith,
  sum_by-append (λ x. one_if (is_of number x)) (copies_at d w.0 w.1) (copies_on_ways ws d),
  of_copies number (kept_at d w.0 w.1),
  ways-cons (count_by (numbered number)) refl d.ways w ws,
  of_ways number d ws,
)

one_number : (d : CopiesData) (ways : List Way) → HasWays ways d → (number : ℕ)
    → has number (copies (all_kept d)) ≡ has number (copies_on_ways ways d)
one_number d ways on number =
    is_some_of number (copies (all_kept d))
    ∙ ap is_positive (of_copies number (all_kept d) ∙ count-all (numbered number) (maps.entries d.ways)
    ∙ total_ways (count_by (numbered number)) refl ways d.ways on.once (λ way none. ap (count_by (numbered number)) (on.all way.0 way.1 none))
    ∙ sym (of_ways number d ways))
    ∙ sym (is_some_of number (copies_on_ways ways d))

one_count : (cs ds : List LinkCopy) → ((number : ℕ) → has number cs ≡ has number ds) → (last : ℕ)
    → datagrams_with_copy cs last ≡ datagrams_with_copy ds last
one_count cs ds each zero = refl
one_count cs ds each (suc last) = λ i. one_count cs ds each last i + one_if (each (suc last) i)

pub datagrams_on_ways : (d : CopiesData) (ways : List Way) (last : ℕ) → HasWays ways d
    → datagrams_with_copy (copies (all_kept d)) last ≡ datagrams_with_copy (copies_on_ways ways d) last
datagrams_on_ways d ways last on = one_count (copies (all_kept d)) (copies_on_ways ways d) (one_number d ways on) last
