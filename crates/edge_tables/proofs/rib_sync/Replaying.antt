-- Going over a map, with what is left as the list that the iterator is.
use Rattle.std.proofs.Common.{◌≡◌, List, [], ◌∷◌, Option, Some, None, Bool, true, false, cond, refl, sym, ap, subst, ◌∙◌}
use Rattle.std.specs.declared.cmp.Ordering.{Ordering}
use Rattle.std.specs.Ordering.{is_eq, eq_by_cmp}
use Rattle.std.specs.Cmp.{IsTotalOrder}
use Rattle.std.specs.Option.{option_map}
use Rattle.std.specs.Map.{lookup, keys_of}
use Rattle.std.specs.List.{IsDistinct}
use Rattle.std.specs.BTreeMap.{BTreeMap, get, is_at, IsOrdered}
use Rattle.std.proofs.lemmas.Cmp.{eq_by_cmp_equiv}
use Rattle.std.proofs.lemmas.Map.{lookup-none}
use Rattle.std.proofs.lemmas.Map.Entries.{none_past_head}
use Rattle.std.proofs.lemmas.Map.Keys.{IsDistinct-tail}
use Rattle.edge_tables.specs.declared.rib_sync.kept.News.{News}
use Rattle.edge_tables.specs.rib_sync.Kept.{as_news}

-- what is still to come, or what is there
abbrev pub coming : {V : Type 0} → Option V → Option (News V) → Option (News V)
coming (Some v) there = Some (as_news v)
coming None there = there

pub record Replayed {K V : Type 0} (cmp : K → K → Ordering) (set : BTreeMap K V) (news : BTreeMap K (News V)) (left : List (K × V)) : Type 0 where
  pub same : (q : K) → coming (lookup (is_at (cmp q)) left) (get cmp news q) ≡ option_map as_news (get cmp set q)
  pub distinct : IsDistinct (eq_by_cmp cmp) (keys_of left)
  pub ordered : IsOrdered cmp news

one_turn : {V : Type 0} (here : Bool) (v : V) (later : Option V) (there : Option (News V)) → (here ≡ true → later ≡ None)
    → coming later (cond here (Some (as_news v)) there) ≡ coming (cond here (Some v) later) there
one_turn true v later there h = ap (λ (o : Option _). coming o (Some (as_news v))) (h refl)
one_turn false v later there h = refl

pub turned : {K V : Type 0} (cmp : K → K → Ordering) (total : IsTotalOrder cmp) (set : BTreeMap K V) (old new : BTreeMap K (News V)) (k : K) (v : V)
    (left : List (K × V)) → Replayed cmp set old ((k, v) ∷ left)
    → ((q : K) → get cmp new q ≡ cond (is_at (cmp k) q) (Some (as_news v)) (get cmp old q)) → IsOrdered cmp new → Replayed cmp set new left
turned cmp total set old new k v left r updates ordered = record {
  same = λ q.
      ap (coming (lookup (is_at (cmp q)) left)) (updates q)
      ∙ ap (λ (b : Bool). coming (lookup (is_at (cmp q)) left) (cond b (Some (as_news v)) (get cmp old q))) ((eq_by_cmp_equiv total).symm k q)
      ∙ one_turn (is_eq (cmp q k)) v (lookup (is_at (cmp q)) left) (get cmp old q)
      (λ here. lookup-none (is_at (cmp q)) left (none_past_head (eq_by_cmp_equiv total) q (k, v) left r.distinct here))
      ∙ r.same q;
  distinct = IsDistinct-tail (eq_by_cmp cmp) k (keys_of left) r.distinct;
  ordered = ordered;
}

nothing_there : {V : Type 0} (o : Option V) (there : Option (News V)) → there ≡ None → coming o there ≡ option_map as_news o
nothing_there (Some v) there e = refl
nothing_there None there e = e

pub began : {K V : Type 0} (cmp : K → K → Ordering) (set : BTreeMap K V) (news : BTreeMap K (News V)) (left : List (K × V)) → left ≡ set.entries
    → news.entries ≡ [] → IsDistinct (eq_by_cmp cmp) (keys_of set.entries) → IsOrdered cmp news → Replayed cmp set news left
began cmp set news left is none distinct ordered = record {
  same = λ q. ap (λ (es : List _). coming (lookup (is_at (cmp q)) es) (get cmp news q)) is
      ∙ nothing_there (get cmp set q) (get cmp news q) (ap (lookup (is_at (cmp q))) none);
  distinct = subst (λ (es : List _). IsDistinct (eq_by_cmp cmp) (keys_of es)) (sym is) distinct;
  ordered = ordered;
}
