-- Entries with distinct keys count as their finite map does.
use Rattle.std.proofs.Common.{◌≡◌, ℕ, ◌+◌, Bool, true, false, cond, List, [], ◌∷◌, length, Option, None, Some, count_by, is_some, refl, sym, ap, ◌∙◌, arith}
use Rattle.std.specs.List.{AllByRecursion, IsDistinct}
use Rattle.std.specs.Ordering.{is_eq}
use Rattle.std.specs.declared.cmp.Ordering.TheVariants.{Less, Equal, Greater}
use Rattle.std.specs.FinMap.{find, put, entries, values, from_entries, get, entries-insert, get-entries, get-from_entries, len-entries, len-empty}
use Rattle.std.specs.FinMap as finite
use Rattle.std.specs.Map.{lookup, keys_of, values_of}
use Rattle.std.proofs.lemmas.List.Sums.{sum_by-cons}
use Rattle.std.proofs.lemmas.Map.Keys.{IsDistinct-head, IsDistinct-tail}
use Rattle.mv_base.specs.declared.ids.NodeId.{NodeId}
use Rattle.label_defs.specs.Keys.{node_cmp}
use Rattle.label_defs.proofs.KeyLemmas.{node_cmp_total}
use Rattle.mldp_node.specs.label_ends.Maps.{is_node}
use Rattle.mldp_node.proofs.label_ends.NodeMaps.{find-lookup}

lookup-apart : {X : Type 0} (q : NodeId) (es : List (NodeId × X)) → AllByRecursion (λ at. is_node q at ≡ false) (keys_of es)
    → lookup (is_node q) es ≡ None
lookup-apart q [] h = refl
lookup-apart q (e ∷ es) h = rw h.0 (lookup-apart q es h.1)

module _ {X : Type 0} (p : X → Bool) where
  count-cons : (x : X) (xs : List X) → count_by p (x ∷ xs) ≡ cond (p x) 1 0 + count_by p xs
  count-cons x xs = sum_by-cons (λ y. cond (p y) 1 0) x xs

  not_some : (x : X) → Some x ≡ None → ⊥
  not_some x e = (let no : true ≡ false = ap is_some e in absurd cc)

  count-put : (k : NodeId) (v : X) (es : List (NodeId × X)) → find node_cmp k es ≡ None
      → count_by p (values_of (put node_cmp k v es)) ≡ cond (p v) 1 0 + count_by p (values_of es)
  count-put k v [] none = count-cons v []
  count-put k v (e ∷ es) none =
      elim (node_cmp k e.0) as (λ r. node_cmp k e.0 ≡ r → cond (is_eq r) (Some e.1) (find node_cmp k es) ≡ None
      → count_by p (values_of (finite.Entries.by_order r ((k, v) ∷ e ∷ es) ((e.0, v) ∷ es) (e ∷ put node_cmp k v es)))
      ≡ cond (p v) 1 0 + count_by p (values_of (e ∷ es))) [
        | Less ↦ λ r n. count-cons v (e.1 ∷ values_of es)
        | Equal ↦ λ r n. absurd (not_some e.1 n)
        | Greater ↦ λ r n.
            let thereafter = count-put k v es n in
            count-cons e.1 (values_of (put node_cmp k v es))
            ∙ (ap (λ (n : ℕ). cond (p e.1) 1 0 + n) thereafter
            ∙ (swapped (cond (p e.1) 1 0) (cond (p v) 1 0) (count_by p (values_of es))
            ∙ ap (λ (n : ℕ). cond (p v) 1 0 + n) (sym (count-cons e.1 (values_of es)))))
      ] refl none
    where
      swapped : (a b c : ℕ) → a + (b + c) ≡ b + (a + c)
      swapped a b c = omega arith

  no-length : (es : List (NodeId × X)) → length es ≡ 0 → es ≡ []
  no-length [] h = refl
  no-length (e ∷ es) h = absurd (omega (arith, h))

  no-entries : entries (from_entries {X = X} {R = node_cmp} []) ≡ []
  no-entries = no-length _ (sym (len-entries (from_entries [])) ∙ len-empty node_cmp X)

  pub count-map : (es : List (NodeId × X)) → IsDistinct is_node (keys_of es)
      → count_by p (values (from_entries {R = node_cmp} es)) ≡ count_by p (values_of es)
  count-map [] h = ap (λ (l : List (NodeId × X)). count_by p (values_of l)) no-entries
  count-map (e ∷ es) h =
      let none : find node_cmp e.0 (entries (from_entries {R = node_cmp} es)) ≡ None =
      sym (get-entries (from_entries {R = node_cmp} es) e.0)
      ∙ (get-from_entries node_cmp_total es e.0 ∙ find-lookup es e.0 ∙ lookup-apart e.0 es (IsDistinct-head is_node e.0 (keys_of es) h)) in
      ap (λ (l : List (NodeId × X)). count_by p (values_of l)) (entries-insert node_cmp_total (from_entries es) e.0 e.1)
      ∙ (count-put e.0 e.1 (entries (from_entries es)) none
      ∙ (ap (λ (n : ℕ). cond (p e.1) 1 0 + n) (count-map es (IsDistinct-tail is_node e.0 (keys_of es) h)) ∙ sym (count-cons e.1 (values_of es))))
