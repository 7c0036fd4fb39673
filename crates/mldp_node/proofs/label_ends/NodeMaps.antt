-- Maps by node: what is seen of them, and what a change of one entry changes.
use Rattle.std.proofs.Common.{◌≡◌, ℕ, ◌==◌, Bool, true, false, cond, List, [], ◌∷◌, map, Option, Some, None, option_map, inl, inr, refl, sym, ap, ◌∙◌}
use Rattle.std.specs.FinMap as maps
use Rattle.std.specs.FinMap.{FinMap, find, same_map}
use Rattle.std.specs.Ordering.{eq_by_cmp}
use Rattle.std.specs.Map.{lookup}
use Rattle.indexmap.specs.IndexMap.{get}
use Rattle.mv_base.specs.declared.ids.NodeId.{NodeId}
use Rattle.label_defs.specs.Keys.{node_cmp}
use Rattle.label_defs.specs.Node.{raises_of, waiting_for}
use Rattle.label_defs.proofs.KeyLemmas.{node_cmp_total, node_cmp_exact, node_cases, node_itself, node_apart, ties, apart}
use Rattle.mldp_node.specs.label_ends.Maps.{NodeMap, is_node, octets_at, raises_at}

pub node-ties : (a b : NodeId) → is_node a b ≡ eq_by_cmp node_cmp a b
node-ties a b = elim (node_cases a b) [
  | inl e ↦ node_itself a b e ∙ sym (ties node_cmp node_cmp_total a b e)
  | inr ne ↦ node_apart a b ne ∙ sym (apart node_cmp node_cmp_exact a b ne)
]

flips : (a b : NodeId) → is_node a b ≡ eq_by_cmp node_cmp b a
flips a b = elim (node_cases a b) [
  | inl e ↦ node_itself a b e ∙ sym (ties node_cmp node_cmp_total b a (sym e))
  | inr ne ↦ node_apart a b ne ∙ sym (apart node_cmp node_cmp_exact b a (λ e. ne (sym e)))
]

module _ {X : Type 0} where
  pub find-lookup : (es : List (NodeId × X)) (q : NodeId) → find node_cmp q es ≡ lookup (is_node q) es
  find-lookup [] q = refl
  find-lookup (e ∷ es) q = λ i. cond (sym (node-ties q e.0) i) (Some e.1) (find-lookup es q i)

  pub seen : (m : NodeMap X) (q : NodeId) → maps.get (maps.from_entries {R = node_cmp} m.entries) q ≡ get is_node m q
  seen m q = maps.get-from_entries node_cmp_total m.entries q ∙ find-lookup m.entries q

  pub comes : (old new : NodeMap X) (peer : NodeId) (value : X)
      → ((q : NodeId) → get is_node new q ≡ cond (is_node peer q) (Some value) (get is_node old q))
      → maps.from_entries {R = node_cmp} new.entries ≡ maps.insert (maps.from_entries old.entries) peer value
  comes old new peer value each = same_map node_cmp_total node_cmp_exact _ _ (λ q.
      seen new q ∙ (each q ∙ ((λ i. cond (flips peer q i) (Some value) (sym (seen old q) i))
      ∙ sym (maps.get-insert node_cmp_total (maps.from_entries old.entries) peer value q))))

  pub goes : (old new : NodeMap X) (peer : NodeId) → ((q : NodeId) → get is_node new q ≡ cond (is_node peer q) None (get is_node old q))
      → maps.from_entries {R = node_cmp} new.entries ≡ maps.remove (maps.from_entries old.entries) peer
  goes old new peer each = same_map node_cmp_total node_cmp_exact _ _ (λ q.
      seen new q ∙ (each q ∙ ((λ i. cond (flips peer q i) None (sym (seen old q) i))
      ∙ sym (maps.get-remove node_cmp_total (maps.from_entries old.entries) peer q))))

  find-map : (change : X → X) (es : List (NodeId × X)) (q : NodeId)
      → find node_cmp q (map (λ (e : NodeId × X). (e.0, change e.1)) es) ≡ option_map change (find node_cmp q es)
  find-map change [] q = refl
  find-map change (e ∷ es) q = by (eq_by_cmp node_cmp q e.0) (find-map change es q)
    where
      by : (t : Bool) → find node_cmp q (map (λ (x : NodeId × X). (x.0, change x.1)) es) ≡ option_map change (find node_cmp q es)
          → cond t (Some (change e.1)) (find node_cmp q (map (λ (x : NodeId × X). (x.0, change x.1)) es))
          ≡ option_map change (cond t (Some e.1) (find node_cmp q es))
      by true rest = refl
      by false rest = rest

  -- all entries change
  pub all_change : (change : X → X) (es : List (NodeId × X))
      → maps.from_entries {R = node_cmp} (map (λ (e : NodeId × X). (e.0, change e.1)) es)
      ≡ maps.from_entries (map (λ (e : NodeId × X). (e.0, change e.1)) (maps.entries (maps.from_entries {R = node_cmp} es)))
  all_change change es = same_map node_cmp_total node_cmp_exact _ _ (λ q.
      maps.get-from_entries node_cmp_total (map (λ (e : NodeId × X). (e.0, change e.1)) es) q ∙ find-map change es q
      ∙ ap (option_map change) (sym (maps.get-from_entries node_cmp_total es q) ∙ maps.get-entries (maps.from_entries es) q)
      ∙ sym (maps.get-from_entries node_cmp_total (map (λ (e : NodeId × X). (e.0, change e.1)) (maps.entries (maps.from_entries es))) q
      ∙ find-map change (maps.entries (maps.from_entries es)) q))

pub octets_seen : (m : NodeMap (List ℕ)) (q : NodeId) → octets_at m q ≡ waiting_for (maps.from_entries {R = node_cmp} m.entries) q
octets_seen m q = ap (λ (o : Option (List ℕ)). elim o [ None ↦ [] | Some octets ↦ octets ]) (sym (seen m q))

pub raises_seen : (m : NodeMap ℕ) (q : NodeId) → raises_at m q ≡ raises_of (maps.from_entries {R = node_cmp} m.entries) q
raises_seen m q = ap (λ (o : Option ℕ). elim o [ None ↦ 0 | Some count ↦ count ]) (sym (seen m q))
