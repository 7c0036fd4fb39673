-- The labels that are held towards a neighbour, and the trees that wait, as they are seen.
use Rattle.std.proofs.Common.{◌≡◌, ℕ, ◌||◌, Bool, true, false, cond, nat_eq, List, [], ◌∷◌, Option, Some, None, is_some, refl, sym, ap, ◌∙◌}
use Rattle.std.specs.List.{list_any, IsDistinct}
use Rattle.std.specs.Map.{lookup, keys_of}
use Rattle.std.specs.Ordering.{eq_by_cmp}
use Rattle.std.specs.Cmp.{nat_eq_equiv}
use Rattle.std.specs.FinMap as maps
use Rattle.std.specs.FinMap.{find}
use Rattle.std.specs.FinMap.Entries.{is_some-find}
use Rattle.std.specs.FinSet as sets
use Rattle.std.proofs.lemmas.Map.{lookup-none}
use Rattle.std.proofs.lemmas.Map.Entries.{none_past_head}
use Rattle.std.proofs.lemmas.Map.Keys.{IsDistinct-tail}
use Rattle.indexmap.specs.IndexMap.{get, IsUnique}
use Rattle.mv_base.specs.declared.ids.NodeId.{NodeId}
use Rattle.mldp.specs.declared.mldp_fec.fec.Fec.{Fec}
use Rattle.label_defs.specs.Keys.{fec_cmp}
use Rattle.label_defs.specs.Settling.{upstream_of}
use Rattle.label_defs.proofs.KeyLemmas.{fec_cmp_total, fec_cmp_exact}
use Rattle.tunnel_bindings.specs.declared.binding.Incarnation.{Incarnation}
use Rattle.tunnel_bindings.specs.declared.name.BindingName.{BindingName}
use Rattle.tunnel_bindings.specs.declared.any_binding.AnyBinding.{AnyBinding}
use Rattle.tunnel_bindings.specs.Labels.{Space, state_of}
use Rattle.label_trees.specs.declared.label_uses.held.Held.{Held}
use Rattle.label_trees.specs.declared.label_uses.table.Waiting.{Waiting}
use Rattle.label_trees.specs.label_uses.Uses.{use_in, is_toward}
use Rattle.label_trees.specs.label_uses.Held.{is_node, labels_toward, towards, uses_from, HoldsOwned}
use Rattle.label_trees.proofs.label_uses.ListLemmas.{use_of_held}
use Rattle.label_trees.proofs.label_uses.StepLemmas.{HeldMap, idle}
use Rattle.label_trees.proofs.label_uses.SeenLemmas.{idle_upstream, held_upstream}

-- whether the label is held towards the neighbour
abbrev held_toward : NodeId → Option Held → Bool
held_toward peer None = false
held_toward peer (Some own) = is_node own.upstream peer

listed_once : (peer : NodeId) (es : List (ℕ × Held)) → IsDistinct nat_eq (keys_of es) → (label : ℕ)
    → list_any (λ own. nat_eq own label) (labels_toward peer es) ≡ held_toward peer (lookup (nat_eq label) es)
listed_once peer [] one label = refl
listed_once peer (e ∷ es) one label =
    by (listed_once peer es (IsDistinct-tail nat_eq e.0 (keys_of es) one) label) (nat_eq label e.0) (is_node e.1.upstream peer) refl refl
  where
    flips : nat_eq e.0 label ≡ nat_eq label e.0
    flips = nat_eq_equiv.symm e.0 label

    by : list_any (λ own. nat_eq own label) (labels_toward peer es) ≡ held_toward peer (lookup (nat_eq label) es)
        → (t to : Bool) → nat_eq label e.0 ≡ t → is_node e.1.upstream peer ≡ to
        → list_any (λ own. nat_eq own label) (cond (is_node e.1.upstream peer) (e.0 ∷ labels_toward peer es) (labels_toward peer es))
        ≡ held_toward peer (cond (nat_eq label e.0) (Some e.1) (lookup (nat_eq label) es))
    by rest true true s n =
        ap (λ (b : Bool). list_any (λ own. nat_eq own label) (cond b (e.0 ∷ labels_toward peer es) (labels_toward peer es))) n
        ∙ (ap (λ (b : Bool). b || list_any (λ own. nat_eq own label) (labels_toward peer es)) (flips ∙ s)
        ∙ (sym n ∙ sym (ap (λ (b : Bool). held_toward peer (cond b (Some e.1) (lookup (nat_eq label) es))) s)))
    by rest true false s n =
        ap (λ (b : Bool). list_any (λ own. nat_eq own label) (cond b (e.0 ∷ labels_toward peer es) (labels_toward peer es))) n
        ∙ (rest ∙ (ap (held_toward peer) (lookup-none (nat_eq label) es (none_past_head nat_eq_equiv label e es one s))
        ∙ (sym n ∙ sym (ap (λ (b : Bool). held_toward peer (cond b (Some e.1) (lookup (nat_eq label) es))) s))))
    by rest false true s n =
        ap (λ (b : Bool). list_any (λ own. nat_eq own label) (cond b (e.0 ∷ labels_toward peer es) (labels_toward peer es))) n
        ∙ (ap (λ (b : Bool). b || list_any (λ own. nat_eq own label) (labels_toward peer es)) (flips ∙ s)
        ∙ (rest ∙ sym (ap (λ (b : Bool). held_toward peer (cond b (Some e.1) (lookup (nat_eq label) es))) s)))
    by rest false false s n =
        ap (λ (b : Bool). list_any (λ own. nat_eq own label) (cond b (e.0 ∷ labels_toward peer es) (labels_toward peer es))) n
        ∙ (rest ∙ sym (ap (λ (b : Bool). held_toward peer (cond b (Some e.1) (lookup (nat_eq label) es))) s))

-- what is_toward says, by the neighbour
abbrev at_peer : NodeId → Option NodeId → Bool
at_peer peer None = false
at_peer peer (Some upstream) = is_node upstream peer

pub toward_seen : (space : Space) (h : HeldMap) (k : BindingName → Option AnyBinding) (s : NodeId → Option Incarnation) (g : Fec → Option ℕ)
    (w : Fec → Option Waiting) → HoldsOwned (state_of space) (get nat_eq h) k s g w
    → IsUnique nat_eq h → (peer : NodeId) (label : ℕ)
    → list_any (λ own. nat_eq own label) (labels_toward peer h.entries) ≡ is_toward peer (use_in (uses_from 16 (get nat_eq h) space.states) label)
toward_seen space h k s g w holds one peer label = listed_once peer h.entries one label ∙ by (get nat_eq h label) refl
  where
    by : (o : Option Held) → get nat_eq h label ≡ o
        → held_toward peer o ≡ at_peer peer (upstream_of (use_in (uses_from 16 (get nat_eq h) space.states) label))
    by None at =
        sym (ap (at_peer peer) (idle_upstream (use_in (uses_from 16 (get nat_eq h) space.states) label) (idle space (get nat_eq h) label at)))
    by (Some own) at = sym (ap (at_peer peer) (ap upstream_of (use_of_held space (get nat_eq h) k s g w holds label own at) ∙ held_upstream own))

-- ---- trees that wait

own_keys : (es : List (Fec × Waiting)) (q : Fec) → list_any (eq_by_cmp fec_cmp q) (keys_of es) ≡ is_some (find fec_cmp q (towards es))
own_keys es q = same es ∙ sym (is_some-find fec_cmp q (towards es))
  where
    same : (es : List (Fec × Waiting)) → list_any (eq_by_cmp fec_cmp q) (keys_of es) ≡ list_any (eq_by_cmp fec_cmp q) (keys_of (towards es))
    same [] = refl
    same (e ∷ es) = ap (λ (b : Bool). eq_by_cmp fec_cmp q e.0 || b) (same es)

pub all_waiting : (es : List (Fec × Waiting)) (fecs : List Fec) → fecs ≡ keys_of es
    → sets.from_list {R = fec_cmp} fecs ≡ sets.from_list (maps.keys (maps.from_entries {R = fec_cmp} (towards es)))
all_waiting es fecs is = sets.same_set fec_cmp_total fec_cmp_exact _ _ (λ q.
    sets.contains-from_list fec_cmp_total fecs q
    ∙ (ap (list_any (eq_by_cmp fec_cmp q)) is
    ∙ (own_keys es q
    ∙ (ap is_some (sym (maps.get-from_entries fec_cmp_total (towards es) q))
    ∙ (maps.contains_key-keys (maps.from_entries {R = fec_cmp} (towards es)) q
    ∙ sym (sets.contains-from_list fec_cmp_total (maps.keys (maps.from_entries {R = fec_cmp} (towards es))) q))))))
