-- What a refresh leaves is what the flows want, and what it tells is what changed.
use Rattle.std.proofs.Common.{◌≡◌, Bool, true, false, cond, not, ◌&&◌, List, [], ◌∷◌, map, Option, None, Some, is_some, refl, sym, ap, subst, ◌∙◌}
use Rattle.std.specs.List.{IsDistinct, list_any}
use Rattle.std.specs.Map.{keys_of, lookup}
use Rattle.std.specs.Cmp.{both_ways}
use Rattle.std.specs.FinMap as maps
use Rattle.std.specs.FinMap.{FinMap, entries, find, get-empty, get-entries}
use Rattle.std.specs.FinSet as sets
use Rattle.std.specs.FinSet.{FinSet, same_set}
use Rattle.std.proofs.lemmas.Map.Keys.{IsDistinct-from_sorted}
use Rattle.indexmap.specs.IndexMap.{IsUnique, get}
use Rattle.mv_base.specs.declared.ids.NodeId.{NodeId}
use Rattle.mv_base.proofs.SortedMaps.{map_sorted}
use Rattle.mldp.specs.declared.mldp_fec.fec.Fec.{Fec}
use Rattle.label_defs.specs.Keys.{fec_cmp}
use Rattle.label_defs.proofs.KeyLemmas.{fec_cmp_exact, fec_cmp_total}
use Rattle.selective.specs.Leaves.{Leaf}
use Rattle.umh_select.specs.declared.route.Choice.{Choice}
use Rattle.umh_select.specs.declared.route.Choice.TheVariants as choices
use Rattle.vrf_words.specs.declared.tree_defs.flow.Flow.{Flow}
use Rattle.vrf_words.specs.declared.tree_defs.flow.Upstream.{Upstream}
use Rattle.vrf_words.specs.tree_defs.Keys.{flow_cmp, same_flow}
use Rattle.vrf_words.specs.tree_defs.Flows.{gained, lost, same_upstream, upstream_of}
use Rattle.vrf_words.specs.tree_defs.Trees.{flow_wants, wanted_by}
use Rattle.vrf_words.proofs.tree_defs.KeyLemmas.{flow_ties, same_upstream_equal, same_upstream_itself}
use Rattle.vrf_flows.proofs.SetLemmas.{listed}
use Rattle.vrf_flows.proofs.TreeLemmas.{gained-same}
use Rattle.vrf_trees.specs.declared.wants.Wants.{Wants}
use Rattle.vrf_trees.specs.Changes.{AreJoins, AreNew, flow_in, join_of, joined_at}
use Rattle.vrf_trees.specs.Plan.{carried, planned, with_joins, with_leaves}
use Rattle.vrf_trees.specs.Wants.{Holds, IsSound, WantTable, edge_in, edge_to, is_fec, is_in, is_stale, tunnels_in, ups_in, wants_by, wants_of}
use Rattle.vrf_trees.proofs.TableLemmas.{fec_ties, in-flat, passed, passes, wants_at}

-- ---- what is held of a flow

-- A flow that keeps its upstream, once it was planned where it is stale.
steady : (leaf : Leaf) (q : Flow) (up : Option Upstream) (held : Option Wants) → edge_in held ≡ edge_to up
    → (is_stale held ≡ false → held ≡ wants_by leaf q up) → carried (planned leaf q held) held ≡ wants_by leaf q up
steady leaf q None None e f = refl
steady leaf q (Some up) None e f = f refl
steady leaf q None (Some own) e f = let t : true ≡ false = ap is_some e in absurd cc
steady leaf q (Some up) (Some own) e f = by own.stale refl
  where
    edge : own.edge ≡ up.edge
    edge = ap (λ (o : Option NodeId). elim o [ None ↦ up.edge | Some n ↦ n ]) e

    by : (b : Bool) → own.stale ≡ b → carried (cond b (Some (Some (wants_of leaf own.edge q))) None) (Some own) ≡ Some (wants_of leaf up.edge q)
    by true s = ap (λ (n : NodeId). Some (wants_of leaf n q)) edge
    by false s = f s

-- What a flow wants after a refresh is what it wants by its upstream then.
pub renewed : (leaf : Leaf) (q : Flow) (before after : Option Upstream) (held : Option Wants) → edge_in held ≡ edge_to before
    → (is_stale held ≡ false → held ≡ wants_by leaf q before) →
    carried (with_joins leaf q (gained before after) (with_leaves (lost before after) (planned leaf q held))) held ≡ wants_by leaf q after
renewed leaf q None None held e f = steady leaf q None held e f
renewed leaf q None (Some up) held e f = refl
renewed leaf q (Some own) None held e f = refl
renewed leaf q (Some own) (Some up) held e f = by (same_upstream (Some own) (Some up)) refl
  where
    by : (b : Bool) → same_upstream (Some own) (Some up) ≡ b
        → carried (with_joins leaf q (cond b None (Some up)) (with_leaves (lost (Some own) (Some up)) (planned leaf q held))) held
        ≡ wants_by leaf q (Some up)
    by false s = refl
    by true s =
        let same : own ≡ up = same_upstream_equal own up s in
        let back : same_upstream (Some up) (Some own) ≡ true =
        ap (λ (u : Upstream). same_upstream (Some up) (Some u)) same ∙ same_upstream_itself (Some up) in
        ap (λ (b : Bool). carried (with_leaves (cond b None (Some own)) (planned leaf q held)) held) back
        ∙ (steady leaf q (Some own) held e f ∙ ap (λ (u : Upstream). wants_by leaf q (Some u)) same)

-- All flows want what they want by their upstreams.
abbrev pub AreRenewed : Leaf → (Flow → Option Upstream) → (Flow → Option Wants) → Type 0
AreRenewed leaf ups held = (q : Flow) → held q ≡ wants_by leaf q (ups q)

edge_by : (leaf : Leaf) (q : Flow) (up : Option Upstream) → edge_in (wants_by leaf q up) ≡ edge_to up
edge_by leaf q None = refl
edge_by leaf q (Some up) = refl

pub renewed-holds : (leaf : Leaf) (ups : Flow → Option Upstream) (held : Flow → Option Wants) → AreRenewed leaf ups held → Holds leaf ups held
renewed-holds leaf ups held renewed = record {
  edges = λ q. ap edge_in (renewed q) ∙ edge_by leaf q (ups q);
  fresh = λ q _. renewed q;
}

-- Where a plan of what is stale, of what is left and of what is joined was carried out, all flows are renewed.
pub all-renewed : (leaf : Leaf) (old new : FinMap flow_cmp Choice) (held next : Flow → Option Wants) (plan : Flow → Option (Option Wants))
    (joins leaves : Flow → Option Upstream) (after : Flow → Option Choice) →
    Holds leaf (ups_in old) held → ((q : Flow) → maps.get new q ≡ after q) → ((q : Flow) → joins q ≡ gained (ups_in old q) (upstream_of (after q)))
    → ((q : Flow) → leaves q ≡ lost (ups_in old q) (upstream_of (after q))) →
    ((q : Flow) → plan q ≡ with_joins leaf q (joins q) (with_leaves (leaves q) (planned leaf q (held q))))
    → ((q : Flow) → next q ≡ carried (plan q) (held q)) → AreRenewed leaf (ups_in new) next
all-renewed leaf old new held next plan joins leaves after holds flows gains losses plans carries = λ q.
    carries q
    ∙ (ap (λ (p : Option (Option Wants)). carried p (held q)) (plans q)
    ∙ ((λ i. carried (with_joins leaf q (gains q i) (with_leaves (losses q i) (planned leaf q (held q)))) (held q))
    ∙ (renewed leaf q (ups_in old q) (upstream_of (after q)) (held q) (holds.edges q) (holds.fresh q)
    ∙ ap (λ (c : Option Choice). wants_by leaf q (upstream_of c)) (sym (flows q)))))

-- Without flows nothing is wanted.
pub none-sound : (leaf : Leaf) (flows : FinMap flow_cmp Choice) (wants : WantTable) → IsUnique same_flow wants
    → ((q : Flow) → get same_flow wants q ≡ None) → flows ≡ maps.empty → IsSound leaf flows wants
none-sound leaf flows wants unique none e = record {
  unique = unique;
  holds = renewed-holds leaf (ups_in flows) (get same_flow wants)
      (λ q. none q ∙ sym (ap (λ (c : Option Choice). wants_by leaf q (upstream_of c))
      (ap (λ (m : FinMap flow_cmp Choice). maps.get m q) e ∙ get-empty flow_cmp q)));
}

-- ---- the tunnels of all flows

find-looked : {X : Type 0} (q : Flow) (es : List (Flow × X)) → find flow_cmp q es ≡ lookup (same_flow q) es
find-looked q [] = refl
find-looked q (e ∷ es) = λ i. cond (sym (flow_ties q e.0) i) (Some e.1) (find-looked q es i)

-- what a map of flows has at a flow
got : {X : Type 0} (m : FinMap flow_cmp X) (q : Flow) → maps.get m q ≡ lookup (same_flow q) (entries m)
got m q = get-entries m q ∙ find-looked q (entries m)

distinct-flows : {X : Type 0} (m : FinMap flow_cmp X) → IsDistinct same_flow (keys_of (entries m))
distinct-flows m =
    subst (λ (same : Flow → Flow → Bool). IsDistinct same (keys_of (entries m))) (λ i. λ a b. sym (flow_ties a b) i)
    (IsDistinct-from_sorted flow_cmp (keys_of (entries m)) (map_sorted flow_cmp m))

-- whether the choice of a flow makes it want the tunnel
abbrev chosen_at : Leaf → Fec → Flow × Choice → Bool
chosen_at leaf fec e = is_in fec (flow_wants leaf e.0 e.1)

abbrev fecs_by : Leaf → Flow → Option Upstream → List Fec
fecs_by leaf q None = []
fecs_by leaf q (Some up) = (wants_of leaf up.edge q).fecs

by-upstream : (leaf : Leaf) (q : Flow) (choice : Choice) → flow_wants leaf q choice ≡ fecs_by leaf q (upstream_of (Some choice))
by-upstream leaf q choices.None = refl
by-upstream leaf q (choices.Local site) = refl
by-upstream leaf q (choices.Remote edge rd import source_as) = refl

module _ (leaf : Leaf) (flows : FinMap flow_cmp Choice) (es : List (Flow × Wants)) (unique : IsDistinct same_flow (keys_of es))
    (renewed : AreRenewed leaf (ups_in flows) (λ q. lookup (same_flow q) es)) where
  forth : (fec : Fec) → list_any (wants_at fec) es ≡ true → list_any (chosen_at leaf fec) (entries flows) ≡ true
  forth fec h = let one = passes (wants_at fec) es unique h in by one.0 one.1 (maps.get flows one.0) refl (sym one.2 ∙ renewed one.0) one.3
    where
      wanted : (q : Flow) (own : Wants) (up : Option Upstream) → Some own ≡ wants_by leaf q up → own.fecs ≡ fecs_by leaf q up
      wanted q own None e = let t : true ≡ false = ap is_some e in absurd cc
      wanted q own (Some up) e = ap (λ (o : Option Wants). elim o [ None ↦ [] | Some w ↦ w.fecs ]) e

      by : (q : Flow) (own : Wants) (c : Option Choice) → maps.get flows q ≡ c → Some own ≡ wants_by leaf q (upstream_of (maps.get flows q))
          → is_in fec own.fecs ≡ true → list_any (chosen_at leaf fec) (entries flows) ≡ true
      by q own None g e t = let f : true ≡ false = ap is_some (e ∙ ap (λ (c : Option Choice). wants_by leaf q (upstream_of c)) g) in absurd cc
      by q own (Some choice) g e t =
          let fecs : own.fecs ≡ flow_wants leaf q choice =
          wanted q own (upstream_of (Some choice)) (e ∙ ap (λ (c : Option Choice). wants_by leaf q (upstream_of c)) g)
          ∙ sym (by-upstream leaf q choice) in
          passed (chosen_at leaf fec) (entries flows) q choice (sym (got flows q) ∙ g) (ap (is_in fec) (sym fecs) ∙ t)

  back : (fec : Fec) → list_any (chosen_at leaf fec) (entries flows) ≡ true → list_any (wants_at fec) es ≡ true
  back fec h =
      let one = passes (chosen_at leaf fec) (entries flows) (distinct-flows flows) h in
      by one.0 (upstream_of (Some one.1)) (renewed one.0 ∙ ap (λ (c : Option Choice). wants_by leaf one.0 (upstream_of c)) (got flows one.0 ∙ one.2))
      (ap (is_in fec) (sym (by-upstream leaf one.0 one.1)) ∙ one.3)
    where
      by : (q : Flow) (up : Option Upstream) → lookup (same_flow q) es ≡ wants_by leaf q up → is_in fec (fecs_by leaf q up) ≡ true
          → list_any (wants_at fec) es ≡ true
      by q None l t = let e : false ≡ true = t in absurd cc
      by q (Some up) l t = passed (wants_at fec) es q (wants_of leaf up.edge q) l t

  -- The tunnels that are kept are those that the flows want.
  pub wants-are : sets.from_list {R = fec_cmp} (tunnels_in es) ≡ sets.from_list (wanted_by leaf flows)
  wants-are = same_set fec_cmp_total fec_cmp_exact _ _ (λ fec.
      listed fec_cmp_total fec_cmp_exact is_fec fec_ties (tunnels_in es) fec
      ∙ (in-flat fec (λ (e : Flow × Wants). e.1.fecs) es
      ∙ (both_ways _ _ (forth fec) (back fec)
      ∙ (sym (in-flat fec (λ (e : Flow × Choice). flow_wants leaf e.0 e.1) (entries flows))
      ∙ sym (listed fec_cmp_total fec_cmp_exact is_fec fec_ties (wanted_by leaf flows) fec)))))

-- ---- joins

joins-found : (es : List (Flow × Upstream)) (q : Flow) → joined_at (map join_of es) q ≡ lookup (same_flow q) es
joins-found [] q = refl
joins-found (e ∷ es) q = ap (cond (same_flow q e.0) (Some e.1)) (joins-found es q)

join-flows : (es : List (Flow × Upstream)) → map flow_in (map join_of es) ≡ keys_of es
join-flows [] = refl
join-flows (e ∷ es) = ap (λ (l : List Flow). e.0 ∷ l) (join-flows es)

-- The joins of distinct flows are those that are given.
pub joins-are : (es : List (Flow × Upstream)) (given : Flow → Option Upstream) → IsDistinct same_flow (keys_of es)
    → ((q : Flow) → lookup (same_flow q) es ≡ given q) → AreJoins (map join_of es) given
joins-are es given once each = record {
  each = λ q. joins-found es q ∙ each q;
  once = subst (λ (l : List Flow). IsDistinct same_flow l) (sym (join-flows es)) once;
}

-- ---- a refresh with nothing stale

-- Where each flow is as it was, no join is made, and none is left.
pub none-joins : (before after : Flow → Option Choice) → ((q : Flow) → before q ≡ after q)
    → AreJoins [] (λ q. gained (upstream_of (before q)) (upstream_of (after q)))
unfolding IsDistinct
none-joins before after same = record {
  each = λ q. sym (ap (λ (c : Option Choice). gained (upstream_of (before q)) (upstream_of c)) (sym (same q)) ∙ gained-same (upstream_of (before q)));
  once = tt;
}

-- No tunnel is new among those that are there already.
pub none-new : (there : FinSet fec_cmp) → AreNew [] there there
unfolding IsDistinct
none-new there = record { each = λ fec. by (sets.contains there fec); once = tt }
  where
    by : (b : Bool) → false ≡ (b && not b)
    by true = refl
    by false = refl
