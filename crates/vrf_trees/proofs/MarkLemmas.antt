-- Marks on what flows want.
use Rattle.std.proofs.Common.{◌≡◌, Bool, true, false, cond, List, [], ◌∷◌, ◌++◌, map, Option, None, Some, is_some, refl, sym, ap, subst, ◌∙◌}
use Rattle.std.specs.Map.{lookup}
use Rattle.std.specs.Map.Calls.{RetainsPairs}
use Rattle.std.proofs.lemmas.Bool.{or_parts}
use Rattle.mldp.specs.declared.mldp_fec.fec.Fec.{Fec}
use Rattle.mv_base.specs.declared.ids.NodeId.{NodeId}
use Rattle.selective.specs.Leaves.{Leaf}
use Rattle.vrf_words.specs.declared.tree_defs.flow.Flow.{Flow}
use Rattle.vrf_words.specs.declared.tree_defs.flow.Upstream.{Upstream}
use Rattle.vrf_words.specs.tree_defs.Keys.{same_flow}
use Rattle.vrf_words.proofs.tree_defs.KeyLemmas.{same_flow_equal}
use Rattle.vrf_trees.specs.declared.wants.Wants.{Wants}
use Rattle.vrf_trees.specs.declared.wants.Cause.{Cause}
use Rattle.vrf_trees.specs.Plan.{fecs_in}
use Rattle.vrf_trees.specs.Wants.{Holds, edge_in, is_stale, mark, marked, marked_by, tunnels_in, tunnels_of, wants_by}

abbrev pub mark_each : Cause → List (Flow × Wants) → List (Flow × Wants)
mark_each cause es = map (λ (e : Flow × Wants). (e.0, mark cause e.0 e.1)) es

-- What a closure keeps that marks each value.
module _ {F : Type 0} (T : F → Flow → Wants → Bool → Wants → F → Type 0) (cause : Cause) (f : F)
    (says : (k : Flow) (v : Wants) (b : Bool) (w : Wants) (g : F) → T f k v b w g → (b ≡ true) × (w ≡ mark cause k v) × (g ≡ f)) where
  pub retained : (es kept : List (Flow × Wants)) → RetainsPairs T f es kept → kept ≡ mark_each cause es
  retained [] kept h = h
  retained (e ∷ es) kept h =
      let s = says e.0 e.1 h.0 h.1 h.2 h.4 in
      let rest = retained es h.3 (subst (λ g. RetainsPairs T g es h.3) s.2 h.5) in
      h.6 ∙ (λ j. cond (s.0 j) ((e.0, s.1 j) ∷ rest j) (rest j))

pub lookup-marked : (cause : Cause) (es : List (Flow × Wants)) (q : Flow)
    → lookup (same_flow q) (mark_each cause es) ≡ marked cause q (lookup (same_flow q) es)
lookup-marked cause [] q = refl
lookup-marked cause (e ∷ es) q = by (same_flow q e.0) refl (lookup-marked cause es q)
  where
    by : (b : Bool) → same_flow q e.0 ≡ b → lookup (same_flow q) (mark_each cause es) ≡ marked cause q (lookup (same_flow q) es) →
        cond b (Some (mark cause e.0 e.1)) (lookup (same_flow q) (mark_each cause es)) ≡ marked cause q (cond b (Some e.1) (lookup (same_flow q) es))
    by true h rest = ap (λ (k : Flow). Some (mark cause k e.1)) (sym (same_flow_equal q e.0 h))
    by false h rest = rest

pub tunnels-marked : (cause : Cause) (es : List (Flow × Wants)) → tunnels_in (mark_each cause es) ≡ tunnels_in es
tunnels-marked cause [] = refl
tunnels-marked cause (e ∷ es) = ap (λ (l : List Fec). e.1.fecs ++ l) (tunnels-marked cause es)

-- ---- what is kept

abbrev edge_or : NodeId → Option Wants → NodeId
edge_or edge None = edge
edge_or edge (Some own) = own.edge

-- With each flow marked that may want other tunnels, what is held is in step with the routes.
pub marked-holds : (leaf next : Leaf) (ups : Flow → Option Upstream) (held new : Flow → Option Wants) (touched : Flow → NodeId → Bool)
    → Holds leaf ups held → ((q : Flow) → new q ≡ marked_by touched q (held q)) →
    ((q : Flow) (edge : NodeId) → touched q edge ≡ false → tunnels_of leaf edge q ≡ tunnels_of next edge q) → Holds next ups new
marked-holds leaf next ups held new touched holds each same = record {
  edges = λ q. ap edge_in (each q) ∙ (edges (held q) q ∙ holds.edges q);
  fresh = λ q h. each q ∙ fresh q (held q) (ups q) (holds.fresh q) (sym (ap is_stale (each q)) ∙ h);
}
  where
    edges : (o : Option Wants) (q : Flow) → edge_in (marked_by touched q o) ≡ edge_in o
    edges None q = refl
    edges (Some own) q = refl

    fresh : (q : Flow) (o : Option Wants) (u : Option Upstream) → (is_stale o ≡ false → o ≡ wants_by leaf q u) → is_stale (marked_by touched q o) ≡ false
        → marked_by touched q o ≡ wants_by next q u
    fresh q None None f s = refl
    fresh q None (Some up) f s = let e : false ≡ true = ap is_some (f refl) in absurd cc
    fresh q (Some own) None f s =
        let both = or_parts own.stale (touched q own.edge) s in
        let e : true ≡ false = ap is_some (f both.0) in absurd cc
    fresh q (Some own) (Some up) f s =
        let both = or_parts own.stale (touched q own.edge) s in
        let edge : own.edge ≡ up.edge = ap (edge_or up.edge) (f both.0) in
        let fecs : own.fecs ≡ tunnels_of leaf up.edge q = ap fecs_in (f both.0) in
        let kept : tunnels_of leaf up.edge q ≡ tunnels_of next up.edge q = same q up.edge (sym (ap (touched q) edge) ∙ both.1) in
        λ i. Some (record { edge = edge i; stale = s i; fecs = (fecs ∙ kept) i })
