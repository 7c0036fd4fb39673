-- The core that the tables tell.
use Rattle.std.proofs.Common.{◌≡◌, ◌≢◌, ℕ, ◌+◌, ◌*◌, ◌<◌, ◌≤◌, ◌⊎◌, ◌&&◌, nat_lt, nat_eq, Bool, true, false, cond, List, Option, Some, None, inl, inr, refl, sym, ap, subst, ◌∙◌}
use Rattle.std.specs.Prelude.{slice_index}
use Rattle.std.proofs.lemmas.Bool.{cases_Bool, lt-ltb, le-ltb, eq-eqb, ne_eqb}
use Rattle.mv_base.specs.declared.core_link.Link.{Link}
use Rattle.mv_base.specs.declared.ids.NodeId.{NodeId}
use Rattle.mv_base.specs.core_walks.Core.{Core, IsCoreOf}
use Rattle.mv_base.specs.core_walks.Walks.{IsLeast, IsToward}
use Rattle.core_paths.specs.Tables.{IsCore}

abbrev within : ℕ → NodeId → NodeId → Bool
within nodes from to = nat_lt from.0 nodes && nat_lt to.0 nodes

abbrev next_of : ℕ → List ℕ → NodeId → NodeId → Option NodeId
next_of nodes nexts from to = cond (nat_eq from.0 to.0) None (Some (record { 0 = slice_index nexts (to.0 * nodes + from.0) }))

abbrev told : ℕ → List ℕ → List ℕ → Core
told nodes costs nexts = record {
  cost = λ from to. cond (within nodes from to) (slice_index costs (to.0 * nodes + from.0)) 0;
  toward = λ from to. cond (within nodes from to) (next_of nodes nexts from to) None;
}

both : (nodes : ℕ) (from to : NodeId) → from.0 < nodes → to.0 < nodes → within nodes from to ≡ true
both nodes from to l m = λ i. lt-ltb from.0 nodes l i && lt-ltb to.0 nodes m i

and_false : (a : Bool) → (a && false) ≡ false
and_false true = refl
and_false false = refl

not_both : (nodes : ℕ) (from to : NodeId) → (nodes ≤ from.0) ⊎ (nodes ≤ to.0) → within nodes from to ≡ false
not_both nodes from to (inl far) = ap (λ (b : Bool). b && nat_lt to.0 nodes) (le-ltb from.0 nodes far)
not_both nodes from to (inr far) = ap (λ (b : Bool). nat_lt from.0 nodes && b) (le-ltb to.0 nodes far) ∙ and_false (nat_lt from.0 nodes)

none_at : (t : Bool) (o : Option NodeId) → o ≡ None → cond t o None ≡ None
none_at true o e = e
none_at false o e = refl

pub core_told : (nodes : ℕ) (links : List Link) (costs nexts : List ℕ) → IsCore nodes links costs nexts → (own : Core) × IsCoreOf nodes links own
core_told nodes links costs nexts h = (
  told nodes costs nexts,
  record {
    least = λ from to l m. subst (λ (t : Bool). IsLeast links from.0 to.0 (cond t (slice_index costs (to.0 * nodes + from.0)) 0))
        (sym (both nodes from to l m)) (h.least.least from.0 to.0 l m);
    itself = λ node. none_at (within nodes node node) (next_of nodes nexts node node)
        (ap (λ (b : Bool). cond b None (Some (record { 0 = slice_index nexts (node.0 * nodes + node.0) }))) (eq-eqb node.0 node.0 refl));
    first = λ from to l m ne.
        let apart : from.0 ≢ to.0 = λ e. ne (λ i. record { 0 = e i }) in (
          record { 0 = slice_index nexts (to.0 * nodes + from.0) },
          ap (λ (t : Bool). cond t (next_of nodes nexts from to) None) (both nodes from to l m)
              ∙ ap (λ (b : Bool). cond b None (Some (record { 0 = slice_index nexts (to.0 * nodes + from.0) }))) (ne_eqb from.0 to.0 apart),
          h.toward.toward from.0 to.0 l m apart,
        );
    outside = λ from to far. (
      ap (λ (t : Bool). cond t (slice_index costs (to.0 * nodes + from.0)) 0) (not_both nodes from to far),
      ap (λ (t : Bool). cond t (next_of nodes nexts from to) None) (not_both nodes from to far),
    );
  },
)
