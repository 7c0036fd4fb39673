-- The lines so far, and the next one.
use Rattle.std.proofs.Common.{◌≡◌, ℕ, zero, suc, ◌<◌, List, [], ◌∷◌, ◌++◌, length, take, get_or, Option, None, refl, sym, ap, subst, ◌∙◌, arith}
use Rattle.std.specs.List.{AllByRecursion}
use Rattle.mv_base.specs.core_walks.Topology.{Topology}
use Rattle.mv_base.specs.declared.addr.Addr.{Addr}
use Rattle.mv_base.specs.declared.ids.IfaceId.{IfaceId}
use Rattle.mv_base.specs.declared.ids.NodeId.{NodeId}
use Rattle.mv_base.specs.framing.Cut.{cut_at}
use Rattle.edge_core.specs.State.{home_of}
use Rattle.edge_core.specs.View.{EdgeView}
use Rattle.probe_defs.specs.Given.{fault_in}
use Rattle.probe_defs.specs.Lines.{IsLineAt, joins_of}
use Rattle.probe_defs.specs.declared.probe.ProbeLine.{ProbeLine}
use Rattle.probe_defs.specs.declared.probe.ProbeLine.TheVariants.{Join, Piece}
use Rattle.bgp_messages.specs.declared.bgp_attributes.fault.StreamFault.{StreamFault}
use Rattle.edge_probe.proofs.GivenLemmas.{octets_join}
use Rattle.edge_probe.specs.Behind.{AreLinesAt, IsGiven, IsTold, MayGive}

-- before any line nothing is at fault
pub none_told : (core : Topology) (peer : NodeId) (edge : EdgeView) → IsGiven core peer [] edge → IsTold core peer [] None edge
unfolding cut_at
none_told core peer edge g = record { given = g; fault_is = refl }

-- a join changes no octets
pub join_told : (core : Topology) (peer : NodeId) (done : List ProbeLine) (fault : Option (ℕ × StreamFault)) (line : ProbeLine) (iface : IfaceId)
    (source group : Addr) (old new : EdgeView) → line ≡ Join iface source group → IsTold core peer done fault old
    → IsGiven core peer (done ++ Join iface source group ∷ []) new → IsTold core peer (done ++ line ∷ []) fault new
join_told core peer done fault line iface source group old new is told g =
    subst (λ (own : ProbeLine). IsTold core peer (done ++ own ∷ []) fault new) (sym is)
    (record { given = g; fault_is = told.fault_is ∙ ap fault_in (sym (octets_join done iface source group)) })

all_at : {A : Type 0} (P : A → Type 0) (xs : List A) → AllByRecursion P xs → (i : ℕ) (d : A) → i < length xs → P (get_or xs i d)
all_at P [] h i d lt = absurd (omega (arith, lt))
all_at P (y ∷ xs) h zero d lt = h.0
all_at P (y ∷ xs) h (suc i) d lt = all_at P xs h.1 i d (omega (arith, lt))

-- a join after others is one more
joins_before : (lines : List ProbeLine) (i : ℕ) (d : ProbeLine) (iface : IfaceId) (source group : Addr) → i < length lines
    → get_or lines i d ≡ Join iface source group → length (joins_of (take i lines)) < length (joins_of lines)
joins_before [] i d iface source group lt e = absurd (omega (arith, lt))
joins_before (line ∷ more) zero d iface source group lt e = subst (λ (own : ProbeLine). 0 < length (joins_of (own ∷ more))) (sym e) (omega arith)
joins_before (Join own s g ∷ more) (suc i) d iface source group lt e = omega (arith, joins_before more i d iface source group (omega (arith, lt)) e)
joins_before (Piece octets ∷ more) (suc i) d iface source group lt e = joins_before more i d iface source group (omega (arith, lt)) e

pub may_give : (lines : List ProbeLine) (edge : EdgeView) → AreLinesAt (home_of edge) lines → (i : ℕ) (line : ProbeLine) → i < length lines
    → line ≡ get_or lines i line → MayGive (take i lines) line edge
may_give lines edge are i (Join iface source group) lt is = record {
  fits = subst (IsLineAt (home_of edge).scenario (home_of edge).me) (sym is)
      (all_at (IsLineAt (home_of edge).scenario (home_of edge).me) lines are.each i (Join iface source group) lt);
  room = omega (arith, joins_before lines i (Join iface source group) iface source group lt (sym is), are.few);
}
may_give lines edge are i (Piece octets) lt is = tt
