-- What becomes of a copy: the branches of a tree as the forwarding table lends them, and the tree of a label.
use Rattle.std.proofs.Common.{◌≡◌, ◌∙◌, refl, sym, ap, subst, ℕ, Bool, true, false, ◌&&◌, ◌||◌, List, [], ◌∷◌, map, Option, None, Some}
use Rattle.std.specs.List.{AllByRecursion, filter, list_any}
use Rattle.std.specs.List.Sorted.{IsStrictlySortedBy}
use Rattle.std.specs.Ordering.{nat_cmp, ordering_then, eq_by_cmp}
use Rattle.std.specs.Cmp.Lexicographic.{slice_cmp}
use Rattle.std.specs.declared.cmp.Ordering.{Ordering}
use Rattle.std.specs.declared.cmp.Ordering.TheVariants.{Less, Equal, Greater}
use Rattle.std.specs.FinMap as maps
use Rattle.std.specs.FinSet as sets
use Rattle.std.specs.FinSet.{FinSet}
use Rattle.std.proofs.lemmas.List.Kept.{IsStrictlySortedBy-filter}
use Rattle.std.proofs.lemmas.Map.Views.{any-filter_same}
use Rattle.std.specs.Cmp.{Equal-is}
use Rattle.mv_base.proofs.SortedMaps.{map_sorted}
use Rattle.mv_base.specs.declared.addr.Addr.{Addr}
use Rattle.mv_base.specs.declared.ids.NodeId.{NodeId}
use Rattle.mldp.specs.declared.mldp_fec.fec.Fec.{Fec}
use Rattle.label_defs.specs.declared.branch.Branch.{Branch as TreeBranch}
use Rattle.label_defs.specs.declared.label_use.LabelUse.{LabelUse}
use Rattle.label_defs.specs.declared.label_use.LabelUse.TheVariants as uses
use Rattle.label_defs.specs.Keys.{branch_cmp, fec_key}
use Rattle.label_defs.specs.LabelData.{LabelData, branches_of, same_fec, use_of}
use Rattle.label_defs.specs.Members.{in_order}
use Rattle.label_defs.proofs.KeyLemmas.{branch_cmp_total, branch_cmp_exact, same_fec_equal}
use Rattle.label_defs.proofs.MemberLemmas.{contains_in_order}
use Rattle.label_forwarding.specs.declared.branch.Branch.{Branch}
use Rattle.label_forwarding.specs.Hops.{hop_cmp}
use Rattle.label_forwarding.specs.FibData.{AreHops, FibData, branch_in}
use Rattle.label_forwarding.proofs.SlotLemmas.{branch-ties, fec-ties, hop_of}
use Rattle.mldp_node.specs.label_trees.Trees.{fec_under}
use Rattle.mldp_node.proofs.label_trees.OrderLemmas.{is_in_order}
use Rattle.mldp_node.specs.NodeData.{IsFibOfPart}
use Rattle.edge_defs.specs.Datagrams as datagrams
use Rattle.edge_defs.specs.Datagrams.{arriving_fate, discarded, outs_of, tree_of}
use Rattle.edge_defs.specs.Edge.{EdgeData}
use Rattle.edge_defs.specs.Place.{EdgePlace}
use Rattle.edge_core.specs.declared.fate.Fate.{Fate}
use Rattle.edge_core.specs.State.{IsFate}

-- ---- order

then_less : (node label rest : Ordering) → ordering_then node (ordering_then label Equal) ≡ Less
    → ordering_then node (ordering_then label rest) ≡ Less
then_less Less label rest e = refl
then_less Equal Less rest e = refl
then_less Equal Equal rest e = absurd cc
then_less Equal Greater rest e = absurd cc
then_less Greater label rest e = absurd cc

module _ (fec : Fec) where
  -- what rises by neighbour and label does so as branches of one tree
  rises : (a b : Branch) → hop_cmp a b ≡ Less → branch_cmp (branch_in fec a) (branch_in fec b) ≡ Less
  rises a b e = then_less (nat_cmp a.node.0 b.node.0) (nat_cmp a.label b.label) (slice_cmp nat_cmp (fec_key fec) (fec_key fec)) e

  all_rise : (a : Branch) (hops : List Branch) → AllByRecursion (λ b. hop_cmp a b ≡ Less) hops
      → AllByRecursion (λ b. branch_cmp (branch_in fec a) b ≡ Less) (map (branch_in fec) hops)
  all_rise a [] h = tt
  all_rise a (b ∷ more) h = (rises a b h.0, all_rise a more h.1)

  sorted : (hops : List Branch) → IsStrictlySortedBy hop_cmp hops → IsStrictlySortedBy branch_cmp (map (branch_in fec) hops)
  unfolding IsStrictlySortedBy
  sorted [] h = tt
  sorted (a ∷ more) h = (all_rise a more h.0, sorted more h.1)

  -- ---- members

  shared : (t a b : Bool) → ((t && a) || (t && b)) ≡ (t && (a || b))
  shared true a b = refl
  shared false a b = refl

  nothing : (t : Bool) → false ≡ (t && false)
  nothing true = refl
  nothing false = refl

  among : (own : TreeBranch) (hops : List Branch)
      → list_any (eq_by_cmp branch_cmp own) (map (branch_in fec) hops) ≡ (same_fec own.fec fec && list_any (eq_by_cmp hop_cmp (hop_of own)) hops)
  among own [] = nothing (same_fec own.fec fec)
  among own (a ∷ more) =
      (λ i. (branch-ties own fec a ∙ ap (λ (t : Bool). t && eq_by_cmp hop_cmp (hop_of own) a) (fec-ties own.fec fec)) i || among own more i)
      ∙ shared (same_fec own.fec fec) (eq_by_cmp hop_cmp (hop_of own) a) (list_any (eq_by_cmp hop_cmp (hop_of own)) more)

  abbrev is_of : TreeBranch → Bool
  is_of own = same_fec own.fec fec

  among_all : (branches : FinSet branch_cmp) (own : TreeBranch)
      → list_any (eq_by_cmp branch_cmp own) (filter is_of (in_order branches)) ≡ (is_of own && sets.contains branches own)
  among_all branches own =
      any-filter_same (eq_by_cmp branch_cmp own) is_of (is_of own)
      (λ k e. ap is_of (sym (branch_cmp_exact own k ((Equal-is (branch_cmp own k)).0 e)))) (in_order branches)
      ∙ ap (λ (t : Bool). is_of own && t) (sym (contains_in_order branch_cmp_total branches own))

  -- ---- both lists are one

  pub tree_branches : (part : LabelData) (fib : FibData) (hops : List Branch) → IsFibOfPart part fib → AreHops fib fec hops
      → map (branch_in fec) hops ≡ branches_of part fec
  tree_branches part fib hops is are =
      let own : List TreeBranch = map (branch_in fec) hops in
      is_in_order branch_cmp_total branch_cmp_exact (sets.from_list own) own (sorted hops are.ordered)
      (λ q. sym (sets.contains-from_list branch_cmp_total own q))
      ∙ sym (is_in_order branch_cmp_total branch_cmp_exact (sets.from_list own) (branches_of part fec) in_turn (λ q.
      among_all part.branches q ∙ (by q (is_of q) refl ∙ (sym (among q hops) ∙ sym (sets.contains-from_list branch_cmp_total own q)))))
    where
      in_turn : IsStrictlySortedBy branch_cmp (branches_of part fec)
      in_turn =
          IsStrictlySortedBy-filter branch_cmp is_of (in_order part.branches)
          (map_sorted branch_cmp (maps.from_entries {R = branch_cmp} (map (λ k. (k, tt {0})) (sets.items part.branches))))

      by : (q : TreeBranch) (t : Bool) → is_of q ≡ t → (t && sets.contains part.branches q) ≡ (t && list_any (eq_by_cmp hop_cmp (hop_of q)) hops)
      by q false e = refl
      by q true e = ap (λ (s : FinSet branch_cmp). sets.contains s q) (sym is.branches)
          ∙ (ap (λ (x : Fec). sets.contains fib.branches (branch_in x (hop_of q))) (same_fec_equal q.fec fec e)
          ∙ sym (are.each (hop_of q)))

-- ---- the tree of a label

pub one_tree : (from : NodeId) (usage : Option LabelUse) → tree_of from usage ≡ fec_under usage from
one_tree from None = refl
one_tree from (Some (uses.Mapped fec upstream)) = refl
one_tree from (Some uses.Free) = refl
one_tree from (Some (uses.Leaving fec upstream)) = refl
one_tree from (Some (uses.Resting until)) = refl

module _ (place : EdgePlace) (now : ℕ) (edge : EdgeData) (source group : Addr) where
  abbrev fate_by : Option Fec → datagrams.Fate
  fate_by None = discarded
  fate_by (Some fec) = record { outs = outs_of place now edge fec source group; branches = branches_of edge.part fec }

  -- what becomes of a copy whose label is one of the tree
  pub arrives : (from : NodeId) (label : ℕ) (fec : Fec) (fate : Fate) → tree_of from (use_of edge.part label) ≡ Some fec
      → fate.outs ≡ outs_of place now edge fec source group
      → fate.branches ≡ branches_of edge.part fec → IsFate (arriving_fate place now edge from label source group) fate
  arrives from label fec fate tree outs branches =
      subst (λ (o : Option Fec). IsFate (fate_by o) fate) (sym tree) (record { outs = outs; branches = branches })
