-- What the loss of a session takes out of a forwarding table: the notes of its labels, and its branches.
use Rattle.std.proofs.Common.{◌≡◌, ℕ, ◌==◌, ◌||◌, ◌&&◌, Bool, true, false, not, cond, nat_eq, List, [], ◌∷◌, map, Option, Some, None, option_map, refl, sym, ap, ◌∙◌}
use Rattle.std.specs.List.{list_any}
use Rattle.std.specs.Ordering.{eq_by_cmp}
use Rattle.std.specs.Cmp.{Equal-is, nat_eq_equiv}
use Rattle.std.specs.FinMap as maps
use Rattle.std.specs.FinMap.{FinMap}
use Rattle.std.specs.FinSet as sets
use Rattle.std.specs.FinSet.{FinSet}
use Rattle.std.proofs.lemmas.Bool.{or_left}
use Rattle.mv_base.specs.declared.ids.NodeId.{NodeId}
use Rattle.mldp.specs.declared.mldp_fec.fec.Fec.{Fec}
use Rattle.label_defs.specs.declared.branch.Branch.{Branch as TreeBranch}
use Rattle.label_defs.specs.declared.label_use.LabelUse.{LabelUse}
use Rattle.label_defs.specs.declared.label_use.LabelUse.TheVariants as uses
use Rattle.label_defs.specs.Keys.{branch_cmp}
use Rattle.label_defs.specs.LabelData.{same_fec}
use Rattle.label_defs.specs.Steps.{freed}
use Rattle.label_defs.proofs.KeyLemmas.{branch_cmp_total, branch_cmp_exact, node_equal, node_itself, same_fec_equal, same_fec_itself}
use Rattle.label_defs.proofs.SetLemmas.{member_passes, retained}
use Rattle.label_defs.proofs.UseLemmas.{used-map}
use Rattle.label_forwarding.specs.declared.branch.Branch.{Branch}
use Rattle.label_forwarding.specs.Hops.{hop_cmp}
use Rattle.label_forwarding.specs.Slots.{is_fec}
use Rattle.label_forwarding.specs.FibData.{FibData, AreHops, branch_in, hop, is_known}
use Rattle.label_forwarding.proofs.HopLemmas.{hop_cmp_total, hop_cmp_exact, hop-ties}
use Rattle.label_forwarding.proofs.SlotLemmas.{hop_of, branch-ties, fec-ties}
use Rattle.label_trees.specs.label_uses.Uses.{use_in, is_toward}
use Rattle.label_trees.specs.Trees.{fec_under, AreMapped}
use Rattle.label_trees.specs.Loss.{branches_to, branches_without, is_lost, notes_without}
use Rattle.label_trees.proofs.TreeLemmas.{any_flips}

and_true : (t : Bool) → (t && true) ≡ t
and_true true = refl
and_true false = refl

-- ---- the branches of one tree

-- a hop that is the branch's goes where it goes
same_end : (peer : NodeId) (own : TreeBranch) (e : Branch) → eq_by_cmp hop_cmp (hop_of own) e ≡ true → (own.node.0 == peer.0) ≡ (e.node.0 == peer.0)
same_end peer own e h = ap (λ (x : Branch). x.node.0 == peer.0) (hop_cmp_exact (hop_of own) e ((Equal-is (hop_cmp (hop_of own) e)).0 h))

one_more : (to here tree it rest : Bool) → (it ≡ true → here ≡ to)
    → cond to ((tree && it) || (tree && (here && rest))) (tree && (here && rest)) ≡ (tree && (here && (it || rest)))
one_more to here false it rest h = by to
  where
    by : (t : Bool) → cond t false false ≡ false
    by true = refl
    by false = refl
one_more true true true it rest h = refl
one_more true false true true rest h = (let e = h refl in absurd cc)
one_more true false true false rest h = refl
one_more false true true true rest h = (let e = h refl in absurd cc)
one_more false true true false rest h = refl
one_more false false true it rest h = refl

hops_to : (peer : NodeId) (fec : Fec) (hops : List Branch) (own : TreeBranch)
    → list_any (eq_by_cmp branch_cmp own) (branches_to peer fec hops)
    ≡ (is_fec own.fec fec && (own.node.0 == peer.0 && list_any (eq_by_cmp hop_cmp (hop_of own)) hops))
hops_to peer fec [] own = nothing (is_fec own.fec fec) (own.node.0 == peer.0)
  where
    nothing : (a b : Bool) → false ≡ (a && (b && false))
    nothing true true = refl
    nothing true false = refl
    nothing false b = refl
hops_to peer fec (e ∷ more) own =
    inside (e.node.0 == peer.0)
    ∙ ((λ i. cond (e.node.0 == peer.0) (branch-ties own fec e i || hops_to peer fec more own i) (hops_to peer fec more own i))
    ∙ one_more (e.node.0 == peer.0) (own.node.0 == peer.0) (is_fec own.fec fec) (eq_by_cmp hop_cmp (hop_of own) e)
    (list_any (eq_by_cmp hop_cmp (hop_of own)) more) (same_end peer own e))
  where
    inside : (t : Bool) → list_any (eq_by_cmp branch_cmp own) (cond t (branch_in fec e ∷ branches_to peer fec more) (branches_to peer fec more))
        ≡ cond t (eq_by_cmp branch_cmp own (branch_in fec e) || list_any (eq_by_cmp branch_cmp own) (branches_to peer fec more))
        (list_any (eq_by_cmp branch_cmp own) (branches_to peer fec more))
    inside true = refl
    inside false = refl

-- the branches of the tree that are lost
pub tree_loses : (fib : FibData) (peer : NodeId) (fec : Fec) (hops : List Branch) → AreHops fib fec hops → (own : TreeBranch)
    → list_any (eq_by_cmp branch_cmp own) (branches_to peer fec hops) ≡ (same_fec own.fec fec && is_lost peer fib.branches own)
tree_loses fib peer fec hops are own =
    hops_to peer fec hops own ∙ ((λ i. fec-ties own.fec fec i && (own.node.0 == peer.0 && are.each (hop_of own) i)) ∙ by (same_fec own.fec fec) refl)
  where
    by : (t : Bool) → same_fec own.fec fec ≡ t → (t && (own.node.0 == peer.0 && sets.contains fib.branches (branch_in fec (hop_of own))))
        ≡ (t && is_lost peer fib.branches own)
    by true e = ap (λ (x : Fec). own.node.0 == peer.0 && sets.contains fib.branches (branch_in x (hop_of own))) (sym (same_fec_equal own.fec fec e))
    by false e = refl

-- ---- the branches that are left

without_these : (branches : FinSet branch_cmp) (gone : List TreeBranch) (own : TreeBranch)
    → sets.contains (branches_without branches gone) own ≡ (sets.contains branches own && not (list_any (eq_by_cmp branch_cmp own) gone))
without_these branches [] own = sym (and_true (sets.contains branches own))
without_these branches (e ∷ gone) own =
    without_these (sets.remove branches e) gone own
    ∙ (ap (λ (b : Bool). b && not (list_any (eq_by_cmp branch_cmp own) gone)) (sets.contains-remove branch_cmp_total branches e own)
    ∙ neither (eq_by_cmp branch_cmp own e) (sets.contains branches own) (list_any (eq_by_cmp branch_cmp own) gone))
  where
    neither : (it there rest : Bool) → ((not it && there) && not rest) ≡ (there && not (it || rest))
    neither true true rest = refl
    neither true false rest = refl
    neither false there rest = refl

pub branches_left : (fib : FibData) (peer : NodeId) (fecs : List Fec) (gone : List TreeBranch)
    → ((fec : Fec) → list_any (λ own. same_fec own fec) fecs ≡ is_known fib fec)
    → ((own : TreeBranch) → list_any (eq_by_cmp branch_cmp own) gone ≡ (list_any (same_fec own.fec) fecs && is_lost peer fib.branches own))
    → branches_without fib.branches gone ≡ sets.retain fib.branches (λ branch. not (branch.node.0 == peer.0))
branches_left fib peer fecs gone known all = sets.same_set branch_cmp_total branch_cmp_exact _ _ (λ own.
    without_these fib.branches gone own ∙ (ap (λ (b : Bool). sets.contains fib.branches own && not b) (all own)
    ∙ (by own (sets.contains fib.branches own) refl
    ∙ sym (retained branch_cmp_total branch_cmp_exact fib.branches (λ branch. not (branch.node.0 == peer.0)) own))))
  where
    by : (own : TreeBranch) (t : Bool) → sets.contains fib.branches own ≡ t
        → (sets.contains fib.branches own && not (list_any (same_fec own.fec) fecs && (own.node.0 == peer.0 && sets.contains fib.branches own)))
        ≡ (sets.contains fib.branches own && not (own.node.0 == peer.0))
    by own false e = rw e refl
    by own true e =
        let on : list_any (same_fec own.fec) fecs ≡ true = any_flips own.fec fecs ∙ (known own.fec
        ∙ or_left _ _ (or_left _ _ (member_passes branch_cmp_total branch_cmp_exact (λ (b : TreeBranch). same_fec b.fec own.fec) fib.branches own e
        (same_fec_itself own.fec)))) in
        (λ i. e i && not (on i && (own.node.0 == peer.0 && e i)))
        ∙ (ap not (and_true (own.node.0 == peer.0)) ∙ (λ i. sym e i && not (own.node.0 == peer.0)))

-- ---- the notes that are left

none_either : {A : Type 0} (t : Bool) → cond {A = Option A} t None None ≡ None
none_either true = refl
none_either false = refl

and_false : (t : Bool) → (t && false) ≡ false
and_false true = refl
and_false false = refl

removed_note : (peer from : NodeId) (one label : ℕ) (pairs : FinMap hop_cmp Fec)
    → maps.get (maps.remove pairs (hop peer one)) (hop from label)
    ≡ cond (from.0 == peer.0 && nat_eq one label) None (maps.get pairs (hop from label))
removed_note peer from one label pairs =
    maps.get-remove hop_cmp_total pairs (hop peer one) (hop from label)
    ∙ ap (λ (b : Bool). cond b None (maps.get pairs (hop from label)))
    (sym (hop-ties (hop from label) (hop peer one)) ∙ ap (λ (b : Bool). from.0 == peer.0 && b) (nat_eq_equiv.symm label one))

notes_at : (peer from : NodeId) (label : ℕ) (pairs : FinMap hop_cmp Fec) (gone : List ℕ)
    → maps.get (notes_without peer pairs gone) (hop from label)
    ≡ cond (from.0 == peer.0 && list_any (λ own. nat_eq own label) gone) None (maps.get pairs (hop from label))
notes_at peer from label pairs [] = sym (ap (λ (b : Bool). cond b None (maps.get pairs (hop from label))) (and_false (from.0 == peer.0)))
notes_at peer from label pairs (one ∷ more) =
    notes_at peer from label (maps.remove pairs (hop peer one)) more
    ∙ (ap (cond (from.0 == peer.0 && list_any (λ own. nat_eq own label) more) None) (removed_note peer from one label pairs)
    ∙ both (from.0 == peer.0) (nat_eq one label) (list_any (λ own. nat_eq own label) more) (maps.get pairs (hop from label)))
  where
    both : (n it rest : Bool) (o : Option Fec) → cond (n && rest) None (cond (n && it) None o) ≡ cond (n && (it || rest)) None o
    both true true rest o = none_either rest
    both true false rest o = refl
    both false it rest o = refl

lost_under : (peer from : NodeId) (o : Option LabelUse)
    → cond (from.0 == peer.0 && is_toward peer o) None (fec_under o from) ≡ fec_under (option_map (freed peer) o) from
lost_under peer from None = none_either (from.0 == peer.0 && false)
lost_under peer from (Some uses.Free) = none_either (from.0 == peer.0 && false)
lost_under peer from (Some (uses.Resting until)) = none_either (from.0 == peer.0 && false)
lost_under peer from (Some (uses.Leaving fec v)) = none_either (from.0 == peer.0 && (v.0 == peer.0)) ∙ by (v.0 == peer.0)
  where
    by : (t : Bool) → None ≡ fec_under (Some (cond t uses.Free (uses.Leaving fec v))) from
    by true = refl
    by false = refl
lost_under peer from (Some (uses.Mapped fec v)) = by (v.0 == peer.0) refl
  where
    hidden : (a b : Bool) → (b ≡ true → a ≡ true) → cond a None (cond b (Some fec) None) ≡ None
    hidden a true h = ap (λ (t : Bool). cond t None (Some fec)) (h refl)
    hidden a false h = none_either a

    by : (t : Bool) → v.0 == peer.0 ≡ t → cond (from.0 == peer.0 && t) None (cond (v.0 == from.0) (Some fec) None)
        ≡ fec_under (Some (cond t uses.Free (uses.Mapped fec v))) from
    by true e =
        hidden (from.0 == peer.0 && true) (v.0 == from.0)
        (λ h. and_true (from.0 == peer.0) ∙ node_itself from peer (sym (node_equal v from h) ∙ node_equal v peer e))
    by false e = ap (λ (t : Bool). cond t None (cond (v.0 == from.0) (Some fec) None)) (and_false (from.0 == peer.0))

pub lost_notes : (peer : NodeId) (pairs : FinMap hop_cmp Fec) (labels : List LabelUse) (gone : List ℕ) → AreMapped pairs labels
    → ((label : ℕ) → list_any (λ own. nat_eq own label) gone ≡ is_toward peer (use_in labels label))
    → AreMapped (notes_without peer pairs gone) (map (freed peer) labels)
lost_notes peer pairs labels gone all toward from label =
    notes_at peer from label pairs gone ∙ ((λ i. cond (from.0 == peer.0 && toward label i) None (all from label i))
    ∙ (lost_under peer from (use_in labels label) ∙ ap (λ (o : Option LabelUse). fec_under o from) (sym (used-map (freed peer) labels label))))
