-- What the calls of a node answer.
use Rattle.std.proofs.Common.{◌≡◌, ℕ, ◌≤◌, true, false, cond, replicate, Option, Some, None, is_some, Result, Ok, Err, refl, sym, ap, subst, ◌∙◌}
use Rattle.std.specs.FinMap as maps
use Rattle.std.specs.FinMap.{FinMap}
use Rattle.std.specs.FinSet as sets
use Rattle.std.proofs.lemmas.Option.{none-some}
use Rattle.std.proofs.lemmas.List.{length-replicate}
use Rattle.mv_base.specs.declared.ids.NodeId.{NodeId}
use Rattle.mv_base.specs.core_walks.Core.{Core}
use Rattle.mv_base.specs.core_walks.Topology.{Topology}
use Rattle.mldp.specs.declared.mldp_fec.fec.Fec.{Fec}
use Rattle.label_defs.specs.declared.label_use.LabelUse.TheVariants as uses
use Rattle.label_defs.specs.Keys.{fec_cmp, branch_cmp, node_cmp}
use Rattle.label_defs.specs.LabelData.{fresh}
use Rattle.label_defs.specs.Node.{NodePlace, raises_of, addr_in, place_in, prepared, thereafter}
use Rattle.label_defs.specs.Settling.{Stepped}
use Rattle.label_defs.specs.Steps.{Call, Taken, Want, Unwant, Raised, Noticed, Timers, Rerouted}
use Rattle.label_defs.proofs.KeyLemmas.{fec_cmp_total, fec_cmp_exact}
use Rattle.label_defs.proofs.UseLemmas.{used_some}
use Rattle.label_defs.proofs.StepLemmas.{all_free}
use Rattle.label_trees.specs.Trees.{Trees, untouched}
use Rattle.mldp_node.specs.label_ends.Ends.{Ends, all_down}
use Rattle.mldp_node.specs.declared.fault.NodeFault.{NodeFault}
use Rattle.mldp_node.specs.declared.fault.NodeFault.TheVariants as faults
use Rattle.mldp_node.specs.Parts.{awaited, part_of, node_of, AreTied, WaitOnTrees, WaitTowardRoots, WaitedTowardRoots, Made, LacksLabels}
use Rattle.mldp_node.specs.NodeData.{NodeData, IsWaitingTowardRoots, seen, cause, Answers}
use Rattle.mldp_node.proofs.PartLemmas.{awaited_is}

fault_is : (a b : NodeFault) → ◌≡◌ {A = Result (Unit {0}) NodeFault} (Err a) (Err b) → a ≡ b
fault_is a b e = cc

pub answers_ok : (core : Topology) (now : ℕ) (call : Call) (place : NodePlace) (trees : Trees) (ends : Ends) (new_trees : Trees) (new_ends : Ends)
    (old : NodeData) (spent : Option NodeFault)
    → spent ≡ None → seen place trees ends spent ≡ old → WaitOnTrees trees → Made core place now call trees ends new_trees new_ends
    → Answers core now call old (seen place new_trees new_ends spent) (Ok tt)
answers_ok core now call place trees ends new_trees new_ends old spent none is on h =
    subst (λ (n : NodeData). Answers core now call n (seen place new_trees new_ends spent) (Ok tt)) is
    (subst (λ (s : Option NodeFault). Answers core now call (seen place trees ends s) (seen place new_trees new_ends s) (Ok tt)) (sym none) (record {
      place = refl;
      before = λ fault e. absurd (none-some (cause fault) e);
      unspent = refl;
      made = λ own core_is. sym (h.made own core_is);
      goes_on = refl;
      toward = λ own core_is. h.toward own core_is on;
      lacks = λ e. absurd cc;
      faults = λ fault e. absurd cc;
    }))

pub answers_err : (core : Topology) (now : ℕ) (call : Call) (place : NodePlace) (trees : Trees) (ends : Ends) (new_trees : Trees) (new_ends : Ends)
    (old : NodeData) (spent : Option NodeFault) (fault : NodeFault)
    → spent ≡ None → seen place trees ends spent ≡ old
    → (◌≡◌ {A = Result (Unit {0}) NodeFault} (Err fault) (Err faults.NoLabel) → LacksLabels core place now call trees ends)
    → Answers core now call old (seen place new_trees new_ends (Some fault)) (Err fault)
answers_err core now call place trees ends new_trees new_ends old spent fault none is lacks =
    subst (λ (n : NodeData). Answers core now call n (seen place new_trees new_ends (Some fault)) (Err fault)) is
    (subst (λ (s : Option NodeFault). Answers core now call (seen place trees ends s) (seen place new_trees new_ends (Some fault)) (Err fault))
    (sym none) (record {
      place = refl;
      before = λ other e. absurd (none-some (cause other) e);
      unspent = tt;
      made = tt;
      goes_on = tt;
      toward = tt;
      lacks = λ e n own core_is. ap (λ (o : Option Stepped).
          (thereafter (addr_in place) (place_in place own) now (prepared call (node_of trees ends)) call o).spent) (lacks e own core_is);
      faults = λ other e. ap (λ (f : NodeFault). Some (cause f)) (fault_is fault other e);
    }))

-- ---- where trees wait

-- trees that wait towards their roots do so before each call
pub waited_one : (call : Call) (place : NodePlace) (own : Core) (waiting : FinMap fec_cmp NodeId) → WaitTowardRoots place own waiting
    → WaitedTowardRoots call place own waiting
waited_one (Taken from message) place own waiting h = h
waited_one (Want fec) place own waiting h = h
waited_one (Unwant fec) place own waiting h = h
waited_one (Raised peer) place own waiting h = h
waited_one (Noticed peer) place own waiting h = h
waited_one Timers place own waiting h = h
waited_one Rerouted place own waiting h = tt

-- a node that stands where another does, and of which the same trees wait
pub waits_as : (old new : NodeData) → new.place ≡ old.place → new.awaited ≡ old.awaited → (own : Core) → IsWaitingTowardRoots own old
    → IsWaitingTowardRoots own new
waits_as old new place waiting own h =
    subst (λ (p : NodePlace). WaitTowardRoots p own new.awaited) (sym place)
    (subst (λ (m : FinMap fec_cmp NodeId). WaitTowardRoots old.place own m) (sym waiting) h)

-- where none waits, each does so towards its root
pub none_astray : (node : NodeData) → node.awaited ≡ maps.empty → (own : Core) → IsWaitingTowardRoots own node
none_astray node none own fec upstream at =
    absurd (none-some upstream (sym (ap (λ (m : FinMap fec_cmp NodeId). maps.get m fec) none ∙ maps.get-empty fec_cmp fec) ∙ at))

-- ---- a fresh node

no_waiting : awaited (maps.empty {R = fec_cmp}) ≡ sets.empty
no_waiting =
    sets.same_set fec_cmp_total fec_cmp_exact _ _
    (λ q. awaited_is maps.empty q ∙ ap is_some (maps.get-empty fec_cmp q) ∙ sym (sets.contains-empty fec_cmp q))

pub fresh_part : (life count : ℕ) → part_of (untouched life count) maps.empty ≡ fresh count
fresh_part life count =
    λ i. record { labels = replicate count uses.Free; branches = sets.empty; leaves = sets.empty; waiting = no_waiting i; ends = maps.empty }

not_in : {K : Type 0} (R : K → K → _) (q : K) → sets.contains (sets.empty {R = R}) q ≡ true → ⊥
not_in R q e = (let none = sets.contains-empty R q in let both : false ≡ true = sym none ∙ e in absurd cc)

not_mapped : (fec : Fec) (upstream : NodeId) → uses.Mapped fec upstream ≡ uses.Free → ⊥
not_mapped fec upstream e = absurd cc

pub fresh_tied : (life count : ℕ) → count ≤ 65536 → AreTied (untouched life count) all_down
fresh_tied life count few = record {
  sessions =
      λ peer. maps.get-empty node_cmp peer ∙ sym (ap (λ o. cond (is_some o) (Some (record { 0 = raises_of maps.empty peer })) None)
      (maps.get-empty node_cmp peer));
  spelled = record {
    leaves = λ f e. absurd (not_in fec_cmp f e);
    branches = λ b e. absurd (not_in branch_cmp b e);
    mapped = λ f l u e. absurd (not_mapped f u (all_free count _ (uses.Mapped f u) (used_some (replicate count uses.Free) l (uses.Mapped f u) e).1));
    few = subst (λ n. n ≤ 65536) (sym (length-replicate count uses.Free)) few;
  };
  apart = λ f l u e. maps.get-empty fec_cmp f;
}

pub none_waits : (life count : ℕ) → WaitOnTrees (untouched life count)
none_waits life count f x g = absurd (none-some x (sym (maps.get-empty fec_cmp f) ∙ g))
