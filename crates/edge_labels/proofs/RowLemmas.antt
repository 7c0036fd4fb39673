-- What calls one after another answer.
use Rattle.std.proofs.Common.{◌≡◌, ◌∙◌, refl, sym, ap, subst, ℕ, zero, suc, ◌+◌, ◌<◌, ◌≤◌, arith, List, [], ◌∷◌, ◌++◌, map, drop, length, get_or, Option, None, Some, Result, Ok, Err, OnOk}
use Rattle.std.proofs.lemmas.Option.{none-some}
use Rattle.std.proofs.lemmas.List.{drop_more}
use Rattle.std.proofs.Math.Seq.{drop-nil}
use Rattle.mv_base.specs.core_walks.Core.{Core, IsCoreOf}
use Rattle.mv_base.specs.core_walks.Topology.{Topology}
use Rattle.label_defs.specs.Node.{Spent, LacksLabel, LabelNode, NodePlace, addr_in, place_in, called, called_unless}
use Rattle.label_defs.specs.Steps.{Call}
use Rattle.node_laws.specs.edge_defs.Steps.{one_call}
use Rattle.mldp_node.specs.declared.fault.NodeFault.{NodeFault}
use Rattle.mldp_node.specs.declared.fault.NodeFault.TheVariants as faults
use Rattle.mldp_node.specs.NodeData.{NodeData, Answers, cause}
use Rattle.mldp_node.specs.Parts.{WaitTowardRoots}
use Rattle.mldp_node.proofs.NodeLemmas.{waited_one}
use Rattle.node_laws.specs.Rows.{all_called}
use Rattle.edge_labels.specs.declared.changes.LeafChange.{LeafChange}
use Rattle.edge_labels.specs.Calls.{AnswersAll, AreMade, WaitedBefore, leaf_call}

-- ---- no call, and one

pub none_made : (core : Topology) (now : ℕ) (old : NodeData) → old.node.spent ≡ None → AnswersAll core now [] old old (Ok tt)
none_made core now old e = record {
  place = refl;
  before = λ fault s. absurd (none-some (cause fault) (sym e ∙ s));
  unspent = e;
  made = λ own is. refl;
  goes_on = e;
  toward = λ own is waits. waits;
  lacks = λ k. absurd cc;
  faults = λ fault k. absurd cc;
}

pub one_made : (core : Topology) (now : ℕ) (call : Call) (old new : NodeData) (result : Result (Unit {0}) NodeFault)
    → Answers core now call old new result → AnswersAll core now (call ∷ []) old new result
one_made core now call old new result h = record {
  place = h.place;
  before = h.before;
  unspent = h.unspent;
  made = h.made;
  goes_on = h.goes_on;
  toward = h.toward;
  lacks = h.lacks;
  faults = h.faults;
}

-- a spent node stays
pub spent_stays : (core : Topology) (now : ℕ) (calls : List Call) (old : NodeData) (fault : NodeFault) → old.node.spent ≡ Some (cause fault)
    → AnswersAll core now calls old old (Err fault)
spent_stays core now calls old fault e = record {
  place = refl;
  before = λ other s. (ap (λ (f : NodeFault). Err f) (one_cause fault other (sym e ∙ s)), refl);
  unspent = tt;
  made = tt;
  goes_on = tt;
  toward = tt;
  lacks = λ k none. absurd (none-some (cause fault) (sym none ∙ e));
  faults = λ other k. e ∙ ap (λ (f : NodeFault). Some (cause f)) (fault_is fault other k);
}
  where
    fault_is : (a b : NodeFault) → ◌≡◌ {A = Result (Unit {0}) NodeFault} (Err a) (Err b) → a ≡ b
    fault_is a b k = cc

    one_cause : (a b : NodeFault) → Some (cause a) ≡ Some (cause b) → a ≡ b
    one_cause faults.NoLabel faults.NoLabel k = refl
    one_cause faults.NoMemory faults.NoMemory k = refl
    one_cause faults.NoLabel faults.NoMemory k = absurd cc
    one_cause faults.NoMemory faults.NoLabel k = absurd cc

-- ---- one call more

called_spent : (place : NodePlace) (own : Core) (now : ℕ) (calls : List Call) (node : LabelNode) (spent : Spent) → node.spent ≡ Some spent
    → all_called place own now node calls ≡ node
called_spent place own now [] node spent e = refl
called_spent place own now (call ∷ more) node spent e =
    let same : called place own now node call ≡ node = λ i. called_unless (e i) (addr_in place) (place_in place own) now node call in
    ap (λ (n : LabelNode). all_called place own now n more) same ∙ called_spent place own now more node spent e

map_ok : {P Q : Type 0} (result : Result (Unit {0}) NodeFault) → (P → Q) → OnOk result P → OnOk result Q
map_ok (Ok value) f h = f h
map_ok (Err fault) f h = tt

give_ok : {P : Type 0} (result : Result (Unit {0}) NodeFault) → P → OnOk result P
give_ok (Ok value) h = h
give_ok (Err fault) h = tt

pub waited : (calls : List Call) (place : NodePlace) (own : Core) (old : NodeData) → WaitTowardRoots place own old.awaited
    → WaitedBefore calls place own old.awaited
waited [] place own old h = h
waited (call ∷ more) place own old h = waited_one call place own old.awaited h

-- the first call was made, and then the others
pub then_made : (core : Topology) (now : ℕ) (call : Call) (more : List Call) (old mid new : NodeData) (result : Result (Unit {0}) NodeFault)
    → AnswersAll core now (call ∷ []) old mid (Ok tt) → AnswersAll core now more mid new result → AnswersAll core now (call ∷ more) old new result
then_made core now call more old mid new result h k = record {
  place = k.place ∙ h.place;
  before = λ fault s. absurd (none-some (cause fault) (sym h.unspent ∙ s));
  unspent = give_ok result h.unspent;
  made = map_ok result (λ made own is. made own is ∙ along own is) k.made;
  goes_on = k.goes_on;
  toward = map_ok result (λ toward own is waits.
      subst (λ (p : NodePlace). WaitTowardRoots p own new.awaited) h.place
      (toward own is (waited more mid.place own mid
      (subst (λ (p : NodePlace). WaitTowardRoots p own mid.awaited) (sym h.place) (h.toward own is waits))))) k.toward;
  lacks = λ e none own is. sym (ap (λ (n : LabelNode). n.spent) (along own is)) ∙ k.lacks e h.goes_on own is;
  faults = k.faults;
}
  where
    along : (own : Core) → IsCoreOf core.nodes core.links own
        → all_called mid.place own now mid.node more ≡ all_called old.place own now old.node (call ∷ more)
    along own is = λ i. all_called (h.place i) own now (h.made own is i) more

-- the first call answered a fault
pub stopped : (core : Topology) (now : ℕ) (call : Call) (more : List Call) (old new : NodeData) (fault : NodeFault)
    → AnswersAll core now (call ∷ []) old new (Err fault) → AnswersAll core now (call ∷ more) old new (Err fault)
stopped core now call more old new fault h = record {
  place = h.place;
  before = h.before;
  unspent = tt;
  made = tt;
  goes_on = tt;
  toward = tt;
  lacks = λ e none own is.
      let lacking = h.lacks e none own is in
      ap (λ (n : LabelNode). n.spent) (called_spent old.place own now more (called old.place own now old.node call) LacksLabel lacking) ∙ lacking;
  faults = h.faults;
}

-- ---- along a list

pub made_to : (core : Topology) (now : ℕ) (changes : List LeafChange) (at : ℕ) (change : LeafChange) (first old mid : NodeData) → at < length changes
    → change ≡ get_or changes at change
    → AreMade core now (map leaf_call changes) (map leaf_call (drop at changes)) first old
    → AnswersAll core now (leaf_call change ∷ []) old mid (Ok tt)
    → AreMade core now (map leaf_call changes) (map leaf_call (drop (at + 1) changes)) first mid
made_to core now changes at change first old mid within is h k = record {
  place = k.place ∙ h.place;
  unspent = k.goes_on;
  whole = λ new result rest. h.whole new result
      (subst (λ (xs : List LeafChange). AnswersAll core now (map leaf_call xs) old new result)
      (sym (drop_more changes at change within ∙ ap (λ (x : LeafChange). x ∷ drop (at + 1) changes) (sym is)))
      (then_made core now (leaf_call change) (map leaf_call (drop (at + 1) changes)) old mid new result k rest));
}

pub stopped_at : (core : Topology) (now : ℕ) (changes : List LeafChange) (at : ℕ) (change : LeafChange) (first old new : NodeData) (fault : NodeFault)
    → at < length changes → change ≡ get_or changes at change
    → AreMade core now (map leaf_call changes) (map leaf_call (drop at changes)) first old
    → AnswersAll core now (leaf_call change ∷ []) old new (Err fault)
    → AnswersAll core now (map leaf_call changes) first new (Err fault)
stopped_at core now changes at change first old new fault within is h k =
    h.whole new (Err fault)
    (subst (λ (xs : List LeafChange). AnswersAll core now (map leaf_call xs) old new (Err fault))
    (sym (drop_more changes at change within ∙ ap (λ (x : LeafChange). x ∷ drop (at + 1) changes) (sym is)))
    (stopped core now (leaf_call change) (map leaf_call (drop (at + 1) changes)) old new fault k))

drop_all : {A : Type 0} (xs : List A) (at : ℕ) → length xs ≤ at → drop at xs ≡ []
drop_all [] at le = drop-nil at
drop_all (x ∷ xs) zero le = absurd (omega (arith, le))
drop_all (x ∷ xs) (suc at) le = drop_all xs at (omega (arith, le))

pub all_made : (core : Topology) (now : ℕ) (changes : List LeafChange) (at : ℕ) (first old : NodeData) → length changes ≤ at
    → AreMade core now (map leaf_call changes) (map leaf_call (drop at changes)) first old
    → AnswersAll core now (map leaf_call changes) first old (Ok tt)
all_made core now changes at first old le h = h.whole old (Ok tt)
    (subst (λ (xs : List LeafChange). AnswersAll core now (map leaf_call xs) old old (Ok tt)) (sym (drop_all changes at le))
    (none_made core now old h.unspent))

-- ---- the call itself, and then the others

pub own_made : (core : Topology) (now : ℕ) (call : Option Call) (more : List Call) (old mid new : NodeData) (result : Result (Unit {0}) NodeFault)
    → AnswersAll core now (one_call call) old mid (Ok tt) → (call ≡ None → mid ≡ old) → AnswersAll core now more mid new result
    → AnswersAll core now (one_call call ++ more) old new result
own_made core now None more old mid new result h same k = subst (λ (n : NodeData). AnswersAll core now more n new result) (same refl) k
own_made core now (Some call) more old mid new result h same k = then_made core now call more old mid new result h k

pub own_stopped : (core : Topology) (now : ℕ) (call : Option Call) (more : List Call) (old new : NodeData) (fault : NodeFault)
    → AnswersAll core now (one_call call) old new (Err fault) → AnswersAll core now (one_call call ++ more) old new (Err fault)
own_stopped core now None more old new fault h = record {
  place = h.place;
  before = h.before;
  unspent = tt;
  made = tt;
  goes_on = tt;
  toward = tt;
  lacks = λ e none own is. absurd (none-some LacksLabel (sym none ∙ h.lacks e none own is));
  faults = h.faults;
}
own_stopped core now (Some call) more old new fault h = stopped core now call more old new fault h
