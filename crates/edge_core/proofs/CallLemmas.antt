-- What the calls of an edge answer, by what its parts answer.
use Rattle.std.proofs.Common.{◌≡◌, ◌∙◌, refl, sym, ap, subst, ℕ, inl, inr, true, false, List, [], ◌∷◌, Option, None, Some, Result, Ok, Err, option_map}
use Rattle.std.proofs.lemmas.Option.{none-some, same_Some}
use Rattle.mv_base.specs.Lists.{Among}
use Rattle.mv_base.specs.declared.ids.IfaceId.{IfaceId}
use Rattle.mv_base.specs.core_walks.Topology.{Topology}
use Rattle.pim_joinprune.specs.declared.message.JoinPrune.{JoinPrune}
use Rattle.label_defs.specs.Node.{Spent, LacksLabel, LacksMemory}
use Rattle.edge_defs.specs.Edge.{Control}
use Rattle.edge_defs.specs.Steps.{Call, Customer, Label, Noticed, Pim, Raised, Rerouted, Timers, Update}
use Rattle.mldp_node.specs.NodeData.{NodeData, cause}
use Rattle.mldp_node.specs.declared.fault.NodeFault.{NodeFault}
use Rattle.edge_core.specs.declared.fault.EdgeFault.{EdgeFault}
use Rattle.edge_core.specs.declared.fault.EdgeFault.TheVariants as faults
use Rattle.edge_core.specs.declared.parts.Parts.{Parts}
use Rattle.edge_core.specs.Answers.{IsOneOf, OnTaken, fault_of, spent_by}
use Rattle.edge_core.specs.Called.{SettlesCall, thereafter, going, seen, spent_after}
use Rattle.edge_core.specs.Calls.{AnswersCall, IsToward, MakesCall, is_full, refusals_of}
use Rattle.edge_core.specs.State.{IsLive, data_of}
use Rattle.edge_core.specs.View.{EdgeView}
use Rattle.edge_core.proofs.StepLemmas.{one_fault}

-- some core
abbrev pub any_topology : Topology
any_topology = record { nodes = 0; links = [] }

-- why an edge is spent, as it is kept and as it is seen
seen_after : (parts : Parts) (spent : Option NodeFault) (result : Result (Unit {0}) EdgeFault) → option_map cause spent ≡ spent_after result
    → thereafter parts result ≡ seen parts spent
seen_after parts spent result e =
    λ i. record { routing = parts.routing; labels = parts.labels; streams = parts.streams; raised = parts.raised; spent = sym e i }

pub none_after : (spent : Option NodeFault) (result : Result (Unit {0}) EdgeFault) → option_map cause spent ≡ spent_after result → spent ≡ None
    → spent_after result ≡ None
none_after spent result e h = sym e ∙ ap (λ (s : Option NodeFault). option_map cause s) h

-- What the parts of an edge make of a call, that is not spent, is what the edge answers.
pub call_seen : (core : Topology) (now : ℕ) (call : Call) (parts new : Parts) (spent new_spent : Option NodeFault) (edge : EdgeView)
    (result : Result (Unit {0}) EdgeFault)
    → spent ≡ None → seen parts spent ≡ edge → option_map cause new_spent ≡ spent_after result → MakesCall core now call parts new result
    → AnswersCall core now call edge (seen new new_spent) result
call_seen core now call parts new spent new_spent edge result none is e made =
    subst (λ (old : EdgeView). AnswersCall core now call old (seen new new_spent) result) ((λ i. seen parts (sym none i)) ∙ is)
    (subst (λ (v : EdgeView). AnswersCall core now call (going parts) v result) (seen_after new new_spent result e) (record {
      answers = made.settles.answers;
      only = made.only;
      fits = λ unspent. made.fits;
      full = λ full. (
        (made.full full).0,
        ap (λ (r : Result (Unit {0}) EdgeFault). thereafter new r) full ∙ ap (λ (p : Parts). going p) (made.full full).1,
      );
      toward = made.toward;
    }))

-- after other costs nothing is said of a call that is not made
not_toward : (core : Topology) (call : Call) (labels : NodeData) (fault : EdgeFault) → IsToward core call labels (Err fault)
not_toward core Rerouted labels fault = tt
not_toward core (Update peer message) labels fault = tt
not_toward core (Label neighbour message) labels fault = tt
not_toward core (Customer call) labels fault = tt
not_toward core (Raised kind peer) labels fault = tt
not_toward core (Noticed kind peer) labels fault = tt
not_toward core Timers labels fault = tt

-- What an edge answers that is spent.
pub call_spent : (core : Topology) (now : ℕ) (call : Call) (edge : EdgeView) (spent : Spent) → edge.spent ≡ Some spent
    → (result : Result (Unit {0}) EdgeFault) → result ≡ Err (fault_of spent) → AnswersCall core now call edge edge result
call_spent core now call edge spent is result e =
    subst (λ (r : Result (Unit {0}) EdgeFault). AnswersCall core now call edge edge r) (sym e) (record {
      answers = record {
        home = refl;
        before = λ other at. (ap (λ (s : Spent). Err (fault_of s)) (same_Some spent other (sym is ∙ at)), refl);
        unspent = tt;
        made = tt;
        goes_on = tt;
        toward = λ none. absurd (some_not_none none);
        lacks = λ lacking none. absurd (some_not_none none);
        spends = λ fault told none. absurd (some_not_none none);
      };
      only = λ fault told. only spent fault told;
      fits = λ none. absurd (some_not_none none);
      full = λ told. absurd (not_full spent told);
      toward = not_toward core call edge.labels (fault_of spent);
    })
  where
    some_not_none : edge.spent ≡ None → ⊥
    some_not_none none = none-some spent (sym none ∙ is)

    only : (s : Spent) (fault : EdgeFault) → ◌≡◌ {A = Result (Unit {0}) EdgeFault} (Err (fault_of s)) (Err fault)
        → Among fault (faults.NoLabel ∷ faults.NoMemory ∷ refusals_of call)
    only LacksLabel fault told = inl (sym (one_fault faults.NoLabel fault told))
    only LacksMemory fault told = inr (inl (sym (one_fault faults.NoMemory fault told)))

    not_full : (s : Spent) → ◌≡◌ {A = Result (Unit {0}) EdgeFault} (Err (fault_of s)) (Err faults.Full) → ⊥
    not_full LacksLabel told = absurd cc
    not_full LacksMemory told = absurd cc

-- what holds anyway holds where a call is taken
always : (P : Type 0) → P → (result : Result (Unit {0}) EdgeFault) → OnTaken result P
always P p (Ok done) = p
always P p (Err fault) = by fault
  where
    by : (fault : EdgeFault) → OnTaken (Err fault) P
    by faults.NoLabel = p
    by faults.NoMemory = tt
    by faults.Full = tt
    by faults.NotOurs = tt
    by (faults.Pim place fault) = tt
    by (faults.Session peer place reason) = tt

-- A call for which there is always room.
pub plain_call : (core : Topology) (now : ℕ) (call : Call) (old new : Parts) (result : Result (Unit {0}) EdgeFault)
    → ((control : Control) → is_full control now call ≡ false) → [] ≡ refusals_of call
    → SettlesCall core now call (going old) new result → IsOneOf [] result → IsToward core call new.labels result
    → MakesCall core now call old new result
plain_call core now call old new result room none settles only toward = record {
  settles = settles;
  only = subst (λ (refusals : List EdgeFault). IsOneOf refusals result) none only;
  fits = always (is_full (data_of (going old)).control now call ≡ false) (room (data_of (going old)).control) result;
  full = λ e. absurd (spending (only faults.Full e));
  toward = toward;
}
  where
    spending : Among faults.Full (faults.NoLabel ∷ faults.NoMemory ∷ []) → ⊥
    spending (inl is) = absurd cc
    spending (inr (inl is)) = absurd cc
    spending (inr (inr is)) = is

-- A call for which there was room.
pub roomy_call : (core : Topology) (now : ℕ) (call : Call) (old new : Parts) (result : Result (Unit {0}) EdgeFault)
    → is_full (data_of (going old)).control now call ≡ false → SettlesCall core now call (going old) new result → IsOneOf [] result
    → IsToward core call new.labels result → MakesCall core now call old new result
roomy_call core now call old new result room settles only toward = record {
  settles = settles;
  only = λ fault e. more fault (only fault e);
  fits = always (is_full (data_of (going old)).control now call ≡ false) room result;
  full = λ e. absurd (not_spending (only faults.Full e));
  toward = toward;
}
  where
    more : (fault : EdgeFault) → Among fault (faults.NoLabel ∷ faults.NoMemory ∷ [])
        → Among fault (faults.NoLabel ∷ faults.NoMemory ∷ refusals_of call)
    more fault (inl is) = inl is
    more fault (inr (inl is)) = inr (inl is)
    more fault (inr (inr none)) = absurd none

    not_spending : Among faults.Full (faults.NoLabel ∷ faults.NoMemory ∷ []) → ⊥
    not_spending (inl is) = absurd cc
    not_spending (inr (inl is)) = absurd cc
    not_spending (inr (inr is)) = is

-- A message for which there was no room.
pub full_call : (core : Topology) (now : ℕ) (iface : IfaceId) (message : JoinPrune) (old new : Parts)
    → IsLive old.routing old.labels old.streams → is_full (data_of (going old)).control now (Customer (Pim iface message)) ≡ true → new ≡ old
    → MakesCall core now (Customer (Pim iface message)) old new (Err faults.Full)
full_call core now iface message old new live over same =
    subst (λ (parts : Parts). MakesCall core now (Customer (Pim iface message)) old parts (Err faults.Full)) (sym same) (record {
      settles = record {
        answers = record {
          home = refl;
          before = λ spent is. absurd (none-some spent is);
          unspent = tt;
          made = tt;
          goes_on = tt;
          toward = λ none own is waits. waits;
          lacks = λ e none. absurd (no_label e);
          spends = λ fault e none. ap spent_by (one_fault faults.Full fault e);
        };
        live = λ none. live;
      };
      only = λ fault e. inr (inr (inl (sym (one_fault faults.Full fault e))));
      fits = tt;
      full = λ e. (over, refl);
      toward = tt;
    })
  where
    no_label : ◌≡◌ {A = Result (Unit {0}) EdgeFault} (Err faults.Full) (Err faults.NoLabel) → ⊥
    no_label e = absurd cc

-- A message for which memory was wanted.
pub lacking_call : (core : Topology) (now : ℕ) (iface : IfaceId) (message : JoinPrune) (old new : Parts)
    → new.routing.control.home ≡ old.routing.control.home → MakesCall core now (Customer (Pim iface message)) old new (Err faults.NoMemory)
lacking_call core now iface message old new home = record {
  settles = record {
    answers = record {
      home = home;
      before = λ spent is. absurd (none-some spent is);
      unspent = tt;
      made = tt;
      goes_on = tt;
      toward = λ none. absurd (none-some LacksMemory (sym none));
      lacks = λ e none. absurd (no_label e);
      spends = λ fault e none. ap spent_by (one_fault faults.NoMemory fault e);
    };
    live = λ none. absurd (none-some LacksMemory (sym none));
  };
  only = λ fault e. inr (inl (sym (one_fault faults.NoMemory fault e)));
  fits = tt;
  full = λ e. absurd (not_full e);
  toward = tt;
}
  where
    no_label : ◌≡◌ {A = Result (Unit {0}) EdgeFault} (Err faults.NoMemory) (Err faults.NoLabel) → ⊥
    no_label e = absurd cc

    not_full : ◌≡◌ {A = Result (Unit {0}) EdgeFault} (Err faults.NoMemory) (Err faults.Full) → ⊥
    not_full e = absurd cc
