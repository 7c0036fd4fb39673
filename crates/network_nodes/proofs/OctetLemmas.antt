-- What a node answers that takes octets of a session.
use Rattle.std.proofs.Common.{◌≡◌, refl, ap, subst, ℕ, inl, inr, List, [], ◌∷◌, ◌⊎◌, Result, Ok, Err}
use Rattle.mv_base.specs.Lists.{Among}
use Rattle.mv_base.specs.declared.ids.NodeId.{NodeId}
use Rattle.mv_base.specs.core_walks.Topology.{Topology}
use Rattle.scenario_defs.specs.declared.event.Kind.{Kind}
use Rattle.scenario_defs.specs.declared.event.Kind.TheVariants as kinds
use Rattle.network_defs.specs.node_defs.EdgeState.{took}
use Rattle.wire_laws.specs.CoreNodes.{core_took}
use Rattle.wire_laws.specs.Edges.{session_with}
use Rattle.edge_core.specs.Taking as edges
use Rattle.edge_core.specs.View.{EdgeView}
use Rattle.edge_core.specs.declared.fault.EdgeFault.{EdgeFault}
use Rattle.edge_core.specs.declared.fault.EdgeFault.TheVariants as faults
use Rattle.network_nodes.specs.core_node.Taking as cores
use Rattle.network_nodes.specs.core_node.View.{CoreView}
use Rattle.network_nodes.specs.declared.core_node.fault.CoreFault.{CoreFault}
use Rattle.network_nodes.specs.declared.core_node.fault.CoreFault.TheVariants as core_faults
use Rattle.network_nodes.specs.Answers.{AnswersOctets, IsSessionFault, fault_as, taking, told_as}
use Rattle.network_nodes.specs.declared.node.NetworkNode.TheVariants as nodes
use Rattle.network_nodes.proofs.AnswerLemmas.{CoreStep, EdgeStep, core_answers, core_made, edge_answers, edge_made}

abbrev edge_took : Kind → NodeId → List ℕ → EdgeStep
edge_took kind from octets place clock state = took place clock (session_with kind from) octets state

abbrev core_takes : NodeId → List ℕ → CoreStep
core_takes from octets place known clock state = core_took place known clock from octets state

pub edge_octets : (core : Topology) (now : ℕ) (kind : Kind) (from : NodeId) (octets : List ℕ) (old new : EdgeView)
    (result : Result (Unit {0}) EdgeFault)
    → edges.AnswersOctets core now (session_with kind from) octets old new result
    → AnswersOctets core now kind from octets (nodes.Edge old) (nodes.Edge new) result
edge_octets core now kind from octets old new result row = record {
  answers = edge_answers core now (edge_took kind from octets) (taking kind from octets) old new result (λ network n state. refl) row.answers;
  sound = row.sound;
  taken = λ fault e none goes. edge_made core now (edge_took kind from octets) old new result (taking kind from octets) (λ network n state. refl)
      (row.taken fault e none goes);
  only = row.only;
}

told_among : (fault : CoreFault) → Among fault (core_faults.NoLabel ∷ core_faults.NoMemory ∷ [])
    → Among (fault_as fault) (faults.NoLabel ∷ faults.NoMemory ∷ [])
told_among core_faults.NoLabel h = inl refl
told_among core_faults.NoMemory h = inr (inl refl)
told_among (core_faults.Session peer place reason) (inl e) = absurd cc
told_among (core_faults.Session peer place reason) (inr (inl e)) = absurd cc
told_among (core_faults.Session peer place reason) (inr (inr none)) = absurd none

told_only : (from : NodeId) (new : CoreView) (fault : CoreFault)
    → Among fault (core_faults.NoLabel ∷ core_faults.NoMemory ∷ []) ⊎ cores.IsSessionFault from new fault
    → Among (fault_as fault) (faults.NoLabel ∷ faults.NoMemory ∷ []) ⊎ IsSessionFault kinds.Ldp from (nodes.CoreNode new) (fault_as fault)
told_only from new fault (inl among) = inl (told_among fault among)
told_only from new fault (inr (place, reason, is, told)) = inr (place, reason, ap fault_as is, told)

one_fault : (a b : EdgeFault) → ◌≡◌ {A = Result (Unit {0}) EdgeFault} (Err a) (Err b) → a ≡ b
one_fault a b e = cc

pub core_octets : (core : Topology) (now : ℕ) (from : NodeId) (octets : List ℕ) (old new : CoreView) (result : Result (Unit {0}) CoreFault)
    → cores.AnswersOctets core now from octets old new result
    → AnswersOctets core now kinds.Ldp from octets (nodes.CoreNode old) (nodes.CoreNode new) (told_as result)
core_octets core now from octets old new (Ok done) row = record {
  answers = core_answers core now (core_takes from octets) (taking kinds.Ldp from octets) old new (Ok done) (λ network n state. refl) row.answers;
  sound = row.sound;
  taken = λ fault e. absurd cc;
  only = λ fault e. absurd cc;
}
core_octets core now from octets old new (Err fault) row = record {
  answers = core_answers core now (core_takes from octets) (taking kinds.Ldp from octets) old new (Err fault) (λ network n state. refl) row.answers;
  sound = tt;
  taken = λ other e none goes. core_made core now (core_takes from octets) (taking kinds.Ldp from octets) old new (λ network n state. refl)
      (row.taken fault refl none goes);
  only = λ other e. subst (λ (f : EdgeFault). Among f (faults.NoLabel ∷ faults.NoMemory ∷ []) ⊎ IsSessionFault kinds.Ldp from (nodes.CoreNode new) f)
      (one_fault (fault_as fault) other e) (told_only from new fault (row.only fault refl));
}
