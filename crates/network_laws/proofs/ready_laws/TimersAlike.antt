-- Timers change alike where the sessions stand by the events and in the network.
use Rattle.std.specs.Prelude.{if◌then◌else◌}
use Rattle.std.proofs.Common.{◌≡◌, ℕ, ◌+◌, ◌<◌, ◌≤◌, ◌==◌, zero, suc, Bool, true, false, cond, map, length, List, Option, Some, None, inl, inr, refl, sym, ap, ◌∙◌, arith}
use Rattle.std.proofs.Math.Numerals.{lt_of_le_of_ne}
use Rattle.std.proofs.lemmas.Bool.{cases_eq, cond-false, eq-eqb, ne_eqb}
use Rattle.mv_base.specs.declared.ids.NodeId.{NodeId}
use Rattle.scenario_defs.specs.declared.event.Kind.{Kind}
use Rattle.scenario_defs.specs.declared.event.Kind.TheVariants as kinds
use Rattle.scenario_defs.specs.declared.scenario.Scenario.{Scenario}
use Rattle.network_defs.specs.mvpn_model.declared.readiness.UpEnd.{UpEnd}
use Rattle.network_defs.specs.mvpn_model.Unready.{hold_run}
use Rattle.network_defs.specs.mvpn_model.Sessions.{sessions}
use Rattle.network_defs.specs.mvpn_model.declared.session.Session.{Session}
use Rattle.network_defs.specs.Acts.{Act, Timers}
use Rattle.network_defs.specs.Counts.{node_ids}
use Rattle.network_defs.specs.mvpn_model.Unready.{SessionsStand, timed}
use Rattle.network_laws.proofs.ready_laws.Ends.{end_run}
use Rattle.network_laws.proofs.ready_laws.ActsStand.{act_stand}
use Rattle.network_laws.proofs.ready_laws.Outcomes.{acts_stand}
use Rattle.network_defs.proofs.mvpn_model.SessionLemmas.{IsIn}
use Rattle.network_laws.proofs.ready_laws.Alike.{Alike}

run_told : (life now : ℕ) (t : Bool) (o : Option UpEnd)
    → elim o [ None ↦ None | Some end ↦ Some (if t then hold_run life now end else end) ] ≡ cond t (end_run life now o) o
run_told life now true None = refl
run_told life now false None = refl
run_told life now true (Some end) = refl
run_told life now false (Some end) = refl

pub timers_alike : (scenario : Scenario) (told standing : SessionsStand) (node : NodeId) → Alike scenario told standing
    → Alike scenario (timed scenario (λ n. n.0 == node.0) told) (act_stand scenario (Timers node) standing)
timers_alike scenario told standing node h =
    record {
      clock = h.clock;
      each = λ session is.
          let x = h.each session is in
          record {
            joined = x.joined;
            near = λ k.
                let e = x.near k in
                run_told scenario.life told.clock (session.a.0 == node.0) (told.end kinds.Ldp session.a session.b)
                ∙ (λ i. cond (session.a.0 == node.0) (end_run scenario.life (h.clock i) (e i)) (e i));
            far = λ k.
                let e = x.far k in
                run_told scenario.life told.clock (session.b.0 == node.0) (told.end kinds.Ldp session.b session.a)
                ∙ (λ i. cond (session.b.0 == node.0) (end_run scenario.life (h.clock i) (e i)) (e i));
          };
    }

-- after the timers of the nodes from that number on, so many
pub record AllRun (scenario : Scenario) (number count : ℕ) (old new : SessionsStand) : Type 0 where
  pub clock : new.clock ≡ old.clock
  pub joined : (kind : Kind) (a b : NodeId) → new.joined kind a b ≡ old.joined kind a b
  pub below : (n peer : NodeId) → n.0 < number → new.end kinds.Ldp n peer ≡ old.end kinds.Ldp n peer
  pub within : (n peer : NodeId) → number ≤ n.0 → n.0 < number + count
      → new.end kinds.Ldp n peer ≡ end_run scenario.life old.clock (old.end kinds.Ldp n peer)

abbrev pub timers_from : ℕ → ℕ → List Act
timers_from number count = map (λ n. Timers n) (node_ids number count)

ran_here : (t : Bool) (old run : Option UpEnd) → t ≡ true → cond t run old ≡ run
ran_here true old run e = refl
ran_here false old run e = absurd cc

after_it : (n number : ℕ) → number ≤ n → (n ≡ number → ⊥) → number + 1 ≤ n
after_it n number le ne = let lt = lt_of_le_of_ne le (λ e. ne (sym e)) in omega (arith, lt)

pub all_run : (scenario : Scenario) (number count : ℕ) (old : SessionsStand)
    → AllRun scenario number count old (acts_stand scenario (timers_from number count) old)
all_run scenario number zero old =
    record { clock = refl; joined = λ kind a b. refl; below = λ n peer lt. refl; within = λ n peer le lt. absurd (omega (arith, le, lt)) }
all_run scenario number (suc count) old =
    let first : NodeId = record { 0 = number } in
    let next = act_stand scenario (Timers first) old in
    let x = all_run scenario (number + 1) count next in
    record {
      clock = x.clock;
      joined = x.joined;
      below = λ n peer lt.
          x.below n peer (omega (arith, lt))
          ∙ cond-false (n.0 == number) (end_run scenario.life old.clock (old.end kinds.Ldp n peer)) (old.end kinds.Ldp n peer)
          (ne_eqb n.0 number (λ e. omega (arith, e, lt)));
      within = λ n peer le lt. elim (cases_eq n.0 number) [
        | inl e ↦ x.below n peer (omega (arith, e))
            ∙ ran_here (n.0 == number) (old.end kinds.Ldp n peer) (end_run scenario.life old.clock (old.end kinds.Ldp n peer)) (eq-eqb n.0 number e)
        | inr ne ↦ x.within n peer (after_it n.0 number le ne) (omega (arith, lt))
            ∙ ap (end_run scenario.life old.clock) (cond-false (n.0 == number) (end_run scenario.life old.clock (old.end kinds.Ldp n peer))
            (old.end kinds.Ldp n peer) (ne_eqb n.0 number ne))
      ];
    }

-- ---- the timers of all nodes

-- The ends of sessions over LDP are of nodes of the scenario.
abbrev pub HasNodes : Scenario → Type 0
HasNodes scenario =
    (session : Session) → IsIn session (sessions scenario) → session.kind ≡ kinds.Ldp
    → (session.a.0 < length scenario.nodes) × (session.b.0 < length scenario.nodes)

pub settle_alike : (scenario : Scenario) (told standing : SessionsStand) → HasNodes scenario → Alike scenario told standing
    → Alike scenario (timed scenario (λ n. true) told) (acts_stand scenario (timers_from 0 (length scenario.nodes)) standing)
settle_alike scenario told standing has h =
    let x = all_run scenario 0 (length scenario.nodes) standing in
    record {
      clock = h.clock ∙ sym x.clock;
      each = λ session is.
          let y = h.each session is in
          record {
            joined = y.joined ∙ sym (x.joined session.kind session.a session.b);
            near = λ k.
                let e = y.near k in
                run_told scenario.life told.clock true (told.end kinds.Ldp session.a session.b)
                ∙ (λ i. end_run scenario.life (h.clock i) (e i))
                ∙ (let lt = (has session is k).0 in sym (x.within session.a session.b (omega arith) (omega (arith, lt))));
            far = λ k.
                let e = y.far k in
                run_told scenario.life told.clock true (told.end kinds.Ldp session.b session.a)
                ∙ (λ i. end_run scenario.life (h.clock i) (e i))
                ∙ (let lt = (has session is k).1 in sym (x.within session.b session.a (omega arith) (omega (arith, lt))));
          };
    }
