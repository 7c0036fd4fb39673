-- What a line of zeros tells.
use Rattle.std.specs.Prelude.{sum_by, count_by}
use Rattle.std.proofs.Common.{◌≡◌, ℕ, Bool, true, false, not, cond, List, [], ◌∷◌, length, refl, arith}
use Rattle.std.specs.List.{AllByRecursion}
use Rattle.std.proofs.lemmas.List.Sums.{sum_by-cons}
use Rattle.mvpn_model.specs.Sessions.{sessions}
use Rattle.mvpn_model.specs.declared.session.Session.{Session}
use Rattle.scenario_defs.specs.declared.report.ReportLine.TheVariants as lines
use Rattle.network_defs.specs.declared.session_defs.direction.Direction.{Direction}
use Rattle.network_defs.specs.Counts.{directions, all_nodes, node_due, octets_in_transit, due_timers, unready, state_line, is_ready}
use Rattle.network_defs.specs.World.{World, scenario_of}
use Rattle.once_laws.specs.Zeros.{Zeros}
use Rattle.edge_words.proofs.calm_laws.Maps.{none_of_length}
use Rattle.label_defs.proofs.MemberLemmas.{count-cons}
use Rattle.network_laws.proofs.Lists.{each_weaker}
use Rattle.mldp.proofs.mldp_msgs.Fronts.{not_false}

pub each_zero : {X : Type 0} (f : X → ℕ) (xs : List X) → sum_by f xs ≡ 0 → AllByRecursion (λ x. f x ≡ 0) xs
each_zero f [] e = tt
each_zero f (x ∷ xs) e = (let s = sum_by-cons f x xs in (omega (arith, s, e), each_zero f xs (omega (arith, s, e))))

pub none_counted : {X : Type 0} (p : X → Bool) (xs : List X) → count_by p xs ≡ 0 → AllByRecursion (λ x. p x ≡ false) xs
none_counted p [] e = tt
none_counted p (x ∷ xs) e =
    let s = count-cons p x xs in
    let here : (b : Bool) → cond {A = ℕ} b 1 0 ≡ 0 → b ≡ false =
    λ b. elim b as (λ b. cond {A = ℕ} b 1 0 ≡ 0 → b ≡ false) [ true ↦ (λ h. absurd (omega (arith, h))) | false ↦ (λ h. refl) ] in
    (here (p x) (omega (arith, s, e)), none_counted p xs (omega (arith, s, e)))

pub zeros_of : (world : World) → state_line world ≡ lines.State 0 0 0 0 0 → Zeros world
zeros_of world e =
    let transit : octets_in_transit world ≡ 0 = cc in
    let timers : due_timers world ≡ 0 = cc in
    let sessions_not : unready world ≡ 0 = cc in
    record {
      transit =
          each_weaker (λ (over : Direction). length (world.network.transit over) ≡ 0) (λ (over : Direction). world.network.transit over ≡ [])
          (λ over h. none_of_length (world.network.transit over) h) (directions (scenario_of world))
          (each_zero (λ (over : Direction). length (world.network.transit over)) (directions (scenario_of world)) transit);
      due = each_zero (node_due world.network.state) (all_nodes (scenario_of world)) timers;
      ready = each_weaker (λ (session : Session). not (is_ready world session) ≡ false) (λ (session : Session). is_ready world session ≡ true)
          (λ session h. not_false (is_ready world session) h) (sessions (scenario_of world))
          (none_counted (λ (session : Session). not (is_ready world session)) (sessions (scenario_of world)) sessions_not);
    }
