-- Datagrams enter on tunnels of their VPN.
use Rattle.std.proofs.Common.{◌≡◌, ◌-◌, ◌++◌, ℕ, suc, slice_get, List, [], ◌∷◌, length, Some, refl, sym, ap, subst, ◌∙◌, arith}
use Rattle.std.proofs.lemmas.List.{append_assoc}
use Rattle.scenario_defs.specs.Rules.{Rules}
use Rattle.scenario_defs.specs.declared.scenario.Scenario.{Scenario}
use Rattle.selective_defs.specs.Selective.{transmitted}
use Rattle.edge_defs.specs.Tunnels.{selections_of, number_by}
use Rattle.network_defs.specs.Nodes.{NodeState}
use Rattle.network_defs.specs.Refusals.{control_of}
use Rattle.network_defs.specs.World.{Datagram, scenario_of, numbered}
use Rattle.network_defs.proofs.Numbered.{numbered_at}
use Rattle.rule_laws.specs.Labels.{vpn_of_datagram}
use Rattle.rule_laws.proofs.Events.{Enters}
use Rattle.rule_laws.proofs.Numbers.{NumbersOk}
use Rattle.rule_laws.proofs.Vpns.{number_small, entering_vpn}

at_end : (before : List Datagram) (datagram : Datagram) (more : List Datagram) → slice_get (before ++ datagram ∷ more) (length before) ≡ Some datagram
at_end [] datagram more = refl
at_end (first ∷ before) datagram more = at_end before datagram more

one_longer : (before : List Datagram) (datagram : Datagram) → length (before ++ datagram ∷ []) ≡ suc (length before)
one_longer [] datagram = refl
one_longer (first ∷ before) datagram = ap suc (one_longer before datagram)

pub last_is : (before : List Datagram) (datagram : Datagram) (later : List Datagram)
    → numbered ((before ++ datagram ∷ []) ++ later) (length (before ++ datagram ∷ [])) ≡ Some datagram
last_is before datagram later =
    let longer = one_longer before datagram in
    let place : length (before ++ datagram ∷ []) - 1 ≡ length before = omega (arith, longer) in
    numbered_at ((before ++ datagram ∷ []) ++ later) (length (before ++ datagram ∷ [])) (omega (arith, longer))
    ∙ (λ i. slice_get (append_assoc before (datagram ∷ []) later i) (place i)) ∙ at_end before datagram later

pub enters : Enters
enters scenario world before datagram id s is_all attached vrf edge source group later known at =
    let rules : Rules (scenario_of world) = subst (λ (own : Scenario). Rules own) (sym s.2.base.sound.same) s.2.base.sound.lines.rules in
    let numbers : NumbersOk edge.control = subst (λ (state : NodeState). NumbersOk (control_of state)) at (s.2.base.numbers vrf.edge) in
    let number : ℕ = number_by (transmitted (selections_of edge.control id) source group) in
    entering_vpn (scenario_of world) rules id vrf number datagram known (number_small edge.control id source group numbers) attached
    ∙ sym (ap (vpn_of_datagram (scenario_of world)) ((λ i. numbered (is_all i ++ later) (length (is_all i))) ∙ last_is before datagram later))
