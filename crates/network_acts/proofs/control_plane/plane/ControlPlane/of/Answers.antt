use Rattle.std.proofs.Common.{◌≡◌, length, map, refl, subst}
use Rattle.scenario_defs.specs.declared.scenario.Scenario.{Scenario}
use Rattle.network_laws.specs.Sound.{HasOctets}
use Rattle.net_sessions.specs.session_ways.Ways.{ways_from}
use Rattle.network_defs.specs.Counts.{all_nodes, directions}
use Rattle.network_acts.proofs.control_plane.StartLemmas.{first_plane}
use Rattle.network_acts.proofs.control_plane.PlaceLemmas.{first_placed}
use Rattle.network_acts.proofs.control_plane.plane.ControlPlane.of.Goals as goal

pub returns-clause-begins : goal.returns-clause-begins
returns-clause-begins c =
    first_plane c.args.scenario.now _ c.requires (subst HasOctets c.lent-known.ensures c.scenario_has_octets.ensures) c.in_ok-nodes.ensures
    (subst (λ (scenario : Scenario). c.in_ok-ways.ways ≡ map (λ n. ways_from n (directions scenario)) (all_nodes scenario)) c.lent-known.ensures
    c.in_ok-ways.ensures) c.of.ensures
    (subst (λ (scenario : Scenario). c.in_ok-core.core ≡ record { nodes = length scenario.nodes; links = scenario.links }) c.lent-known.ensures
    c.in_ok-core.ensures) refl

pub returns-clause-placed : goal.returns-clause-placed
returns-clause-placed c = first_placed c.args.scenario.now _ c.in_ok-nodes.ensures
