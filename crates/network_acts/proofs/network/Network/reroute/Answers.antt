use Rattle.std.proofs.Common.{refl, [], ◌∷◌}
use Rattle.network_defs.specs.session_defs.Octets as octets
use Rattle.network_defs.specs.Acts as acts
use Rattle.network_defs.specs.System.{Follow}
use Rattle.network_acts.specs.control_plane.Acted.{IsWithin, no_lines, with_current}
use Rattle.network_acts.proofs.PlaneActs.{acts_as, some_here, some_plane}
use Rattle.network_acts.proofs.control_plane.FollowLemmas.{follow_done, follow_midway}
use Rattle.network_acts.proofs.control_plane.OwnLemmas.{count_here}
use Rattle.network_acts.proofs.control_plane.PlaceLemmas.{act_places}
use Rattle.network_acts.proofs.network.Network.reroute.Goals as goal

pub rerouted-answer-requires-clause-nodes : goal.rerouted-answer-requires-clause-nodes
rerouted-answer-requires-clause-nodes c =
    count_here (IsWithin c.args.n) c.args.n (λ at fits. fits) _
    (some_here (IsWithin c.args.n) _ c.args.self.now c.self.view_is _ c.plane.view_is c.requires.network)
    c.from.result c.from.ensures c.index_mut.result.now c.index_mut.result.now c.index_mut.ensures.value

pub settle-requires-clause-midway : goal.settle-requires-clause-midway
settle-requires-clause-midway c =
    follow_midway _ c.self.inside.plane c.plane.view_is c.args.n
    (some_plane (IsWithin c.args.n) _ c.args.self.now c.self.view_is c.requires.network)
    c.from.result c.from.ensures c.index_mut.result.now c.index_mut.result.now c.rerouted-answer.new.self c.index_mut.ensures.value
    c.rerouted-answer.result c.rerouted-answer.ensures.answers c.rerouted-answer.ensures.toward

pub returns : goal.returns
returns c =
    acts_as _ c.args.self.now c.self.view_is c.settle.new.self (IsWithin c.args.n) (with_current c.args.n) (acts.Reroute c.args.n) c.args.n
    (octets.Call (Follow c.args.n) ∷ []) no_lines c.args.lines.now c.settle.new.lines c.settle.result (λ at. refl)
    (follow_done _ c.self.inside.plane c.plane.view_is c.args.n
    (some_plane (IsWithin c.args.n) _ c.args.self.now c.self.view_is c.requires.network)
    c.from.result c.from.ensures c.index_mut.result.now c.index_mut.result.now c.rerouted-answer.new.self c.index_mut.ensures.value
    c.rerouted-answer.result c.rerouted-answer.ensures.answers c.rerouted-answer.ensures.toward
    c.settle.new.self c.args.lines.now c.settle.new.lines c.settle.result c.settle.ensures.acts)

pub invariant_of-self : goal.invariant_of-self
invariant_of-self c =
    (act_places _ c.self.inside.plane c.plane.view_is c.from.result c.index_mut.result.now c.index_mut.result.now c.rerouted-answer.new.self
    c.index_mut.ensures.value c.rerouted-answer.ensures.answers.placed _ c.settle.new.self refl
    c.settle.ensures.places).keeps c.self.inside.scenario c.self.invariant
