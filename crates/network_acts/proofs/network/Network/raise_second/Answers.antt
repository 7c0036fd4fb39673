use Rattle.std.proofs.Common.{refl, [], ◌∷◌}
use Rattle.network_defs.specs.session_defs.Octets as octets
use Rattle.edge_defs.specs.Steps as steps
use Rattle.network_defs.specs.Acts as acts
use Rattle.network_defs.specs.System.{Own}
use Rattle.network_nodes.proofs.wire_laws.WayLemmas.{reversed}
use Rattle.network_acts.specs.control_plane.Acted.{no_lines}
use Rattle.network_acts.specs.control_plane.Sessions.{IsHalfUp, none_rising}
use Rattle.network_acts.proofs.PlaneActs.{acts_as, some_here, some_plane}
use Rattle.network_acts.proofs.control_plane.BeginLemmas.{turn_done, turn_midway}
use Rattle.network_acts.proofs.control_plane.EndLemmas.{down_here, peer_here}
use Rattle.network_acts.proofs.control_plane.OwnLemmas.{count_here}
use Rattle.network_acts.proofs.control_plane.PlaceLemmas.{act_places}
use Rattle.network_acts.proofs.control_plane.RaiseLemmas.{second_begins}
use Rattle.network_acts.proofs.network.Network.raise_second.Goals as goal

pub raised-answer-requires-clause-nodes : goal.raised-answer-requires-clause-nodes
raised-answer-requires-clause-nodes c =
    count_here (IsHalfUp c.args.kind c.args.a c.args.b) c.args.b (λ at fits. fits.within) _
    (some_here (IsHalfUp c.args.kind c.args.a c.args.b) _ c.args.self.now c.self.view_is _ c.plane.view_is c.requires.network)
    c.from.result c.from.ensures c.index_mut.result.now c.index_mut.result.now c.index_mut.ensures.value

pub raised-answer-requires-clause-peer : goal.raised-answer-requires-clause-peer
raised-answer-requires-clause-peer c =
    peer_here (IsHalfUp c.args.kind c.args.a c.args.b) c.args.b (λ at fits. fits.within) _
    (some_here (IsHalfUp c.args.kind c.args.a c.args.b) _ c.args.self.now c.self.view_is _ c.plane.view_is c.requires.network)
    c.from.result c.from.ensures c.index_mut.result.now c.index_mut.result.now c.index_mut.ensures.value c.args.kind c.args.a
    (λ at fits. reversed at.scenario c.args.kind c.args.a c.args.b fits.way)

pub raised-answer-requires-clause-down : goal.raised-answer-requires-clause-down
raised-answer-requires-clause-down c = λ none.
    down_here (IsHalfUp c.args.kind c.args.a c.args.b) c.args.b (λ at fits. fits.within) _
    (some_here (IsHalfUp c.args.kind c.args.a c.args.b) _ c.args.self.now c.self.view_is _ c.plane.view_is c.requires.network)
    c.from.result c.from.ensures c.index_mut.result.now c.index_mut.result.now c.index_mut.ensures.value c.args.kind c.args.a (λ at fits. fits.down)

pub settle-requires-clause-midway : goal.settle-requires-clause-midway
settle-requires-clause-midway c =
    turn_midway (IsHalfUp c.args.kind c.args.a c.args.b) none_rising _ c.self.inside.plane c.plane.view_is
    (some_plane (IsHalfUp c.args.kind c.args.a c.args.b) _ c.args.self.now c.self.view_is c.requires.network) c.args.b
    (steps.Raised c.args.kind c.args.a)
    (octets.Call (Own c.args.b (steps.Raised c.args.kind c.args.a)) ∷ []) c.plane.inside.transit
    (λ at fits is. second_begins at _ is c.args.kind c.args.a c.args.b fits) (λ at fits. fits.within)
    c.from.result c.from.ensures c.index_mut.result.now c.index_mut.result.now c.raised-answer.new.self c.index_mut.ensures.value
    c.raised-answer.result c.raised-answer.ensures.answers

pub returns : goal.returns
returns c =
    acts_as _ c.args.self.now c.self.view_is c.settle.new.self (IsHalfUp c.args.kind c.args.a c.args.b) none_rising
    (acts.RaiseSecond c.args.kind c.args.a c.args.b) c.args.b
    (octets.Call (Own c.args.b (steps.Raised c.args.kind c.args.a)) ∷ []) no_lines c.args.lines.now c.settle.new.lines c.settle.result
    (λ at. refl)
    (turn_done (IsHalfUp c.args.kind c.args.a c.args.b) none_rising _ c.self.inside.plane c.plane.view_is
    (some_plane (IsHalfUp c.args.kind c.args.a c.args.b) _ c.args.self.now c.self.view_is c.requires.network) c.args.b
    (steps.Raised c.args.kind c.args.a)
    (octets.Call (Own c.args.b (steps.Raised c.args.kind c.args.a)) ∷ []) c.plane.inside.transit
    (λ at fits is. second_begins at _ is c.args.kind c.args.a c.args.b fits) (λ at fits. fits.within)
    c.from.result c.from.ensures c.index_mut.result.now c.index_mut.result.now c.raised-answer.new.self c.index_mut.ensures.value
    c.raised-answer.result c.raised-answer.ensures.answers
    c.settle.new.self c.args.lines.now c.settle.new.lines c.settle.result c.settle.ensures.acts)

pub invariant_of-self : goal.invariant_of-self
invariant_of-self c =
    (act_places _ c.self.inside.plane c.plane.view_is c.from.result c.index_mut.result.now c.index_mut.result.now c.raised-answer.new.self
    c.index_mut.ensures.value c.raised-answer.ensures.answers.placed _ c.settle.new.self refl
    c.settle.ensures.places).keeps c.self.inside.scenario c.self.invariant
