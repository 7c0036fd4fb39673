use Rattle.std.proofs.Common.{refl, [], ◌∷◌}
use Rattle.network_defs.specs.session_defs.Octets as octets
use Rattle.edge_defs.specs.Steps as steps
use Rattle.network_defs.specs.Acts as acts
use Rattle.network_defs.specs.System.{Own}
use Rattle.network_acts.specs.control_plane.Acted.{no_lines, same_moment}
use Rattle.network_acts.specs.control_plane.Sessions.{IsLost}
use Rattle.network_acts.proofs.PlaneActs.{acts_as, some_here, some_plane}
use Rattle.network_acts.proofs.control_plane.BeginLemmas.{turn_done, turn_midway}
use Rattle.network_acts.proofs.control_plane.EndLemmas.{peer_here}
use Rattle.network_acts.proofs.control_plane.NoticeLemmas.{notice_begins}
use Rattle.network_acts.proofs.control_plane.OwnLemmas.{count_here}
use Rattle.network_acts.proofs.control_plane.PlaceLemmas.{act_places}
use Rattle.network_acts.proofs.network.Network.notice.Goals as goal

pub noticed-answer-requires-clause-nodes : goal.noticed-answer-requires-clause-nodes
noticed-answer-requires-clause-nodes c =
    count_here (IsLost c.args.kind c.args.a c.args.b) c.args.a (λ at fits. fits.within) _
    (some_here (IsLost c.args.kind c.args.a c.args.b) _ c.args.self.now c.self.view_is _ c.plane.view_is c.requires.network)
    c.from.result c.from.ensures c.index_mut.result.now c.index_mut.result.now c.index_mut.ensures.value

pub noticed-answer-requires-clause-peer : goal.noticed-answer-requires-clause-peer
noticed-answer-requires-clause-peer c =
    peer_here (IsLost c.args.kind c.args.a c.args.b) c.args.a (λ at fits. fits.within) _
    (some_here (IsLost c.args.kind c.args.a c.args.b) _ c.args.self.now c.self.view_is _ c.plane.view_is c.requires.network)
    c.from.result c.from.ensures c.index_mut.result.now c.index_mut.result.now c.index_mut.ensures.value c.args.kind c.args.b (λ at fits. fits.way)

pub settle-requires-clause-midway : goal.settle-requires-clause-midway
settle-requires-clause-midway c =
    turn_midway (IsLost c.args.kind c.args.a c.args.b) same_moment _ c.self.inside.plane c.plane.view_is
    (some_plane (IsLost c.args.kind c.args.a c.args.b) _ c.args.self.now c.self.view_is c.requires.network) c.args.a
    (steps.Noticed c.args.kind c.args.b)
    (octets.Forget (acts.is_from_peer c.args.kind c.args.a c.args.b) ∷ octets.Call (Own c.args.a (steps.Noticed c.args.kind c.args.b)) ∷ [])
    c.plane.inside.transit
    (λ at fits is. notice_begins at _ is c.args.kind c.args.a c.args.b fits) (λ at fits. fits.within)
    c.from.result c.from.ensures c.index_mut.result.now c.index_mut.result.now c.noticed-answer.new.self c.index_mut.ensures.value
    c.noticed-answer.result c.noticed-answer.ensures.answers

pub returns : goal.returns
returns c =
    acts_as _ c.args.self.now c.self.view_is c.settle.new.self (IsLost c.args.kind c.args.a c.args.b) same_moment
    (acts.Notice c.args.kind c.args.a c.args.b) c.args.a
    (octets.Forget (acts.is_from_peer c.args.kind c.args.a c.args.b) ∷ octets.Call (Own c.args.a (steps.Noticed c.args.kind c.args.b)) ∷ []) no_lines
    c.args.lines.now c.settle.new.lines c.settle.result (λ at. refl)
    (turn_done (IsLost c.args.kind c.args.a c.args.b) same_moment _ c.self.inside.plane c.plane.view_is
    (some_plane (IsLost c.args.kind c.args.a c.args.b) _ c.args.self.now c.self.view_is c.requires.network) c.args.a
    (steps.Noticed c.args.kind c.args.b)
    (octets.Forget (acts.is_from_peer c.args.kind c.args.a c.args.b) ∷ octets.Call (Own c.args.a (steps.Noticed c.args.kind c.args.b)) ∷ [])
    c.plane.inside.transit
    (λ at fits is. notice_begins at _ is c.args.kind c.args.a c.args.b fits) (λ at fits. fits.within)
    c.from.result c.from.ensures c.index_mut.result.now c.index_mut.result.now c.noticed-answer.new.self c.index_mut.ensures.value
    c.noticed-answer.result c.noticed-answer.ensures.answers
    c.settle.new.self c.args.lines.now c.settle.new.lines c.settle.result c.settle.ensures.acts)

pub invariant_of-self : goal.invariant_of-self
invariant_of-self c =
    (act_places _ c.self.inside.plane c.plane.view_is c.from.result c.index_mut.result.now c.index_mut.result.now c.noticed-answer.new.self
    c.index_mut.ensures.value c.noticed-answer.ensures.answers.placed _ c.settle.new.self refl
    c.settle.ensures.places).keeps c.self.inside.scenario c.self.invariant
