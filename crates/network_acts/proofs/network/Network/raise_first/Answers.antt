use Rattle.std.proofs.Common.{refl, subst, sym, [], ◌∷◌}
use Rattle.network_defs.specs.session_defs.Octets as octets
use Rattle.edge_defs.specs.Steps as steps
use Rattle.network_defs.specs.Acts as acts
use Rattle.network_defs.specs.System.{Own}
use Rattle.network_acts.specs.control_plane.Acted.{no_lines}
use Rattle.network_acts.specs.control_plane.Plane.{ArePlaced}
use Rattle.network_acts.specs.control_plane.PlaneView.{PlaneView}
use Rattle.network_acts.specs.control_plane.Sessions.{IsDown, with_rising}
use Rattle.network_acts.proofs.PlaneActs.{acts_as, some_here, some_plane}
use Rattle.network_acts.proofs.control_plane.BeginLemmas.{turn_done, turn_midway}
use Rattle.network_acts.proofs.control_plane.EndLemmas.{down_here, peer_here}
use Rattle.network_acts.proofs.control_plane.OwnLemmas.{count_here}
use Rattle.network_acts.proofs.control_plane.PlaceLemmas.{act_places}
use Rattle.network_acts.proofs.control_plane.RaiseLemmas.{first_begins}
use Rattle.network_acts.proofs.network.Network.raise_first.Goals as goal

pub raised-answer-requires-clause-nodes : goal.raised-answer-requires-clause-nodes
raised-answer-requires-clause-nodes c =
    count_here (IsDown c.args.kind c.args.a c.args.b) c.args.a (λ at fits. fits.within) _
    (some_here (IsDown c.args.kind c.args.a c.args.b) _ c.args.self.now c.self.view_is _ c.plane.view_is c.requires.network)
    c.from.result c.from.ensures c.index_mut.result.now c.index_mut.result.now c.index_mut.ensures.value

pub raised-answer-requires-clause-peer : goal.raised-answer-requires-clause-peer
raised-answer-requires-clause-peer c =
    peer_here (IsDown c.args.kind c.args.a c.args.b) c.args.a (λ at fits. fits.within) _
    (some_here (IsDown c.args.kind c.args.a c.args.b) _ c.args.self.now c.self.view_is _ c.plane.view_is c.requires.network)
    c.from.result c.from.ensures c.index_mut.result.now c.index_mut.result.now c.index_mut.ensures.value c.args.kind c.args.b (λ at fits. fits.way)

pub raised-answer-requires-clause-down : goal.raised-answer-requires-clause-down
raised-answer-requires-clause-down c = λ none.
    down_here (IsDown c.args.kind c.args.a c.args.b) c.args.a (λ at fits. fits.within) _
    (some_here (IsDown c.args.kind c.args.a c.args.b) _ c.args.self.now c.self.view_is _ c.plane.view_is c.requires.network)
    c.from.result c.from.ensures c.index_mut.result.now c.index_mut.result.now c.index_mut.ensures.value c.args.kind c.args.b (λ at fits. fits.first)

pub settle-requires-clause-midway : goal.settle-requires-clause-midway
settle-requires-clause-midway c =
    turn_midway (IsDown c.args.kind c.args.a c.args.b) (with_rising c.args.kind c.args.a c.args.b) _ c.self.inside.plane c.plane.view_is
    (some_plane (IsDown c.args.kind c.args.a c.args.b) _ c.args.self.now c.self.view_is c.requires.network)
    c.args.a (steps.Raised c.args.kind c.args.b)
    (octets.Join (acts.is_of_session c.args.kind c.args.a c.args.b) ∷ octets.Call (Own c.args.a (steps.Raised c.args.kind c.args.b)) ∷ [])
    c.join.new.self
    (λ at fits is. first_begins at _ is c.args.kind c.args.a c.args.b fits c.join.new.self c.in_ok-join.ensures.joined) (λ at fits. fits.within)
    c.from.result c.from.ensures c.index_mut.result.now c.index_mut.result.now c.raised-answer.new.self c.index_mut.ensures.value
    c.raised-answer.result c.raised-answer.ensures.answers

pub returns : goal.returns
returns c =
    acts_as _ c.args.self.now c.self.view_is c.settle.new.self (IsDown c.args.kind c.args.a c.args.b) (with_rising c.args.kind c.args.a c.args.b)
    (acts.RaiseFirst c.args.kind c.args.a c.args.b) c.args.a
    (octets.Join (acts.is_of_session c.args.kind c.args.a c.args.b) ∷ octets.Call (Own c.args.a (steps.Raised c.args.kind c.args.b)) ∷ []) no_lines
    c.args.lines.now c.settle.new.lines c.settle.result (λ at. refl)
    (turn_done (IsDown c.args.kind c.args.a c.args.b) (with_rising c.args.kind c.args.a c.args.b) _ c.self.inside.plane c.plane.view_is
    (some_plane (IsDown c.args.kind c.args.a c.args.b) _ c.args.self.now c.self.view_is c.requires.network)
    c.args.a (steps.Raised c.args.kind c.args.b)
    (octets.Join (acts.is_of_session c.args.kind c.args.a c.args.b) ∷ octets.Call (Own c.args.a (steps.Raised c.args.kind c.args.b)) ∷ [])
    c.join.new.self
    (λ at fits is. first_begins at _ is c.args.kind c.args.a c.args.b fits c.join.new.self c.in_ok-join.ensures.joined) (λ at fits. fits.within)
    c.from.result c.from.ensures c.index_mut.result.now c.index_mut.result.now c.raised-answer.new.self c.index_mut.ensures.value
    c.raised-answer.result c.raised-answer.ensures.answers
    c.settle.new.self c.args.lines.now c.settle.new.lines c.settle.result c.settle.ensures.acts)

pub invariant_of-self : goal.invariant_of-self
invariant_of-self c = subst (λ (p : PlaneView). ArePlaced c.self.inside.scenario p.nodes) (sym c.plane.view_is) c.self.invariant

pub invariant_of-self-2 : goal.invariant_of-self-2
invariant_of-self-2 c =
    (act_places _ c.self.inside.plane c.plane.view_is c.from.result c.index_mut.result.now c.index_mut.result.now c.raised-answer.new.self
    c.index_mut.ensures.value c.raised-answer.ensures.answers.placed _ c.settle.new.self refl
    c.settle.ensures.places).keeps c.self.inside.scenario c.self.invariant
