use Rattle.std.proofs.Common.{refl, subst, sym, [], ◌∷◌}
use Rattle.network_defs.specs.session_defs.Octets as octets
use Rattle.network_defs.specs.Acts as acts
use Rattle.network_acts.specs.control_plane.Acted.{same_moment}
use Rattle.network_acts.specs.control_plane.Moving.{IsMovable, taken_line}
use Rattle.network_acts.specs.control_plane.Plane.{ArePlaced}
use Rattle.network_acts.specs.control_plane.PlaneView.{PlaneView}
use Rattle.network_acts.proofs.PlaneActs.{acts_as, some_here, some_plane}
use Rattle.network_acts.proofs.control_plane.MoveActs.{moved_done, moved_midway, moved_spends, peer_here, up_here}
use Rattle.network_acts.proofs.control_plane.OwnLemmas.{count_here}
use Rattle.network_acts.proofs.control_plane.PlaceLemmas.{act_places}
use Rattle.network_acts.proofs.network.Network.move_octets.Goals as goal

pub take-answer-requires-clause-nodes : goal.take-answer-requires-clause-nodes
take-answer-requires-clause-nodes c =
    count_here (IsMovable c.args.over) c.args.over.to (λ at fits. fits.within) _
    (some_here (IsMovable c.args.over) _ c.args.self.now c.self.view_is _ c.plane.view_is c.requires.network)
    c.from.result c.from.ensures c.index_mut.result.now c.index_mut.result.now c.index_mut.ensures.value

pub take-answer-requires-clause-peer : goal.take-answer-requires-clause-peer
take-answer-requires-clause-peer c =
    peer_here c.args.over c.args.count _
    (some_here (IsMovable c.args.over) _ c.args.self.now c.self.view_is _ c.plane.view_is c.requires.network)
    c.from.result c.from.ensures c.index_mut.result.now c.index_mut.result.now c.index_mut.ensures.value

pub take-answer-requires-clause-up : goal.take-answer-requires-clause-up
take-answer-requires-clause-up c = λ none.
    up_here c.args.over c.args.count _
    (some_here (IsMovable c.args.over) _ c.args.self.now c.self.view_is _ c.plane.view_is c.requires.network)
    c.from.result c.from.ensures c.index_mut.result.now c.index_mut.result.now c.index_mut.ensures.value

pub settle_taken-requires-clause-midway : goal.settle_taken-requires-clause-midway
settle_taken-requires-clause-midway c =
    moved_midway c.args.over c.args.count _ c.self.inside.plane c.plane.view_is
    (some_plane (IsMovable c.args.over) _ c.args.self.now c.self.view_is c.requires.network)
    c.from.result c.from.ensures c.index_mut.result.now c.index_mut.result.now c.take-answer.new.self c.index_mut.ensures.value
    c.take.new.self c.in_ok-bytes.ensures.rest c.in_ok-bytes.bytes c.as_slice.result.now c.in_ok-bytes.ensures.taken c.as_slice.ensures
    c.take-answer.result c.take-answer.ensures

pub settle_taken-requires-clause-spends : goal.settle_taken-requires-clause-spends
settle_taken-requires-clause-spends c =
    moved_spends c.args.over c.args.count _ c.self.inside.plane c.plane.view_is
    (some_plane (IsMovable c.args.over) _ c.args.self.now c.self.view_is c.requires.network)
    c.from.result c.from.ensures c.index_mut.result.now c.index_mut.result.now c.take-answer.new.self c.index_mut.ensures.value
    c.take.new.self c.in_ok-bytes.ensures.rest c.in_ok-bytes.bytes c.as_slice.result.now c.in_ok-bytes.ensures.taken c.as_slice.ensures
    c.take-answer.result c.take-answer.ensures

pub returns : goal.returns
returns c =
    acts_as _ c.args.self.now c.self.view_is c.settle_taken.new.self (IsMovable c.args.over) same_moment
    (acts.Move c.args.over.kind c.args.over.from c.args.over.to c.args.count) c.args.over.to
    (octets.Move c.args.over c.args.count ∷ []) (taken_line c.args.over c.args.count) c.args.lines.now c.settle_taken.new.lines
    c.settle_taken.result (λ at. refl)
    (moved_done c.args.over c.args.count _ c.self.inside.plane c.plane.view_is
    (some_plane (IsMovable c.args.over) _ c.args.self.now c.self.view_is c.requires.network)
    c.from.result c.from.ensures c.index_mut.result.now c.index_mut.result.now c.take-answer.new.self c.index_mut.ensures.value
    c.take.new.self c.in_ok-bytes.ensures.rest c.in_ok-bytes.bytes c.as_slice.result.now c.in_ok-bytes.ensures.taken c.as_slice.ensures
    c.take-answer.result c.take-answer.ensures
    c.settle_taken.new.self c.args.lines.now c.settle_taken.new.lines c.settle_taken.result c.settle_taken.ensures.acts)

pub invariant_of-self : goal.invariant_of-self
invariant_of-self c = subst (λ (p : PlaneView). ArePlaced c.self.inside.scenario p.nodes) (sym c.plane.view_is) c.self.invariant

pub invariant_of-self-2 : goal.invariant_of-self-2
invariant_of-self-2 c =
    (act_places _ c.self.inside.plane c.plane.view_is c.from.result c.index_mut.result.now c.index_mut.result.now c.take-answer.new.self
    c.index_mut.ensures.value c.take-answer.ensures.answers.placed _ c.settle_taken.new.self refl
    c.settle_taken.ensures.places).keeps c.self.inside.scenario c.self.invariant
