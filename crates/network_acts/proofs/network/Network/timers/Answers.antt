use Rattle.std.proofs.Common.{refl, [], ◌∷◌}
use Rattle.network_defs.specs.session_defs.Octets as octets
use Rattle.edge_defs.specs.Steps as steps
use Rattle.network_defs.specs.Acts as acts
use Rattle.network_defs.specs.System.{Own}
use Rattle.network_acts.specs.control_plane.Acted.{IsCurrent, no_lines, same_moment}
use Rattle.network_acts.proofs.PlaneActs.{acts_as, some_here, some_plane}
use Rattle.network_acts.proofs.control_plane.OwnLemmas.{count_here, own_done, own_midway}
use Rattle.network_acts.proofs.control_plane.PlaceLemmas.{act_places}
use Rattle.network_acts.proofs.network.Network.timers.Goals as goal

pub timers-answer-requires-clause-nodes : goal.timers-answer-requires-clause-nodes
timers-answer-requires-clause-nodes c =
    count_here (IsCurrent c.args.n) c.args.n (λ at fits. fits.within) _
    (some_here (IsCurrent c.args.n) _ c.args.self.now c.self.view_is _ c.plane.view_is c.requires.network)
    c.from.result c.from.ensures c.index_mut.result.now c.index_mut.result.now c.index_mut.ensures.value

pub settle-requires-clause-midway : goal.settle-requires-clause-midway
settle-requires-clause-midway c =
    own_midway _ c.self.inside.plane c.plane.view_is c.args.n
    (some_plane (IsCurrent c.args.n) _ c.args.self.now c.self.view_is c.requires.network) steps.Timers (λ kind peer. refl) tt
    c.from.result c.from.ensures c.index_mut.result.now c.index_mut.result.now c.timers-answer.new.self c.index_mut.ensures.value
    c.timers-answer.result c.timers-answer.ensures.answers

pub returns : goal.returns
returns c =
    acts_as _ c.args.self.now c.self.view_is c.settle.new.self (IsCurrent c.args.n) same_moment (acts.Timers c.args.n) c.args.n
    (octets.Call (Own c.args.n steps.Timers) ∷ []) no_lines c.args.lines.now c.settle.new.lines c.settle.result (λ at. refl)
    (own_done _ c.self.inside.plane c.plane.view_is c.args.n
    (some_plane (IsCurrent c.args.n) _ c.args.self.now c.self.view_is c.requires.network) steps.Timers (λ kind peer. refl) tt
    c.from.result c.from.ensures c.index_mut.result.now c.index_mut.result.now c.timers-answer.new.self c.index_mut.ensures.value
    c.timers-answer.result c.timers-answer.ensures.answers
    c.settle.new.self c.args.lines.now c.settle.new.lines c.settle.result c.settle.ensures.acts)

pub invariant_of-self : goal.invariant_of-self
invariant_of-self c =
    (act_places _ c.self.inside.plane c.plane.view_is c.from.result c.index_mut.result.now c.index_mut.result.now c.timers-answer.new.self
    c.index_mut.ensures.value c.timers-answer.ensures.answers.placed _ c.settle.new.self refl
    c.settle.ensures.places).keeps c.self.inside.scenario c.self.invariant
