use Rattle.std.proofs.Common.{◌≡◌, ◌<◌, ◌∙◌, ap, sym, subst, List, length, map}
use Rattle.std.specs.List.{All}
use Rattle.std.specs.Vec.{vec_capacity}
use Rattle.tunnel_bindings.specs.declared.state.LabelState.{LabelState}
use Rattle.tunnel_bindings.specs.declared.state.Rest.{Rest}
use Rattle.tunnel_bindings.specs.Labels.{Space, wake_all, woken}
use Rattle.tunnel_bindings.specs.Resting.{freed}
use Rattle.tunnel_bindings.proofs.RestingLemmas.{rests-within, freed-all, space-woken}
use Rattle.tunnel_bindings.proofs.space.LabelSpace.wake.Goals as goal

pub free_rested-requires : goal.free_rested-requires
free_rested-requires c =
    let fields = c.self.inside in
    subst (λ (rests : List Rest). All (λ (rest : Rest). rest.number < length fields.numbers) rests) (sym c.deref.ensures.value)
    (rests-within fields.numbers fields.rests.items c.self.invariant.listed)

pub invariant_of-self : goal.invariant_of-self
invariant_of-self c =
    let fields = c.self.inside in
    let now = c.args.now in
    let states : c.free_rested.new.numbers ≡ map (woken now) fields.numbers =
    c.free_rested.ensures ∙ (ap (λ (rests : List Rest). freed now rests fields.numbers) c.deref.ensures.value
    ∙ freed-all now fields.numbers fields.rests.items c.self.invariant.listed) in
    rw (states, c.keep_resting.ensures.items, c.keep_resting.ensures.capacity)
    (space-woken fields.life fields.numbers fields.rests.items (vec_capacity fields.rests) now c.self.invariant)

pub returns : goal.returns
returns c =
    let fields = c.self.inside in
    let now = c.args.now in
    let states : c.free_rested.new.numbers ≡ map (woken now) fields.numbers =
    c.free_rested.ensures ∙ (ap (λ (rests : List Rest). freed now rests fields.numbers) c.deref.ensures.value
    ∙ freed-all now fields.numbers fields.rests.items c.self.invariant.listed) in
    let of_states : List LabelState → Space = λ all. record { life = fields.life; states = all } in
    ap of_states states ∙ ap (wake_all now) c.self.view_is
