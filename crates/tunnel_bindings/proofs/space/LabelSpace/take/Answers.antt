use Rattle.std.proofs.Common.{refl, rules}
use Rattle.std.specs.Vec.{vec_capacity}
use Rattle.tunnel_bindings.specs.declared.state.LabelState.TheVariants.{Free, Owned}
use Rattle.tunnel_bindings.specs.Numbers.{IsFirstFree}
use Rattle.tunnel_bindings.proofs.RestingLemmas.{space-set}
use Rattle.tunnel_bindings.proofs.space.LabelSpace.take.Goals as goal

pub invariant_of-self : goal.invariant_of-self
invariant_of-self c =
    let fields = c.self.inside in
    let first : IsFirstFree fields.numbers c.in_ok-number.number = search rules in
    rw c.set.ensures (space-set fields.life fields.numbers fields.rests.items (vec_capacity fields.rests) c.in_ok-number.number Free Owned first.free
    (λ p. refl) (λ p. refl) c.self.invariant)
