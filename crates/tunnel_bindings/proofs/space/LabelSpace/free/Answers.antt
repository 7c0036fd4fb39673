use Rattle.std.proofs.Common.{subst, sym, ◌-◌, refl}
use Rattle.std.specs.Vec.{vec_capacity}
use Rattle.tunnel_bindings.specs.declared.state.LabelState.TheVariants.{Free, Owned}
use Rattle.tunnel_bindings.specs.Labels.{Space, IsOwned}
use Rattle.tunnel_bindings.proofs.RestingLemmas.{space-set, label-at}
use Rattle.tunnel_bindings.proofs.space.LabelSpace.free.Goals as goal

pub invariant_of-self : goal.invariant_of-self
invariant_of-self c =
    let fields = c.self.inside in
    let owned =
    label-at (record { life = fields.life; states = fields.numbers }) c.args.label Owned
    (subst (λ (space : Space). IsOwned space c.args.label) (sym c.self.view_is) c.requires) in
    rw c.set.ensures (space-set fields.life fields.numbers fields.rests.items (vec_capacity fields.rests) (c.args.label - 16) Owned Free owned
    (λ p. refl) (λ p. refl) c.self.invariant)
