use Rattle.std.proofs.Common.{◌≡◌, ◌+◌, subst, sym, ◌-◌, ◌++◌, [], ◌∷◌, rules, arith}
use Rattle.std.specs.Vec.{vec_capacity}
use Rattle.tunnel_bindings.specs.declared.state.LabelState.TheVariants.{Owned}
use Rattle.tunnel_bindings.specs.Labels.{Space, IsOwned}
use Rattle.tunnel_bindings.proofs.RestingLemmas.{space-rest, label-at, fewer-resting}
use Rattle.tunnel_bindings.proofs.space.LabelSpace.rest.Goals as goal

pub unwrap-requires : goal.unwrap-requires
unwrap-requires c =
    let fields = c.self.inside in
    let owned =
    label-at (record { life = fields.life; states = fields.numbers }) c.args.label Owned
    (subst (λ (space : Space). IsOwned space c.args.label) (sym c.self.view_is) c.requires.owned) in
    let fewer = fewer-resting fields.numbers fields.rests.items (c.args.label - 16) c.self.invariant.listed owned in
    c.push.ensures.succeeds (omega (arith, fewer, c.self.invariant.room))

pub invariant_of-self : goal.invariant_of-self
invariant_of-self c =
    let fields = c.self.inside in
    let owned =
    label-at (record { life = fields.life; states = fields.numbers }) c.args.label Owned
    (subst (λ (space : Space). IsOwned space c.args.label) (sym c.self.view_is) c.requires.owned) in
    let number = c.args.label - 16 in
    let until = c.args.now + fields.life + 1 in
    let items : c.push.new.self.items ≡ fields.rests.items ++ record { number = number; until = until } ∷ [] = search rules in
    rw (c.set.ensures, items) (space-rest fields.life fields.numbers fields.rests.items (vec_capacity fields.rests) (vec_capacity c.push.new.self)
    number until owned c.push.ensures.capacity c.self.invariant)
