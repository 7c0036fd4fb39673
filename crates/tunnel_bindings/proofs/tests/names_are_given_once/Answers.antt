use Rattle.std.proofs.Common.{ℕ, sym, subst, ◌∙◌}
use Rattle.tunnel_bindings.specs.declared.any_binding.AnyBinding.TheVariants.{Wanted, Mapped}
use Rattle.tunnel_bindings.specs.Labels.{Space, IsOwned}
use Rattle.tunnel_bindings.proofs.LabelLemmas.{owned_taken}
use Rattle.tunnel_bindings.proofs.EndLemmas.{some-same}
use Rattle.tunnel_bindings.proofs.NamedLemmas.{one_after}
use Rattle.tunnel_bindings.proofs.tests.names_are_given_once.Goals as goal

pub close-requires-clause-owned : goal.close-requires-clause-owned
close-requires-clause-owned g c = λ name label h.
    let one =
    one_after c.of-bindings.result c.keep-first.new.bindings c.take.new.self c.keep-second.new.bindings c.keep-first.result c.keep-second.result
    (Wanted c.wanted.result) (Mapped c.mapped-own.result)
    c.of-bindings.ensures c.keep-first.ensures.kept c.take.ensures.taken c.keep-second.ensures.kept name label h in
    let own = c.mapped-own.result.state.label in
    let owned =
    subst (λ (space : Space). IsOwned space own) (sym (c.keep-second.ensures.space ∙ c.mapped-own.ensures.owned))
    (owned_taken _ own c.mapped-own.ensures.least) in
    subst (λ (l : ℕ). IsOwned c.keep-second.new.space l) (some-same own label one.1) owned

pub close-requires-clause-apart : goal.close-requires-clause-apart
close-requires-clause-apart g c = λ name other label h k.
    let one =
    one_after c.of-bindings.result c.keep-first.new.bindings c.take.new.self c.keep-second.new.bindings c.keep-first.result c.keep-second.result
    (Wanted c.wanted.result) (Mapped c.mapped-own.result)
    c.of-bindings.ensures c.keep-first.ensures.kept c.take.ensures.taken c.keep-second.ensures.kept in
    (one name label h).0 ∙ sym (one other label k).0

pub lost-requires : goal.lost-requires
lost-requires g c =
    let again = c.mapped-again.result.state.label in
    subst (λ (space : Space). IsOwned space again) (sym c.mapped-again.ensures.owned) (owned_taken _ again c.mapped-again.ensures.least)
