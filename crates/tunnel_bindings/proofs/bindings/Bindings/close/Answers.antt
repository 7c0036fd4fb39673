use Rattle.std.proofs.Common.{sym, subst}
use Rattle.tunnel_bindings.specs.Bindings.{Named, Carries, AreApart}
use Rattle.tunnel_bindings.specs.Places.{name_at}
use Rattle.tunnel_bindings.proofs.EndLemmas.{at_place, under_name, ready_named}
use Rattle.tunnel_bindings.proofs.bindings.Bindings.close.Goals as goal

pub end_all-requires : goal.end_all-requires
end_all-requires c =
    ready_named c.self.inside.places.places.items c.args.space.now
    (λ name label h. c.requires.owned name label (subst (λ (n : Named). Carries n name label) c.self.view_is h))
    (subst AreApart (sym c.self.view_is) c.requires.apart)

pub returns-clause-freed : goal.returns-clause-freed
returns-clause-freed c = λ name label h.
    c.end_all.ensures.freed name.index label (at_place c.self.inside.places.places.items name label
    (subst (λ (n : Named). Carries n name label) (sym c.self.view_is) h))

pub returns-clause-others : goal.returns-clause-others
returns-clause-others c = λ label none.
    c.end_all.ensures.others label (λ i at.
    let under = under_name c.self.inside.places.places.items i label at in
    none (name_at i under.0) (subst (λ (n : Named). Carries n (name_at i under.0) label) c.self.view_is under.1))
