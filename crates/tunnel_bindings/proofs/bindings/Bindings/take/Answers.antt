use Rattle.std.proofs.Common.{ap, sym, ◌∙◌}
use Rattle.std.specs.FinMap as maps
use Rattle.tunnel_bindings.specs.Bindings.{Named}
use Rattle.tunnel_bindings.proofs.PlaceLemmas.{tells}
use Rattle.tunnel_bindings.proofs.NamedLemmas.{taken}
use Rattle.tunnel_bindings.proofs.bindings.Bindings.take.Goals as goal

pub returns-clause-binding : goal.returns-clause-binding
returns-clause-binding c =
    c.take.ensures.binding ∙ (sym (tells c.self.inside.places.places.items c.args.name)
    ∙ ap (λ (n : Named). maps.get n.kept c.args.name) c.self.view_is)

pub returns-clause-taken : goal.returns-clause-taken
returns-clause-taken c =
    taken c.self.inside.places c.take.new.self c.args.name c.args.self.now c.take.result c.self.view_is c.take.ensures.binding c.take.ensures.taken
    c.take.ensures.unchanged
