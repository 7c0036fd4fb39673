use Rattle.std.proofs.Common.{ap, sym, ◌∙◌, option_map}
use Rattle.std.specs.FinMap as maps
use Rattle.tunnel_bindings.specs.Bindings.{Named}
use Rattle.tunnel_bindings.specs.States.{state_of_binding}
use Rattle.tunnel_bindings.proofs.PlaceLemmas.{tells}
use Rattle.tunnel_bindings.proofs.bindings.Bindings.state.Goals as goal

pub returns : goal.returns
returns c =
    c.state.ensures ∙ ap (option_map state_of_binding)
    (sym (tells c.self.inside.places.places.items c.args.name) ∙ ap (λ (n : Named). maps.get n.kept c.args.name) c.self.view_is)
