use Rattle.std.proofs.Common.{not, rules}
use Rattle.std.proofs.lemmas.Fn.{filter_same}
use Rattle.tunnel_bindings.specs.declared.state.Rest.{Rest}
use Rattle.tunnel_bindings.specs.Resting.{is_past}
use Rattle.tunnel_bindings.proofs.RestingLemmas.{past-or-later}
use Rattle.tunnel_bindings.proofs.space.keep_resting.Goals as goal

pub returns-clause-items : goal.returns-clause-items
returns-clause-items c =
    filter_same _ (λ (rest : Rest). not (is_past c.args.now rest)) _ (λ x b q h. search (rules, past-or-later)) _ _ c.retain.ensures.filtered
