use Rattle.std.proofs.Common.{rules, ◌≡◌, false, Option, Some, ap, ◌∙◌}
use Rattle.std.proofs.lemmas.Option.{IfSome_then}
use Rattle.indexmap.specs.IndexMap.{get}
use Rattle.vrf_words.specs.tree_defs.Keys.{same_flow}
use Rattle.vrf_flows.specs.declared.held.Held.{Held}
use Rattle.vrf_flows.specs.Held.{is_stale, kept_of}
use Rattle.vrf_flows.specs.Plan.{choice_in}
use Rattle.vrf_flows.specs.State.{compares_costs}
use Rattle.vrf_flows.proofs.StateLemmas.{kept-choice}
use Rattle.vrf_flows.proofs.state.State.kept_choice.Goals as goal

pub returns-in-Some : goal.returns-in-Some
returns-in-Some c = λ cost.
    let there : get same_flow c.args.self.now.flows c.args.flow.now ≡ Some c.in-Some.held.now = search rules in
    let costless : compares_costs c.args.self.now.rule ≡ false = search rules in
    IfSome_then c.fresh_choice.result c.fresh_choice.ensures (λ choice known.
    kept-choice c.args.self.now c.args.flow.now choice c.requires.sound costless (ap is_stale there ∙ known.0)
    (ap (λ (o : Option Held). choice_in (kept_of o)) there ∙ known.1) cost)
