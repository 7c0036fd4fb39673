use Rattle.std.proofs.Common.{rules, ◌≡◌, ◌∙◌, false, is_some}
use Rattle.indexmap.specs.IndexMap.{get}
use Rattle.vrf_words.specs.tree_defs.Keys.{same_flow}
use Rattle.vrf_words.specs.tree_defs.Flows.{chosen_for, is_from, is_outside}
use Rattle.vrf_flows.specs.State.{iface_in}
use Rattle.vrf_flows.proofs.StateLemmas.{none-leave, unheld-asking}
use Rattle.vrf_flows.proofs.state.State.outgoing.Goals as goal

pub returns-then-not-holds : goal.returns-then-not-holds
returns-then-not-holds c = λ cost costs.
    let none : is_some (get same_flow c.args.self.now.flows c.args.flow) ≡ false = search rules in
    c.new.ensures ∙ none-leave (is_from c.args.from (chosen_for c.args.self.now.routes cost c.args.flow)) (is_outside c.args.from) iface_in _
    (unheld-asking c.args.self.now c.args.now c.args.flow c.requires.sound none)
