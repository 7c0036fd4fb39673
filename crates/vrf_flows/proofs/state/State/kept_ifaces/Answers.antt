use Rattle.std.proofs.Common.{rules, ◌≡◌, false, Option, None, Some, sym, ap, ◌∙◌}
use Rattle.indexmap.specs.IndexMap.{get}
use Rattle.vrf_words.specs.tree_defs.Keys.{same_flow}
use Rattle.vrf_flows.specs.declared.held.Held.{Held}
use Rattle.vrf_flows.specs.Held.{is_stale, kept_of}
use Rattle.vrf_flows.specs.Sight.{ifaces_of}
use Rattle.vrf_flows.proofs.StateLemmas.{kept-asking}
use Rattle.vrf_flows.proofs.state.State.kept_ifaces.Goals as goal

pub returns-in-None : goal.returns-in-None
returns-in-None c =
    let none : get same_flow c.args.self.now.flows c.args.flow.now ≡ None = search rules in
    let clock : c.args.now ≡ c.args.self.now.clock = search rules in
    ap (λ (o : Option Held). ifaces_of (kept_of o)) (sym none)
    ∙ kept-asking c.args.self.now c.args.now c.args.flow.now c.requires.sound clock (ap is_stale none)

pub returns-else-held : goal.returns-else-held
returns-else-held c =
    let there : get same_flow c.args.self.now.flows c.args.flow.now ≡ Some c.in-Some.held.now = search rules in
    let clock : c.args.now ≡ c.args.self.now.clock = search rules in
    let fresh : c.in-Some.held.now.stale ≡ false = search rules in
    c.ifaces_of.ensures ∙ (ap (λ (o : Option Held). ifaces_of (kept_of o)) (sym there)
    ∙ kept-asking c.args.self.now c.args.now c.args.flow.now c.requires.sound clock (ap is_stale there ∙ fresh))
