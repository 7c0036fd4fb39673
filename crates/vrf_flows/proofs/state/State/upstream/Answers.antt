use Rattle.std.proofs.Common.{ap, sym, ◌∙◌}
use Rattle.vrf_words.specs.tree_defs.Flows.{upstream_of}
use Rattle.vrf_flows.proofs.StateLemmas.{flows-got}
use Rattle.vrf_flows.proofs.state.State.upstream.Goals as goal

pub returns : goal.returns
returns c = c.joined_before.ensures ∙ ap upstream_of (sym (flows-got c.args.self.now.flows c.args.flow.now c.requires.sound.unique))
