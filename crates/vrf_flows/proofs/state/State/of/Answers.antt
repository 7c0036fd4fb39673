use Rattle.std.proofs.Common.{◌||◌, sym, ap, ◌∙◌}
use Rattle.indexmap.specs.IndexMap.{get}
use Rattle.umh_select.specs.Routes.{Routes}
use Rattle.vrf_words.specs.tree_defs.Keys.{same_flow}
use Rattle.vrf_words.specs.tree_defs.Flows.{chosen_for}
use Rattle.vrf_flows.specs.Sight.{is_sent}
use Rattle.vrf_flows.specs.State.{is_announced_in, is_noted_in}
use Rattle.vrf_flows.proofs.TreeLemmas.{keeps-of}
use Rattle.vrf_flows.proofs.state.State.of.Goals as goal

pub returns-clause-sound : goal.returns-clause-sound
returns-clause-sound c = record {
  unique = c.of-3.ensures.unique;
  rule = sym (ap (λ (r : Routes). r.rule) c.of-2.ensures);
  sent = λ q. (λ i. is_sent (c.new-4.ensures.empty i) q)
      ∙ sym (λ i. is_noted_in (c.new-2.ensures.empty i) q || is_announced_in (c.new-3.ensures.empty i) q);
  cost = λ _. 0;
  keeps = keeps-of c.of.result (chosen_for c.of-2.result (λ _. 0)) (get same_flow c.of-3.result) c.new-4.result.keys c.new.result c.of-3.ensures.none
      c.new-4.ensures.empty c.new.ensures;
}
