use Rattle.std.proofs.Common.{◌≡◌, ◌&&◌, ◌||◌, Bool, false, cond, sym, ap, ◌∙◌}
use Rattle.std.specs.FinSet as sets
use Rattle.indexmap.specs.IndexMap.{get}
use Rattle.vrf_words.specs.declared.tree_defs.flow.Flow.{Flow}
use Rattle.vrf_words.specs.tree_defs.Keys.{same_flow}
use Rattle.vrf_words.specs.tree_defs.Flows.{chosen_for}
use Rattle.vrf_words.specs.declared.tree_defs.flow.ActiveRoute.{ActiveRoute}
use Rattle.vrf_words.proofs.tree_defs.KeyLemmas.{active_exact, active_ties, active_total, same_active}
use Rattle.vrf_flows.specs.Sight.{flow_at, is_needed, is_sent}
use Rattle.vrf_flows.specs.State.{is_announced_in, is_noted_in}
use Rattle.vrf_flows.proofs.TreeLemmas.{absent-none, asked-same, keeps-change, kept-change, unsent-needed}
use Rattle.vrf_flows.proofs.StateLemmas.{flows-same}
use Rattle.vrf_flows.proofs.SetLemmas.{any-fewer, any-removed, either-one, fewer-right, less, removed, unsent-was}
use Rattle.vrf_flows.proofs.state.State.forget_active.Goals as goal

pub returns-clause-sound : goal.returns-clause-sound
returns-clause-sound c =
    let old = c.args.self.now in
    let sound = c.requires.sound in
    let chosen = chosen_for old.routes sound.cost in
    let asked = c.may_be_asked-asked.result in
    let others = c.unsend.new.sent.keys in
    let known : (q : Flow) → is_sent c.unsend.new.sent.keys q
    ≡ cond c.is_told-told.result (is_sent c.args.self.now.sent.keys q)
    (cond (same_flow c.args.route.flow q) false (is_sent c.args.self.now.sent.keys q)) = c.unsend.ensures.sent in
    record {
      unique = c.unsend.ensures.unique;
      rule = sound.rule;
      sent = λ q. less c.args.route.flow q (λ (p : Flow). is_noted_in c.args.self.now.notes.keys p || is_announced_in c.swap_remove.new.self.keys p)
          (is_sent old.sent.keys q) (is_sent others q) c.is_told-told.result c.is_told-told.ensures (known q)
          (λ f. ap (λ (b : Bool). is_noted_in old.notes.keys q || b)
          (any-removed active_total active_exact same_active active_ties (λ (x : ActiveRoute). same_flow x.flow q) old.actives.keys
          c.swap_remove.new.self.keys c.args.route (λ p. c.swap_remove.ensures.updates.0 p) f) ∙ sym (sound.sent q))
          (λ h. sound.sent q ∙ fewer-right (is_noted_in old.notes.keys q) (is_announced_in c.swap_remove.new.self.keys q)
          (is_announced_in old.actives.keys q) (any-fewer active_total active_exact same_active active_ties (λ (x : ActiveRoute). same_flow x.flow q)
          old.actives.keys c.swap_remove.new.self.keys c.args.route (λ p. c.swap_remove.ensures.updates.0 p)) h);
      cost = sound.cost;
      keeps = keeps-change (get same_flow old.flows) (get same_flow c.unsend.new.flows) (λ q. asked && same_flow c.args.route.flow q)
          (flow_at old.ifaces old.entries old.sent.keys chosen old.clock) (flow_at old.ifaces old.entries others chosen old.clock)
          (is_needed old.ifaces old.entries old.sent.keys) (is_needed old.ifaces old.entries others) sound.keeps c.unsend.ensures.each
          (asked-same old.ifaces old.entries old.sent.keys others chosen old.clock c.args.route.flow asked c.may_be_asked-asked.ensures
          (λ q h. sym (known q ∙ (ap (λ (b : Bool). cond c.is_told-told.result (is_sent old.sent.keys q) (cond b false (is_sent old.sent.keys q))) h
          ∙ either-one c.is_told-told.result (is_sent old.sent.keys q)))))
          (λ q h. sound.keeps.needed q (unsent-needed old.ifaces old.entries old.sent.keys others q
          (λ t. unsent-was c.is_told-told.result (same_flow c.args.route.flow q) (is_sent old.sent.keys q) (sym (known q) ∙ t)) h))
          (λ q h. absent-none old.ifaces old.entries others chosen old.clock q h);
    }

pub returns-clause-forgotten : goal.returns-clause-forgotten
returns-clause-forgotten c =
    let old = c.args.self.now in
    let set =
    removed active_total active_exact same_active active_ties old.actives.keys c.swap_remove.new.self.keys c.args.route
    (λ p. c.swap_remove.ensures.updates.0 p) in
    let flows =
    flows-same old.flows c.unsend.new.flows c.requires.sound.unique c.unsend.ensures.unique (λ q. kept-change _ _ _ (c.unsend.ensures.each q)) in
    λ i. record {
      ifaces = old.ifaces;
      entries = old.entries;
      notes = sets.from_list old.notes.keys;
      actives = set i;
      routes = old.routes;
      flows =
          flows i;
    }
