use Rattle.std.proofs.Common.{◌≡◌, ◌&&◌, Bool, true, cond, List, sym, ap, ◌∙◌}
use Rattle.std.specs.FinSet as sets
use Rattle.indexmap.specs.IndexMap.{get}
use Rattle.vrf_words.specs.declared.tree_defs.flow.Flow.{Flow}
use Rattle.vrf_words.specs.tree_defs.Keys.{same_flow}
use Rattle.vrf_words.specs.tree_defs.Flows.{chosen_for}
use Rattle.vrf_words.specs.declared.tree_defs.flow.ActiveRoute.{ActiveRoute}
use Rattle.vrf_words.proofs.tree_defs.KeyLemmas.{active_exact, active_ties, active_total, same_active}
use Rattle.vrf_flows.specs.Held.{kept_of}
use Rattle.vrf_flows.specs.Sight.{flow_at, is_needed, is_sent}
use Rattle.vrf_flows.specs.State.{is_announced_in, is_noted_in, vrf_of}
use Rattle.vrf_flows.proofs.TreeLemmas.{absent-none, asked-same, keeps-change, keeps-sent, kept-change, kept-grown, sent-needed}
use Rattle.vrf_flows.proofs.StateLemmas.{on-err, flows-same}
use Rattle.vrf_flows.proofs.SetLemmas.{any-inserted, inserted, more-right}
use Rattle.vrf_flows.proofs.state.State.learn_active.Goals as goal

pub returns-clause-sound : goal.returns-clause-sound
returns-clause-sound c =
    let old = c.args.self.now in
    let sound = c.requires.sound in
    let chosen = chosen_for old.routes sound.cost in
    let asked = c.may_be_asked-asked.result in
    let grown =
    keeps-sent (get same_flow old.flows) (get same_flow c.hold_sent.new.flows) c.args.route.flow old.ifaces old.entries old.sent.keys chosen old.clock
    asked c.may_be_asked-asked.ensures sound.keeps c.in_ok-hold_sent.ensures.each in
    let others = c.send.new.sent.keys in
    let known : (q : Flow) → is_sent c.send.new.sent.keys q ≡ cond (same_flow c.args.route.flow q) true (is_sent c.args.self.now.sent.keys q) =
    λ q. c.send.ensures.sent q ∙ ap (λ (list : List Flow). cond (same_flow c.args.route.flow q) true (is_sent list q)) c.reserve.ensures.keys in
    record {
      unique = c.send.ensures.unique;
      rule = sound.rule;
      sent = λ q. more-right (same_flow c.args.route.flow q) (is_sent old.sent.keys q) (is_noted_in old.notes.keys q)
          (is_announced_in old.actives.keys q) _ _ (sound.sent q) (known q)
          (any-inserted active_total active_exact same_active active_ties (λ (x : ActiveRoute). same_flow x.flow q) old.actives.keys
          c.insert.new.self.keys c.args.route (λ p. c.in_ok-insert.ensures.updates.0 p));
      cost = sound.cost;
      keeps = keeps-change (get same_flow c.hold_sent.new.flows) (get same_flow c.send.new.flows) (λ q. asked && same_flow c.args.route.flow q)
          (flow_at old.ifaces old.entries old.sent.keys chosen old.clock) (flow_at old.ifaces old.entries others chosen old.clock)
          (is_needed old.ifaces old.entries old.sent.keys) (is_needed old.ifaces old.entries others) grown c.send.ensures.each
          (asked-same old.ifaces old.entries old.sent.keys others chosen old.clock c.args.route.flow asked c.may_be_asked-asked.ensures
          (λ q h. sym (known q ∙ ap (λ (b : Bool). cond b true (is_sent old.sent.keys q)) h)))
          (sent-needed (get same_flow old.flows) (get same_flow c.hold_sent.new.flows) c.args.route.flow asked old.ifaces old.entries old.sent.keys
          others sound.keeps.needed (λ q. c.in_ok-hold_sent.ensures.each q) known)
          (λ q h. absent-none old.ifaces old.entries others chosen old.clock q h);
    }

pub returns-clause-learned : goal.returns-clause-learned
returns-clause-learned c =
    let old = c.args.self.now in
    let set =
    inserted active_total active_exact same_active active_ties old.actives.keys c.insert.new.self.keys c.args.route
    (λ p. c.in_ok-insert.ensures.updates.0 p) in
    let flows =
    flows-same old.flows c.send.new.flows c.requires.sound.unique c.send.ensures.unique
    (λ q. kept-change _ _ _ (c.send.ensures.each q) ∙ kept-grown _ _ _ _ (c.in_ok-hold_sent.ensures.each q)) in
    λ i. record {
      ifaces = old.ifaces;
      entries = old.entries;
      notes = sets.from_list old.notes.keys;
      actives = set i;
      routes = old.routes;
      flows =
          flows i;
    }

pub returns-in_err-hold_sent-clause-unchanged : goal.returns-in_err-hold_sent-clause-unchanged
returns-in_err-hold_sent-clause-unchanged c =
    let old = c.args.self.now in
    let flows =
    flows-same old.flows c.hold_sent.new.flows c.requires.sound.unique c.hold_sent.ensures.unique (λ q. ap kept_of (c.in_err-hold_sent.ensures.unchanged q)) in
    on-err {P = vrf_of (record c.args.self.now { flows = c.hold_sent.new.flows }) ≡ vrf_of c.args.self.now} c.from_residual.result
    (λ i. record {
      ifaces = old.ifaces;
      entries = old.entries;
      notes = sets.from_list old.notes.keys;
      actives =
          sets.from_list old.actives.keys;
      routes = old.routes;
      flows = flows i;
    })

pub returns-in_err-reserve-clause-unchanged : goal.returns-in_err-reserve-clause-unchanged
returns-in_err-reserve-clause-unchanged c =
    let old = c.args.self.now in
    let flows =
    flows-same old.flows c.hold_sent.new.flows c.requires.sound.unique c.hold_sent.ensures.unique (λ q. kept-grown _ _ _ _ (c.in_ok-hold_sent.ensures.each q)) in
    on-err {P = vrf_of (record c.args.self.now { sent = c.reserve.new.self; flows = c.hold_sent.new.flows }) ≡ vrf_of c.args.self.now}
    c.from_residual-in_err-reserve.result (λ i.
    record {
      ifaces = old.ifaces;
      entries = old.entries;
      notes = sets.from_list old.notes.keys;
      actives =
          sets.from_list old.actives.keys;
      routes = old.routes;
      flows = flows i;
    })

pub returns-in_err-insert-clause-unchanged : goal.returns-in_err-insert-clause-unchanged
returns-in_err-insert-clause-unchanged c =
    let old = c.args.self.now in
    let flows =
    flows-same old.flows c.hold_sent.new.flows c.requires.sound.unique c.hold_sent.ensures.unique (λ q. kept-grown _ _ _ _ (c.in_ok-hold_sent.ensures.each q)) in
    on-err {P =
    vrf_of (record c.args.self.now { actives = c.insert.new.self; sent = c.reserve.new.self; flows = c.hold_sent.new.flows }) ≡ vrf_of c.args.self.now}
    c.from_residual-in_err-insert.result (λ i. record {
      ifaces = old.ifaces;
      entries = old.entries;
      notes =
          sets.from_list old.notes.keys;
      actives = sets.from_list (c.in_err-insert.ensures.err i);
      routes = old.routes;
      flows = flows i;
    })
