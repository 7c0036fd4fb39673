use Rattle.std.proofs.Common.{true, rules, ◌≡◌, sym, ap, subst, ◌∙◌}
use Rattle.std.specs.List.{list_any}
use Rattle.std.specs.FinSet as sets
use Rattle.indexmap.specs.IndexMap.{get}
use Rattle.pim_defs.specs.Entries.{Entries, applied}
use Rattle.vrf_words.specs.tree_defs.Keys.{same_flow}
use Rattle.vrf_words.specs.tree_defs.Flows.{VrfData, chosen_for}
use Rattle.vrf_flows.specs.Held.{names_in}
use Rattle.vrf_flows.specs.Sight.{flow_at, is_needed}
use Rattle.vrf_flows.specs.State.{Keeps, vrf_of}
use Rattle.vrf_flows.proofs.TreeLemmas.{absent-none, keeps-change, keeps-grown, kept-change, kept-grown, take-needed, take-same}
use Rattle.vrf_flows.proofs.StateLemmas.{on-err, flows-same}
use Rattle.vrf_flows.proofs.flows.VrfFlows.pim_take.Goals as goal

pub invariant_of-self-2 : goal.invariant_of-self-2
invariant_of-self-2 c =
    let old = c.self.inside.state in
    let sound = c.self.invariant in
    let chosen = chosen_for old.routes sound.cost in
    let groups = c.args.message.now.groups in
    let new = applied old.entries c.args.iface c.args.message.now c.args.now in
    let taken : c.take.new.self ≡ new = search rules in
    let grown =
    keeps-grown (get same_flow old.flows) (get same_flow c.hold_message.new.flows) (flow_at old.ifaces old.entries old.sent.keys chosen old.clock)
    (is_needed old.ifaces old.entries old.sent.keys) sound.keeps c.hold_message.ensures.grown in
    record {
      unique = c.mark_message.ensures.unique;
      rule = sound.rule;
      sent = sound.sent;
      cost = sound.cost;
      keeps = subst (λ (entries : Entries). Keeps (get same_flow c.mark_message.new.flows)
          (flow_at c.self.inside.state.ifaces entries c.self.inside.state.sent.keys (chosen_for c.self.inside.state.routes c.self.invariant.cost)
          c.self.inside.state.clock) (is_needed c.self.inside.state.ifaces entries c.self.inside.state.sent.keys)) (sym taken)
          (keeps-change (get same_flow c.hold_message.new.flows) (get same_flow c.mark_message.new.flows)
          (λ q. list_any (λ group. names_in group q) groups) (flow_at old.ifaces old.entries old.sent.keys chosen old.clock)
          (flow_at old.ifaces new old.sent.keys chosen old.clock)
          (is_needed old.ifaces old.entries old.sent.keys) (is_needed old.ifaces new old.sent.keys) grown (λ q. search rules)
          (λ q h. take-same old.ifaces old.entries old.sent.keys chosen old.clock c.args.iface c.args.message.now c.args.now q h)
          (take-needed (get same_flow old.flows) (get same_flow c.hold_message.new.flows) old.ifaces old.entries old.sent.keys c.args.iface
          c.args.message.now c.args.now sound.keeps.needed (λ q. search rules))
          (λ q h. absent-none old.ifaces new old.sent.keys chosen old.clock q h));
    }

pub returns-clause-taken : goal.returns-clause-taken
returns-clause-taken c =
    let old = c.self.inside.state in
    let taken : c.take.new.self ≡ applied c.self.inside.state.entries c.args.iface c.args.message.now c.args.now = search rules in
    let flows =
    flows-same old.flows c.mark_message.new.flows c.self.invariant.unique c.mark_message.ensures.unique
    (λ q. kept-change _ _ _ (c.mark_message.ensures.each q) ∙ kept-grown true _ _ _ (c.hold_message.ensures.grown q)) in
    let made : vrf_of (record c.self.inside.state { entries = c.take.new.self; flows = c.mark_message.new.flows })
    ≡ record (vrf_of c.self.inside.state) { entries = applied c.self.inside.state.entries c.args.iface c.args.message.now c.args.now } =
    λ i. record {
      ifaces = old.ifaces;
      entries = taken i;
      notes = sets.from_list old.notes.keys;
      actives = sets.from_list old.actives.keys;
      routes = old.routes;
      flows = flows i;
    } in
    made ∙ ap (λ (v : VrfData). record v { entries = applied v.entries c.args.iface c.args.message.now c.args.now }) c.self.view_is

pub returns-in_err-hold_message-clause-unchanged : goal.returns-in_err-hold_message-clause-unchanged
returns-in_err-hold_message-clause-unchanged c =
    let old = c.self.inside.state in
    let flows =
    flows-same old.flows c.hold_message.new.flows c.self.invariant.unique c.hold_message.ensures.unique
    (λ q. kept-grown true _ _ _ (c.hold_message.ensures.grown q)) in
    let same : vrf_of (record c.self.inside.state { flows = c.hold_message.new.flows }) ≡ vrf_of c.self.inside.state =
    λ i. record {
      ifaces = old.ifaces;
      entries = old.entries;
      notes = sets.from_list old.notes.keys;
      actives = sets.from_list old.actives.keys;
      routes = old.routes;
      flows = flows i;
    } in
    on-err {P = vrf_of (record c.self.inside.state { flows = c.hold_message.new.flows }) ≡ c.args.self.now} c.from_residual.result
    (same ∙ c.self.view_is)

pub returns-in_err-take-clause-unchanged : goal.returns-in_err-take-clause-unchanged
returns-in_err-take-clause-unchanged c =
    let old = c.self.inside.state in
    let flows =
    flows-same old.flows c.hold_message.new.flows c.self.invariant.unique c.hold_message.ensures.unique
    (λ q. kept-grown true _ _ _ (c.hold_message.ensures.grown q)) in
    let same : vrf_of (record c.self.inside.state { entries = c.take.new.self; flows = c.hold_message.new.flows }) ≡ vrf_of c.self.inside.state =
    λ i. record {
      ifaces = old.ifaces;
      entries = c.in_err-take.ensures.unchanged i;
      notes = sets.from_list old.notes.keys;
      actives = sets.from_list old.actives.keys;
      routes = old.routes;
      flows = flows i;
    } in
    on-err {P = vrf_of (record c.self.inside.state { entries = c.take.new.self; flows = c.hold_message.new.flows }) ≡ c.args.self.now}
    c.from_residual-in_err-take.result (same ∙ c.self.view_is)
