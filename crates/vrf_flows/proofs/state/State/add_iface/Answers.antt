use Rattle.std.proofs.Common.{rules, ◌≡◌, ◌++◌, true, List, [], ◌∷◌, sym, subst, ◌∙◌}
use Rattle.std.specs.FinSet as sets
use Rattle.indexmap.specs.IndexMap.{get}
use Rattle.vrf_words.specs.declared.tree_defs.flow.SiteIface.{SiteIface}
use Rattle.vrf_words.specs.tree_defs.Keys.{same_flow}
use Rattle.vrf_words.specs.tree_defs.Flows.{chosen_for}
use Rattle.vrf_flows.specs.Sight.{flow_at, is_needed}
use Rattle.vrf_flows.specs.State.{Keeps, vrf_of}
use Rattle.vrf_flows.proofs.TreeLemmas.{absent-none, iface-needed, keeps-change, keeps-grown, kept-change, kept-grown}
use Rattle.vrf_flows.proofs.StateLemmas.{on-err, flows-same}
use Rattle.vrf_flows.proofs.state.State.add_iface.Goals as goal

pub returns-clause-sound : goal.returns-clause-sound
returns-clause-sound c =
    let old = c.args.self.now in
    let sound = c.requires.sound in
    let chosen = chosen_for old.routes sound.cost in
    let es = c.expiries.result.now.entries in
    let own : SiteIface = record { iface = c.args.iface; site = c.args.site } in
    let ifaces : c.push.new.self ≡ c.args.self.now.ifaces ++ (record { iface = c.args.iface; site = c.args.site }) ∷ [] = search rules in
    let more = old.ifaces ++ own ∷ [] in
    let grown =
    keeps-grown (get same_flow old.flows) (get same_flow c.hold_entries.new.flows) (flow_at old.ifaces old.entries old.sent.keys chosen old.clock)
    (is_needed old.ifaces old.entries old.sent.keys) sound.keeps c.hold_entries.ensures.grown in
    record {
      unique = c.mark.ensures.unique;
      rule = sound.rule;
      sent = sound.sent;
      cost = sound.cost;
      keeps = subst (λ (list : List SiteIface). Keeps (get same_flow c.mark.new.flows)
          (flow_at list c.args.self.now.entries c.args.self.now.sent.keys (chosen_for c.args.self.now.routes c.requires.sound.cost)
          c.args.self.now.clock) (is_needed list c.args.self.now.entries c.args.self.now.sent.keys)) (sym ifaces)
          (keeps-change (get same_flow c.hold_entries.new.flows) (get same_flow c.mark.new.flows) (λ q. true)
          (flow_at old.ifaces old.entries old.sent.keys chosen old.clock) (flow_at more old.entries old.sent.keys chosen old.clock)
          (is_needed old.ifaces old.entries old.sent.keys) (is_needed more old.entries old.sent.keys) grown c.mark.ensures.each (λ q h. absurd cc)
          (iface-needed (get same_flow old.flows) (get same_flow c.hold_entries.new.flows) old.ifaces own es old.entries old.sent.keys
          c.expiries.ensures.entries sound.keeps.needed (λ q. c.in_ok-hold_entries.ensures.each q))
          (λ q h. absent-none more old.entries old.sent.keys chosen old.clock q h));
    }

pub returns-clause-added : goal.returns-clause-added
returns-clause-added c =
    let old = c.args.self.now in
    let ifaces : c.push.new.self ≡ c.args.self.now.ifaces ++ (record { iface = c.args.iface; site = c.args.site }) ∷ [] = search rules in
    let flows =
    flows-same old.flows c.mark.new.flows c.requires.sound.unique c.mark.ensures.unique
    (λ q. kept-change _ _ _ (c.mark.ensures.each q) ∙ kept-grown true _ _ _ (c.hold_entries.ensures.grown q)) in
    λ i. record {
      ifaces = ifaces i;
      entries = old.entries;
      notes = sets.from_list old.notes.keys;
      actives = sets.from_list old.actives.keys;
      routes =
          old.routes;
      flows = flows i;
    }

pub returns-in_err-hold_entries-clause-unchanged : goal.returns-in_err-hold_entries-clause-unchanged
returns-in_err-hold_entries-clause-unchanged c =
    let old = c.args.self.now in
    let flows =
    flows-same old.flows c.hold_entries.new.flows c.requires.sound.unique c.hold_entries.ensures.unique
    (λ q. kept-grown true _ _ _ (c.hold_entries.ensures.grown q)) in
    on-err {P = vrf_of (record c.args.self.now { flows = c.hold_entries.new.flows }) ≡ vrf_of c.args.self.now} c.from_residual.result
    (λ i. record {
      ifaces = old.ifaces;
      entries = old.entries;
      notes = sets.from_list old.notes.keys;
      actives =
          sets.from_list old.actives.keys;
      routes = old.routes;
      flows = flows i;
    })

pub returns-in_err-push-clause-unchanged : goal.returns-in_err-push-clause-unchanged
returns-in_err-push-clause-unchanged c =
    let old = c.args.self.now in
    let flows =
    flows-same old.flows c.hold_entries.new.flows c.requires.sound.unique c.hold_entries.ensures.unique
    (λ q. kept-grown true _ _ _ (c.hold_entries.ensures.grown q)) in
    on-err {P = vrf_of (record c.args.self.now { ifaces = c.push.new.self; flows = c.hold_entries.new.flows }) ≡ vrf_of c.args.self.now}
    c.from_residual-in_err-push.result (λ i. record {
      ifaces = c.in_err-push.ensures.err i;
      entries = old.entries;
      notes =
          sets.from_list old.notes.keys;
      actives = sets.from_list old.actives.keys;
      routes = old.routes;
      flows = flows i;
    })
