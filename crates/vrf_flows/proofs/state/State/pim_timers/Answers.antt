use Rattle.std.proofs.Common.{sym, subst}
use Rattle.std.specs.List.{list_any}
use Rattle.std.specs.FinSet as sets
use Rattle.indexmap.specs.IndexMap.{get}
use Rattle.pim_defs.specs.Entries.{Entries, kept_at}
use Rattle.vrf_words.specs.tree_defs.Keys.{same_flow}
use Rattle.vrf_words.specs.tree_defs.Flows.{chosen_for}
use Rattle.vrf_flows.specs.Held.{ended}
use Rattle.vrf_flows.specs.Sight.{flow_at, is_needed}
use Rattle.vrf_flows.specs.State.{Keeps}
use Rattle.vrf_flows.proofs.TreeLemmas.{absent-none, keeps-change, kept-change, timers-needed, timers-same}
use Rattle.vrf_flows.proofs.StateLemmas.{flows-same}
use Rattle.vrf_flows.proofs.state.State.pim_timers.Goals as goal

pub returns-clause-sound : goal.returns-clause-sound
returns-clause-sound c =
    let old = c.args.self.now in
    let sound = c.requires.sound in
    let es = c.expiries.result.now.entries in
    let chosen = chosen_for old.routes sound.cost in
    record {
      unique = c.mark_ended.ensures.unique;
      rule = sound.rule;
      sent = sound.sent;
      cost = sound.cost;
      keeps = subst (λ (entries : Entries). Keeps (get same_flow c.mark_ended.new.flows)
          (flow_at c.args.self.now.ifaces entries c.args.self.now.sent.keys (chosen_for c.args.self.now.routes c.requires.sound.cost)
          c.args.self.now.clock) (is_needed c.args.self.now.ifaces entries c.args.self.now.sent.keys)) (sym c.timers.ensures.kept)
          (keeps-change (get same_flow old.flows) (get same_flow c.mark_ended.new.flows) (λ q. list_any (ended c.args.now q) es)
          (flow_at old.ifaces old.entries old.sent.keys chosen old.clock)
          (flow_at old.ifaces (kept_at old.entries c.args.now) old.sent.keys chosen old.clock)
          (is_needed old.ifaces old.entries old.sent.keys) (is_needed old.ifaces (kept_at old.entries c.args.now) old.sent.keys) sound.keeps
          c.mark_ended.ensures.each
          (λ q h. timers-same old.ifaces es old.entries old.sent.keys chosen old.clock c.args.now q c.expiries.ensures.entries h)
          (λ q h. sound.keeps.needed q (timers-needed old.ifaces old.entries old.sent.keys c.args.now q h))
          (λ q h. absent-none old.ifaces (kept_at old.entries c.args.now) old.sent.keys chosen old.clock q h));
    }

pub returns-clause-kept : goal.returns-clause-kept
returns-clause-kept c =
    let old = c.args.self.now in
    let flows =
    flows-same old.flows c.mark_ended.new.flows c.requires.sound.unique c.mark_ended.ensures.unique
    (λ q. kept-change _ _ _ (c.mark_ended.ensures.each q)) in
    λ i. record {
      ifaces = old.ifaces;
      entries = c.timers.ensures.kept i;
      notes = sets.from_list old.notes.keys;
      actives =
          sets.from_list old.actives.keys;
      routes = old.routes;
      flows = flows i;
    }
