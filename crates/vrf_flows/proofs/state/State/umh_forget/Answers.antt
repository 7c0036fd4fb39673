use Rattle.std.proofs.Common.{subst, sym}
use Rattle.std.specs.FinMap as maps
use Rattle.std.specs.FinSet as sets
use Rattle.indexmap.specs.IndexMap.{get}
use Rattle.mv_base.specs.Prefix.{covers}
use Rattle.umh_select.specs.Routes.{Routes, key_from}
use Rattle.vrf_words.specs.tree_defs.Keys.{same_flow}
use Rattle.vrf_words.specs.tree_defs.Flows.{chosen_for}
use Rattle.vrf_flows.specs.Sight.{flow_at, is_needed}
use Rattle.vrf_flows.specs.State.{IsSound}
use Rattle.vrf_flows.proofs.CoverLemmas.{forgotten-apart}
use Rattle.vrf_flows.proofs.TreeLemmas.{absent-none, keeps-change, kept-change, routes-same}
use Rattle.vrf_flows.proofs.StateLemmas.{flows-same}
use Rattle.vrf_flows.proofs.state.State.umh_forget.Goals as goal

pub returns-clause-sound : goal.returns-clause-sound
returns-clause-sound c =
    let old = c.args.self.now in
    let sound = c.requires.sound in
    let next : Routes =
    record c.args.self.now.routes { learned = maps.remove c.args.self.now.routes.learned (key_from c.args.peer c.args.rd c.args.prefix) } in
    subst (λ (r : Routes). IsSound (record c.args.self.now { routes = r; flows = c.mark.new.flows })) (sym c.forget.ensures)
    (record {
      unique = c.mark.ensures.unique;
      rule = sound.rule;
      sent = sound.sent;
      cost = sound.cost;
      keeps = keeps-change (get same_flow old.flows) (get same_flow c.mark.new.flows) (λ q. covers c.args.prefix q.source)
          (flow_at old.ifaces old.entries old.sent.keys (chosen_for old.routes sound.cost) old.clock)
          (flow_at old.ifaces old.entries old.sent.keys (chosen_for next sound.cost) old.clock)
          (is_needed old.ifaces old.entries old.sent.keys) (is_needed old.ifaces old.entries old.sent.keys) sound.keeps c.mark.ensures.each
          (λ q h. routes-same old.ifaces old.entries old.sent.keys (chosen_for old.routes sound.cost) (chosen_for next sound.cost) old.clock q
          (forgotten-apart old.routes sound.cost c.args.peer c.args.rd c.args.prefix q h))
          sound.keeps.needed (λ q h. absent-none old.ifaces old.entries old.sent.keys (chosen_for next sound.cost) old.clock q h);
    })

pub returns-clause-forgotten : goal.returns-clause-forgotten
returns-clause-forgotten c =
    let old = c.args.self.now in
    let is = c.forget.ensures in
    let flows =
    flows-same old.flows c.mark.new.flows c.requires.sound.unique c.mark.ensures.unique (λ q. kept-change _ _ _ (c.mark.ensures.each q)) in
    λ i. record {
      ifaces = old.ifaces;
      entries = old.entries;
      notes = sets.from_list old.notes.keys;
      actives =
          sets.from_list old.actives.keys;
      routes = is i;
      flows = flows i;
    }
