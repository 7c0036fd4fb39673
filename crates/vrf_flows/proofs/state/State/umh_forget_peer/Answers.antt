use Rattle.std.proofs.Common.{◌≡◌, subst, sym, ◌∙◌}
use Rattle.std.specs.FinSet as sets
use Rattle.std.specs.FinMap as maps
use Rattle.std.specs.List.{list_any}
use Rattle.indexmap.specs.IndexMap.{get}
use Rattle.umh_select.specs.Routes.{Routes, without_peer}
use Rattle.vrf_words.specs.declared.tree_defs.flow.Flow.{Flow}
use Rattle.vrf_words.specs.tree_defs.Flows.{chosen_for}
use Rattle.vrf_words.specs.tree_defs.Keys.{same_flow}
use Rattle.vrf_flows.specs.Held.{covers_from, marked}
use Rattle.vrf_flows.specs.Sight.{flow_at, is_needed}
use Rattle.vrf_flows.specs.State.{IsSound}
use Rattle.vrf_flows.proofs.CoverLemmas.{lost-apart}
use Rattle.vrf_flows.proofs.TreeLemmas.{absent-none, keeps-change, kept-change, routes-same}
use Rattle.vrf_flows.proofs.StateLemmas.{flows-same}
use Rattle.vrf_flows.proofs.state.State.umh_forget_peer.Goals as goal

pub returns-clause-sound : goal.returns-clause-sound
returns-clause-sound c =
    let old = c.args.self.now in
    let sound = c.requires.sound in
    let peer = c.args.peer in
    let next : Routes = record c.args.self.now.routes { learned = without_peer c.args.peer c.args.self.now.routes.learned } in
    let each : (q : Flow) → get same_flow c.mark_peer.new.flows q
    ≡ marked (list_any (covers_from c.args.peer q) (maps.entries c.args.self.now.routes.learned)) (get same_flow c.args.self.now.flows q) =
    λ q. c.mark_peer.ensures.each q
    ∙ (λ i. marked (list_any (covers_from c.args.peer q) (c.learned.ensures i)) (get same_flow c.args.self.now.flows q)) in
    subst (λ (r : Routes). IsSound (record c.args.self.now { routes = r; flows = c.mark_peer.new.flows })) (sym c.forget_peer.ensures)
    (record {
      unique = c.mark_peer.ensures.unique;
      rule = sound.rule;
      sent = sound.sent;
      cost = sound.cost;
      keeps = keeps-change (get same_flow old.flows) (get same_flow c.mark_peer.new.flows)
          (λ q. list_any (covers_from peer q) (maps.entries old.routes.learned))
          (flow_at old.ifaces old.entries old.sent.keys (chosen_for old.routes sound.cost) old.clock)
          (flow_at old.ifaces old.entries old.sent.keys (chosen_for next sound.cost) old.clock)
          (is_needed old.ifaces old.entries old.sent.keys) (is_needed old.ifaces old.entries old.sent.keys) sound.keeps each
          (λ q h. routes-same old.ifaces old.entries old.sent.keys (chosen_for old.routes sound.cost) (chosen_for next sound.cost) old.clock q
          (lost-apart peer q old.routes sound.cost h))
          sound.keeps.needed (λ q h. absent-none old.ifaces old.entries old.sent.keys (chosen_for next sound.cost) old.clock q h);
    })

pub returns-clause-forgotten : goal.returns-clause-forgotten
returns-clause-forgotten c =
    let old = c.args.self.now in
    let is = c.forget_peer.ensures in
    let flows =
    flows-same old.flows c.mark_peer.new.flows c.requires.sound.unique c.mark_peer.ensures.unique
    (λ q. kept-change _ _ _ (c.mark_peer.ensures.each q)) in
    λ i. record {
      ifaces = old.ifaces;
      entries = old.entries;
      notes = sets.from_list old.notes.keys;
      actives =
          sets.from_list old.actives.keys;
      routes = is i;
      flows = flows i;
    }
