use Rattle.std.specs.FinSet as sets
use Rattle.vrf_flows.proofs.StateLemmas.{no-flows}
use Rattle.vrf_flows.proofs.state.State.forget_flows.Goals as goal

pub returns-clause-forgotten : goal.returns-clause-forgotten
returns-clause-forgotten c =
    let old = c.args.self.now in
    let none = no-flows old.flows c.forget.new.self c.forget.ensures.unique c.forget.ensures.each in
    λ i. record {
      ifaces = old.ifaces;
      entries = old.entries;
      notes = sets.from_list old.notes.keys;
      actives =
          sets.from_list old.actives.keys;
      routes = old.routes;
      flows = none i;
    }
