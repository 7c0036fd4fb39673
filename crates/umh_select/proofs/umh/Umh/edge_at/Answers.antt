use Rattle.std.proofs.Common.{rules, ◌≤◌, arith, sym, ◌∙◌}
use Rattle.std.specs.FinMap.{entries}
use Rattle.umh_select.specs.Edges.{edges_in}
use Rattle.umh_select.specs.Routes.{at_length}
use Rattle.umh_select.proofs.EdgeLemmas.{edges_rise, first_edge, next_edge, one_more, past_end}
use Rattle.umh_select.proofs.umh.Umh.edge_at.Goals as goal

pub loop-passed-init : goal.loop-passed-init
loop-passed-init c = record {
  edge = c.edge_after-edge.ensures ∙ first_edge (at_length c.args.source c.args.bits (entries c.args.self.now.learned));
  within = omega arith;
}

pub returns-in-None-clause-none : goal.returns-in-None-clause-none
returns-in-None-clause-none c =
    let listed = at_length c.args.source c.args.bits (entries c.args.self.now.learned) in
    let within : c.loop-passed.passed ≤ c.args.number = search rules in
    (past_end (edges_in listed) c.loop-passed.passed c.loop-passed.invariant.within (sym c.loop-passed.invariant.edge ∙ c.in-None.is), within)

pub loop-passed-preserved : goal.loop-passed-preserved
loop-passed-preserved c =
    let listed = at_length c.args.source c.args.bits (entries c.args.self.now.learned) in
    let is = sym c.loop-passed.invariant.edge ∙ c.in-Some.is in
    let more = one_more (edges_in listed) c.loop-passed.passed _ is in
    record {
      edge = next_edge (edges_in listed) c.loop-passed.passed _ c.edge_after-edge-in-Some.result (edges_rise listed) is
          c.edge_after-edge-in-Some.ensures;
      within = omega (arith, more);
    }
