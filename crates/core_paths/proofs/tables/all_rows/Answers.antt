use Rattle.std.proofs.Common.{◌≡◌, ◌∙◌, ◌+◌, ◌++◌, ◌<◌, ℕ, ap, sym, subst, get_or, List}
use Rattle.core_paths.specs.Rows.{far}
use Rattle.core_paths.specs.Tables.{IsCostTable, IsStepTable}
use Rattle.core_paths.proofs.TableLemmas.{all_near, more_costs, more_steps}
use Rattle.core_paths.proofs.tables.all_rows.Goals as goal

pub steps_toward-requires-clause-near : goal.steps_toward-requires-clause-near
steps_toward-requires-clause-near c =
    let same : c.deref.result.now ≡ c.in_ok-row.row.items = c.deref.ensures.value in
    subst (λ (row : List ℕ). (k : ℕ) → k < c.args.nodes → get_or row k 0 < far) (sym same)
    (all_near c.args.links.now c.args.nodes c.loop-to.to c.in_ok-row.row.items c.requires.connected c.loop-to-test.true c.in_ok-row.ensures)

pub loop-to-preserved : goal.loop-to-preserved
loop-to-preserved c =
    let links = c.args.links.now in
    let nodes = c.args.nodes in
    let row = c.in_ok-row.row.items in
    let steps = c.in_ok-steps.steps.items in
    let costs : c.extend_from_slice.new.self.items ≡ c.loop-to.costs.items ++ row =
    c.in_ok-extend_from_slice.ensures.items ∙ ap (λ (l : List ℕ). c.loop-to.costs.items ++ l) c.deref-in-loop-to.ensures.value in
    let nexts : c.extend_from_slice-in-loop-to.new.self.items ≡ c.loop-to.nexts.items ++ steps =
    c.in_ok-extend_from_slice-2.ensures.items ∙ ap (λ (l : List ℕ). c.loop-to.nexts.items ++ l) c.deref-in-loop-to-2.ensures.value in
    let near = all_near links nodes c.loop-to.to row c.requires.connected c.loop-to-test.true c.in_ok-row.ensures in
    record {
      costs = subst (λ (l : List ℕ). IsCostTable links nodes (c.loop-to.to + 1) l) (sym costs)
          (more_costs links nodes c.loop-to.to c.loop-to.costs.items row c.loop-to.invariant.costs c.in_ok-row.ensures near);
      nexts = subst (λ (l : List ℕ). IsStepTable links nodes (c.loop-to.to + 1) l) (sym nexts)
          (more_steps links nodes c.loop-to.to c.loop-to.nexts.items steps c.loop-to.invariant.nexts c.in_ok-steps.ensures);
    }
