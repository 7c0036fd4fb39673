use Rattle.std.proofs.Common.{◌≡◌, ◌∙◌, ◌+◌, ◌-◌, ℕ, suc, take, drop, sym, ap, subst, arith}
use Rattle.std.specs.Str.Lines.{lines}
use Rattle.line_words.specs.Answers.{Fails}
use Rattle.scenario_lines.specs.scenario_draft.Drafted.{Drafted}
use Rattle.scenario_lines.proofs.scenario_draft.KeptRules.{Kept}
use Rattle.probe_text.specs.Grammar.{declared_from}
use Rattle.probe_text.proofs.FrontLemmas.{declared_next, drop_next, front_fails, line_kept, line_new}
use Rattle.probe_text.proofs.reader.read_front.Goals as goal

pub add-requires : goal.add-requires
add-requires c = line_new c.lines.draft (c.lines.done + 1) c.split_line.result.0.now c.in-Ok.said c.lines.invariant.kept c.in-Ok.ensures

pub lines-preserved : goal.lines-preserved
lines-preserved c =
    let place = c.args.place in
    let done = c.lines.done in
    let line = c.split_line.result.0.now in
    let more = lines c.split_line.result.1.now in
    let k = place - (done + 1) in
    let at : place - done ≡ suc k = omega (arith, c.lines-test.true) in
    let next : done + 1 ≡ suc done = omega arith in
    record {
      same = ap (λ (d : Drafted). declared_from d (done + 1 + 1) (take k more)) c.in_ok-add.ensures
          ∙ sym (declared_next c.lines.draft (done + 1) k (lines c.lines.rest.now) line more c.in-Ok.said c.split_line.ensures.line c.in-Ok.ensures)
          ∙ ap (λ (n : ℕ). declared_from c.lines.draft (done + 1) (take n (lines c.lines.rest.now))) (sym at)
          ∙ c.lines.invariant.same;
      rows = sym (ap (λ (n : ℕ). drop n (lines c.args.text.now)) next
          ∙ drop_next (lines c.args.text.now) done line more (sym c.lines.invariant.rows ∙ c.split_line.ensures.line));
      kept = subst Kept (sym c.in_ok-add.ensures) (line_kept c.lines.draft (done + 1) line c.in-Ok.said c.lines.invariant.kept c.in-Ok.ensures);
      within = omega (arith, c.lines-test.true);
      count = omega (arith, c.lines.invariant.count, c.split_line.ensures.shorter);
    }

pub returns-in-Err-clause-fault : goal.returns-in-Err-clause-fault
returns-in-Err-clause-fault c =
    let k = c.args.place - (c.lines.done + 1) in
    let at : c.args.place - c.lines.done ≡ suc k = omega (arith, c.lines-test.true) in
    subst (Fails c.in-Err.stop) (ap (λ (n : ℕ). declared_from c.lines.draft (c.lines.done + 1) (take n (lines c.lines.rest.now))) (sym at)
    ∙ c.lines.invariant.same)
    (front_fails c.lines.draft (c.lines.done + 1) k (lines c.lines.rest.now) c.split_line.result.0.now (lines c.split_line.result.1.now) c.in-Err.stop
    c.split_line.ensures.line c.in-Err.ensures)
