use Rattle.std.proofs.Common.{rules, ◌≡◌, true, arith, sym}
use Rattle.scenario_text.proofs.LineMeets.{line_new}
use Rattle.scenario_text.proofs.RulesLemmas.{sound, line_holds, script_rules}
use Rattle.scenario_text.proofs.reader.read.Goals as goal

pub add-requires : goal.add-requires
add-requires c =
    line_new c.lines.draft c.lines.number c.split_line.result.0.now c.in_ok-said.said (sound c.lines.draft c.lines.number c.lines.invariant.holds)
    c.in_ok-said.ensures

pub lines-preserved : goal.lines-preserved
lines-preserved c = record {
  same = search rules;
  count = omega arith;
  holds = rw c.in_ok-add.ensures (line_holds c.lines.draft c.lines.number c.split_line.result.0.now c.in_ok-said.said c.lines.invariant.holds
      c.in_ok-said.ensures);
}

pub returns-clause-rules : goal.returns-clause-rules
returns-clause-rules c =
    let begun : c.lines.draft.begun ≡ true = sym c.if-not-begun.ensures in
    rw c.into_script.ensures (script_rules c.lines.draft c.lines.number c.lines.invariant.holds begun)
