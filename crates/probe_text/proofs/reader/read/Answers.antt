use Rattle.std.proofs.Common.{rules, ◌<◌, length}
use Rattle.std.specs.Str.Lines.{lines}
use Rattle.line_words.specs.Answers.{Gives}
use Rattle.probe_text.specs.Grammar.{probe_of}
use Rattle.probe_text.proofs.FrontLemmas.{some_after}
use Rattle.probe_text.proofs.ReadLemmas.{given_is_probe}
use Rattle.probe_text.proofs.reader.read.Goals as goal

pub read_probe-requires-clause-line : goal.read_probe-requires-clause-line
read_probe-requires-clause-line c =
    let within : c.in-Ok.place < length (lines c.args.text.now) = search rules in
    some_after c.in_ok-front-in-Ok.front.thereafter.now (lines c.args.text.now) c.in-Ok.place c.in_ok-front-in-Ok.ensures.thereafter within

pub returns-in_ok-front-in-Ok-clause-probe : goal.returns-in_ok-front-in-Ok-clause-probe
returns-in_ok-front-in-Ok-clause-probe c =
    let gives : Gives c.read_probe.result (probe_of c.args.text.now) = search rules in
    given_is_probe c.args.text.now c.read_probe.result gives
