use Rattle.std.proofs.Common.{◌∙◌, ◌+◌, ℕ, Option, Some, length, sym, ap}
use Rattle.probe_defs.specs.Lines.{joins_of}
use Rattle.probe_defs.specs.declared.probe.ProbeLine.{ProbeLine}
use Rattle.probe_text.specs.Grammar.{with_line}
use Rattle.probe_text.proofs.FrontLemmas.{joins_join, joins_piece}
use Rattle.probe_text.proofs.reader.add_line.Goals as goal

pub returns-in_ok-push-in-Some-Join-clause-joins : goal.returns-in_ok-push-in-Some-Join-clause-joins
returns-in_ok-push-in-Some-Join-clause-joins c =
    ap (λ (n : ℕ). n + 1) c.requires.joins ∙ sym (joins_join c.args.lines.now c.in-Some-Join.iface c.in-Some-Join.source c.in-Some-Join.group)
    ∙ ap (λ (l : Option ProbeLine). length (joins_of (with_line c.args.lines.now l)))
    (sym (c.in-Some-Join.is ∙ (λ i. Some (c.in-Some-Join.field-0-is i))))

pub returns-in_ok-push-in-Some-Piece-clause-joins : goal.returns-in_ok-push-in-Some-Piece-clause-joins
returns-in_ok-push-in-Some-Piece-clause-joins c =
    c.requires.joins ∙ sym (joins_piece c.args.lines.now c.in-Some-Piece.octets)
    ∙ ap (λ (l : Option ProbeLine). length (joins_of (with_line c.args.lines.now l)))
    (sym (c.in-Some-Piece.is ∙ (λ i. Some (c.in-Some-Piece.field-0-is i))))
