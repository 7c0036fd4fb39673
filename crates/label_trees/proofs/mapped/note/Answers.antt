use Rattle.std.proofs.Common.{subst, sym}
use Rattle.label_forwarding.specs.FibData.{FibData}
use Rattle.label_trees.specs.Trees.{AreMapped}
use Rattle.label_trees.proofs.MapLemmas.{noted, note_lost}
use Rattle.label_trees.proofs.mapped.note.Goals as goal

pub returns-in-Ok-clause-all : goal.returns-in-Ok-clause-all
returns-in-Ok-clause-all c = subst (λ (f : FibData). AreMapped f.pairs c.args.uses.now.labels) (sym c.in-Ok.ensures.ok)
    (noted c.args.fib.now.pairs c.args.uses.now.labels c.args.label c.args.fec.now c.args.upstream c.requires.others c.requires.mapped)

pub returns-in-Err-clause-all : goal.returns-in-Err-clause-all
returns-in-Err-clause-all c =
    note_lost c.leave.result c.args.fib.now c.map.new.self c.args.uses.now c.leave.new.self c.args.label c.args.fec.now c.args.upstream
    c.in-Err.ensures.err c.requires.others c.requires.mapped c.leave.ensures.leaving c.leave.ensures.free
