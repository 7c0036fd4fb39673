use Rattle.std.proofs.Common.{◌∙◌, ap, arith}
use Rattle.indexmap.proofs.CallerLemmas.{insert_entry-new}
use Rattle.label_forwarding.specs.Hops.{is_hop}
use Rattle.label_forwarding.specs.Slots.{noted}
use Rattle.label_forwarding.proofs.NoteLemmas.{noted_push, noted_few, ok_then}
use Rattle.label_forwarding.proofs.pairs.note.Goals as goal

pub returns-clause-counts : goal.returns-clause-counts
returns-clause-counts c = λ own.
    ap (noted own) (ok_then c.insert.result (c.insert.ensures.succeeds c.requires.room) c.insert.ensures.entries
    ∙ insert_entry-new is_hop c.args.pairs.now c.args.at c.args.fec.now c.requires.absent)
    ∙ noted_push c.args.pairs.now.entries c.args.at c.args.fec.now own

pub returns-clause-few : goal.returns-clause-few
returns-clause-few c = λ own. noted_few c.insert.new.self.entries own (omega (arith, c.len-notes.ensures.len, c.len-notes.ensures.small))
