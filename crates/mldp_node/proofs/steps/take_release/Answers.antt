use Rattle.std.proofs.Common.{◌+◌}
use Rattle.mldp_node.proofs.SettleLemmas.{on_ok}
use Rattle.mldp_node.proofs.StepLemmas.{release_tied, release_made}
use Rattle.mldp_node.proofs.steps.take_release.Goals as goal

pub finish-requires-clause-tied : goal.finish-requires-clause-tied
finish-requires-clause-tied c =
    release_tied c.args.trees.now c.release.new.self c.args.ends.now c.args.from c.args.fec.now c.args.label
    (c.args.now + c.args.trees.now.uses.life + 1) c.release.ensures c.requires.tied

pub returns-clause-ok : goal.returns-clause-ok
returns-clause-ok c = on_ok c.finish.result
    (release_made c.args.core.now c.args.place.now c.args.now c.args.trees.now c.args.ends.now c.release.new.self c.new.result.items c.args.from
    c.args.fec.now c.args.label c.finish.new.trees c.finish.new.ends
    c.requires.life c.release.ensures c.new.ensures.items)
    c.finish.ensures.ok
