use Rattle.indexmap.specs.IndexMap.{get}
use Rattle.mvpn_audit.specs.Exits.{is_exit}
use Rattle.mvpn_audit.proofs.ExitLemmas.{asked_more, asked_none, lacks_more}
use Rattle.std.proofs.Common.{refl}
use Rattle.mvpn_audit.proofs.exits.ask_all.Goals as goal

pub loop-iface-init : goal.loop-iface-init
loop-iface-init c = record { each = λ own. asked_none (get is_exit c.args.exits.now own); lacking = refl; unique = c.requires }

pub loop-iface-preserved : goal.loop-iface-preserved
loop-iface-preserved c =
    let before = get is_exit c.args.exits.now in
    let cur = get is_exit c.loop-iface.exits in
    record {
      each = asked_more c.args.number c.args.asked.now c.loop-iface.iface-index _ c.loop-iface-test.true before cur c.loop-iface.invariant.each
          (get is_exit c.ask-left.new.exits) c.ask-left.ensures.each;
      lacking =
          lacks_more c.args.number c.args.asked.now c.loop-iface.iface-index _ c.loop-iface-test.true before cur c.loop-iface.invariant.each
          c.loop-iface.lacks c.ask-left.result
          c.any_lacks-lacks.result c.loop-iface.invariant.lacking c.ask-left.ensures.left c.any_lacks-lacks.ensures;
      unique = c.ask-left.ensures.unique;
    }
