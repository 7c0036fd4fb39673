use Rattle.std.proofs.Common.{rules, refl}
use Rattle.audit_events.proofs.WayLemmas.{item_in}
use Rattle.mvpn_audit.proofs.ExitLemmas.{no_outs, outs_next}
use Rattle.mvpn_audit.proofs.exits.out_lines.Goals as goal

pub loop-numbered-init : goal.loop-numbered-init
loop-numbered-init c =
    no_outs c.args.lines.now (record { exits = c.new-exits.result; repeats = c.new-repeats.result }) (λ own. search rules) c.new-exits.ensures.unique
    c.new-repeats.ensures

pub note-requires : goal.note-requires
note-requires c = c.loop-numbered.invariant.exits.unique

pub loop-numbered-preserved : goal.loop-numbered-preserved
loop-numbered-preserved c =
    outs_next c.args.lines.now c.loop-numbered.numbered-index c.numbered-item.result
    (item_in refl c.loop-numbered.numbered-index c.numbered-item.result c.loop-numbered-test.true c.numbered-item.is)
    c.loop-numbered.exits c.note.new.exits c.loop-numbered.repeats c.push.new.self _ c.loop-numbered.invariant (λ own. c.in_ok-note.ensures.each own)
    c.in_ok-note.ensures.earlier c.in_ok-note.ensures.unique c.in_ok-push.ensures.ok
