use Rattle.std.proofs.Common.{inl, inr, sym, ap, ◌∙◌}
use Rattle.label_defs.specs.Settling.{same_neighbour}
use Rattle.mldp_node.proofs.PartLemmas.{moved_off}
use Rattle.mldp_node.proofs.SettleLemmas.{on_ok}
use Rattle.mldp_node.proofs.settling.settle_mapped.Goals as goal
use Rattle.mldp_node.proofs.settling.settle_mapped.Goals.{else-is_on-via-then-is_on+else-same_neighbour, else-is_on-via-else-is_on}

pub returns-else-is_on : goal.returns-else-is_on
returns-else-is_on c = on_ok c.withdraw.result
    (λ h up. moved_off c.args.fec.now c.args.label up c.args.trees.now c.withdraw.new.trees c.args.puts.now.items c.withdraw.new.puts.items
    c.args.upstream c.requires
    (elim c.else-is_on.branch [
      | else-is_on-via-then-is_on+else-same_neighbour w ↦
          inr (ap (λ o. same_neighbour o c.args.upstream) (sym w.upstream.ensures) ∙ sym w.same_neighbour.ensures ∙ w.if-same_neighbour.false)
      | else-is_on-via-else-is_on w ↦ inl (sym c.is_on.ensures ∙ w.if-is_on.false)
    ]) (h c.args.upstream))
    c.withdraw.ensures
