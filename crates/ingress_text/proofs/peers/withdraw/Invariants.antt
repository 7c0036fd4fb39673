use Rattle.std.proofs.Common.{◌≡◌, fold, length}
use Rattle.bgp_messages.specs.bgp_update.Table.{unannounced}
use Rattle.ingress_text.specs.Telling.{answer_after}
use Rattle.ingress_text.proofs.peers.withdraw.Given as goal

-- the other keys are still to be withdrawn
abbrev pub invariant-keys : goal.invariant-keys
invariant-keys l =
    fold (answer_after l.request l.leaf) l.answer (unannounced l.rest) ≡ fold (answer_after l.request l.leaf) l.initial.answer (unannounced l.keys)

abbrev pub decreases-keys : goal.decreases-keys
decreases-keys l = length l.rest
