use Rattle.std.proofs.Common.{◌≡◌, fold, length}
use Rattle.std.specs.Vec.Iter.{into_iter_items, into_iter_len}
use Rattle.bgp_messages.specs.bgp_update.Table.{announced}
use Rattle.ingress_text.specs.Telling.{answer_after}
use Rattle.ingress_text.proofs.peers.announce.Given as goal

-- the other routes are still to be announced
abbrev pub invariant-loop-advert : goal.invariant-loop-advert
invariant-loop-advert l = record {
  all : fold (answer_after l.request l.leaf) l.answer (announced (into_iter_items l.advert-iterator))
      ≡ fold (answer_after l.request l.leaf) l.initial.answer (announced (into_iter_items l.initial.advert-iterator));
  long : into_iter_len l.advert-iterator ≡ length (into_iter_items l.advert-iterator);
}
