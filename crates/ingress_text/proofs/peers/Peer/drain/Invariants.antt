use Rattle.std.proofs.Common.{◌≡◌, [], fold, length}
use Rattle.ingress_text.specs.Telling.{answer_by}
use Rattle.ingress_text.proofs.peers.Peer.drain.Given as goal

-- the other messages are still to be heard
abbrev pub invariant-loop-message : goal.invariant-loop-message
invariant-loop-message l = record {
  all : fold (answer_by l.request l.leaf) l.self.answer l.self.stream.waiting
      ≡ fold (answer_by l.request l.leaf) l.initial.self.answer l.initial.self.stream.waiting;
  same : record l.self.stream { waiting = [] } ≡ record l.initial.self.stream { waiting = [] };
}

abbrev pub decreases-loop-message : goal.decreases-loop-message
decreases-loop-message l = length l.self.stream.waiting
