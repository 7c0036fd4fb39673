use Rattle.std.proofs.Common.{◌≡◌, ℕ, List, ◌++◌, length}
use Rattle.decode_text.specs.Sessions.{session_of}
use Rattle.decode_text.proofs.SessionLemmas.{ToldSoFar}
use Rattle.decode_text.proofs.session.tell_session.Given as goal

-- the octets in front of the rest were taken and told
abbrev pub invariant-loop-rest : goal.invariant-loop-rest
invariant-loop-rest g l = record {
  front : List ℕ;
  parts : l.fn.octets ≡ front ++ l.rest;
  told : ToldSoFar (session_of g.S.SessionStream.spells g.S.SessionStream.faulty g.S.Message.Lined.lines g.S.Fault.Worded.word) front
      (g.S.SessionStream.state l.stream) l.text;
}

abbrev pub decreases-loop-rest : goal.decreases-loop-rest
decreases-loop-rest g l = length l.rest
