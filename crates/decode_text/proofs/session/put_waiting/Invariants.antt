use Rattle.std.proofs.Common.{◌≡◌, [], ◌++◌, length}
use Rattle.std.specs.List.{flat_map, AllByRecursion}
use Rattle.decode_text.proofs.session.put_waiting.Given as goal

-- the lines of the messages that wait are still to come, those of the others stand, and nothing else changes
abbrev pub invariant-loop-message : goal.invariant-loop-message
invariant-loop-message g l = record {
  all : l.text ++ flat_map g.S.Message.Lined.lines (g.S.SessionStream.state l.stream).waiting ≡ l.initial.text
      ++ flat_map g.S.Message.Lined.lines (g.S.SessionStream.state l.initial.stream).waiting;
  tellable : AllByRecursion g.S.Message.Lined.IsTellable (g.S.SessionStream.state l.stream).waiting;
  same : record (g.S.SessionStream.state l.stream) { waiting = [] } ≡ record (g.S.SessionStream.state l.initial.stream) { waiting = [] };
}

abbrev pub decreases-loop-message : goal.decreases-loop-message
decreases-loop-message g l = length (g.S.SessionStream.state l.stream).waiting
