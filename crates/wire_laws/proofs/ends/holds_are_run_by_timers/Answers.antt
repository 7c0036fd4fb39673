use Rattle.wire_laws.proofs.EndLemmas.{calls_holds, follows_holds, moves_holds, timers_hold}
use Rattle.wire_laws.proofs.ends.holds_are_run_by_timers.Goals as goal

pub returns-clause-calls : goal.returns-clause-calls
returns-clause-calls c = λ n network call new e other m peer. calls_holds network new n call e other m peer

pub returns-clause-timed : goal.returns-clause-timed
returns-clause-timed c = λ n network new e peer. timers_hold network new n e peer

pub returns-clause-follows : goal.returns-clause-follows
returns-clause-follows c = λ n network new e m peer. follows_holds network new n e m peer

pub returns-clause-moves : goal.returns-clause-moves
returns-clause-moves c = λ over count network new e m peer. moves_holds network new over count e m peer
