use Rattle.wire_laws.proofs.EndLemmas.{calls_ends, follows_ends, moves_ends}
use Rattle.wire_laws.proofs.ends.ends_come_up_by_raises.Goals as goal

pub returns-clause-calls : goal.returns-clause-calls
returns-clause-calls c = λ n network call new e has kind m peer. calls_ends network new n call e has kind m peer

pub returns-clause-follows : goal.returns-clause-follows
returns-clause-follows c = λ n network new e kind m peer. follows_ends network new n e kind m peer

pub returns-clause-moves : goal.returns-clause-moves
returns-clause-moves c = λ over count network new e kind m peer. moves_ends network new over count e kind m peer
