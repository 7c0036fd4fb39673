use Rattle.ingress_text.specs.declared.input.Said.TheVariants.{Leaf}
use Rattle.ingress_text.proofs.TellLemmas.{takes_said}
use Rattle.ingress_text.proofs.telling.tell_line.Goals as goal

pub returns-in_ok-tell_answer-in-Leaf-clause-peers : goal.returns-in_ok-tell_answer-in-Leaf-clause-peers
returns-in_ok-tell_answer-in-Leaf-clause-peers c =
    takes_said c.args.root.now c.args.line.now (Leaf c.in-Leaf.leaf c.in-Leaf.label) c.args.peers.now c.tell_answer.new.peers c.in-Leaf.is
    c.in_ok-tell_answer-in-Leaf.ensures.peers
