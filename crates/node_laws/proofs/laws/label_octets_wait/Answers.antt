use Rattle.label_defs.specs.Steps.{step_puts}
use Rattle.node_laws.proofs.OctetLemmas.{all_wait, others_stay}
use Rattle.node_laws.proofs.laws.label_octets_wait.Goals as goal

pub returns : goal.returns
returns c = record {
  labels = λ me addr place now step waiting own same. all_wait me addr (step_puts place now step.old step.call step.new.puts) waiting own same;
  others = λ me addr place now step waiting peer. others_stay me addr (step_puts place now step.old step.call step.new.puts) waiting peer;
}
