use Rattle.ingress_laws.proofs.LastLemmas.{lines_by}
use Rattle.ingress_laws.proofs.texts.leaf_lines_are_answers.Goals as goal

pub returns : goal.returns
returns c = λ root lines said n lets.
    let is = lines_by root n lines said.addresses lets in
    record { answers = is.0; fit = is.1 }
