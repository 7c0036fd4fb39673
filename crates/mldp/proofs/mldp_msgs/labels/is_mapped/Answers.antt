use Rattle.std.proofs.Common.{◌≡◌, ◌+◌, ◌++◌, ◌∷◌, [], ◌↔◌, IsTrue, List, take, sym, ap, subst, ◌∙◌}
use Rattle.std.proofs.lemmas.List.{take_more, take_all}
use Rattle.mldp.specs.declared.mldp_msgs.message.LabelMessage.{LabelMessage}
use Rattle.mldp.specs.mldp_msgs.Labels.{IsMapped}
use Rattle.mldp.proofs.mldp_msgs.Mappings.{none_mapped, mapped_more}
use Rattle.mldp.proofs.mldp_msgs.labels.is_mapped.Goals as goal

pub messages-init : goal.messages-init
messages-init c = (λ h. absurd cc, λ h. absurd (none_mapped c.args.fec.now c.args.label h))

pub messages-preserved : goal.messages-preserved
messages-preserved c =
    let all = c.args.messages.now in
    let index = c.messages.message-index in
    let item = c.message-item.result in
    let one_more : take (index + 1) all ≡ take index all ++ item ∷ [] =
    take_more all index item c.messages-test.true ∙ ap (λ (m : LabelMessage). take index all ++ m ∷ []) (sym c.message-item.is) in
    let P : List LabelMessage → Type 0 = λ ms. IsTrue c.mapped_by-mapped.result ↔ IsMapped ms c.args.fec.now c.args.label in
    subst P (sym one_more) (mapped_more (take index all) item c.args.fec.now c.args.label c.messages.mapped c.mapped_by-mapped.result
    c.mapped_by-mapped.ensures c.messages.invariant)

pub returns : goal.returns
returns c =
    let P : List LabelMessage → Type 0 = λ ms. IsTrue c.messages.mapped ↔ IsMapped ms c.args.fec.now c.args.label in
    subst P (take_all c.messages.message-index c.args.messages.now c.messages-test.false) c.messages.invariant
