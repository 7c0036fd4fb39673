use Rattle.std.proofs.Common.{ℕ, List, length, subst}
use Rattle.std.specs.Result.{IfOk}
use Rattle.mv_base.specs.Octets.{IsOctets}
use Rattle.mv_base.specs.framing.Cut.{cut, IsCutting}
use Rattle.mv_base.specs.framing.Feed.{Fed}
use Rattle.mv_base.specs.framing.Feeding.{FeedIs, Accepts}
use Rattle.mv_base.proofs.framing.Feedings.{fed_exactly, feeds, answers_first}
use Rattle.mldp.specs.declared.mldp_msgs.fault.LdpFault.{LdpFault}
use Rattle.mldp.specs.declared.mldp_msgs.message.LabelMessage.{LabelMessage}
use Rattle.mldp.specs.mldp_msgs.FirstFault.{PduFault}
use Rattle.mldp.specs.mldp_msgs.Reading.{pdu_front}
use Rattle.mldp.specs.mldp_msgs.Spelling.{SpellsPdu}
use Rattle.mldp.proofs.mldp_msgs.Pdus.{pdu_format}
use Rattle.mldp.proofs.mldp_msgs.stream.Stream.feed.Goals as goal

-- what was appended, cut and accepted
fed_so : (c : goal.After-accept) → FeedIs pdu_front c.args.self.now c.args.bytes.now c.accept.result c.accept.new.self
fed_so c =
    let found = c.cut_pdus-found.result in
    let old = c.self.inside.inbound in
    let P : List ℕ → Type 0 = λ xs. IsOctets xs × IfOk found (λ k. IsCutting xs (cut pdu_front xs) k.messages.items k.len k.fault) in
    let cutting = subst P c.held.ensures (c.cut_pdus-found.ensures.octets, c.cut_pdus-found.ensures.exact) in
    let accepts =
    subst (λ (xs : List ℕ). Accepts c.append.new.self (length xs) found c.accept.result c.accept.new.self) c.held-len.ensures c.accept.ensures in
    let fed =
    fed_exactly pdu_front old c.append.new.self c.args.bytes.now c.in_ok-append.field-0 found c.accept.result c.accept.new.self
    c.in_ok-append.ensures cutting.0 cutting.1 accepts in
    subst (λ (d : Fed LabelMessage LdpFault). FeedIs pdu_front d c.args.bytes.now c.accept.result c.accept.new.self) c.self.view_is fed

pub returns-clause-feeds : goal.returns-clause-feeds
returns-clause-feeds c =
    feeds pdu_front SpellsPdu PduFault 4100 pdu_format c.args.self.now c.args.bytes.now c.accept.result c.accept.new.self (fed_so c)

pub returns-clause-first : goal.returns-clause-first
returns-clause-first c =
    answers_first pdu_front SpellsPdu PduFault 4100 pdu_format c.args.self.now c.args.bytes.now c.accept.result c.accept.new.self (fed_so c)
