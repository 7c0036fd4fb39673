use Rattle.std.proofs.Common.{subst}
use Rattle.mv_base.specs.framing.Feed.{Fed}
use Rattle.mv_base.specs.framing.Feeding.{Feeds, AnswersFirst}
use Rattle.mv_base.proofs.framing.Feedings.{feeds, answers_first}
use Rattle.bgp_messages.specs.declared.bgp_attributes.update.Message.{Message}
use Rattle.bgp_messages.specs.declared.bgp_attributes.fault.StreamFault.{StreamFault}
use Rattle.bgp_messages.specs.bgp_update.Reading.{message_front}
use Rattle.bgp_messages.specs.bgp_update.Spelling.{SpellsMessage}
use Rattle.bgp_messages.specs.bgp_update.FirstFault.{UnitFault}
use Rattle.bgp_messages.proofs.bgp_update.Messages.{message_format}
use Rattle.bgp_messages.proofs.bgp_update.Feeding.{fed_by_cutting}
use Rattle.bgp_messages.proofs.bgp_update.stream.Stream.feed.Goals as goal

pub returns-clause-feeds : goal.returns-clause-feeds
returns-clause-feeds c =
    let P : Fed Message StreamFault → Type 0 = λ d. Feeds SpellsMessage UnitFault 4096 d c.args.bytes.now c.accept.result c.accept.new.self in
    let fed =
    fed_by_cutting c.self.inside.inbound c.append.new.self c.args.bytes.now c.held-len.result.now c.held.result.now c.in_ok-append.field-0
    c.cut_messages-found.result c.accept.result c.accept.new.self c.in_ok-append.ensures c.held-len.ensures c.held.ensures
    c.cut_messages-found.ensures.octets c.cut_messages-found.ensures.exact c.accept.ensures in
    subst P c.self.view_is (feeds message_front SpellsMessage UnitFault 4096 message_format c.self.inside.inbound c.args.bytes.now c.accept.result
    c.accept.new.self fed)

pub returns-clause-first : goal.returns-clause-first
returns-clause-first c =
    let P : Fed Message StreamFault → Type 0 = λ d. AnswersFirst SpellsMessage UnitFault d c.args.bytes.now c.accept.result in
    let fed =
    fed_by_cutting c.self.inside.inbound c.append.new.self c.args.bytes.now c.held-len.result.now c.held.result.now c.in_ok-append.field-0
    c.cut_messages-found.result c.accept.result c.accept.new.self c.in_ok-append.ensures c.held-len.ensures c.held.ensures
    c.cut_messages-found.ensures.octets c.cut_messages-found.ensures.exact c.accept.ensures in
    subst P c.self.view_is (answers_first message_front SpellsMessage UnitFault 4096 message_format c.self.inside.inbound c.args.bytes.now
    c.accept.result c.accept.new.self fed)
