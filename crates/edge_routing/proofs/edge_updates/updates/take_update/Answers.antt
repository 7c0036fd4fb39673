use Rattle.std.proofs.Common.{◌≡◌, [], sym, ap, ◌∙◌}
use Rattle.std.proofs.lemmas.Result.{IfOk-weaker}
use Rattle.bgp_messages.specs.declared.bgp_attributes.update.Message.{Message}
use Rattle.bgp_messages.specs.declared.bgp_attributes.update.Message.TheVariants as messages
use Rattle.bgp_messages.specs.bgp_update.Table.{changes_of}
use Rattle.edge_defs.specs.Steps.{with_update}
use Rattle.edge_routes.specs.edge_home.Home.{place_of}
use Rattle.control_laws.specs.Control.{control_of}
use Rattle.edge_routing.specs.edge_updates.Changed.{AreTaken}
use Rattle.edge_routing.specs.edge_updates.Inclusive.{AreTunnels}
use Rattle.edge_routing.proofs.edge_updates.TakenLemmas.{none_taken, tunnels_listed, update_is}
use Rattle.edge_routing.proofs.edge_updates.updates.take_update.Goals as goal

pub returns-in-Other-clause-taken : goal.returns-in-Other-clause-taken
returns-in-Other-clause-taken c = λ core.
    let old = c.args.control.now in
    (none_taken c.args.now c.args.peer old []).control ∙ update_is c.args.now c.args.peer (messages.Other c.in-Other.field-0) (control_of old)
    ∙ ap (λ (message : Message). with_update c.args.now c.args.peer message (control_of old)) (sym c.in-Other.is)

pub returns-in-Update-clause-taken : goal.returns-in-Update-clause-taken
returns-in-Update-clause-taken c = λ core.
    let message = messages.Update c.in-Update.update in
    let old = c.args.control.now in
    let new = c.take_parts.new.control in
    IfOk-weaker c.take_parts.result (λ changed. AreTaken c.args.now c.args.peer (changes_of message) old new [] changed.tunnels.items)
    (λ _. control_of new ≡ with_update c.args.now c.args.peer c.args.message (control_of old))
    (λ changed taken.
    taken.control ∙ update_is c.args.now c.args.peer message (control_of old)
    ∙ ap (λ (m : Message). with_update c.args.now c.args.peer m (control_of old)) (sym c.in-Update.is)) c.take_parts.ensures.taken

pub returns-in-Update-clause-tunnels : goal.returns-in-Update-clause-tunnels
returns-in-Update-clause-tunnels c = λ core.
    let message = messages.Update c.in-Update.update in
    let old = c.args.control.now in
    let new = c.take_parts.new.control in
    let place = place_of old.home core in
    IfOk-weaker c.take_parts.result (λ changed. AreTaken c.args.now c.args.peer (changes_of message) old new [] changed.tunnels.items)
    (λ changed. AreTunnels place (control_of old) (control_of new) changed.tunnels.items)
    (λ changed taken. tunnels_listed place (control_of old) (control_of new) changed.tunnels.items (taken.tunnels core)) c.take_parts.ensures.taken
