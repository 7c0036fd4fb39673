use Rattle.std.proofs.Common.{List, ◌≡◌, ◌++◌, ◌∙◌, None, ap, sym}
use Rattle.std.specs.FinMap as maps
use Rattle.mldp.specs.declared.mldp_fec.fec.Fec.{Fec}
use Rattle.bgp_messages.specs.declared.bgp_attributes.key.Key.{Key}
use Rattle.edge_defs.specs.Keys.{Value}
use Rattle.edge_control.specs.edge_tables.taken_tables.Routes.{handed}
use Rattle.edge_control.specs.edge_tables.taken_tables.Tables.{route_at}
use Rattle.edge_routing.specs.edge_updates.Tunnels.{tunnels_from}
use Rattle.edge_routing.proofs.edge_updates.TakenLemmas.{entered_taken, none_there, stays_taken}
use Rattle.edge_routing.proofs.edge_updates.updates.enter.Goals as goal

pub returns-then-not-branch-clause-stays : goal.returns-then-not-branch-clause-stays
returns-then-not-branch-clause-stays c = λ no.
    stays_taken c.args.now c.args.peer c.args.control.now c.enter.new.self c.args.fecs.now.items c.enter.ensures.home c.enter.ensures.wants
    (c.in_ok-enter.ensures.stays c.if-not-branch.true)

pub returns-clause-taken : goal.returns-clause-taken
returns-clause-taken c = λ yes.
    let before = c.args.fecs.now.items in
    let next : Key → Value → List Fec =
    λ key value. tunnels_from c.enter.new.self.home (maps.get c.enter.new.self.peers c.args.peer) c.args.peer key value in
    let none : route_at c.args.control.now.peers c.args.peer c.args.key.now ≡ None =
    none_there (route_at c.args.control.now.peers c.args.peer c.args.key.now) (sym c.in_ok-enter.ensures.fresh ∙ c.if-not-branch.false) in
    entered_taken c.args.now c.args.peer c.args.key.now (handed c.args.value.now) c.args.control.now c.enter.new.self before
    c.append_by.new.fecs.items c.enter.ensures.home c.enter.ensures.wants (c.in_ok-enter.ensures.entered c.if-not-branch.false) none
    (c.in_ok-append_by.ensures ∙ ap (λ (value : Value). before ++ next c.args.key.now value) c.lent.ensures)
