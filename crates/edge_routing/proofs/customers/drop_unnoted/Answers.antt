use Rattle.std.proofs.Common.{sym}
use Rattle.std.proofs.lemmas.Result.{on_ok_weaker}
use Rattle.edge_routes.specs.edge_home.Home.{place_of}
use Rattle.edge_routing.proofs.CustomerCalls.{of_kept, own_at}
use Rattle.edge_routing.proofs.Notes.{alone, held_still, held_without}
use Rattle.edge_routing.proofs.customers.drop_unnoted.Goals as goal

pub returns-then-active_here-clause-held : goal.returns-then-active_here-clause-held
returns-then-active_here-clause-held c = λ walks old ended hold.
    held_still c.args.control.now c.home.result.now c.own_of_iface-own.result.now c.tree.result.now c.home.ensures.home c.home.ensures.sound
    c.tree.ensures
    c.own_of_iface-own.ensures.among c.args.iface c.own_of_iface-own.ensures.of c.args.source c.args.group walks old ended
    (sym c.if-active_here.ensures) c.args.tables.now hold

pub returns-clause-held : goal.returns-clause-held
returns-clause-held c = on_ok_weaker c.drop_source.result (λ each walks old ended hold.
    let kept = c.args.control.now in
    let shown = c.home.result.now in
    let own = c.own_of_iface-own.result.now in
    let none =
    alone kept shown own c.tree.result.now c.home.ensures.home c.home.ensures.sound c.tree.ensures c.own_of_iface-own.ensures.among c.args.iface
    c.own_of_iface-own.ensures.of c.args.source c.args.group walks old ended (sym c.if-active_here.ensures) in
    held_without kept shown own c.tree.result.now c.home.ensures.home c.home.ensures.sound c.tree.ensures c.own_of_iface-own.ensures.among
    c.args.iface
    c.own_of_iface-own.ensures.of c.args.source c.args.group walks old ended c.drop_source.new.tables
    (each (place_of kept.home walks) old c.args.iface
    (own_at kept shown own c.home.ensures.home c.home.ensures.sound c.own_of_iface-own.ensures.among c.own_of_iface-own.ensures.at walks)
    (of_kept kept shown own c.home.ensures.home c.args.iface c.own_of_iface-own.ensures.of) none hold)) c.drop_source.ensures.held
