use Rattle.std.proofs.Common.{sym, ◌∙◌}
use Rattle.std.proofs.lemmas.Bool.{or_right}
use Rattle.vrf_words.proofs.tree_laws.Leaving.{imports_are}
use Rattle.vrf_words.specs.tree_laws.Imports.{has_learned, imports_inclusive}
use Rattle.control_laws.specs.Control.{control_of}
use Rattle.control_laws.specs.Peers.{as_wanted}
use Rattle.edge_routes.specs.edge_home.Home.{as_own, place_of}
use Rattle.edge_routing.proofs.edge_datagrams.imported.imports_to.Goals as goal

pub returns-then-is_known : goal.returns-then-is_known
returns-then-is_known c = λ core tree.
    let place = place_of c.args.control.now.home core in
    let control = control_of c.args.control.now in
    let own = as_own c.args.own.now in
    let learned = c.is_known.ensures c.if-is_known.true in
    c.if-is_known.true
    ∙ sym (imports_are place control own (as_wanted c.args.tree.now) tree c.args.edge c.args.fec.now
    ∙ or_right (imports_inclusive place control own c.args.edge c.args.fec.now) (has_learned c.args.tree.now c.args.edge c.args.fec.now) learned)

pub returns-else-is_known : goal.returns-else-is_known
returns-else-is_known c = λ core tree. c.imports_at.ensures core
