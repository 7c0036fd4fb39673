use Rattle.std.proofs.Common.{◌≡◌, sym, subst}
use Rattle.std.specs.FinMap as maps
use Rattle.scenario_defs.specs.declared.event.Kind.{Kind}
use Rattle.edge_streams.specs.Kept.{session, streams_of}
use Rattle.edge_streams.proofs.SessionMaps.{over_bgp, over_ldp, bgp_changes, ldp_changes, lost}
use Rattle.edge_streams.proofs.streams.EdgeStreams.lose.Goals as goal

pub returns-in-Bgp : goal.returns-in-Bgp
returns-in-Bgp c =
    subst (λ (kind : Kind). (streams_of c.lose.new.streams c.self.inside.ldp) ≡ maps.remove c.args.self.now (session kind c.args.peer)) (sym c.in-Bgp.is)
    (lost over_bgp c.self.inside.bgp c.lose.new.streams c.args.self.now _
    (bgp_changes c.self.inside.bgp c.self.inside.ldp c.args.self.now c.self.view_is c.lose.new.streams) c.args.peer c.lose.ensures.lost)

pub returns-in-Ldp : goal.returns-in-Ldp
returns-in-Ldp c =
    subst (λ (kind : Kind). (streams_of c.self.inside.bgp c.lose-in-Ldp.new.streams) ≡ maps.remove c.args.self.now (session kind c.args.peer)) (sym c.in-Ldp.is)
    (lost over_ldp c.self.inside.ldp c.lose-in-Ldp.new.streams c.args.self.now _
    (ldp_changes c.self.inside.bgp c.self.inside.ldp c.args.self.now c.self.view_is c.lose-in-Ldp.new.streams) c.args.peer c.lose-in-Ldp.ensures.lost)
