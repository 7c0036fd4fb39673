use Rattle.std.proofs.Common.{◌≡◌, sym, subst}
use Rattle.std.specs.FinMap as maps
use Rattle.std.specs.Prelude.{OnOk}
use Rattle.std.proofs.lemmas.Result.{on_ok_weaker, on_err_weaker}
use Rattle.mv_base.specs.framing.Feed.{unfed}
use Rattle.scenario_defs.specs.declared.event.Kind.{Kind}
use Rattle.edge_streams.specs.Kept.{session, streams_of}
use Rattle.edge_streams.proofs.SessionMaps.{over_bgp, over_ldp, bgp_changes, ldp_changes, raised, same}
use Rattle.edge_streams.proofs.streams.EdgeStreams.raise.Goals as goal

pub returns-in-Bgp-clause-raised : goal.returns-in-Bgp-clause-raised
returns-in-Bgp-clause-raised c =
    subst (λ (kind : Kind). OnOk c.raise.result ((streams_of c.raise.new.streams c.self.inside.ldp) ≡ maps.insert c.args.self.now (session kind c.args.peer) unfed)) (sym c.in-Bgp.is)
    (on_ok_weaker c.raise.result (raised over_bgp c.self.inside.bgp c.raise.new.streams c.args.self.now _
    (bgp_changes c.self.inside.bgp c.self.inside.ldp c.args.self.now c.self.view_is c.raise.new.streams) c.args.peer) c.raise.ensures.raised)

pub returns-in-Bgp-clause-same : goal.returns-in-Bgp-clause-same
returns-in-Bgp-clause-same c =
    on_err_weaker c.raise.result (same over_bgp c.self.inside.bgp c.raise.new.streams c.args.self.now _
    (bgp_changes c.self.inside.bgp c.self.inside.ldp c.args.self.now c.self.view_is c.raise.new.streams) c.args.peer) c.raise.ensures.same

pub returns-in-Ldp-clause-raised : goal.returns-in-Ldp-clause-raised
returns-in-Ldp-clause-raised c =
    subst (λ (kind : Kind). OnOk c.raise-in-Ldp.result ((streams_of c.self.inside.bgp c.raise-in-Ldp.new.streams) ≡ maps.insert c.args.self.now (session kind c.args.peer) unfed)) (sym c.in-Ldp.is)
    (on_ok_weaker c.raise-in-Ldp.result (raised over_ldp c.self.inside.ldp c.raise-in-Ldp.new.streams c.args.self.now _
    (ldp_changes c.self.inside.bgp c.self.inside.ldp c.args.self.now c.self.view_is c.raise-in-Ldp.new.streams) c.args.peer) c.raise-in-Ldp.ensures.raised)

pub returns-in-Ldp-clause-same : goal.returns-in-Ldp-clause-same
returns-in-Ldp-clause-same c =
    on_err_weaker c.raise-in-Ldp.result (same over_ldp c.self.inside.ldp c.raise-in-Ldp.new.streams c.args.self.now _
    (ldp_changes c.self.inside.bgp c.self.inside.ldp c.args.self.now c.self.view_is c.raise-in-Ldp.new.streams) c.args.peer) c.raise-in-Ldp.ensures.same
