use Rattle.std.proofs.Common.{◌≡◌, ap, sym, subst, ◌∙◌}
use Rattle.scenario_defs.specs.declared.event.Kind.{Kind}
use Rattle.network_defs.specs.session_defs.PeerSession.{fault_at}
use Rattle.edge_streams.specs.Kept.{session}
use Rattle.edge_streams.specs.Streams.{told_fault}
use Rattle.edge_streams.proofs.SessionMaps.{over_bgp, over_ldp, bgp_had, ldp_had}
use Rattle.edge_streams.proofs.Calls.{failed}
use Rattle.edge_streams.proofs.streams.EdgeStreams.fault.Goals as goal

pub returns-in-Bgp : goal.returns-in-Bgp
returns-in-Bgp c =
    subst (λ (kind : Kind). c.fault.result ≡ told_fault (fault_at c.args.self.now (session kind c.args.peer))) (sym c.in-Bgp.is)
    (c.fault.ensures ∙ ap told_fault (failed over_bgp c.args.self.now c.args.peer c.self.inside.bgp
    (bgp_had c.self.inside.bgp c.self.inside.ldp c.args.self.now c.self.view_is)))

pub returns-in-Ldp : goal.returns-in-Ldp
returns-in-Ldp c =
    subst (λ (kind : Kind). c.fault-in-Ldp.result ≡ told_fault (fault_at c.args.self.now (session kind c.args.peer))) (sym c.in-Ldp.is)
    (c.fault-in-Ldp.ensures ∙ ap told_fault (failed over_ldp c.args.self.now c.args.peer c.self.inside.ldp
    (ldp_had c.self.inside.bgp c.self.inside.ldp c.args.self.now c.self.view_is)))
