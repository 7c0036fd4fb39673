use Rattle.std.proofs.Common.{refl, sym, ap, subst, ◌∙◌}
use Rattle.edge_routing.proofs.control_laws.Parts.{no_core}
use Rattle.scenario_defs.specs.declared.event.Kind.{Kind}
use Rattle.network_defs.specs.node_defs.EdgeState.{handed, handed_out}
use Rattle.edge_routing.specs.edge_streams.Kept.{session}
use Rattle.mldp_node.specs.NodeData.{NodeData}
use Rattle.edge_core.specs.Called.{seen}
use Rattle.edge_core.specs.State.{IsIn, IsPeer}
use Rattle.edge_core.specs.View.{EdgeView}
use Rattle.edge_core.proofs.HandedLemmas.{bgp_handed, bgp_octets, bgp_peer, handed_step, ldp_handed, ldp_octets, some_unspent}
use Rattle.edge_core.proofs.edge.Edge.take_out.Goals as goal

pub returns-then-is_some-clause-octets : goal.returns-then-is_some-clause-octets
returns-then-is_some-clause-octets c =
    λ none. absurd (some_unspent c.self.inside.parts c.self.inside.spent c.args.self.now c.self.view_is c.if-is_some.ensures none)

pub returns-then-is_some-clause-rest : goal.returns-then-is_some-clause-rest
returns-then-is_some-clause-rest c =
    λ none. absurd (some_unspent c.self.inside.parts c.self.inside.spent c.args.self.now c.self.view_is c.if-is_some.ensures none)

pub invariant_of-self : goal.invariant_of-self
invariant_of-self c = λ e.
    let old = c.self.invariant e in
    record {
      step = handed_step c.self.inside.parts.routing.tables c.take_out.new.self c.args.peer c.take_out.ensures.taken
          c.self.inside.parts.routing.control old.step;
      place = old.place;
      unspent = old.unspent;
      leaves = old.leaves;
      up = old.up;
      quiet = old.quiet;
    }

pub returns-in-Bgp-clause-octets : goal.returns-in-Bgp-clause-octets
returns-in-Bgp-clause-octets c = λ none state in_old.
    let edge = seen c.self.inside.parts c.self.inside.spent in
    c.take_out.ensures.result
    ∙ bgp_octets state edge c.args.peer no_core (subst (IsIn state) (sym c.self.view_is) in_old)
    (bgp_peer edge c.args.kind c.args.peer c.in-Bgp.is
    (subst (λ (e : EdgeView). IsPeer e c.args.kind c.args.peer) (sym c.self.view_is) c.requires.peer))
    ∙ ap (λ (kind : Kind). handed (session kind c.args.peer) state) (sym c.in-Bgp.is)

pub returns-in-Bgp-clause-rest : goal.returns-in-Bgp-clause-rest
returns-in-Bgp-clause-rest c = λ none state in_old.
    let edge = seen c.self.inside.parts c.self.inside.spent in
    subst (λ (kind : Kind). IsIn (handed_out (session kind c.args.peer) state)
    (record edge { routing = record { control = edge.routing.control; tables = c.take_out.new.self } })) (sym c.in-Bgp.is)
    (bgp_handed c.self.inside.parts.routing.tables c.take_out.new.self c.args.peer c.take_out.ensures.taken state edge refl
    (subst (IsIn state) (sym c.self.view_is) in_old))

pub returns-in-Ldp-clause-octets : goal.returns-in-Ldp-clause-octets
returns-in-Ldp-clause-octets c = λ none state in_old.
    let edge = seen c.self.inside.parts c.self.inside.spent in
    c.take_out-in-Ldp.ensures.octets
    ∙ ldp_octets state edge c.args.peer no_core (subst (IsIn state) (sym c.self.view_is) in_old)
    ∙ ap (λ (kind : Kind). handed (session kind c.args.peer) state) (sym c.in-Ldp.is)

pub returns-in-Ldp-clause-rest : goal.returns-in-Ldp-clause-rest
returns-in-Ldp-clause-rest c = λ none state in_old.
    let edge = seen c.self.inside.parts c.self.inside.spent in
    subst (λ (kind : Kind). IsIn (handed_out (session kind c.args.peer) state) (record edge { labels = c.take_out-in-Ldp.new.self }))
    (sym c.in-Ldp.is)
    (ldp_handed state edge c.take_out-in-Ldp.new.self c.args.peer c.take_out-in-Ldp.ensures.rest (subst (IsIn state) (sym c.self.view_is) in_old))

pub returns-in-Bgp-clause-waits : goal.returns-in-Bgp-clause-waits
returns-in-Bgp-clause-waits c = (ap (λ (e : EdgeView). e.labels.place) c.self.view_is, ap (λ (e : EdgeView). e.labels.awaited) c.self.view_is)

pub returns-in-Ldp-clause-waits : goal.returns-in-Ldp-clause-waits
returns-in-Ldp-clause-waits c = (
  ap (λ (l : NodeData). l.place) c.take_out-in-Ldp.ensures.rest ∙ ap (λ (e : EdgeView). e.labels.place) c.self.view_is,
  ap (λ (l : NodeData). l.awaited) c.take_out-in-Ldp.ensures.rest ∙ ap (λ (e : EdgeView). e.labels.awaited) c.self.view_is,
)
