use Rattle.std.proofs.Common.{ap, sym}
use Rattle.mv_base.specs.declared.ids.NodeId.{NodeId}
use Rattle.scenario_defs.specs.declared.event.Kind.TheVariants as kinds
use Rattle.wire_laws.proofs.SessionPairs.{is_peer}
use Rattle.wire_laws.proofs.WayLemmas.{has_way, none_before, reversed, session_found, two_ends, way_has}
use Rattle.wire_laws.proofs.ways.ways_of_a_scenario.Goals as goal

pub returns-clause-reverse : goal.returns-clause-reverse
returns-clause-reverse c = λ scenario kind a b rules way. reversed scenario kind a b way

pub returns-clause-ends : goal.returns-clause-ends
returns-clause-ends c = λ scenario kind a b rules way. two_ends scenario rules kind a b (way_has scenario kind a b way)

pub returns-clause-edges : goal.returns-clause-edges
returns-clause-edges c = λ scenario a b rules way. (
    let has = way_has scenario kinds.Bgp a b way in
    (has.0, has.1, is_peer scenario a b has.1 (λ e. has.2 (ap (λ (n : NodeId). n.0) (sym e))))
    )

pub returns-clause-linked : goal.returns-clause-linked
returns-clause-linked c = λ scenario a b rules. (way_has scenario kinds.Ldp a b, has_way scenario kinds.Ldp a b)

pub returns-clause-bgp : goal.returns-clause-bgp
returns-clause-bgp c = λ scenario a b rules first second apart. has_way scenario kinds.Bgp a b (first, second, λ e. apart (λ i. record { 0 = e i }))

pub returns-clause-once : goal.returns-clause-once
returns-clause-once c = λ scenario before after over rules e. none_before scenario rules before after over e

pub returns-clause-found : goal.returns-clause-found
returns-clause-found c = λ scenario kind a b rules way. session_found scenario kind a b way
