use Rattle.std.proofs.Common.{◌≡◌, refl, sym, subst, ℕ, OnOk, Some, slice_get, slice_set}
use Rattle.network_nodes.specs.Answers.{AnswersCall}
use Rattle.network_nodes.specs.Edges.{customer_call}
use Rattle.network_nodes.specs.NodeView.{FitsIn, IsPlacedAt, count_around}
use Rattle.network_nodes.specs.declared.node.NetworkNode.{NetworkNode}
use Rattle.network_nodes.specs.declared.node.NetworkNode.TheVariants as nodes
use Rattle.network_nodes.proofs.AnswerLemmas.{edge_customer}
use Rattle.network_acts.specs.control_plane.Acted.{IsSome, IsSomeMidway}
use Rattle.network_acts.specs.control_plane.Customers.{CustomerActs, FitsAt, SettlesCustomer}
use Rattle.network_acts.specs.control_plane.PlaneView.{PlaneView}
use Rattle.network_acts.proofs.PlaneActs.{customer_acts_as, some_plane}
use Rattle.network_acts.proofs.control_plane.CustomerLemmas.{call_midway, customer_acts, fits_node, fits_within, only_full}
use Rattle.network_acts.proofs.control_plane.OwnLemmas.{count_here, node_here}
use Rattle.network_acts.proofs.control_plane.PlaceLemmas.{act_places}
use Rattle.network_acts.proofs.network.Network.call.Goals as goal

pub call-answer-requires-clause-nodes : goal.call-answer-requires-clause-nodes
call-answer-requires-clause-nodes c =
    let inside = c.plane.inside in
    let plane : PlaneView =
    record { nodes = inside.nodes.items; ways = inside.ways; transit = inside.transit; core = inside.core; clock = inside.clock } in
    let some = subst (IsSome (FitsAt c.args.n (customer_call c.args.call))) (sym c.plane.view_is)
    (some_plane (FitsAt c.args.n (customer_call c.args.call)) _ c.args.self.now c.self.view_is c.requires.network) in
    subst (λ (there : NetworkNode). inside.core.nodes ≡ count_around there) c.in-Edge.is
    (count_here (FitsAt c.args.n (customer_call c.args.call)) c.args.n (fits_within c.args.n (customer_call c.args.call)) plane some c.from.result
    c.from.ensures c.index_mut.result.now c.index_mut.result.now c.index_mut.ensures.value)

pub call-answer-requires-clause-fits : goal.call-answer-requires-clause-fits
call-answer-requires-clause-fits c =
    let inside = c.plane.inside in
    let plane : PlaneView =
    record { nodes = inside.nodes.items; ways = inside.ways; transit = inside.transit; core = inside.core; clock = inside.clock } in
    let some = subst (IsSome (FitsAt c.args.n (customer_call c.args.call))) (sym c.plane.view_is)
    (some_plane (FitsAt c.args.n (customer_call c.args.call)) _ c.args.self.now c.self.view_is c.requires.network) in
    let place =
    node_here (FitsAt c.args.n (customer_call c.args.call)) c.args.n (fits_within c.args.n (customer_call c.args.call)) plane some c.from.result
    c.from.ensures c.index_mut.result.now c.index_mut.result.now c.index_mut.ensures.value in
    subst (λ (there : NetworkNode). FitsIn there (customer_call c.args.call)) c.in-Edge.is
    (fits_node plane c.args.n (customer_call c.args.call) c.index_mut.result.now place some)

pub unreachable-requires : goal.unreachable-requires
unreachable-requires c =
    let inside = c.plane.inside in
    let plane : PlaneView =
    record { nodes = inside.nodes.items; ways = inside.ways; transit = inside.transit; core = inside.core; clock = inside.clock } in
    let some = subst (IsSome (FitsAt c.args.n (customer_call c.args.call))) (sym c.plane.view_is)
    (some_plane (FitsAt c.args.n (customer_call c.args.call)) _ c.args.self.now c.self.view_is c.requires.network) in
    let place =
    node_here (FitsAt c.args.n (customer_call c.args.call)) c.args.n (fits_within c.args.n (customer_call c.args.call)) plane some c.from.result
    c.from.ensures c.index_mut.result.now c.index_mut.result.now c.index_mut.ensures.value in
    absurd (subst (λ (there : NetworkNode). FitsIn there (customer_call c.args.call)) c.in-CoreNode.is
    (fits_node plane c.args.n (customer_call c.args.call) c.index_mut.result.now place some))

pub settle_customer-requires-clause-midway : goal.settle_customer-requires-clause-midway
settle_customer-requires-clause-midway c =
    let inside = c.plane.inside in
    let plane : PlaneView =
    record { nodes = inside.nodes.items; ways = inside.ways; transit = inside.transit; core = inside.core; clock = inside.clock } in
    let some = subst (IsSome (FitsAt c.args.n (customer_call c.args.call))) (sym c.plane.view_is)
    (some_plane (FitsAt c.args.n (customer_call c.args.call)) _ c.args.self.now c.self.view_is c.requires.network) in
    let place : slice_get plane.nodes c.args.n.0 ≡ Some (nodes.Edge c.in-Edge.edge) =
    subst (λ (there : NetworkNode). slice_get plane.nodes c.args.n.0 ≡ Some there) c.in-Edge.is
    (node_here (FitsAt c.args.n (customer_call c.args.call)) c.args.n (fits_within c.args.n (customer_call c.args.call)) plane some c.from.result
    c.from.ensures c.index_mut.result.now c.index_mut.result.now c.index_mut.ensures.value) in
    let answers = edge_customer inside.core inside.clock (customer_call c.args.call) c.in-Edge.edge c.call-answer.new.self c.call-answer.result
    c.call-answer.ensures in
    subst (λ (k : ℕ). OnOk c.call-answer.result
    (IsSomeMidway c.args.n (record plane { nodes = slice_set plane.nodes k (nodes.Edge c.call-answer.new.self) })))
    (sym c.from.ensures)
    (call_midway plane c.args.n (customer_call c.args.call) (nodes.Edge c.in-Edge.edge) (nodes.Edge c.call-answer.new.self) place
    c.call-answer.result answers some)

pub settle_customer-requires-clause-only : goal.settle_customer-requires-clause-only
settle_customer-requires-clause-only c =
    let some = subst (IsSome (FitsAt c.args.n (customer_call c.args.call))) (sym c.plane.view_is)
    (some_plane (FitsAt c.args.n (customer_call c.args.call)) _ c.args.self.now c.self.view_is c.requires.network) in
    only_full c.args.n (customer_call c.args.call) some.0 some.1 c.call-answer.result c.call-answer.ensures.only

pub returns : goal.returns
returns c =
    let inside = c.plane.inside in
    let plane : PlaneView =
    record { nodes = inside.nodes.items; ways = inside.ways; transit = inside.transit; core = inside.core; clock = inside.clock } in
    let some = subst (IsSome (FitsAt c.args.n (customer_call c.args.call))) (sym c.plane.view_is)
    (some_plane (FitsAt c.args.n (customer_call c.args.call)) _ c.args.self.now c.self.view_is c.requires.network) in
    let old : NetworkNode = nodes.Edge c.in-Edge.edge in
    let node : NetworkNode = nodes.Edge c.call-answer.new.self in
    let place : slice_get plane.nodes c.args.n.0 ≡ Some old =
    subst (λ (there : NetworkNode). slice_get plane.nodes c.args.n.0 ≡ Some there) c.in-Edge.is
    (node_here (FitsAt c.args.n (customer_call c.args.call)) c.args.n (fits_within c.args.n (customer_call c.args.call)) plane some c.from.result
    c.from.ensures c.index_mut.result.now c.index_mut.result.now c.index_mut.ensures.value) in
    let answers = edge_customer inside.core inside.clock (customer_call c.args.call) c.in-Edge.edge c.call-answer.new.self c.call-answer.result
    c.call-answer.ensures in
    let acts : CustomerActs c.args.n (customer_call c.args.call) c.self.inside.plane c.settle_customer.new.self
    c.args.lines.now c.settle_customer.new.lines c.settle_customer.result =
    subst (λ (p : PlaneView). CustomerActs c.args.n (customer_call c.args.call) p c.settle_customer.new.self
    c.args.lines.now c.settle_customer.new.lines c.settle_customer.result) c.plane.view_is
    (customer_acts plane c.args.n (customer_call c.args.call) old node place c.call-answer.result
    answers some c.settle_customer.new.self c.args.lines.now c.settle_customer.new.lines c.settle_customer.result
    (subst (λ (k : ℕ). SettlesCustomer c.args.n c.call-answer.result (record plane { nodes = slice_set plane.nodes k node })
    c.settle_customer.new.self c.args.lines.now c.settle_customer.new.lines c.settle_customer.result) c.from.ensures
    c.settle_customer.ensures.acts)) in
    customer_acts_as _ c.args.self.now c.self.view_is c.settle_customer.new.self c.args.n (customer_call c.args.call) c.args.lines.now
    c.settle_customer.new.lines c.settle_customer.result acts

pub invariant_of-self : goal.invariant_of-self
invariant_of-self c =
    let inside = c.plane.inside in
    let node : NetworkNode = nodes.Edge c.call-answer.new.self in
    let answers = edge_customer inside.core inside.clock (customer_call c.args.call) c.in-Edge.edge c.call-answer.new.self c.call-answer.result
    c.call-answer.ensures in
    (act_places _ c.self.inside.plane c.plane.view_is c.from.result c.index_mut.result.now c.index_mut.result.now node
    c.index_mut.ensures.value
    (λ scenario m. subst (λ (old : NetworkNode). IsPlacedAt scenario m old → IsPlacedAt scenario m node) (sym c.in-Edge.is)
    (answers.answers.placed scenario m))
    _ c.settle_customer.new.self refl
    c.settle_customer.ensures.places).keeps c.self.inside.scenario c.self.invariant
