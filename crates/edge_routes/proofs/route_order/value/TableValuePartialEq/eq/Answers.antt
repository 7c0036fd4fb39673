use Rattle.std.proofs.Common.{◌≡◌, Bool, true, false, sym, ◌∙◌}
use Rattle.edge_routes.proofs.route_order.ValueLemmas.{by_tunnel, other_comms, other_hop}
use Rattle.edge_routes.proofs.route_order.value.TableValuePartialEq.eq.Goals as goal

never : {A : Type 0} (b : Bool) → b ≡ true → b ≡ false → A
never b yes_it_is no_it_is = absurd cc

pub returns-then-not-same_hop : goal.returns-then-not-same_hop
returns-then-not-same_hop c =
    other_hop c.args.self.now c.args.other.now (λ e.
    never c.same_hop.result (c.same_hop.ensures.1 (c.next_hop.ensures.next_hop ∙ e ∙ sym c.next_hop-2.ensures.next_hop)) c.if-not-same_hop.true)

pub returns-then-not-same_comms : goal.returns-then-not-same_comms
returns-then-not-same_comms c =
    other_comms c.args.self.now c.args.other.now (λ e.
    never c.same_comms.result (c.same_comms.ensures.1 (c.comms.ensures.comms ∙ e ∙ sym c.comms-2.ensures.comms)) c.if-not-same_comms.true)

pub returns : goal.returns
returns c =
    let hop = sym c.next_hop.ensures.next_hop ∙ c.same_hop.ensures.0 c.if-not-same_hop.false ∙ c.next_hop-2.ensures.next_hop in
    let comms = sym c.comms.ensures.comms ∙ c.same_comms.ensures.0 c.if-not-same_comms.false ∙ c.comms-2.ensures.comms in
    let same = c.same_attribute.ensures in
    by_tunnel c.args.self.now c.args.other.now c.same_attribute.result hop comms
    (λ h. sym c.pmsi.ensures ∙ same.0 h ∙ c.pmsi-2.ensures, λ e. same.1 (c.pmsi.ensures ∙ e ∙ sym c.pmsi-2.ensures))
