use Rattle.std.proofs.Common.{◌≡◌, Bool, true, false, sym, ◌∙◌}
use Rattle.edge_routes.specs.Judged.{value_of}
use Rattle.edge_routes.proofs.route_order.ValueLemmas.{by_tunnel, other_comms, other_hop}
use Rattle.edge_tables.proofs.taken_tables.entry.same_value.Goals as goal

never : {A : Type 0} (b : Bool) → b ≡ true → b ≡ false → A
never b is is_not = absurd cc

pub returns-then-not-same_hop : goal.returns-then-not-same_hop
returns-then-not-same_hop c =
    other_hop (value_of c.args.own.now) (value_of c.args.other.now) (λ e. never c.same_hop.result (c.same_hop.ensures.1 e) c.if-not-same_hop.true)

pub returns-then-not-same_comms : goal.returns-then-not-same_comms
returns-then-not-same_comms c =
    other_comms (value_of c.args.own.now) (value_of c.args.other.now)
    (λ e. never c.same_comms.result (c.same_comms.ensures.1 e) c.if-not-same_comms.true)

pub returns : goal.returns
returns c =
    by_tunnel (value_of c.args.own.now) (value_of c.args.other.now) c.same_attribute.result (c.same_hop.ensures.0 c.if-not-same_hop.false)
    (c.same_comms.ensures.0 c.if-not-same_comms.false) (
      (λ same. sym c.whole.ensures ∙ (c.same_attribute.ensures.0 same ∙ c.whole-2.ensures)),
      (λ same. c.same_attribute.ensures.1 (c.whole.ensures ∙ (same ∙ sym c.whole-2.ensures))),
    )
