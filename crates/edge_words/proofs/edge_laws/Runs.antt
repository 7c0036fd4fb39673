-- Each act keeps the rule, and so each run.
use Rattle.std.proofs.Common.{◌≡◌, ◌==◌, ◌||◌, List, [], ◌∷◌, refl, sym, ap, ◌∙◌}
use Rattle.std.specs.FinMap as maps
use Rattle.std.specs.FinMap.{FinMap}
use Rattle.mv_base.specs.declared.ids.NodeId.{NodeId}
use Rattle.edge_defs.specs.Edge.{pattern_cmp, Selected, Control}
use Rattle.mv_base.specs.core_walks.Core.{Core}
use Rattle.edge_defs.specs.Steps as steps
use Rattle.edge_defs.specs.Steps.{CustomerCall}
use Rattle.edge_words.specs.edge_laws.Network.{EdgeNetwork, thereafter}
use Rattle.edge_words.specs.edge_laws.Acts.{with_core, Act, Deliver, Label, LabelRaise, LabelNotice, Customer, Lose, Notice, Raise, Restart, Tick, Timers, Reroute, act, run, is_up, selects_again}
use Rattle.edge_words.specs.edge_laws.Rule.{Rule}
use Rattle.edge_words.proofs.edge_laws.Selections.{stays}
use Rattle.edge_words.proofs.edge_laws.Steps.{still_rule, select_rule, unselect_rule, timers_rule}
use Rattle.edge_words.proofs.edge_laws.Deliver.{deliver_rule}
use Rattle.edge_words.proofs.edge_laws.Sessions.{lose_rule, notice_rule, raise_rule, restart_rule, tick_rule}

-- a step that leaves the selections and the tables that were taken
plain_rule : (network : EdgeNetwork) (n : NodeId) (new : Control) → new.peers ≡ (network.node n).peers → new.selections ≡ (network.node n).selections
    → Rule network → Rule (thereafter network n new)
plain_rule network n new peers selections rule =
    still_rule network n new peers (λ pattern selected e. stays network.clock (maps.get (network.node n).selections pattern) selected
    (ap (λ (all : FinMap pattern_cmp Selected). maps.get all pattern) (sym selections) ∙ e)) rule

-- what an edge holds for its peers does not depend on the core that it knows, but on the flows that it keeps
pub core_rule : (network : EdgeNetwork) (n : NodeId) (core : Core) → Rule network → Rule (with_core n core network)
core_rule network n core rule = record { view = rule.view; alike = rule.alike; ends = rule.ends; scenario = rule.scenario }

customer_rule : (network : EdgeNetwork) (n : NodeId) (call : CustomerCall) → Rule network → Rule (act network (Customer n call))
customer_rule network n (steps.Select vrf pattern) rule =
    select_rule network n vrf pattern (selects_again (network.node n) (steps.Select vrf pattern)) refl rule
customer_rule network n (steps.Unselect vrf pattern) rule = unselect_rule network n vrf pattern rule
customer_rule network n other rule = plain_rule network n _ refl refl rule

pub act_rule : (network : EdgeNetwork) (next : Act) → Rule network → Rule (act network next)
act_rule network (Deliver a b) rule =
    deliver_rule network a b (a.0 == b.0) (is_up (network.node b) a) (network.direction a b).transit refl refl refl rule
act_rule network (Label n neighbour message) rule = plain_rule network n _ refl refl rule
act_rule network (LabelRaise n neighbour) rule = plain_rule network n _ refl refl rule
act_rule network (LabelNotice n neighbour) rule = plain_rule network n _ refl refl rule
act_rule network (Customer n call) rule = customer_rule network n call rule
act_rule network (Lose a b) rule = lose_rule network a b rule
act_rule network (Notice a b) rule =
    notice_rule network a b ((network.direction a b).joined || (network.direction b a).joined) (is_up (network.node a) b) refl rule
act_rule network (Raise a b) rule = raise_rule network a b (a.0 == b.0) (is_up (network.node a) b) (is_up (network.node b) a) refl refl refl rule
act_rule network (Restart n) rule = restart_rule network n rule
act_rule network (Tick ticks) rule = tick_rule network ticks rule
act_rule network (Timers n) rule = timers_rule network n rule
act_rule network (Reroute n core) rule = plain_rule (with_core n core network) n _ refl refl (core_rule network n core rule)

pub run_rule : (network : EdgeNetwork) (acts : List Act) → Rule network → Rule (run network acts)
run_rule network [] rule = rule
run_rule network (first ∷ more) rule = run_rule (act network first) more (act_rule network first rule)
