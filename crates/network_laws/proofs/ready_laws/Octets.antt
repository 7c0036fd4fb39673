-- The network agrees with where the sessions stand, and each row of acts changes both alike.
use Rattle.std.specs.Prelude.{⊤, if◌then◌else◌}
use Rattle.std.proofs.Common.{◌≡◌, ℕ, ◌+◌, Bool, true, false, not, ◌&&◌, ◌||◌, List, [], ◌∷◌, Option, Some, None, refl, ap, ◌∙◌}
use Rattle.mv_base.specs.Number.{◌>>?◌}
use Rattle.mv_base.specs.declared.ids.NodeId.{NodeId}
use Rattle.scenario_defs.specs.declared.event.Kind.{Kind}
use Rattle.scenario_defs.specs.declared.scenario.Scenario.{Scenario}
use Rattle.network_defs.specs.session_defs.Message.{SessionMessage}
use Rattle.network_defs.specs.session_defs.Octets.{OctetNetwork, OctetAct, with_step, all_taken, moved, octet_act, octet_run}
use Rattle.network_defs.specs.session_defs.Octets as octets
use Rattle.network_defs.specs.session_defs.System.{Put, Stepped, Behind, with_earlier}
use Rattle.network_defs.specs.declared.session_defs.direction.Direction.{Direction}
use Rattle.network_defs.specs.edge_defs.Steps as steps
use Rattle.network_defs.specs.Counts.{direction}
use Rattle.network_defs.specs.Nodes.{Nodes, following}
use Rattle.network_defs.specs.System.{NodeCall, Own, Elapse, Reset, Price, Follow, system, node_called}
use Rattle.network_defs.specs.mvpn_model.Unready.{SessionsStand}
use Rattle.network_laws.proofs.ready_laws.Ends.{Holds}
use Rattle.network_laws.proofs.ready_laws.Nodes.{NodesStand, call_stand, called_stand, taken_stand, follow_stand, reset_stand, fresh_stand}

-- The nodes stand so, and the sessions that stand joined are joined.
pub record Stands (scenario : Scenario) (standing : SessionsStand) (network : OctetNetwork Nodes) : Type 0 where
  pub nodes : NodesStand scenario standing network.state
  pub joined : (kind : Kind) (a b : NodeId) → network.joined (direction kind a b) ≡ standing.joined kind a b

-- ---- what acts lead to

-- the network after acts, if there is one, has the property
abbrev pub Leads : (OctetNetwork Nodes → Type 0) → Option (Behind (OctetNetwork Nodes)) → Type 0
Leads P None = ⊤
Leads P (Some new) = P new.network

pub leads_earlier : (P : OctetNetwork Nodes → Type 0) (puts : List Put) (found : Option (Behind (OctetNetwork Nodes))) → Leads P found
    → Leads P (with_earlier puts found)
leads_earlier P puts None h = tt
leads_earlier P puts (Some new) h = h

pub leads_then : (P Q : OctetNetwork Nodes → Type 0) (found : Option (Behind (OctetNetwork Nodes)))
    (next : OctetNetwork Nodes → Option (Behind (OctetNetwork Nodes))) → Leads P found
    → ((network : OctetNetwork Nodes) → P network → Leads Q (next network))
    → Leads Q (found >>? λ new. with_earlier new.puts (next new.network))
leads_then P Q None next p h = tt
leads_then P Q (Some new) next p h = leads_earlier Q new.puts (next new.network) (h new.network p)

pub run_then : (P Q : OctetNetwork Nodes → Type 0) (old : OctetNetwork Nodes) (first : OctetAct NodeCall) (more : List (OctetAct NodeCall))
    → Leads P (octet_act system old first) → ((network : OctetNetwork Nodes) → P network → Leads Q (octet_run system network more))
    → Leads Q (octet_run system old (first ∷ more))
run_then P Q old first more p h = leads_then P Q (octet_act system old first) (λ network. octet_run system network more) p h

-- ---- steps

step_stands : (scenario : Scenario) (standing new : SessionsStand) (old : OctetNetwork Nodes) (stepped : Option (Stepped Nodes))
    → Stands scenario standing old → ((kind : Kind) (a b : NodeId) → standing.joined kind a b ≡ new.joined kind a b)
    → Holds (λ (next : Stepped Nodes). NodesStand scenario new next.state) stepped → Leads (Stands scenario new) (with_step old stepped)
step_stands scenario standing new old None s same h = tt
step_stands scenario standing new old (Some next) s same h = record { nodes = h; joined = λ kind a b. s.joined kind a b ∙ same kind a b }

pub call_stands : (scenario : Scenario) (standing : SessionsStand) (old : OctetNetwork Nodes) (n : NodeId) (call : steps.Call)
    → Stands scenario standing old → Leads (Stands scenario (call_stand scenario n call standing)) (octet_act system old (octets.Call (Own n call)))
call_stands scenario standing old n call s =
    step_stands scenario standing (call_stand scenario n call standing) old (node_called old.state n (old.state.node n) call) s (λ kind a b. refl)
    (called_stand scenario standing old.state n call s.nodes)

pub reset_stands : (scenario : Scenario) (standing : SessionsStand) (old : OctetNetwork Nodes) (n : NodeId) → Stands scenario standing old
    → Leads (Stands scenario (reset_stand n standing)) (octet_act system old (octets.Call (Reset n)))
reset_stands scenario standing old n s = record { nodes = fresh_stand scenario standing old.state n s.nodes; joined = s.joined }

-- A link that gets another cost changes nothing of it, nor does a node that acts on the present costs.
pub price_stands : (scenario : Scenario) (standing : SessionsStand) (old : OctetNetwork Nodes) (a b : NodeId) (cost : ℕ)
    → Stands scenario standing old → Leads (Stands scenario standing) (octet_act system old (octets.Call (Price a b cost)))
price_stands scenario standing old a b cost s =
    record { nodes = record { place = s.nodes.place; clock = s.nodes.clock; ends = s.nodes.ends }; joined = s.joined }

pub follow_stands : (scenario : Scenario) (standing : SessionsStand) (old : OctetNetwork Nodes) (n : NodeId) → Stands scenario standing old
    → Leads (Stands scenario standing) (octet_act system old (octets.Call (Follow n)))
follow_stands scenario standing old n s =
    step_stands scenario standing standing old (node_called (following old.state n) n (old.state.node n) steps.Rerouted) s (λ kind a b. refl)
    (follow_stand scenario standing old.state n s.nodes)

-- where the sessions stand some ticks later
abbrev pub later : ℕ → SessionsStand → SessionsStand
later ticks old = record old { clock = old.clock + ticks }

pub elapse_stands : (scenario : Scenario) (standing : SessionsStand) (old : OctetNetwork Nodes) (ticks : ℕ) → Stands scenario standing old
    → Leads (Stands scenario (later ticks standing)) (octet_act system old (octets.Call (Elapse ticks)))
elapse_stands scenario standing old ticks s =
    record { nodes = record { place = s.nodes.place; clock = ap (λ n. n + ticks) s.nodes.clock; ends = s.nodes.ends }; joined = s.joined }

-- ---- moves

taken_stands : (scenario : Scenario) (standing : SessionsStand) (old : OctetNetwork Nodes) (over : Direction) (messages : List SessionMessage)
    → Stands scenario standing old → Leads (Stands scenario standing) (all_taken system old over messages)
taken_stands scenario standing old over [] s = s
taken_stands scenario standing old over (message ∷ more) s =
    leads_then (Stands scenario standing) (Stands scenario standing) (with_step old (system.taken over message old.state))
    (λ network. all_taken system network over more)
    (step_stands scenario standing standing old (system.taken over message old.state) s (λ kind a b. refl)
    (taken_stand scenario standing old.state over.to over.from message s.nodes))
    (λ network p. taken_stands scenario standing network over more p)

-- Octets that move change nothing of where the sessions stand.
pub move_stands : (scenario : Scenario) (standing : SessionsStand) (old : OctetNetwork Nodes) (over : Direction) (count : ℕ)
    → Stands scenario standing old → Leads (Stands scenario standing) (octet_act system old (octets.Move over count))
move_stands scenario standing old over count s = by (old.joined over)
  where
    by : (t : Bool) → Leads (Stands scenario standing) (if t then moved system old over count else Some (record { network = old; puts = [] }))
    by true = taken_stands scenario standing _ over _ (record { nodes = s.nodes; joined = s.joined })
    by false = s

-- ---- losses and joins

-- where the sessions stand after the loss of some of them
abbrev pub lost : (Kind → NodeId → NodeId → Bool) → SessionsStand → SessionsStand
lost hit old = record old { joined = λ own u n. old.joined own u n && not (hit own u n) }

pub lose_stands : (scenario : Scenario) (standing : SessionsStand) (old : OctetNetwork Nodes) (hit : Direction → Bool) → Stands scenario standing old
    → Leads (Stands scenario (lost (λ own u n. hit (direction own u n)) standing)) (octet_act system old (octets.Lose hit))
lose_stands scenario standing old hit s =
    record {
      nodes = record { place = s.nodes.place; clock = s.nodes.clock; ends = s.nodes.ends };
      joined =
          λ kind a b. ap (λ t. t && not (hit (direction kind a b))) (s.joined kind a b);
    }

pub forget_stands : (scenario : Scenario) (standing : SessionsStand) (old : OctetNetwork Nodes) (hit : Direction → Bool)
    → Stands scenario standing old → Leads (Stands scenario standing) (octet_act system old (octets.Forget hit))
forget_stands scenario standing old hit s = record { nodes = s.nodes; joined = s.joined }

-- where they stand after the joining of some of them
abbrev pub joins : (Kind → NodeId → NodeId → Bool) → SessionsStand → SessionsStand
joins hit old = record old { joined = λ own u n. old.joined own u n || hit own u n }

pub join_stands : (scenario : Scenario) (standing : SessionsStand) (old : OctetNetwork Nodes) (hit : Direction → Bool) → Stands scenario standing old
    → Leads (Stands scenario (joins (λ own u n. hit (direction own u n)) standing)) (octet_act system old (octets.Join hit))
join_stands scenario standing old hit s =
    record {
      nodes = record { place = s.nodes.place; clock = s.nodes.clock; ends = s.nodes.ends };
      joined =
          λ kind a b. ap (λ t. t || hit (direction kind a b)) (s.joined kind a b);
    }
