-- What is held of a VRF's flows is what its entries, what is known to be sent, and its routes give.
use Rattle.std.specs.Prelude.{◌≡◌, ◌||◌, ℕ, Bool, true, false, List, [], ◌∷◌, Option, None, Some, is_some}
use Rattle.std.specs.List.{list_any}
use Rattle.std.specs.FinMap as maps
use Rattle.std.specs.FinSet as sets
use Rattle.indexmap.specs.IndexMap.{get, IsUnique}
use Rattle.mv_base.specs.declared.addr.Addr.{Addr}
use Rattle.mv_base.specs.declared.ids.IfaceId.{IfaceId}
use Rattle.mv_base.specs.declared.ids.NodeId.{NodeId}
use Rattle.mv_base.specs.declared.rd.Rd.{Rd}
use Rattle.mv_base.specs.declared.rd.Rule.{Rule}
use Rattle.mv_base.specs.declared.rd.Rule.TheVariants.{Nearest}
use Rattle.umh_select.specs.declared.route.Choice.{Choice}
use Rattle.vrf_words.specs.declared.tree_defs.flow.Flow.{Flow}
use Rattle.vrf_words.specs.declared.tree_defs.flow.Note.{Note}
use Rattle.vrf_words.specs.declared.tree_defs.flow.ActiveRoute.{ActiveRoute}
use Rattle.vrf_words.specs.declared.tree_defs.flow.SiteIface.{SiteIface}
use Rattle.vrf_words.specs.tree_defs.Keys.{same_flow}
use Rattle.vrf_words.specs.tree_defs.Flows.{VrfData, chosen_for}
use Rattle.vrf_flows.specs.declared.held.Held.{Held}
use Rattle.vrf_flows.specs.declared.state.State.{State}
use Rattle.vrf_flows.specs.Held.{Now, kept_of, is_stale}
use Rattle.vrf_flows.specs.Sight.{flow_at, is_needed, is_sent}

-- ---- the state as plain data

-- the flows among what is held, each with its choice
abbrev pub flows_in : List (Flow × Held) → List (Flow × Choice)
flows_in [] = []
flows_in (e ∷ more) = elim e.1.kept [ None ↦ flows_in more | Some kept ↦ (e.0, kept.choice) ∷ flows_in more ]

abbrev pub vrf_of : State → VrfData
vrf_of state = record {
  ifaces = state.ifaces;
  entries = state.entries;
  notes = sets.from_list state.notes.keys;
  actives = sets.from_list state.actives.keys;
  routes = state.routes;
  flows = maps.from_entries (flows_in state.flows.entries);
}

-- nothing is kept yet
abbrev pub no_vrf : Rule → VrfData
no_vrf rule = record {
  ifaces = [];
  entries = maps.empty;
  notes = sets.empty;
  actives = sets.empty;
  routes = record { rule = rule; learned = maps.empty; attached = maps.empty };
  flows = maps.empty;
}

abbrev pub iface_in : SiteIface → IfaceId
iface_in own = own.iface

-- the flow of a source and a group, a note of it at an interface, and a Source Active route of it
abbrev pub flow_by_addrs : Addr → Addr → Flow
flow_by_addrs source group = record { source = source; group = group }

abbrev pub note_at : IfaceId → Addr → Addr → Note
note_at iface source group = record { iface = iface; flow = flow_by_addrs source group }

abbrev pub active_by : NodeId → Rd → Addr → Addr → ActiveRoute
active_by peer rd source group = record { peer = peer; rd = rd.0; flow = flow_by_addrs source group }

-- ---- the invariant

-- What is held of each flow: where it is not stale, it is what is given; and each flow that is needed is held.
pub record Keeps (held : Flow → Option Held) (given : Flow → Now) (needs : Flow → Bool) : Type 0 where
  pub fresh : (q : Flow) → is_stale (held q) ≡ false → kept_of (held q) ≡ given q
  pub needed : (q : Flow) → needs q ≡ true → is_some (held q) ≡ true

-- whether one of the notes, and one of the routes, is of the flow
abbrev pub is_noted_in : List Note → Flow → Bool
is_noted_in notes flow = list_any (λ (note : Note). same_flow note.flow flow) notes

abbrev pub is_announced_in : List ActiveRoute → Flow → Bool
is_announced_in actives flow = list_any (λ (route : ActiveRoute). same_flow route.flow flow) actives

-- The flows that are known to be sent are those of notes and of Source Active routes.
abbrev pub IsSentBy : List Flow → List Note → List ActiveRoute → Type 0
IsSentBy sent notes actives = (q : Flow) → is_sent sent q ≡ (is_noted_in notes q || is_announced_in actives q)

-- what is given for the flows of a state at a clock, by the costs of the edges
abbrev pub given_at : State → (NodeId → ℕ) → ℕ → Flow → Now
given_at state cost clock = flow_at state.ifaces state.entries state.sent.keys (chosen_for state.routes cost) clock

abbrev pub needed_in : State → Flow → Bool
needed_in state = is_needed state.ifaces state.entries state.sent.keys

-- whether the rule compares costs
abbrev pub compares_costs : Rule → Bool
compares_costs Nearest = true
compares_costs other = false

-- What is held is what the last refresh saw, at its clock and with the costs of its core, but for what is marked.
pub record IsSound (state : State) : Type 0 where
  pub unique : IsUnique same_flow state.flows
  pub rule : state.rule ≡ state.routes.rule
  pub sent : IsSentBy state.sent.keys state.notes.keys state.actives.keys
  pub cost : NodeId → ℕ
  pub keeps : Keeps (get same_flow state.flows) (given_at state cost state.clock) (needed_in state)
