-- What flows are recomputed from.
use Rattle.std.specs.Prelude.{◌≡◌, ℕ, ◌||◌, ◌&&◌, ◌%◌, is_some, Bool, true, false, List, [], ◌∷◌, get_or, replicate, slice_set, None, Some}
use Rattle.std.specs.List.{list_any, filter}
use Rattle.mv_base.specs.declared.ids.IfaceId.{IfaceId}
use Rattle.mv_base.specs.declared.ids.NodeId.{NodeId}
use Rattle.pim_defs.specs.Entries.{Entries, expiry_at, asks}
use Rattle.scenario_defs.specs.declared.event.IfaceEntry.{IfaceEntry}
use Rattle.scenario_defs.specs.declared.event.JoinEntry.TheVariants.{Source}
use Rattle.umh_select.specs.declared.route.Choice.{Choice}
use Rattle.vrf_words.specs.declared.tree_defs.flow.Flow.{Flow}
use Rattle.vrf_words.specs.declared.tree_defs.flow.SiteIface.{SiteIface}
use Rattle.vrf_words.specs.tree_defs.Keys.{same_flow}
use Rattle.vrf_words.specs.tree_defs.Flows.{chosen_for}
use Rattle.vrf_flows.specs.declared.sight.Sight.{Sight}
use Rattle.vrf_flows.specs.Held.{Now}

-- those of the interfaces that ask for the flow, where its source is known to send or not
abbrev pub asking_of : List SiteIface → Entries → Bool → ℕ → Flow → List SiteIface
asking_of ifaces entries active clock flow =
    filter (λ (own : SiteIface). asks entries own.iface flow.source flow.group active clock) ifaces

-- No interface asks for the flow, at any clock, whether its source is known to send or not.
abbrev pub IsUnasked : Entries → Flow → Type 0
IsUnasked entries flow = (ifaces : List SiteIface) (active : Bool) (clock : ℕ) → asking_of ifaces entries active clock flow ≡ []

-- ---- the interfaces that may ask for a flow, by the entries

-- the marks, and one for the interface of each of these entries, by the remainder of its number
abbrev pub mark_named : List Bool → List IfaceEntry → List Bool
mark_named marks [] = marks
mark_named marks (own ∷ more) = mark_named (slice_set marks (own.iface.0 % 256) true) more

abbrev pub marks_of : List IfaceEntry → List IfaceEntry → List Bool
marks_of joined shared = mark_named (mark_named (replicate 256 false) joined) shared

-- whether the interface has a mark
abbrev pub is_marked : List Bool → IfaceId → Bool
is_marked marks iface = get_or marks (iface.0 % 256) false

-- those of the interfaces that have a mark and ask for the flow
abbrev pub asking_marked : List Bool → List SiteIface → Entries → Bool → ℕ → Flow → List SiteIface
asking_marked marks ifaces entries active clock flow =
    filter (λ (own : SiteIface). is_marked marks own.iface && asks entries own.iface flow.source flow.group active clock) ifaces

-- ---- flows

-- a flow that these interfaces ask for; none without an interface
abbrev pub flow_by : List SiteIface → Choice → Now
flow_by [] choice = None
flow_by (own ∷ more) choice = Some (record { choice = choice; ifaces = own ∷ more })

abbrev pub ifaces_of : Now → List SiteIface
ifaces_of None = []
ifaces_of (Some kept) = kept.ifaces

-- whether one of the interfaces has an entry that joins the flow itself
abbrev pub is_joined : List SiteIface → Entries → Flow → Bool
is_joined ifaces entries flow =
    list_any (λ (own : SiteIface). is_some (expiry_at entries own.iface (Source flow.source flow.group))) ifaces

-- whether the flow is among these
abbrev pub is_sent : List Flow → Flow → Bool
is_sent sent flow = list_any (same_flow flow) sent

-- a flow, where some interface asks for it
abbrev pub flow_at : List SiteIface → Entries → List Flow → (Flow → Choice) → ℕ → Flow → Now
flow_at ifaces entries sent chosen clock flow = flow_by (asking_of ifaces entries (is_sent sent flow) clock flow) (chosen flow)

-- whether the VRF may ask for the flow, at this clock or another
abbrev pub is_needed : List SiteIface → Entries → List Flow → Flow → Bool
is_needed ifaces entries sent flow = is_joined ifaces entries flow || is_sent sent flow

abbrev pub seen : Sight → (NodeId → ℕ) → Flow → Now
seen sight cost flow =
    flow_at sight.ifaces.now sight.entries.now sight.sent.now.keys (chosen_for sight.routes.now cost) sight.clock flow

abbrev pub needs : Sight → Flow → Bool
needs sight flow = is_needed sight.ifaces.now sight.entries.now sight.sent.now.keys flow
