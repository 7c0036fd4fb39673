-- The steps of an edge.
use Rattle.std.specs.Prelude.{ℕ, ◌+◌, ◌==◌, ◌&&◌, ◌||◌, Bool, true, false, not, nat_le, List, [], ◌∷◌, ◌++◌, map, fold}
use Rattle.std.specs.Prelude.{is_some, Option, None, Some, if◌then◌else◌}
use Rattle.std.specs.List.{filter, list_any}
use Rattle.std.specs.FinMap as maps
use Rattle.std.specs.FinMap.{FinMap}
use Rattle.std.specs.FinSet as sets
use Rattle.std.specs.FinSet.{FinSet}
use Rattle.mv_base.specs.Number.{◌>>?◌}
use Rattle.mv_base.specs.declared.addr.Addr.{Addr}
use Rattle.mv_base.specs.declared.ids.IfaceId.{IfaceId}
use Rattle.mv_base.specs.declared.ids.NodeId.{NodeId}
use Rattle.mv_base.specs.declared.ids.VrfId.{VrfId}
use Rattle.mv_base.specs.declared.pattern.Pattern.{Pattern}
use Rattle.label_defs.specs.mldp.declared.mldp_msgs.message.LabelMessage.{LabelMessage}
use Rattle.pim_defs.specs.pim_joinprune.declared.message.JoinPrune.{JoinPrune}
use Rattle.pim_defs.specs.Entries.{Entries, applied, kept_at}
use Rattle.bgp_messages.specs.declared.bgp_attributes.key.Key.{Key}
use Rattle.bgp_messages.specs.declared.bgp_attributes.update.Change.{Change}
use Rattle.bgp_messages.specs.declared.bgp_attributes.update.Change.TheVariants as updates
use Rattle.bgp_messages.specs.declared.bgp_attributes.update.Message.{Message}
use Rattle.bgp_messages.specs.bgp_update.Table.{changes_of}
use Rattle.choice_defs.specs.scenario_defs.declared.event.Kind.{Kind}
use Rattle.choice_defs.specs.scenario_defs.declared.event.Kind.TheVariants as kinds
use Rattle.selective_defs.specs.Selective.{free_number}
use Rattle.label_defs.specs.Keys.{fec_cmp, node_cmp}
use Rattle.label_defs.specs.LabelData.{LabelData}
use Rattle.label_defs.specs.Settling.{Stepped}
use Rattle.label_defs.specs.Steps as labels
use Rattle.label_defs.specs.Steps.{label_step}
use Rattle.label_defs.specs.Members.{in_order}
use Rattle.edge_defs.specs.Edge.{Note, VrfPattern, note_cmp, pattern_cmp, Selected, TakenRoute, Taken, Control, EdgeData}
use Rattle.edge_defs.specs.Flows.{flows_at}
use Rattle.edge_defs.specs.Imported.{imported_selective}
use Rattle.edge_defs.specs.Keys.{Value, same_value}
use Rattle.edge_defs.specs.Place.{EdgePlace, addr_of, own_vrfs, label_place}
use Rattle.edge_defs.specs.Tunnels.{leaves}

-- What a customer, or the operator for one, calls for at an edge: a Join/Prune message of a customer router, a source that is noted or no
-- longer is, and a pattern that is selected or no longer is.
pub data CustomerCall : Type 0 where
  Pim : (iface : IfaceId) → (message : JoinPrune) → CustomerCall
  Active : (iface : IfaceId) → (source group : Addr) → CustomerCall
  Idle : (iface : IfaceId) → (source group : Addr) → CustomerCall
  Select : (vrf : VrfId) → (pattern : Pattern) → CustomerCall
  Unselect : (vrf : VrfId) → (pattern : Pattern) → CustomerCall

-- What makes a step: a BGP message or a label message that is taken, a call of a customer, an end that comes up, a loss that is noticed,
-- the timers, and other costs of links: the edge's place has the core by them.
pub data Call : Type 0 where
  Update : (peer : NodeId) → (message : Message) → Call
  Label : (neighbour : NodeId) → (message : LabelMessage) → Call
  Customer : (call : CustomerCall) → Call
  Raised : (kind : Kind) → (peer : NodeId) → Call
  Noticed : (kind : Kind) → (peer : NodeId) → Call
  Timers : Call
  Rerouted : Call

-- ---- routes that are taken

-- A route after an advertisement at the clock. One that changes counts as forgotten and learned again; an equal one keeps its time.
abbrev pub learned : ℕ → Value → Option TakenRoute → TakenRoute
learned now value None = record { value = value; since = now; run = false }
learned now value (Some old) = if same_value old.value value then old else record { value = value; since = now; run = false }

abbrev pub taken_change : ℕ → Taken → Change → Taken
taken_change now taken (updates.Reach advert) =
    let value : Value = record { next_hop = advert.next_hop; comms = advert.comms; pmsi = advert.pmsi } in
    maps.insert taken advert.key (learned now value (maps.get taken advert.key))
taken_change now taken (updates.Unreach key) = maps.remove taken key

-- a message of a peer whose session is up here: its withdrawals first, and then its advertisements
abbrev pub with_update : ℕ → NodeId → Message → Control → Control
with_update now peer message old = elim (maps.get old.peers peer) [
  | None ↦ old
  | Some taken ↦ record old { peers = maps.insert old.peers peer (fold (taken_change now) taken (changes_of message)) }
]

-- ---- selections

-- whether a selection of the VRF has the number
abbrev pub is_used : VrfId → ℕ → VrfPattern × Selected → Bool
is_used vrf number entry = (entry.0.vrf.0 == vrf.0) && (entry.1.number == number)

-- a new selection gets the least number from 1 on that no other one of its VRF has
abbrev pub with_selection : ℕ → VrfId → Pattern → FinMap pattern_cmp Selected → FinMap pattern_cmp Selected
with_selection now vrf pattern old =
    let number = free_number (λ number. list_any (is_used vrf number) (maps.entries old)) (maps.len old) 1 in
    maps.insert old (record { vrf = vrf; pattern = pattern }) (record { number = number; since = now; run = false })

-- ---- calls of customers

-- the entries after a call of a customer: a Join/Prune message changes those that it names
abbrev pub entries_after : ℕ → Entries → CustomerCall → Entries
entries_after now old (Pim iface message) = applied old iface message now
entries_after now old other = old

-- What a call makes of the notes: there is one more, there is one less, or they stay.
pub data Noting : Type 0 where
  Noted : (note : Note) → Noting
  Unnoted : (note : Note) → Noting
  Untouched : Noting

-- what a call of a customer makes of the notes: a source is noted, or no longer is
abbrev pub noting : CustomerCall → Noting
noting (Active iface source group) = Noted (record { iface = iface; source = source; group = group })
noting (Idle iface source group) = Unnoted (record { iface = iface; source = source; group = group })
noting other = Untouched

abbrev pub with_noting : FinSet note_cmp → Noting → FinSet note_cmp
with_noting old (Noted note) = sets.insert old note
with_noting old (Unnoted note) = sets.remove old note
with_noting old Untouched = old

-- the notes after a call of a customer
abbrev pub notes_after : FinSet note_cmp → CustomerCall → FinSet note_cmp
notes_after old call = with_noting old (noting call)

-- the selections after a call of a customer: a pattern is selected, or no longer is
abbrev pub selections_after : ℕ → FinMap pattern_cmp Selected → CustomerCall → FinMap pattern_cmp Selected
selections_after now old (Select vrf pattern) = with_selection now vrf pattern old
selections_after now old (Unselect vrf pattern) = maps.remove old (record { vrf = vrf; pattern = pattern })
selections_after now old other = old

-- A call of a customer changes entries, notes and selections alone.
abbrev pub after_customer : ℕ → Control → CustomerCall → Control
after_customer now old call =
    record old {
      entries = entries_after now old.entries call;
      notes = notes_after old.notes call;
      selections = selections_after now old.selections call;
    }

-- ---- timers

-- a selection whose delay is over
abbrev pub selection_run : ℕ → ℕ → Selected → Selected
selection_run delay now selected = record selected { run = selected.run || nat_le (selected.since + delay) now }

abbrev pub selections_run : ℕ → ℕ → FinMap pattern_cmp Selected → FinMap pattern_cmp Selected
selections_run delay now old =
    maps.from_entries (map (λ (entry : VrfPattern × Selected). (entry.0, selection_run delay now entry.1)) (maps.entries old))

-- whether some VRF of the edge imports the selective route from the peer
abbrev pub is_imported : EdgePlace → NodeId → Key × TakenRoute → Bool
is_imported place peer entry =
    list_any (λ own. is_some (imported_selective own.vrf (addr_of place.scenario peer) entry)) (own_vrfs place)

-- a selective route that is imported, and whose delay is over
abbrev pub route_run : EdgePlace → ℕ → NodeId → Key × TakenRoute → Key × TakenRoute
route_run place now peer entry =
    (entry.0, record entry.1 { run = entry.1.run || (is_imported place peer entry && nat_le (entry.1.since + place.scenario.delay) now) })

abbrev pub taken_run : EdgePlace → ℕ → NodeId × Taken → NodeId × Taken
taken_run place now peer = (peer.0, maps.from_entries (map (route_run place now peer.0) (maps.entries peer.1)))

abbrev pub peers_run : EdgePlace → ℕ → FinMap node_cmp Taken → FinMap node_cmp Taken
peers_run place now old = maps.from_entries (map (taken_run place now) (maps.entries old))

-- all timers of customers and of BGP that are due
abbrev pub timed : EdgePlace → ℕ → Control → Control
timed place now old =
    record old {
      entries = kept_at old.entries now;
      selections = selections_run place.scenario.delay now old.selections;
      peers = peers_run place now old.peers;
    }

-- ---- steps

-- what a call itself changes
abbrev pub effect : EdgePlace → ℕ → Control → Call → Control
effect place now old (Update peer message) = with_update now peer message old
effect place now old (Label neighbour message) = old
effect place now old (Customer call) = after_customer now old call
effect place now old (Raised kinds.Bgp peer) = record old { peers = maps.insert old.peers peer maps.empty }
effect place now old (Raised kinds.Ldp peer) = old
effect place now old (Noticed kinds.Bgp peer) = record old { peers = maps.remove old.peers peer }
effect place now old (Noticed kinds.Ldp peer) = old
effect place now old Timers = timed place now old
effect place now old Rerouted = old

-- whether the call is a step of each VRF: a selection changes no flow
abbrev pub is_vrf_step : Call → Bool
is_vrf_step (Customer (Select vrf pattern)) = false
is_vrf_step (Customer (Unselect vrf pattern)) = false
is_vrf_step other = true

-- the flows become those that some interface asks for at the clock
abbrev pub refreshed : EdgePlace → ℕ → Control → Control
refreshed place now control = record control { flows = flows_at place now control }

-- the same, or the flows stay
abbrev pub refreshed_if : Bool → EdgePlace → ℕ → Control → Control
refreshed_if vrfs place now control = record control { flows = if vrfs then flows_at place now control else control.flows }

-- what the edge keeps of its customers and of BGP after a call
abbrev pub control_step : EdgePlace → ℕ → Control → Call → Control
control_step place now old call = refreshed_if (is_vrf_step call) place now (effect place now old call)

-- when the end of each BGP session that is up came up, after a call
abbrev pub raised_after : ℕ → FinMap node_cmp ℕ → Call → FinMap node_cmp ℕ
raised_after now old (Raised kinds.Bgp peer) = maps.insert old peer now
raised_after now old (Noticed kinds.Bgp peer) = maps.remove old peer
raised_after now old other = old

-- ---- the label part

-- the label step of the call itself, if it has one
abbrev pub own_label_call : Call → Option labels.Call
own_label_call (Label neighbour message) = Some (labels.Taken neighbour message)
own_label_call (Raised kinds.Ldp peer) = Some (labels.Raised peer)
own_label_call (Noticed kinds.Ldp peer) = Some (labels.Noticed peer)
own_label_call Timers = Some labels.Timers
own_label_call Rerouted = Some labels.Rerouted
own_label_call other = None

-- the trees of which the node becomes or stops being a leaf, in their order
abbrev pub changed_leaves : FinSet fec_cmp → FinSet fec_cmp → List labels.Call
changed_leaves old new =
    map (λ fec. if sets.contains new fec then labels.Want fec else labels.Unwant fec)
    (filter (λ fec. not (sets.contains old fec && sets.contains new fec)) (in_order (sets.union old new)))

abbrev pub one_call : Option labels.Call → List labels.Call
one_call None = []
one_call (Some call) = call ∷ []

-- A label step that was made: what the node was before it, the call, and what is after it.
pub record LabelStep : Type 0 where
  pub old : LabelData
  pub call : labels.Call
  pub new : Stepped

-- the label steps of a row of calls, one after another; none where one of them needs a label and none is free
abbrev pub label_row : EdgePlace → ℕ → LabelData → List labels.Call → Option (List LabelStep)
label_row place now part [] = Some []
label_row place now part (call ∷ more) =
    label_step (label_place place.scenario place.core place.me) now part call >>? λ new.
    label_row place now new.part more >>? λ thereafter.
    Some (record { old = part; call = call; new = new } ∷ thereafter)

-- the label part after the row
abbrev pub part_after : LabelData → List LabelStep → LabelData
part_after part [] = part
part_after part (step ∷ more) = part_after step.new.part more

-- An edge after a step, with the label steps that it made.
pub record EdgeStepped : Type 0 where
  pub edge : EdgeData
  pub row : List LabelStep

-- A step of an edge: the call's own effect; then the flows of each VRF; then the label step of the call itself, and one for each tree
-- of which the edge becomes or stops being a leaf, in their order. There is none where a label step needs more labels than are free.
abbrev pub edge_step : EdgePlace → ℕ → EdgeData → Call → Option EdgeStepped
edge_step place now old call =
    let control = control_step place now old.control call in
    let calls = one_call (own_label_call call) ++ changed_leaves (leaves place old.control) (leaves place control) in
    label_row place now old.part calls >>? λ row.
    Some (record {
      edge = record { control = control; part = part_after old.part row; raised = raised_after now old.raised call };
      row = row;
    })
