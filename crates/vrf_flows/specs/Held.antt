-- Flows that a VRF may have, and what touches them.
use Rattle.std.specs.Prelude.{ℕ, ◌&&◌, ◌||◌, not, Bool, true, false, List, Option, None, Some, if◌then◌else◌}
use Rattle.std.specs.List.{list_any}
use Rattle.std.specs.declared.hash.FoldHasher.{FoldHasher}
use Rattle.std.specs.declared.hash.BuildHasherDefault.{BuildHasherDefault}
use Rattle.indexmap.specs.IndexMap.{IndexMap, get}
use Rattle.mv_base.specs.declared.addr.Addr.{Addr}
use Rattle.mv_base.specs.declared.ids.NodeId.{NodeId}
use Rattle.mv_base.specs.Address.{same_addr}
use Rattle.mv_base.specs.Prefix.{covers}
use Rattle.scenario_defs.specs.declared.event.JoinEntry.{JoinEntry}
use Rattle.scenario_defs.specs.declared.event.JoinEntry.TheVariants.{Star, Source, Rpt}
use Rattle.scenario_defs.specs.declared.event.IfaceEntry.{IfaceEntry}
use Rattle.pim_joinprune.specs.declared.source.JpSource.{JpSource}
use Rattle.pim_joinprune.specs.declared.group.Group.{Group}
use Rattle.pim_defs.specs.declared.expiry.Expiry.{Expiry}
use Rattle.pim_defs.specs.Expiry.{is_after}
use Rattle.pim_defs.specs.Mention.{entry_of, same_entry}
use Rattle.umh_select.specs.declared.key.RouteKey.{RouteKey}
use Rattle.umh_select.specs.declared.route.Held.{Held as Learned}
use Rattle.umh_select.specs.Routes.{is_from}
use Rattle.vrf_words.specs.declared.tree_defs.flow.Flow.{Flow}
use Rattle.vrf_words.specs.tree_defs.Keys.{same_flow}
use Rattle.vrf_flows.specs.declared.held.Held.{Held}
use Rattle.vrf_flows.specs.declared.held.Kept.{Kept}
use Rattle.vrf_flows.specs.declared.held.Cause.{Cause}
use Rattle.vrf_flows.specs.declared.held.Cause.TheVariants as causes

-- a table of what is held of flows
abbrev pub FlowTable : Type 0
FlowTable = IndexMap Flow Held (BuildHasherDefault FoldHasher)

-- what a flow is, where it is one of the VRF
abbrev pub Now : Type 0
Now = Option Kept

abbrev pub kept_of : Option Held → Now
kept_of None = None
kept_of (Some held) = held.kept

abbrev pub is_stale : Option Held → Bool
is_stale None = false
is_stale (Some held) = held.stale

-- whether the flow is stale in the table
abbrev pub is_stale_in : FlowTable → Flow → Bool
is_stale_in flows flow = is_stale (get same_flow flows flow)

-- whether a flow is held and not stale
abbrev pub is_fresh : Option Held → Bool
is_fresh None = false
is_fresh (Some held) = not held.stale

-- ---- causes

abbrev pub concerns : Cause → Flow → Bool
concerns (causes.Flow own) flow = same_flow own flow
concerns (causes.Group group) flow = same_addr group flow.group
concerns (causes.Prefix prefix) flow = covers prefix flow.source
concerns causes.All flow = true

abbrev pub cause_of : JoinEntry → Cause
cause_of (Star group) = causes.Group group
cause_of (Source source group) = causes.Flow (record { source = source; group = group })
cause_of (Rpt source group) = causes.Flow (record { source = source; group = group })

-- whether a change of the entry may change the flow
abbrev pub touches : JoinEntry → Flow → Bool
touches entry flow = concerns (cause_of entry) flow

-- whether the route is from the peer, and covers the source of the flow
abbrev pub covers_from : NodeId → Flow → RouteKey × Learned → Bool
covers_from peer flow route = is_from peer route.0.place && covers route.0.prefix flow.source

-- ---- marks

abbrev pub mark : Bool → Held → Held
mark touched held = record { stale = held.stale || touched; kept = held.kept }

abbrev pub marked : Bool → Option Held → Option Held
marked touched None = None
marked touched (Some held) = Some (mark touched held)

-- whether a flow that is held is not stale, and the cause touches it
abbrev pub is_news : Cause → Flow → Held → Bool
is_news cause flow held = not held.stale && concerns cause flow

-- what is held of a flow of which nothing is known
abbrev pub unknown : Held
unknown = record { stale = true; kept = None }

-- what is held of a flow that is known to be this, or none of the VRF
abbrev pub settled_as : Now → Held
settled_as kept = record { stale = false; kept = kept }

-- What is held of a flow that is known to be sent, where it is to be held too. Where no entry may join it, it is known to be none of the VRF.
abbrev pub held_sent : Bool → Bool → Option Held → Option Held
held_sent asked here None = if here then Some (record { stale = asked; kept = None }) else None
held_sent asked here (Some held) = Some held

-- what is held of a flow, where it is to be held too
abbrev pub held_too : Bool → Option Held → Option Held
held_too here held = held_sent true here held

-- what is held of a flow, once nothing of what it was is kept
abbrev pub forgotten : Option Held → Option Held
forgotten None = None
forgotten (Some held) = Some unknown

-- whether a source of a group joins the flow itself
abbrev pub joins_flow : Addr → Flow → JpSource → Bool
joins_flow group flow source = same_entry (entry_of group source) (Source flow.source flow.group)

abbrev pub joins_in : Flow → Group → Bool
joins_in flow group = list_any (joins_flow group.group flow) group.joins

-- whether the entry joins the flow itself
abbrev pub joins_itself : Flow → JoinEntry → Bool
joins_itself flow (Source source group) = same_flow (record { source = source; group = group }) flow
joins_itself flow other = false

abbrev pub holds_entry : Flow → IfaceEntry × Expiry → Bool
holds_entry flow e = joins_itself flow e.0.entry

-- whether sources of a group name an entry that may change the flow
abbrev pub names : Addr → List JpSource → Flow → Bool
names group sources flow = list_any (λ source. touches (entry_of group source) flow) sources

abbrev pub names_in : Group → Flow → Bool
names_in group flow = names group.group group.joins flow || names group.group group.prunes flow

abbrev pub differ : Bool → Bool → Bool
differ own other = if own then not other else other

-- whether an entry may change the flow, and counts at one of the clocks and not at the other
abbrev pub lapses : ℕ → ℕ → IfaceEntry → Expiry → Flow → Bool
lapses from to at expiry flow = differ (is_after expiry from) (is_after expiry to) && touches at.entry flow

abbrev pub lapsed : ℕ → ℕ → Flow → IfaceEntry × Expiry → Bool
lapsed from to flow e = lapses from to e.0 e.1 flow

-- whether an entry may change the flow, and has ended at the clock
abbrev pub ends : ℕ → IfaceEntry → Expiry → Flow → Bool
ends now at expiry flow = not (is_after expiry now) && touches at.entry flow

abbrev pub ended : ℕ → Flow → IfaceEntry × Expiry → Bool
ended now flow e = ends now e.0 e.1 flow
