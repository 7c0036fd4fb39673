-- What a report licenses, hop by hop, by the octets of its own lines (RFC 6513 section 9.1.1, RFC 6388 section 2.4, RFC 6514 section 11).
use Rattle.std.specs.Prelude.{◌≡◌, ◌⊎◌, ℕ, ◌==◌, ◌&&◌, ◌||◌, ◌<◌, Bool, true, false, List, [], ◌∷◌, ◌++◌, fold}
use Rattle.std.specs.Prelude.{slice_get, Option, Some, if◌then◌else◌}
use Rattle.std.specs.List.{flat_map, list_any, AllByRecursion}
use Rattle.mv_base.specs.declared.ids.IfaceId.{IfaceId}
use Rattle.mv_base.specs.declared.ids.NodeId.{NodeId}
use Rattle.mv_base.specs.declared.ids.VrfId.{VrfId}
use Rattle.mv_base.specs.declared.pattern.Pattern.{Pattern}
use Rattle.label_defs.specs.mldp.declared.mldp_fec.fec.Fec.{Fec}
use Rattle.label_defs.specs.mldp.mldp_msgs.Labels.{HasLabel}
use Rattle.edge_defs.specs.bgp_values.declared.mvpn_nlri.route.Afi.{Afi}
use Rattle.edge_defs.specs.bgp_values.declared.mvpn_nlri.route.Route.TheVariants as routes
use Rattle.edge_defs.specs.bgp_messages.declared.bgp_attributes.key.Key.{Key}
use Rattle.edge_defs.specs.bgp_messages.declared.bgp_attributes.key.Key.TheVariants.{Mcast}
use Rattle.edge_defs.specs.bgp_messages.declared.bgp_attributes.update.Advert.{Advert}
use Rattle.edge_defs.specs.bgp_messages.bgp_update.Table.{HasRoute}
use Rattle.scenario_defs.specs.declared.event.Kind.{Kind}
use Rattle.scenario_defs.specs.declared.event.Kind.TheVariants as kinds
use Rattle.scenario_defs.specs.declared.report.ReportLine.{ReportLine}
use Rattle.scenario_defs.specs.declared.report.ReportLine.TheVariants as lines
use Rattle.scenario_defs.specs.declared.scenario.Iface.{Iface}
use Rattle.scenario_defs.specs.declared.scenario.Scenario.{Scenario}
use Rattle.scenario_defs.specs.declared.scenario.Vrf.{Vrf}
use Rattle.scenario_defs.specs.Kinds.{same_kind}
use Rattle.edge_defs.specs.Imported.{lsp_of, is_admitted, has_comm}
use Rattle.edge_defs.specs.Originated.{import_target}
use Rattle.edge_defs.specs.Place.{addr_of, lsp, tunnel_number}
use Rattle.label_defs.specs.Between.{is_between}
use Rattle.network_defs.specs.Acts.{Act, RaiseFirst, RaiseSecond, Notice, Restart, Enter, Land}
use Rattle.network_defs.specs.Run.{Traced}
use Rattle.network_defs.specs.World.{World, Datagram, numbered, scenario_of}

-- ---- octets since the last raise

-- whether the act is the first one of a raise of the session
abbrev pub is_raise : Kind → NodeId → NodeId → Option Act → Bool
is_raise kind a b (Some (RaiseFirst own u n)) = same_kind kind own && is_between a b u n
is_raise kind a b other = false

-- what happened from the last raise of the session on; nothing where there was none
abbrev pub since_raise : Kind → NodeId → NodeId → List Traced → List Traced
since_raise kind a b [] = []
since_raise kind a b (step ∷ more) =
    if list_any (λ later. is_raise kind a b later.happened.act) more then since_raise kind a b more else
    if is_raise kind a b step.happened.act then step ∷ more else []

-- the octets that a line says were put from one node to another, and those that it says were taken
abbrev pub put_by : Kind → NodeId → NodeId → ReportLine → List ℕ
put_by kind from to (lines.Put own u n bytes) = if same_kind kind own && (u.0 == from.0) && (n.0 == to.0) then bytes else []
put_by kind from to other = []

abbrev pub taken_by : Kind → NodeId → NodeId → ReportLine → List ℕ
taken_by kind from to (lines.Take own u n bytes) = if same_kind kind own && (u.0 == from.0) && (n.0 == to.0) then bytes else []
taken_by kind from to other = []

abbrev pub put_since : Kind → NodeId → NodeId → List Traced → List ℕ
put_since kind from to trace = flat_map (λ step. flat_map (put_by kind from to) step.happened.lines) (since_raise kind from to trace)

abbrev pub taken_since : Kind → NodeId → NodeId → List Traced → List ℕ
taken_since kind from to trace = flat_map (λ step. flat_map (taken_by kind from to) step.happened.lines) (since_raise kind from to trace)

-- whether the node's end of the session is up after an act: from its raise until it notices a loss or the node restarts
abbrev pub is_up_after : Kind → NodeId → NodeId → Bool → Option Act → Bool
is_up_after kind n peer before (Some (RaiseFirst own a b)) = before || (same_kind kind own && (a.0 == n.0) && (b.0 == peer.0))
is_up_after kind n peer before (Some (RaiseSecond own a b)) = before || (same_kind kind own && (b.0 == n.0) && (a.0 == peer.0))
is_up_after kind n peer before (Some (Notice own a b)) = if same_kind kind own && (a.0 == n.0) && (b.0 == peer.0) then false else before
is_up_after kind n peer before (Some (Restart node)) = if node.0 == n.0 then false else before
is_up_after kind n peer before other = before

abbrev pub is_up_in : Kind → NodeId → NodeId → List Traced → Bool
is_up_in kind n peer trace = fold (λ before step. is_up_after kind n peer before step.happened.act) false trace

-- ---- the licences

-- What a node takes is a first part of what its neighbour put, since the last raise.
abbrev pub TakesWhatWasPut : List Traced → Type 0
TakesWhatWasPut trace = (before after : List Traced) (kind : Kind) (from to : NodeId) → trace ≡ before ++ after
    → (rest : List ℕ) × (put_since kind from to before ≡ taken_since kind from to before ++ rest)

-- A node may put a copy on a branch: its end towards the neighbour is up, and the neighbour has mapped the label to the tree.
pub record MayHop (before : List Traced) (u n : NodeId) (label : ℕ) (fec : Fec) : Type 0 where
  pub up : is_up_in kinds.Ldp u n before ≡ true
  pub mapped : HasLabel (taken_since kinds.Ldp n u before) fec label

-- each `hop` line puts its copy on a branch of the tree, at that node
abbrev pub HopsOf : List Traced → NodeId → Fec → ReportLine → Type 0
HopsOf before node fec (lines.Hop u n label ttl number) = (u ≡ node) × MayHop before u n label fec
HopsOf before node fec other = Unit {0}

-- The VRF of an interface may be reached from a tunnel: its edge has taken a route of that tunnel, with a Route Target of the VRF,
-- from the edge at the tunnel's root.
pub record MayDeliver (scenario : Scenario) (before : List Traced) (n : NodeId) (fec : Fec) (iface : IfaceId) : Type 0 where
  pub own : Iface
  pub known : slice_get scenario.ifaces iface.0 ≡ Some own
  pub vrf : Vrf
  pub of_vrf : slice_get scenario.vrfs own.vrf.0 ≡ Some vrf
  pub at_edge : vrf.edge ≡ n
  pub root : NodeId
  pub at_root : fec.root ≡ addr_of scenario root
  pub afi : Afi
  pub key : Key
  pub of_tunnel : ((rd : _) × (originator : _) × (key ≡ Mcast afi (routes.Intra rd originator)))
      ⊎ ((rd : _) × (pattern : Pattern) × (originator : _)
      × (key ≡ Mcast afi (routes.Selective rd pattern.source pattern.group originator)))
  pub advert : Advert
  pub taken : HasRoute (taken_since kinds.Bgp root n before) key advert
  pub tunnel : lsp_of advert.pmsi ≡ Some fec
  pub admitted : is_admitted vrf advert.comms ≡ true

abbrev pub OutsOf : Scenario → List Traced → NodeId → Fec → ReportLine → Type 0
OutsOf scenario before n fec (lines.Out number iface bytes) = MayDeliver scenario before n fec iface
OutsOf scenario before n fec other = Unit {0}

-- whether a line says that a copy or a datagram goes on
abbrev pub goes_on : ReportLine → Bool
goes_on (lines.Out number iface bytes) = true
goes_on (lines.Hop u n label ttl number) = true
goes_on other = false

-- A copy that lands and goes on does so for one tree: the node's end towards the neighbour is up, the node has mapped the label to the
-- tree; the copy goes on branches of that tree, and leaves at interfaces that may be reached from it.
pub record MayLand (scenario : Scenario) (before : List Traced) (from n : NodeId) (label : ℕ) (all : List ReportLine) : Type 0 where
  pub fec : Fec
  pub up : is_up_in kinds.Ldp n from before ≡ true
  pub mapped : HasLabel (put_since kinds.Ldp n from before) fec label
  pub hops : AllByRecursion (HopsOf before n fec) all
  pub outs : AllByRecursion (OutsOf scenario before n fec) all

-- A datagram that enters at a VRF and goes on a branch does so for a tunnel of that VRF, and another edge has joined its flow there.
pub record MayEnter (scenario : Scenario) (before : List Traced) (id : VrfId) (datagram : Datagram) (u n : NodeId)
    (label : ℕ) : Type 0 where
  pub vrf : Vrf
  pub known : slice_get scenario.vrfs id.0 ≡ Some vrf
  pub at_edge : u ≡ vrf.edge
  pub number : ℕ
  pub own : number < 1048576
  pub hop : MayHop before u n label (lsp (addr_of scenario vrf.edge) (tunnel_number vrf number))
  pub peer : NodeId
  pub afi : Afi
  pub advert : Advert
  pub joined : HasRoute (taken_since kinds.Bgp peer u before)
      (Mcast afi (routes.SourceJoin vrf.rd scenario.system datagram.source datagram.group)) advert
  pub named : has_comm (import_target (record { addr = addr_of scenario vrf.edge; number = vrf.number })) advert.comms ≡ true

abbrev pub EntersBy : Scenario → List Traced → List Datagram → VrfId → ReportLine → Type 0
EntersBy scenario before datagrams id (lines.Hop u n label ttl number) =
    (datagram : Datagram) × (numbered datagrams number ≡ Some datagram) × MayEnter scenario before id datagram u n label
EntersBy scenario before datagrams id other = Unit {0}

-- What an act needs for its lines, by what happened before it. The lines of a copy that lands begin with that. No other act lets a
-- copy or a datagram go on.
abbrev pub IsLicensed : Scenario → List Datagram → List Traced → Option Act → List ReportLine → Type 0
IsLicensed scenario datagrams before (Some (Land from n place)) (lines.Land own_from own_n label number ∷ all) =
    (own_from ≡ from) × (own_n ≡ n)
    × (list_any goes_on all ≡ true → MayLand scenario before from n label all)
IsLicensed scenario datagrams before (Some (Enter id)) all = AllByRecursion (EntersBy scenario before datagrams id) all
IsLicensed scenario datagrams before other all = list_any goes_on all ≡ false

-- Each hop is licensed by what its node and the neighbour have put and taken. The trace is one of a run to that network, which has the
-- datagrams that were accepted in it.
pub record Local (last : World) (trace : List Traced) : Type 0 where
  pub takes : TakesWhatWasPut trace
  pub licensed : (before after : List Traced) (step : Traced) → trace ≡ before ++ step ∷ after
      → IsLicensed (scenario_of last) last.datagrams before step.happened.act step.happened.lines
