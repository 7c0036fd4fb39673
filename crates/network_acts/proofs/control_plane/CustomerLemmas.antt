-- A call of a customer or of the operator at the edge of an interface or of a VRF, as an act of the control plane.
use Rattle.std.proofs.Common.{◌≡◌, ◌∙◌, refl, sym, ap, subst, arith, inl, inr, ℕ, zero, suc, ◌+◌, ◌==◌, ◌||◌, Bool, true, false, cond, List, [], ◌∷◌, slice_get, slice_set, Option, Some, None, Result, Ok, Err, OnOk}
use Rattle.std.specs.FinMap as maps
use Rattle.std.specs.List.{list_any}
use Rattle.std.proofs.lemmas.Bool.{cond-true, eq-eqb, or_right}
use Rattle.std.proofs.lemmas.Option.{none-some, same_Some}
use Rattle.mv_base.specs.Lists.{Among}
use Rattle.mv_base.specs.declared.addr.Addr.{Addr}
use Rattle.mv_base.specs.declared.addr.Addr.TheVariants.{V4, V6}
use Rattle.mv_base.specs.declared.ids.IfaceId.{IfaceId}
use Rattle.mv_base.specs.declared.ids.NodeId.{NodeId}
use Rattle.mv_base.specs.declared.ids.VrfId.{VrfId}
use Rattle.edge_defs.specs.bgp_values.mvpn_nlri.Spelling.{IsAnyOr, IsGroup, IsSource}
use Rattle.edge_defs.specs.bgp_values.declared.mvpn_nlri.route.Afi.{Afi}
use Rattle.edge_defs.specs.bgp_messages.bgp_update.Written.{afi_of}
use Rattle.scenario_defs.specs.Rules.{IsEdge, Rules}
use Rattle.scenario_defs.specs.Vpn.{edge_of, is_of_vrf}
use Rattle.scenario_defs.specs.declared.event.Kind.{Kind}
use Rattle.scenario_defs.specs.declared.report.ReportLine.{ReportLine}
use Rattle.scenario_defs.specs.declared.scenario.Iface.{Iface}
use Rattle.scenario_defs.specs.declared.scenario.Node.{Node}
use Rattle.scenario_defs.specs.declared.scenario.Scenario.{Scenario}
use Rattle.scenario_defs.specs.declared.scenario.Vrf.{Vrf}
use Rattle.scenario_defs.proofs.RuleLemmas.{vrf_rules_at}
use Rattle.network_defs.specs.session_defs.Octets as octets
use Rattle.network_defs.specs.session_defs.Octets.{OctetAct, OctetNetwork}
use Rattle.edge_defs.specs.Place.{OwnVrf, vrfs_from}
use Rattle.edge_defs.specs.Edge.{Control}
use Rattle.edge_defs.specs.Originated.{afi_by, is_iface_of}
use Rattle.edge_defs.specs.Steps.{Call, Customer, Active, Pim, Select, Unselect}
use Rattle.network_nodes.specs.wire_laws.edge_routes.edge_home.Home.{Home}
use Rattle.control_laws.proofs.Parts.{no_core}
use Rattle.control_laws.proofs.group_laws.Messages.{has_groups}
use Rattle.mldp_node.specs.declared.fault.NodeFault.{NodeFault}
use Rattle.mldp_node.specs.declared.fault.NodeFault.TheVariants as halts
use Rattle.network_defs.specs.Nodes as world
use Rattle.network_defs.specs.Nodes.{Nodes}
use Rattle.network_defs.specs.Refusals.{control_of, edge_of_vrf}
use Rattle.network_defs.specs.System.{NodeCall, Own}
use Rattle.network_laws.specs.Honest.{IsSoundCall}
use Rattle.network_laws.specs.Sound.{AreAlike, IsCustomer, IsFlow, IsGroupAddr}
use Rattle.network_nodes.specs.wire_laws.AnyNodes as any
use Rattle.network_nodes.specs.wire_laws.AnyNodes.{AnyNode, IsNodeAt}
use Rattle.network_nodes.specs.wire_laws.Edges.{begins}
use Rattle.network_nodes.specs.Answers.{AnswersCall}
use Rattle.network_nodes.specs.Edges.{IsOneOf, OnTaken, is_full, refusals_of}
use Rattle.network_nodes.specs.Faults as faults
use Rattle.network_nodes.specs.Faults.{EdgeFault}
use Rattle.network_nodes.specs.NodeView.{FitsIn, HasIface, HasVrf, IsNode, IsPlacedAt, data_in, spent_in}
use Rattle.network_nodes.specs.declared.node.NetworkNode.{NetworkNode}
use Rattle.network_nodes.specs.declared.node.NetworkNode.TheVariants as nodes
use Rattle.network_acts.specs.control_plane.Acted.{Acted, Acts, IsCurrent, IsIn, IsSome, IsSomeMidway, IsWithin, Settles, Standing, no_lines, same_moment}
use Rattle.network_acts.specs.control_plane.Customers.{CustomerActs, FitsAt, IsVrfEdge, SettlesCustomer, control_at, is_full_at}
use Rattle.network_acts.specs.control_plane.Queries.{IsNodeThere}
use Rattle.network_acts.specs.control_plane.PlaneView.{PlaneView}
use Rattle.network_acts.specs.declared.control_plane.customers.Verdict.{Verdict}
use Rattle.network_acts.proofs.control_plane.MidLemmas.{worked}
use Rattle.network_acts.proofs.control_plane.OwnLemmas.{own_acts, own_some}

-- ---- the VRFs of an edge

-- a VRF of the edge is among its VRFs, by its number
any_own : (me : NodeId) (number : ℕ) (vrfs : List Vrf) (place id : ℕ) (vrf : Vrf) (test : OwnVrf → Bool) → slice_get vrfs place ≡ Some vrf
    → vrf.edge.0 ≡ me.0 → id ≡ number + place
    → test (record { id = record { 0 = id }; vrf = vrf }) ≡ true → list_any test (vrfs_from me number vrfs) ≡ true
any_own me number [] place id vrf test at edge is passes = absurd (none-some vrf at)
any_own me number (first ∷ more) zero id vrf test at edge is passes =
    let rest = vrfs_from me (number + 1) more in
    let own : OwnVrf = record { id = record { 0 = number }; vrf = first } in
    let same : first ≡ vrf = same_Some first vrf at in
    let mine : first.edge.0 ≡ me.0 = ap (λ (v : Vrf). v.edge.0) same ∙ edge in
    let numbered : number ≡ id = omega (arith, is) in
    let is_it : test own ≡ true = (λ i. test (record { id = record { 0 = numbered i }; vrf = same i })) ∙ passes in
    ap (list_any test) (cond-true (first.edge.0 == me.0) (own ∷ rest) rest (eq-eqb first.edge.0 me.0 mine))
    ∙ ap (λ (b : Bool). b || list_any test rest) is_it
any_own me number (first ∷ more) (suc place) id vrf test at edge is passes =
    by (first.edge.0 == me.0) (any_own me (number + 1) more place id vrf test at edge (omega (arith, is)) passes)
  where
    by : (b : Bool) → list_any test (vrfs_from me (number + 1) more) ≡ true
        → list_any test (cond b (record { id = record { 0 = number }; vrf = first } ∷ vrfs_from me (number + 1) more)
        (vrfs_from me (number + 1) more)) ≡ true
    by true later = or_right (test (record { id = record { 0 = number }; vrf = first })) (list_any test (vrfs_from me (number + 1) more)) later
    by false later = later

-- ---- the edge of a VRF, and of an interface

-- the VRF is one of the scenario, at that edge
record IsVrfOf (scenario : Scenario) (n : NodeId) (vrf : ℕ) : Type 0 where
  found : Vrf
  at : slice_get scenario.vrfs vrf ≡ Some found
  edge : found.edge ≡ n

vrf_of : (scenario : Scenario) (n : NodeId) (vrf : VrfId) → edge_of_vrf scenario vrf ≡ Some n → IsVrfOf scenario n vrf.0
vrf_of scenario n vrf e = by (slice_get scenario.vrfs vrf.0) refl e
  where
    by : (o : Option Vrf) → slice_get scenario.vrfs vrf.0 ≡ o → elim o [ None ↦ None | Some found ↦ Some found.edge ] ≡ Some n
        → IsVrfOf scenario n vrf.0
    by None at h = absurd (none-some n h)
    by (Some found) at h = record { found = found; at = at; edge = same_Some found.edge n h }

-- the interface is one of the scenario, in such a VRF
record IsIfaceOf (scenario : Scenario) (n : NodeId) (iface : IfaceId) : Type 0 where
  found : Iface
  at : slice_get scenario.ifaces iface.0 ≡ Some found
  vrf : IsVrfOf scenario n found.vrf.0

iface_of : (scenario : Scenario) (n : NodeId) (iface : IfaceId) → edge_of scenario iface ≡ Some n → IsIfaceOf scenario n iface
iface_of scenario n iface e = by (slice_get scenario.ifaces iface.0) refl e
  where
    in_vrf : (found : Iface) (o : Option Vrf) → slice_get scenario.vrfs found.vrf.0 ≡ o → elim o [ None ↦ None | Some vrf ↦ Some vrf.edge ] ≡ Some n
        → IsVrfOf scenario n found.vrf.0
    in_vrf found None at h = absurd (none-some n h)
    in_vrf found (Some vrf) at h = record { found = vrf; at = at; edge = same_Some vrf.edge n h }

    by : (o : Option Iface) → slice_get scenario.ifaces iface.0 ≡ o
        → elim o [ None ↦ None | Some found ↦ elim (slice_get scenario.vrfs found.vrf.0) [ None ↦ None | Some vrf ↦ Some vrf.edge ] ] ≡ Some n
        → IsIfaceOf scenario n iface
    by None at h = absurd (none-some n h)
    by (Some found) at h = record { found = found; at = at; vrf = in_vrf found (slice_get scenario.vrfs found.vrf.0) refl h }

abbrev edge_or : Option Node → Bool
edge_or None = false
edge_or (Some node) = node.edge

-- the node of a VRF is an edge
no_core_node : (scenario : Scenario) → Rules scenario → (n : NodeId) (vrf : ℕ) → IsVrfOf scenario n vrf → world.is_edge scenario n ≡ false → ⊥
no_core_node scenario rules n vrf is none =
    let edge : IsEdge scenario n = subst (IsEdge scenario) is.edge (vrf_rules_at scenario rules vrf is.found is.at).edge in
    (let t : true ≡ false = sym edge.edge ∙ (ap edge_or (sym edge.at) ∙ none) in cc)

pub has_vrf : (scenario : Scenario) → Rules scenario → (n : NodeId) (vrf : VrfId) (node : NetworkNode) → IsPlacedAt scenario n node
    → edge_of_vrf scenario vrf ≡ Some n → HasVrf node vrf
has_vrf scenario rules n vrf (nodes.Edge edge) placed e =
    let is = vrf_of scenario n vrf e in
    subst (λ (h : Home). list_any (λ (own : OwnVrf). own.id.0 == vrf.0) (vrfs_from h.me 0 h.scenario.vrfs) ≡ true) (sym placed.0)
    (any_own n 0 scenario.vrfs vrf.0 vrf.0 is.found (λ own. own.id.0 == vrf.0) is.at (ap (λ (m : NodeId). m.0) is.edge) (omega arith)
    (eq-eqb vrf.0 vrf.0 refl))
has_vrf scenario rules n vrf (nodes.CoreNode core) placed e = absurd (no_core_node scenario rules n vrf.0 (vrf_of scenario n vrf e) placed.1)

pub has_iface : (scenario : Scenario) → Rules scenario → (n : NodeId) (iface : IfaceId) (node : NetworkNode) → IsPlacedAt scenario n node
    → edge_of scenario iface ≡ Some n → HasIface node iface
has_iface scenario rules n iface (nodes.Edge edge) placed e =
    let is = iface_of scenario n iface e in
    subst (λ (h : Home). list_any (λ (own : OwnVrf). is_iface_of h.scenario own.id iface) (vrfs_from h.me 0 h.scenario.vrfs) ≡ true) (sym placed.0)
    (any_own n 0 scenario.vrfs is.found.vrf.0 is.found.vrf.0 is.vrf.found (λ own. is_iface_of scenario own.id iface) is.vrf.at
    (ap (λ (m : NodeId). m.0) is.vrf.edge) (omega arith)
    (ap (λ (o : Option Iface). elim o [ None ↦ false | Some found ↦ is_of_vrf is.found.vrf found ]) is.at
    ∙ eq-eqb is.found.vrf.0 is.found.vrf.0 refl))
has_iface scenario rules n iface (nodes.CoreNode core) placed e =
    let is = iface_of scenario n iface e in absurd (no_core_node scenario rules n is.found.vrf.0 is.vrf placed.1)

-- the VRF is one of the node that stands there
pub own_vrf : (n : NodeId) (vrf : VrfId) (plane : PlaneView) (node : NetworkNode) → IsSome (IsVrfEdge n vrf) plane
    → ((at : Standing) → IsWithin n at → IsIn at plane → IsNodeThere at n node)
    → HasVrf node vrf
own_vrf n vrf plane node (at, place, is) stands =
    has_vrf at.scenario (subst Rules is.around.scenario_is is.around.steady.sound.lines.rules) n vrf node
    (subst (λ (s : Scenario). IsPlacedAt s n node) is.around.scenario_is (stands at place.node.within is).placed) place.edge

-- ---- what the node keeps

kept_by : (n : NodeId) (network : OctetNetwork Nodes) (state : AnyNode) (node : NetworkNode) → IsNode state node → IsNodeAt n network [] state
    → control_of (network.state.node n) ≡ control_of (data_in node)
kept_by n network (any.Edge state) (nodes.Edge edge) is at = ap control_of at.node ∙ (is.parts no_core).keeps
kept_by n network (any.Edge state) (nodes.CoreNode core) is at = absurd is
kept_by n network (any.CoreNode state) (nodes.Edge edge) is at = absurd is
kept_by n network (any.CoreNode state) (nodes.CoreNode core) is at = ap control_of at.node

module _ (plane : PlaneView) (n : NodeId) (old : NetworkNode) (place : slice_get plane.nodes n.0 ≡ Some old) (at : Standing) (is : IsIn at plane)
    (node : IsCurrent n at) where
  same_node : (is.nodes n node.within).node ≡ old
  same_node = let has = is.nodes n node.within in same_Some has.node old (sym has.at ∙ place)

  -- the node keeps what the network's keeps
  pub kept_here : control_at n at ≡ control_of (data_in old)
  kept_here =
      let has = is.nodes n node.within in
      kept_by n at.network has.is.state has.node has.is.is has.is.at ∙ ap (λ (o : NetworkNode). control_of (data_in o)) same_node

  pub unspent_here : spent_in old ≡ None
  unspent_here = subst (λ (o : NetworkNode). spent_in o ≡ None) same_node (is.nodes n node.within).unspent

  pub placed_here : IsPlacedAt at.scenario n old
  placed_here =
      subst (λ (s : Scenario). IsPlacedAt s n old) is.around.scenario_is
      (subst (λ (o : NetworkNode). IsPlacedAt at.network.state.scenario n o) same_node (is.nodes n node.within).placed)

  rules_here : Rules at.scenario
  rules_here = subst Rules is.around.scenario_is is.around.steady.sound.lines.rules

  pub iface_here : (iface : IfaceId) → edge_of at.scenario iface ≡ Some n → HasIface old iface
  iface_here iface e = has_iface at.scenario rules_here n iface old placed_here e

  pub vrf_here : (vrf : VrfId) → edge_of_vrf at.scenario vrf ≡ Some n → HasVrf old vrf
  vrf_here vrf e = has_vrf at.scenario rules_here n vrf old placed_here e

-- ---- acts

-- where less fits, the same acts
pub acts_where : (Fits Less : Standing → Type 0) → ((at : Standing) → Less at → Fits at)
    → (acts : List (OctetAct NodeCall)) (old new : PlaneView) (lines new_lines : List ReportLine)
    (result : Result (Unit {0}) NodeFault) → Acts Fits same_moment acts no_lines old new lines new_lines result
    → Acts Less same_moment acts no_lines old new lines new_lines result
acts_where Fits Less fits acts old new lines new_lines result row = record {
  made = by result row.made;
  lacks = λ e at less is. row.lacks e at (fits at less) is;
}
  where
    by : (r : Result (Unit {0}) NodeFault) → OnOk r ((at : Standing) → Fits at → IsIn at old → Acted at at.moment acts [] lines new_lines new)
        → OnOk r ((at : Standing) → Less at → IsIn at old → Acted at at.moment acts [] lines new_lines new)
    by (Ok done) made = λ at less is. made at (fits at less) is
    by (Err fault) made = tt

pub some_where : (Fits Less : Standing → Type 0) → ((at : Standing) → Less at → Fits at) → (plane : PlaneView) → IsSome Less plane → IsSome Fits plane
some_where Fits Less fits plane some = (some.0, fits some.0 some.1, some.2)

-- a place that takes what stands there already
set_own : {X : Type 0} (xs : List X) (place : ℕ) (x : X) → slice_get xs place ≡ Some x → slice_set xs place x ≡ xs
set_own [] place x at = refl
set_own (y ∷ xs) zero x at = ap (λ z. z ∷ xs) (sym (same_Some y x at))
set_own (y ∷ xs) (suc place) x at = ap (λ l. y ∷ l) (set_own xs place x at)

-- ---- what a call asks

-- the node has acted on the present costs
fits_current : (n : NodeId) (call : Call) (at : Standing) → FitsAt n call at → IsCurrent n at
fits_current n (Customer (Pim iface message)) at fits = fits.0.node
fits_current n (Customer other) at fits = fits.0.node
fits_current n other at fits = absurd fits

pub fits_within : (n : NodeId) (call : Call) (at : Standing) → FitsAt n call at → IsWithin n at
fits_within n call at fits = (fits_current n call at fits).within

-- the call is of sound values
fits_sound : (n : NodeId) (call : Call) (at : Standing) → FitsAt n call at → IsSoundCall call
fits_sound n (Customer (Pim iface message)) at fits = fits.2
fits_sound n (Customer (Active iface source group)) at fits = fits.1
fits_sound n (Customer (Select vrf pattern)) at fits = fits.1
fits_sound n (Customer (Unselect vrf pattern)) at fits = tt
fits_sound n (Customer other) at fits = tt
fits_sound n other at fits = absurd fits

-- it begins no stream
fits_calm : (n : NodeId) (call : Call) (at : Standing) → FitsAt n call at → (kind : Kind) (peer : NodeId) → begins call kind peer ≡ false
fits_calm n (Customer call) at fits kind peer = refl
fits_calm n other at fits kind peer = absurd fits

-- an address of a customer has the octets of its family
of_family : (addr : Addr) → IsCustomer addr → IsSource (afi_of addr) addr
of_family (V4 octets) is = is.0
of_family (V6 octets) is = is.0

flow_group : (source group : Addr) → IsFlow source group → IsGroup (afi_of source) group
flow_group source group is = (subst (λ (afi : Afi). IsSource afi group) (sym is.2) (of_family group is.1.0), is.1.1)

pattern_group : (source group : Option Addr) → IsAnyOr IsGroupAddr group → AreAlike source group
    → IsAnyOr (IsGroup (afi_by source group)) group
pattern_group source None is alike = tt
pattern_group None (Some group) is alike = (of_family group is.0, is.1)
pattern_group (Some source) (Some group) is alike = (subst (λ (afi : Afi). IsSource afi group) (sym alike) (of_family group is.0), is.1)

-- an edge whose interfaces, VRFs and selections these are is one that the call fits
fits_edge : (n : NodeId) (call : Call) (at : Standing) → FitsAt n call at → (node : NetworkNode)
    → ((iface : IfaceId) → edge_of at.scenario iface ≡ Some n → HasIface node iface)
    → ((vrf : VrfId) → edge_of_vrf at.scenario vrf ≡ Some n → HasVrf node vrf)
    → control_at n at ≡ control_of (data_in node) → FitsIn node call
fits_edge n (Customer (Pim iface message)) at fits (nodes.Edge edge) ifaces vrfs keeps = (ifaces iface fits.0.edge, has_groups message fits.1)
fits_edge n (Customer (Select vrf pattern)) at fits (nodes.Edge edge) ifaces vrfs keeps = (
  vrfs vrf fits.0.edge,
  pattern_group pattern.source pattern.group fits.1.1 fits.1.2,
  λ unspent. ap (λ (control : Control). maps.get control.selections (record { vrf = vrf; pattern = pattern })) (sym keeps) ∙ fits.2,
)
fits_edge n (Customer (Unselect vrf pattern)) at fits (nodes.Edge edge) ifaces vrfs keeps =
    (vrfs vrf fits.0.edge, pattern_group pattern.source pattern.group fits.1.1 fits.1.2)
fits_edge n (Customer other) at fits (nodes.Edge edge) ifaces vrfs keeps = (ifaces _ fits.0.edge, flow_group _ _ fits.1)
fits_edge n (Customer (Select vrf pattern)) at fits (nodes.CoreNode core) ifaces vrfs keeps = vrfs vrf fits.0.edge
fits_edge n (Customer (Unselect vrf pattern)) at fits (nodes.CoreNode core) ifaces vrfs keeps = vrfs vrf fits.0.edge
fits_edge n (Customer other) at fits (nodes.CoreNode core) ifaces vrfs keeps = ifaces _ fits.0.edge
fits_edge n other at fits node ifaces vrfs keeps = absurd fits

pub fits_node : (plane : PlaneView) (n : NodeId) (call : Call) (old : NetworkNode) → slice_get plane.nodes n.0 ≡ Some old
    → IsSome (FitsAt n call) plane → FitsIn old call
fits_node plane n call old place (at, fits, is) =
    let node = fits_current n call at fits in
    fits_edge n call at fits old (iface_here plane n old place at is node) (vrf_here plane n old place at is node)
    (kept_here plane n old place at is node)

-- the node is spent by such a fault
spending_only : (fault : EdgeFault) → Among fault (faults.NoLabel ∷ faults.NoMemory ∷ [])
    → Among fault (faults.NoLabel ∷ faults.NoMemory ∷ faults.Full ∷ [])
spending_only fault (inl e) = inl e
spending_only fault (inr (inl e)) = inr (inl e)
spending_only fault (inr (inr none)) = absurd none

-- what it is refused for is want of room
pub only_full : (n : NodeId) (call : Call) (at : Standing) → FitsAt n call at → (answer : Result (Unit {0}) EdgeFault)
    → IsOneOf (refusals_of call) answer → IsOneOf (faults.Full ∷ []) answer
only_full n (Customer (Pim iface message)) at fits answer only = only
only_full n (Customer (Active iface source group)) at fits answer only = only
only_full n (Customer (Select vrf pattern)) at fits answer only = only
only_full n (Customer other) at fits answer only = λ fault e. spending_only fault (only fault e)
only_full n other at fits answer only = absurd fits

-- ---- the act of a call

module _ (plane : PlaneView) (n : NodeId) (call : Call) (old node : NetworkNode)
    (place : slice_get plane.nodes n.0 ≡ Some old) (answer : Result (Unit {0}) EdgeFault)
    (answers : AnswersCall plane.core plane.clock call old node answer) (some : IsSome (FitsAt n call) plane) where
  abbrev middle : PlaneView
  middle = worked n plane node plane.transit

  pub call_midway : OnOk answer (IsSomeMidway n middle)
  call_midway =
      own_some plane n call (fits_calm n call some.0 some.1) (fits_sound n call some.0 some.1) old node place answer answers.answers
      (some_where (IsCurrent n) (FitsAt n call) (fits_current n call) plane some)

  acts : (new : PlaneView) (lines new_lines : List ReportLine) (result : Result (Unit {0}) NodeFault)
      → Settles n answer middle new lines new_lines result
      → Acts (FitsAt n call) same_moment (octets.Call (Own n call) ∷ []) no_lines plane new lines new_lines result
  acts new lines new_lines result settles =
      acts_where (IsCurrent n) (FitsAt n call) (fits_current n call) (octets.Call (Own n call) ∷ []) plane new lines new_lines result
      (own_acts plane n call (fits_calm n call some.0 some.1) (fits_sound n call some.0 some.1) old node place answer answers.answers
      new lines new_lines result settles)

  abbrev full_here : Bool
  full_here = is_full (control_of (data_in old)) plane.clock call

  same_full : (at : Standing) → FitsAt n call at → IsIn at plane → is_full_at n call at ≡ full_here
  same_full at fits is =
      λ i. is_full (kept_here plane n old place at is (fits_current n call at fits) i) (is.around.clock i) call

  has_room : (told : Result (Unit {0}) EdgeFault) → answer ≡ told → (OnTaken told (full_here ≡ false) → full_here ≡ false)
      → (at : Standing) → FitsAt n call at → IsIn at plane → is_full_at n call at ≡ false
  has_room told e taken at fits is =
      same_full at fits is ∙ taken (subst (λ (r : Result (Unit {0}) EdgeFault). OnTaken r (full_here ≡ false)) e
      (answers.fits (unspent_here plane n old place at is (fits_current n call at fits))))

  pub customer_acts : (new : PlaneView) (lines new_lines : List ReportLine) (result : Result Verdict NodeFault)
      → SettlesCustomer n answer middle new lines new_lines result
      → CustomerActs n call plane new lines new_lines result
  customer_acts new lines new_lines result settles = record {
    made = λ e at fits is. (
      has_room (Ok tt) (settles.made e).answered (λ r. r) at fits is,
      (acts new lines new_lines (Ok tt) (settles.made e)).made at fits is,
    );
    full = λ e.
        let all = settles.full e in
        let stays = answers.full all.0 in (
          (λ at fits is. same_full at fits is ∙ stays.0),
          all.1 ∙ ap (λ (l : List NetworkNode). record plane { nodes = l })
              (ap (slice_set plane.nodes n.0) stays.1 ∙ set_own plane.nodes n.0 old place),
          all.2,
        );
    lacks = λ e at fits is.
        let all = settles.lacks e in
        let lacking = (acts new lines new_lines (Err halts.NoLabel) (record { answered = tt; made = tt; lacks = λ f. all })).lacks refl at fits is in
        (has_room (Err faults.NoLabel) all.0 (λ r. r) at fits is, lacking.0, lacking.1);
  }
