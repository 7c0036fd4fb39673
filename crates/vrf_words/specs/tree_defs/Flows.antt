-- What one VRF keeps of its customers and of the routes that it knows, and its flows (RFC 7761 section 4.1.6; RFC 6513 section 5.1).
use Rattle.std.specs.Prelude.{ℕ, ◌==◌, ◌||◌, not, Bool, true, false, List, [], map, Option, None, Some, if◌then◌else◌}
use Rattle.std.specs.List.{filter, list_any}
use Rattle.std.specs.FinMap.{FinMap}
use Rattle.std.specs.FinSet as sets
use Rattle.std.specs.FinSet.{FinSet}
use Rattle.mv_base.specs.declared.ids.IfaceId.{IfaceId}
use Rattle.mv_base.specs.declared.ids.NodeId.{NodeId}
use Rattle.edge_words.specs.edge_defs.choice_defs.Choice.{best_route, cost_by}
use Rattle.umh_select.specs.declared.route.Choice.{Choice}
use Rattle.umh_select.specs.declared.route.Choice.TheVariants as choices
use Rattle.umh_select.specs.Routes.{Routes, known, chosen}
use Rattle.edge_words.specs.edge_defs.pim_defs.Entries.{Entries, asks}
use Rattle.vrf_words.specs.declared.tree_defs.flow.Flow.{Flow}
use Rattle.vrf_words.specs.declared.tree_defs.flow.Note.{Note}
use Rattle.vrf_words.specs.declared.tree_defs.flow.ActiveRoute.{ActiveRoute}
use Rattle.vrf_words.specs.declared.tree_defs.flow.SiteIface.{SiteIface}
use Rattle.vrf_words.specs.declared.tree_defs.flow.Origin.{Origin}
use Rattle.vrf_words.specs.declared.tree_defs.flow.Origin.TheVariants as origins
use Rattle.vrf_words.specs.declared.tree_defs.flow.Upstream.{Upstream}
use Rattle.vrf_words.specs.contracts.tree_defs.flow.UpstreamPartialEq.TheImpl as upstreams_equal
use Rattle.vrf_words.specs.tree_defs.Keys.{same_flow, flow_cmp, note_cmp, active_cmp}

-- What one VRF keeps: its interfaces with their sites; the joined and pruned entries of these, with their expiry; the notes; the Source
-- Active routes that it took; the unicast routes that it knows; and its flows as the last refresh left them, each with its choice.
pub record VrfData : Type 0 where
  pub ifaces : List SiteIface
  pub entries : Entries
  pub notes : FinSet note_cmp
  pub actives : FinSet active_cmp
  pub routes : Routes
  pub flows : FinMap flow_cmp Choice

-- ---- sources that are known to send

-- whether some interface has a note of the flow
abbrev pub is_noted : FinSet note_cmp → Flow → Bool
is_noted notes flow = list_any (λ (note : Note). same_flow note.flow flow) (sets.items notes)

-- whether some Source Active route is of the flow
abbrev pub is_announced : FinSet active_cmp → Flow → Bool
is_announced actives flow = list_any (λ (route : ActiveRoute). same_flow route.flow flow) (sets.items actives)

-- whether the source is known to send to the group
abbrev pub is_active : VrfData → Flow → Bool
is_active vrf flow = is_noted vrf.notes flow || is_announced vrf.actives flow

-- ---- flows

-- whether the interface asks for the flow at the clock
abbrev pub is_asking : VrfData → ℕ → Flow → SiteIface → Bool
is_asking vrf now flow own = asks vrf.entries own.iface flow.source flow.group (is_active vrf flow) now

-- the interfaces that ask for it, in their order
abbrev pub asking : VrfData → ℕ → Flow → List SiteIface
asking vrf now flow = filter (is_asking vrf now flow) vrf.ifaces

-- the upstream that the VRF chooses for the flow, by what it costs to reach each edge
abbrev pub chosen_for : Routes → (NodeId → ℕ) → Flow → Choice
chosen_for routes cost flow =
    chosen routes.learned (best_route (cost_by routes.rule cost (known routes) flow.source flow.group) (known routes) flow.source)

-- The flow, with its choice, where some interface asks for it.
abbrev pub flow_of : VrfData → (NodeId → ℕ) → ℕ → Flow → Option Choice
flow_of vrf cost now flow =
    if list_any (is_asking vrf now flow) vrf.ifaces then Some (chosen_for vrf.routes cost flow) else None

-- ---- joins towards other edges

-- the edge that is joined for a flow, where its choice is another edge
abbrev pub upstream_of : Option Choice → Option Upstream
upstream_of None = None
upstream_of (Some choices.None) = None
upstream_of (Some (choices.Local site)) = None
upstream_of (Some (choices.Remote edge rd import source_as)) =
    Some (record { edge = edge; rd = rd; import = import; source_as = source_as })

-- whether both are one upstream, as `==` tells it
abbrev pub same_upstream : Option Upstream → Option Upstream → Bool
same_upstream None None = true
same_upstream (Some own) (Some other) = upstreams_equal.ghosts.eq own other
same_upstream own other = false

-- the upstream that is joined where the first one is left for the second
abbrev pub gained : Option Upstream → Option Upstream → Option Upstream
gained before after = if same_upstream before after then None else after

-- the upstream that is left then
abbrev pub lost : Option Upstream → Option Upstream → Option Upstream
lost before after = gained after before

-- ---- datagrams

-- whether the choice is that site, or is remote with that edge
abbrev pub is_from : Origin → Choice → Bool
is_from (origins.Site site) (choices.Local own) = own.0 == site.0
is_from (origins.Edge edge) (choices.Remote own rd import source_as) = own.0 == edge.0
is_from other choice = false

-- whether the interface is of no site that the datagram comes from
abbrev pub is_outside : Origin → SiteIface → Bool
is_outside (origins.Site site) own = not (own.site.0 == site.0)
is_outside (origins.Edge edge) own = true

-- Where a datagram of the flow leaves that comes from there: at each interface that asks for it, outside the site that it comes from.
-- It leaves nowhere where the VRF does not choose that origin.
abbrev pub outgoing : VrfData → (NodeId → ℕ) → ℕ → Flow → Origin → List IfaceId
outgoing vrf cost now flow from =
    if is_from from (chosen_for vrf.routes cost flow)
    then map (λ (own : SiteIface). own.iface) (filter (is_outside from) (asking vrf now flow))
    else []
