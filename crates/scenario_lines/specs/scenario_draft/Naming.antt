-- The words that declare or name a thing: what each says, given what the lines before it declared, or the fault at it.
use Rattle.std.specs.Prelude.{ℕ, ◌==◌, ◌||◌, ◌&&◌, Bool, false, nat_eq, List, slice_get, Option, None, Some, Result, Ok, if◌then◌else◌}
use Rattle.std.specs.List.{list_any}
use Rattle.std.specs.Map.{lookup}
use Rattle.std.specs.Cmp.Lexicographic.{pointwise}
use Rattle.mv_base.specs.declared.ids.NodeId.{NodeId}
use Rattle.mv_base.specs.declared.ids.VrfId.{VrfId}
use Rattle.mv_base.specs.declared.ids.SiteId.{SiteId}
use Rattle.mv_base.specs.declared.ids.IfaceId.{IfaceId}
use Rattle.mv_base.specs.declared.addr.Addr.{Addr}
use Rattle.mv_base.specs.declared.core_link.Link.{Link}
use Rattle.mv_base.specs.declared.rd.Rd.{Rd}
use Rattle.mv_base.specs.Address.{same_addr}
use Rattle.mv_base.specs.Number.{only_if, ◌>>?◌}
use Rattle.scenario_defs.specs.declared.scenario.Node.{Node}
use Rattle.scenario_defs.specs.declared.scenario.Vrf.{Vrf}
use Rattle.scenario_defs.specs.declared.scenario.Thing.{Thing}
use Rattle.scenario_defs.specs.declared.scenario.Thing.TheVariants as things
use Rattle.scenario_defs.specs.Names.{is_name}
use Rattle.line_words.specs.declared.fault.Reason.TheVariants as reasons
use Rattle.line_words.specs.declared.fault.TextFault.{TextFault}
use Rattle.line_words.specs.declared.words.Row.{Row}
use Rattle.line_words.specs.Words.{Placed}
use Rattle.line_words.specs.Forms.{◌>>=◌, fault, or_fault, ipv4_at, is_unicast, same_family, vrf_number_of, rd_of}
use Rattle.scenario_lines.specs.scenario_draft.Drafted.{Drafted}

-- the number of a thing, where it is a node
abbrev pub node_of : Thing → Option NodeId
node_of (things.Node id) = Some id
node_of other = None

-- the number of a thing, where it is a VRF
abbrev pub vrf_of : Thing → Option VrfId
vrf_of (things.Vrf id) = Some id
vrf_of other = None

-- the number of a thing, where it is a site
abbrev pub site_of : Thing → Option SiteId
site_of (things.Site id) = Some id
site_of other = None

-- the number of a thing, where it is an interface
abbrev pub iface_of : Thing → Option IfaceId
iface_of (things.Iface id) = Some id
iface_of other = None

-- the thing that a text names: a text that is no name names none
abbrev pub named : Drafted → List ℕ → Option Thing
named draft text = if is_name text then lookup (pointwise nat_eq text) draft.names else None

-- the node that a text names
unfoldable pub node_named : Drafted → List ℕ → Option NodeId
node_named draft text = named draft text >>? λ thing. node_of thing >>? λ id. slice_get draft.scenario.nodes id.0 >>? λ found. Some id

-- the edge that a text names
unfoldable pub edge_named : Drafted → List ℕ → Option NodeId
edge_named draft text =
    named draft text >>? λ thing. node_of thing >>? λ id. slice_get draft.scenario.nodes id.0 >>? λ node. only_if node.edge id

-- the VRF that a text names
unfoldable pub vrf_named : Drafted → List ℕ → Option VrfId
vrf_named draft text = named draft text >>? λ thing. vrf_of thing >>? λ id. slice_get draft.scenario.vrfs id.0 >>? λ found. Some id

-- the site that a text names
unfoldable pub site_named : Drafted → List ℕ → Option SiteId
site_named draft text = named draft text >>? λ thing. site_of thing >>? λ id. slice_get draft.scenario.sites id.0 >>? λ found. Some id

-- the interface that a text names
unfoldable pub iface_named : Drafted → List ℕ → Option IfaceId
iface_named draft text = named draft text >>? λ thing. iface_of thing >>? λ id. slice_get draft.scenario.ifaces id.0 >>? λ found. Some id

-- a word that declares a name: the fault is `Name` where it does not have the form of one, `Again` where a thing has it
unfoldable pub new_name : Drafted → Row → Placed → Result (List ℕ) TextFault
new_name draft row word =
    if is_name word.text then
    elim (named draft word.text) [ None ↦ Ok word.text | Some thing ↦ fault row.number word.column reasons.Again ]
    else
    fault row.number word.column reasons.Name

-- a word that names a node
unfoldable pub node_at : Drafted → Row → Placed → Result NodeId TextFault
node_at draft row word = or_fault (node_named draft word.text) row word reasons.Unknown

-- a word that names an edge
unfoldable pub edge_at : Drafted → Row → Placed → Result NodeId TextFault
edge_at draft row word = or_fault (edge_named draft word.text) row word reasons.Unknown

-- a word that names a VRF
unfoldable pub vrf_at : Drafted → Row → Placed → Result VrfId TextFault
vrf_at draft row word = or_fault (vrf_named draft word.text) row word reasons.Unknown

-- a word that names a site
unfoldable pub site_at : Drafted → Row → Placed → Result SiteId TextFault
site_at draft row word = or_fault (site_named draft word.text) row word reasons.Unknown

-- a word that names an interface
unfoldable pub iface_at : Drafted → Row → Placed → Result IfaceId TextFault
iface_at draft row word = or_fault (iface_named draft word.text) row word reasons.Unknown

-- whether the group is of the family of the interface's address
abbrev pub is_of_iface : Drafted → IfaceId → Addr → Bool
is_of_iface draft iface group = elim (slice_get draft.scenario.ifaces iface.0) [ None ↦ false | Some own ↦ same_family own.addr group ]

-- whether a node has the address
abbrev pub is_at : Addr → Node → Bool
is_at addr node = same_addr node.addr addr

-- a word that writes the address of a new node, of IPv4: the fault is `Address` where it writes none, or one that is not
-- unicast, and `Again` where a node has it
unfoldable pub node_addr_at : Drafted → Row → Placed → Result Addr TextFault
node_addr_at draft row word =
    ipv4_at row word >>= λ addr.
    if is_unicast addr then
    (if list_any (is_at addr) draft.scenario.nodes then fault row.number word.column reasons.Again else Ok addr)
    else
    fault row.number word.column reasons.Address

-- whether a VRF is of the edge and has the number
abbrev pub has_number : NodeId → ℕ → Vrf → Bool
has_number edge number vrf = vrf.edge.0 == edge.0 && vrf.number == number

-- a word that writes the number of a VRF that is new at the edge: the fault is `Number` where it writes none of 1 to 4,095,
-- `Again` where a VRF of the edge has it
unfoldable pub vrf_number_at : Drafted → Row → NodeId → Placed → Result ℕ TextFault
vrf_number_at draft row edge word =
    or_fault (vrf_number_of word.text) row word reasons.Number >>= λ number.
    if list_any (has_number edge number) draft.scenario.vrfs then fault row.number word.column reasons.Again else Ok number

-- whether a VRF is of the edge and has the route distinguisher
abbrev pub has_rd : NodeId → Rd → Vrf → Bool
has_rd edge rd vrf = vrf.edge.0 == edge.0 && pointwise nat_eq vrf.rd.0 rd.0

-- a word that writes a route distinguisher that is new at the edge: the fault is `Rd` where it writes none, `Again` where
-- a VRF of the edge has it
unfoldable pub rd_at : Drafted → Row → NodeId → Placed → Result Rd TextFault
rd_at draft row edge word =
    or_fault (rd_of word.text) row word reasons.Rd >>= λ rd.
    if list_any (has_rd edge rd) draft.scenario.vrfs then fault row.number word.column reasons.Again else Ok rd

-- whether the link joins both nodes, in either order
abbrev pub joins : NodeId → NodeId → Link → Bool
joins a b link = (link.a.0 == a.0 && link.b.0 == b.0) || (link.a.0 == b.0 && link.b.0 == a.0)

-- a word that names the other end of a link that is new: the fault is `Unknown` where it names no node, `Again` where a
-- link joins both
unfoldable pub other_end_at : Drafted → Row → NodeId → Placed → Result NodeId TextFault
other_end_at draft row a word =
    node_at draft row word >>= λ b. if list_any (joins a b) draft.scenario.links then fault row.number word.column reasons.Again else Ok b
