-- The place of an edge: the scenario, the core, and which of the nodes it is.
use Rattle.std.specs.Prelude.{ℕ, ◌+◌, ◌*◌, ◌==◌, ◌&&◌, Bool, true, false, nat_eq, List, [], ◌∷◌, length, take, All}
use Rattle.std.specs.Prelude.{slice_get, position, option_map, Option, None, Some, if◌then◌else◌}
use Rattle.std.specs.Int.{w32, to_be_bytes}
use Rattle.std.specs.List.{list_any}
use Rattle.std.specs.Cmp.Lexicographic.{pointwise}
use Rattle.mv_base.specs.Address.{addr_octets, same_addr}
use Rattle.mv_base.specs.Number.{◌>>?◌}
use Rattle.mv_base.specs.Octets.{IsOctets}
use Rattle.mv_base.specs.declared.addr.Addr.{Addr}
use Rattle.mv_base.specs.declared.addr.Addr.TheVariants.{V4}
use Rattle.mv_base.specs.declared.ids.NodeId.{NodeId}
use Rattle.mv_base.specs.declared.ids.VrfId.{VrfId}
use Rattle.mv_base.specs.core_walks.Core.{Core}
use Rattle.label_defs.specs.mldp.declared.mldp_fec.fec.Fec.{Fec}
use Rattle.label_defs.specs.mldp.declared.mldp_fec.fec.FecKind.TheVariants.{P2mp}
use Rattle.choice_defs.specs.scenario_defs.declared.scenario.Vrf.{Vrf}
use Rattle.choice_defs.specs.scenario_defs.declared.scenario.Scenario.{Scenario}
use Rattle.label_defs.specs.LabelData as labels
use Rattle.label_defs.specs.Node.{is_p2mp}

-- An edge of a scenario, and the core that it knows: that of the links at the costs that it has acted on.
pub record EdgePlace : Type 0 where
  pub scenario : Scenario
  pub core : Core
  pub me : NodeId

-- ---- nodes and VRFs

-- the address of a node
abbrev pub addr_of : Scenario → NodeId → Addr
addr_of scenario node = elim (slice_get scenario.nodes node.0) [ None ↦ V4 [] | Some found ↦ found.addr ]

-- the node of an address
abbrev pub node_with : Scenario → Addr → Option NodeId
node_with scenario addr = option_map (λ number. record { 0 = number }) (position (λ node. same_addr node.addr addr) scenario.nodes)

-- a VRF with its number in the scenario
pub record OwnVrf : Type 0 where
  pub id : VrfId
  pub vrf : Vrf

-- of the VRFs, numbered from that one on, those of the edge
abbrev pub vrfs_from : NodeId → ℕ → List Vrf → List OwnVrf
vrfs_from me number [] = []
vrfs_from me number (vrf ∷ more) =
    if vrf.edge.0 == me.0
    then record { id = record { 0 = number }; vrf = vrf } ∷ vrfs_from me (number + 1) more
    else vrfs_from me (number + 1) more

-- the VRFs of the edge, in order
abbrev pub own_vrfs : EdgePlace → List OwnVrf
own_vrfs place = vrfs_from place.me 0 place.scenario.vrfs

abbrev pub own_addr : EdgePlace → Addr
own_addr place = addr_of place.scenario place.me

-- Each prefix of the scenario's sites is of octets, as it is in any program.
abbrev pub HasPrefixes : Scenario → Type 0
HasPrefixes scenario = All (λ site. All (λ prefix. IsOctets (addr_octets prefix.addr)) site.prefixes) scenario.sites

-- ---- tunnels

-- the opaque value that is one Generic LSP Identifier (RFC 6388 section 2.3.1)
abbrev pub lsp_opaque : ℕ → List ℕ
lsp_opaque number = 1 ∷ 0 ∷ 4 ∷ to_be_bytes w32 number

abbrev pub is_lsp_opaque : List ℕ → Bool
is_lsp_opaque opaque = pointwise nat_eq (take 3 opaque) (1 ∷ 0 ∷ 4 ∷ []) && (length opaque == 7)

-- the P2MP LSP of that root and number
abbrev pub lsp : Addr → ℕ → Fec
lsp root number = record { kind = P2mp; root = root; opaque = lsp_opaque number }

-- The number of a VRF's inclusive tunnel. A selective tunnel adds its own number, from 1 on and below 2^20 (this project's profile).
abbrev pub tunnel_number : Vrf → ℕ → ℕ
tunnel_number vrf number = vrf.number * 1048576 + number

-- whether the FEC is one of a tree: it is P2MP, and its root is the address of a node
abbrev pub is_tree : Scenario → Fec → Bool
is_tree scenario fec = is_p2mp fec.kind && list_any (λ node. same_addr node.addr fec.root) scenario.nodes

-- the neighbour of a node towards the root of a tree
abbrev pub upstream : Scenario → Core → NodeId → Fec → Option NodeId
upstream scenario core node fec = node_with scenario fec.root >>? λ root. core.toward node root

-- the place of a node for its label steps
abbrev pub label_place : Scenario → Core → NodeId → labels.Place
label_place scenario core node = record { life = scenario.life; is_tree = is_tree scenario; upstream = upstream scenario core node }
