-- An edge as plain data.
use Rattle.std.specs.Prelude.{ℕ, Bool, [], ◌∷◌, Option}
use Rattle.std.specs.declared.cmp.Ordering.{Ordering}
use Rattle.std.specs.FinMap as maps
use Rattle.std.specs.FinMap.{FinMap}
use Rattle.std.specs.FinSet as sets
use Rattle.std.specs.FinSet.{FinSet}
use Rattle.mv_base.specs.declared.addr.Addr.{Addr}
use Rattle.mv_base.specs.declared.ids.IfaceId.{IfaceId}
use Rattle.mv_base.specs.declared.ids.NodeId.{NodeId}
use Rattle.mv_base.specs.declared.ids.SiteId.{SiteId}
use Rattle.mv_base.specs.declared.ids.VrfId.{VrfId}
use Rattle.mv_base.specs.declared.pattern.Pattern.{Pattern}
use Rattle.mv_base.specs.declared.rd.Rd.{Rd}
use Rattle.pim_defs.specs.Entries.{Entries}
use Rattle.label_defs.specs.Keys.{node_cmp}
use Rattle.label_defs.specs.LabelData as labels
use Rattle.label_defs.specs.LabelData.{LabelData}
use Rattle.edge_defs.specs.Keys.{Value, key_cmp, addr_key, word_part, parts_cmp}

-- ---- what is kept by what

-- An interface where the source is noted to send to the group.
pub record Note : Type 0 where
  pub iface : IfaceId
  pub source : Addr
  pub group : Addr

abbrev pub note_cmp : Note → Note → Ordering
note_cmp a b =
    parts_cmp ((a.iface.0 ∷ []) ∷ addr_key a.source ∷ addr_key a.group ∷ [])
    ((b.iface.0 ∷ []) ∷ addr_key b.source ∷ addr_key b.group ∷ [])

-- A pattern that is selected in a VRF.
pub record VrfPattern : Type 0 where
  pub vrf : VrfId
  pub pattern : Pattern

abbrev pub pattern_cmp : VrfPattern → VrfPattern → Ordering
pattern_cmp a b =
    parts_cmp ((a.vrf.0 ∷ []) ∷ word_part a.pattern.source ∷ word_part a.pattern.group ∷ [])
    ((b.vrf.0 ∷ []) ∷ word_part b.pattern.source ∷ word_part b.pattern.group ∷ [])

-- A flow of a VRF.
pub record VrfFlow : Type 0 where
  pub vrf : VrfId
  pub source : Addr
  pub group : Addr

abbrev pub flow_cmp : VrfFlow → VrfFlow → Ordering
flow_cmp a b =
    parts_cmp ((a.vrf.0 ∷ []) ∷ addr_key a.source ∷ addr_key a.group ∷ [])
    ((b.vrf.0 ∷ []) ∷ addr_key b.source ∷ addr_key b.group ∷ [])

-- ---- what is kept

-- A selection: what its tunnel's number adds to that of the VRF, when it was made, and whether its delay was run.
pub record Selected : Type 0 where
  pub number : ℕ
  pub since : ℕ
  pub run : Bool

-- The VRF at an edge that a VRF Route Import names (RFC 6514 section 7).
pub record Import : Type 0 where
  pub addr : Addr
  pub number : ℕ

-- The upstream of a flow: a site of the VRF itself, or another edge by one of its unicast routes, with what that route says for a
-- Source Tree Join (RFC 6514 section 11.1.3).
pub data Upstream : Type 0 where
  Site : (site : SiteId) → Upstream
  Remote : (edge : NodeId) → (rd : Rd) → (import : Import) → (source_as : ℕ) → Upstream

-- A route that was taken from a peer: its value, when it was learned, and whether its delay was run.
pub record TakenRoute : Type 0 where
  pub value : Value
  pub since : ℕ
  pub run : Bool

abbrev pub Taken : Type 0
Taken = FinMap key_cmp TakenRoute

-- What an edge keeps of its customers and of BGP: the joined and pruned entries, with their expiry; the notes; the selections; the
-- flows for which some interface asked at the last step, each with its upstream then; and the peers whose session is up here, each
-- with the table that was taken from it.
pub record Control : Type 0 where
  pub entries : Entries
  pub notes : FinSet note_cmp
  pub selections : FinMap pattern_cmp Selected
  pub flows : FinMap flow_cmp (Option Upstream)
  pub peers : FinMap node_cmp Taken

-- An edge: this, its label part, and when the end of each BGP session that is up here came up. That of an LDP session is in the label
-- part.
pub record EdgeData : Type 0 where
  pub control : Control
  pub part : LabelData
  pub raised : FinMap node_cmp ℕ

-- nothing has happened yet
abbrev pub no_control : Control
no_control = record { entries = maps.empty; notes = sets.empty; selections = maps.empty; flows = maps.empty; peers = maps.empty }

abbrev pub fresh : ℕ → EdgeData
fresh count = record { control = no_control; part = labels.fresh count; raised = maps.empty }
