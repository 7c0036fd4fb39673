-- A label node as its callers see it: its label part, the raises of its sessions, the octets that wait for its neighbours, and
-- whether it is spent.
use Rattle.std.specs.Prelude.{ℕ, ◌+◌, ◌==◌, ◌&&◌, Bool, true, false, List, [], ◌∷◌, ◌++◌, slice_get, position, option_map}
use Rattle.std.specs.Prelude.{Option, None, Some, if◌then◌else◌}
use Rattle.std.specs.FinMap as maps
use Rattle.std.specs.FinMap.{FinMap}
use Rattle.std.specs.List.{list_any}
use Rattle.mldp.specs.mv_base.Address.{same_addr}
use Rattle.mldp.specs.mv_base.Number.{◌>>?◌}
use Rattle.mldp.specs.mv_base.declared.addr.Addr.{Addr}
use Rattle.mldp.specs.mv_base.declared.addr.Addr.TheVariants.{V4}
use Rattle.mldp.specs.mv_base.declared.ids.NodeId.{NodeId}
use Rattle.mldp.specs.mv_base.core_walks.Core.{Core}
use Rattle.mldp.specs.declared.mldp_fec.fec.FecKind.{FecKind}
use Rattle.mldp.specs.declared.mldp_fec.fec.FecKind.TheVariants.{P2mp}
use Rattle.mldp.specs.mldp_msgs.Spelling as pdus
use Rattle.label_defs.specs.Keys.{node_cmp}
use Rattle.label_defs.specs.LabelData.{Place, LabelData, fresh}
use Rattle.label_defs.specs.Settling.{Stepped}
use Rattle.label_defs.specs.Steps.{Call, Raised, Noticed, Numbered, label_step, step_puts}

-- ---- what is seen

-- Why a node makes no more steps: it lacked a label, or memory.
pub data Spent : Type 0 where
  LacksLabel : Spent
  LacksMemory : Spent

-- The label part; how often the end of each session came up; the octets that wait for each neighbour; whether the node is spent.
pub record LabelNode : Type 0 where
  pub part : LabelData
  pub raises : FinMap node_cmp ℕ
  pub waiting : FinMap node_cmp (List ℕ)
  pub spent : Option Spent

-- a node of so many labels in which nothing has happened
abbrev pub fresh_node : ℕ → LabelNode
fresh_node count = record { part = fresh count; raises = maps.empty; waiting = maps.empty; spent = None }

-- how often the end of the session with the neighbour came up
abbrev pub raises_of : FinMap node_cmp ℕ → NodeId → ℕ
raises_of raises peer = elim (maps.get raises peer) [ None ↦ 0 | Some count ↦ count ]

-- the octets that wait for the neighbour
abbrev pub waiting_for : FinMap node_cmp (List ℕ) → NodeId → List ℕ
waiting_for waiting peer = elim (maps.get waiting peer) [ None ↦ [] | Some octets ↦ octets ]

-- ---- where a node stands

-- Which of the nodes it is, the addresses of all nodes by number, and how long a copy may be on a link.
pub record NodePlace : Type 0 where
  pub me : NodeId
  pub addrs : List Addr
  pub life : ℕ

abbrev pub is_p2mp : FecKind → Bool
is_p2mp P2mp = true
is_p2mp other = false

-- the node of an address
abbrev pub node_at : List Addr → Addr → Option NodeId
node_at addrs addr = option_map (λ number. record { 0 = number }) (position (λ own. same_addr own addr) addrs)

-- the node's own address
abbrev pub addr_in : NodePlace → Addr
addr_in place = elim (slice_get place.addrs place.me.0) [ None ↦ V4 [] | Some addr ↦ addr ]

-- Its place for label steps, by the core that it knows. A tree is a P2MP LSP whose root is the address of a node.
abbrev pub place_in : NodePlace → Core → Place
place_in place core = record {
  life = place.life;
  is_tree = λ fec. is_p2mp fec.kind && list_any (λ own. same_addr own fec.root) place.addrs;
  upstream = λ fec. node_at place.addrs fec.root >>? λ root. core.toward place.me root;
}

-- ---- octets

-- each message waits after what waits for its neighbour, in a PDU of its own
abbrev pub with_pdus : Addr → List Numbered → FinMap node_cmp (List ℕ) → FinMap node_cmp (List ℕ)
with_pdus addr [] waiting = waiting
with_pdus addr (numbered ∷ more) waiting =
    let octets = pdus.written addr numbered.id numbered.put.message in
    with_pdus addr more (maps.insert waiting numbered.put.to (waiting_for waiting numbered.put.to ++ octets))

-- ---- calls

-- one raise more; the greatest count stays
abbrev pub one_more : ℕ → ℕ
one_more count = if count == 18446744073709551615 then count else count + 1

-- A raise is counted. An end that notices the loss of its session drops what waits for it.
abbrev pub prepared : Call → LabelNode → LabelNode
prepared (Raised peer) old = record old { raises = maps.insert old.raises peer (one_more (raises_of old.raises peer)) }
prepared (Noticed peer) old = record old { waiting = maps.remove old.waiting peer }
prepared other old = old

-- the node after a label step; one that lacks a label is spent
abbrev pub thereafter : Addr → Place → ℕ → LabelNode → Call → Option Stepped → LabelNode
thereafter addr place now old call None = record old { spent = Some LacksLabel }
thereafter addr place now old call (Some new) =
    record old { part = new.part; waiting = with_pdus addr (step_puts place now old.part call new.puts) old.waiting }

-- a label step, unless the node is spent
abbrev pub called_unless : Option Spent → Addr → Place → ℕ → LabelNode → Call → LabelNode
called_unless None addr place now old call = thereafter addr place now (prepared call old) call (label_step place now old.part call)
called_unless (Some spent) addr place now old call = old

-- the node after a call
abbrev pub called : NodePlace → Core → ℕ → LabelNode → Call → LabelNode
called place core now old call = called_unless old.spent (addr_in place) (place_in place core) now old call

-- All that waits for the neighbour is handed out, and nothing is left of it. A node that is spent hands out nothing.
abbrev pub handed_unless : Option Spent → NodeId → LabelNode → List ℕ
handed_unless None peer old = waiting_for old.waiting peer
handed_unless (Some spent) peer old = []

abbrev pub handed : NodeId → LabelNode → List ℕ
handed peer old = handed_unless old.spent peer old

abbrev pub handed_out : NodeId → LabelNode → LabelNode
handed_out peer old = record old { waiting = maps.remove old.waiting peer }
