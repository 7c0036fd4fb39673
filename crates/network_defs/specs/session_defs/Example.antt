-- A label withdraw whose octets come in two pieces.
use Rattle.std.specs.Prelude.{◌≡◌, List, [], ◌∷◌, ◌++◌, Option, Some, ⊤}
use Rattle.mv_base.specs.Number.{◌>>?◌}
use Rattle.mv_base.specs.declared.addr.Addr.{Addr}
use Rattle.mv_base.specs.declared.addr.Addr.TheVariants.{V4}
use Rattle.mv_base.specs.framing.Feed.{unfed}
use Rattle.label_defs.specs.mldp.declared.mldp_fec.fec.Fec.{Fec}
use Rattle.label_defs.specs.mldp.declared.mldp_fec.fec.FecKind.TheVariants.{P2mp}
use Rattle.label_defs.specs.mldp.declared.mldp_msgs.message.LabelMessage.{LabelMessage}
use Rattle.label_defs.specs.mldp.declared.mldp_msgs.message.LabelMessage.TheVariants.{Withdraw}
use Rattle.label_defs.specs.mldp.mldp_msgs.Spelling.{written}
use Rattle.scenario_defs.specs.declared.event.Kind.TheVariants.{Ldp}
use Rattle.network_defs.specs.declared.session_defs.direction.Direction.{Direction}
use Rattle.network_defs.specs.session_defs.Message.{SessionMessage, same_direction}
use Rattle.network_defs.specs.session_defs.Message.SessionMessage.{Label}
use Rattle.network_defs.specs.session_defs.System.{Put, System}
use Rattle.network_defs.specs.session_defs.Octets.{OctetNetwork, OctetAct, octet_run}
use Rattle.network_defs.specs.session_defs.Octets.OctetAct.{Move, Call}
use Rattle.network_defs.specs.session_defs.Refined.{AreLines, IsHonest}

-- from a leaf to the node upstream of it
abbrev pub upstream : Direction
upstream = record { kind = Ldp; from = record { 0 = 1 }; to = record { 0 = 0 } }

-- the tree of 192.0.2.1 with the Generic LSP Identifier 7
abbrev pub tree : Fec
tree = record { kind = P2mp; root = V4 (192 ∷ 0 ∷ 2 ∷ 1 ∷ []); opaque = 1 ∷ 0 ∷ 4 ∷ 0 ∷ 0 ∷ 0 ∷ 7 ∷ [] }

abbrev pub withdraw : LabelMessage
withdraw = Withdraw tree 16

-- the router id of the leaf
abbrev pub router : Addr
router = V4 (192 ∷ 0 ∷ 2 ∷ 2 ∷ [])

-- the withdraw, of message id 1
abbrev pub put : Put
put = record { over = upstream; unit = record { messages = Label withdraw ∷ []; octets = written router 1 withdraw } }

-- nodes that keep each message that comes, and put the withdraw when they are called
abbrev pub keeping : System (List SessionMessage) ⊤
keeping = record {
  taken = λ direction message kept. Some (record { state = kept ++ message ∷ []; puts = [] });
  called = λ call kept. Some (record { state = kept; puts = put ∷ [] });
}

-- the one direction is joined, and nothing has happened
abbrev pub start : OctetNetwork (List SessionMessage)
start = record {
  state = [];
  joined = λ direction. same_direction direction upstream;
  transit = λ direction. [];
  stream = λ direction. unfed;
}

-- the messages that have come after these acts
abbrev pub kept : List (OctetAct ⊤) → Option (List SessionMessage)
kept acts = octet_run keeping start acts >>? λ new. Some new.network.state

-- What the laws ask is met. The withdraw has 47 octets: nothing comes with the first 20, and just the withdraw with the others.
pub record CutInTwo : Type 0 where
  pub honest : IsHonest keeping
  pub lines : AreLines start (λ direction. [])
  pub first : kept (Call tt ∷ Move upstream 20 ∷ []) ≡ Some []
  pub both : kept (Call tt ∷ Move upstream 20 ∷ Move upstream 27 ∷ []) ≡ Some (Label withdraw ∷ [])
