-- The label steps of a node.
use Rattle.std.specs.Prelude.{ℕ, ◌+◌, ◌==◌, ◌||◌, ◌&&◌, false, not, nat_le, if◌then◌else◌}
use Rattle.std.specs.Prelude.{List, [], ◌∷◌, map, Option, None, Some, option_map}
use Rattle.std.specs.FinMap as maps
use Rattle.std.specs.FinMap.{FinMap}
use Rattle.std.specs.FinSet as sets
use Rattle.mldp.specs.mv_base.declared.ids.NodeId.{NodeId}
use Rattle.mldp.specs.declared.mldp_fec.fec.Fec.{Fec}
use Rattle.mldp.specs.declared.mldp_msgs.message.LabelMessage.{LabelMessage}
use Rattle.mldp.specs.declared.mldp_msgs.message.LabelMessage.TheVariants as messages
use Rattle.label_defs.specs.declared.branch.Branch.{Branch}
use Rattle.label_defs.specs.declared.end.End.{End}
use Rattle.label_defs.specs.declared.label_use.LabelUse.{LabelUse}
use Rattle.label_defs.specs.declared.label_use.LabelUse.TheVariants as uses
use Rattle.label_defs.specs.declared.put.Put.{Put}
use Rattle.label_defs.specs.Keys.{node_cmp}
use Rattle.label_defs.specs.LabelData.{Place, LabelData, same_fec, use_of, trees, is_hold_due}
use Rattle.label_defs.specs.Members.{in_order}
use Rattle.label_defs.specs.Settling.{with_use, Stepped, settle_all}

-- ---- what a taken message itself changes

-- the branch of a neighbour's label
abbrev pub branch_to : NodeId → Fec → ℕ → Branch
branch_to from fec label = record { fec = fec; node = from; label = label }

-- a label that the neighbour releases rests, where it was leaving towards that neighbour for that tree
abbrev pub released : NodeId → Fec → ℕ → LabelUse → LabelUse
released from fec until (uses.Leaving own upstream) =
    if same_fec own fec && upstream.0 == from.0 then uses.Resting until else uses.Leaving own upstream
released from fec until other = other

-- the node after a release
abbrev pub with_release : LabelData → NodeId → Fec → ℕ → ℕ → LabelData
with_release part from fec label until =
    elim (use_of part label) [ None ↦ part | Some usage ↦ with_use part label (released from fec until usage) ]

-- A mapping of a tree adds a branch, a withdraw drops one, and from a release on the label rests for more than the life of
-- a copy.
abbrev pub taken : Place → ℕ → LabelData → NodeId → LabelMessage → LabelData
taken place now part from (messages.Mapping fec label) =
    if place.is_tree fec then record part { branches = sets.insert part.branches (branch_to from fec label) } else part
taken place now part from (messages.Withdraw fec label) = record part { branches = sets.remove part.branches (branch_to from fec label) }
taken place now part from (messages.Release fec label) = with_release part from fec label (now + place.life + 1)
taken place now part from (messages.Ignored kind) = part

-- a withdraw is answered by a release, whatever it names (RFC 5036 section 3.5.10.1)
abbrev pub answers : NodeId → LabelMessage → List Put
answers from (messages.Withdraw fec label) = record { to = from; message = messages.Release fec label } ∷ []
answers from other = []

-- the trees whose branches a message may change
abbrev pub trees_of : LabelMessage → List Fec
trees_of (messages.Mapping fec label) = fec ∷ []
trees_of (messages.Withdraw fec label) = fec ∷ []
trees_of other = []

-- ---- losses and timers

-- a noticed loss frees the labels of that session at once
abbrev pub freed : NodeId → LabelUse → LabelUse
freed node (uses.Mapped fec upstream) = if upstream.0 == node.0 then uses.Free else uses.Mapped fec upstream
freed node (uses.Leaving fec upstream) = if upstream.0 == node.0 then uses.Free else uses.Leaving fec upstream
freed node other = other

-- the node after a noticed loss of the session with a neighbour
abbrev pub without_session : LabelData → NodeId → LabelData
without_session part node =
    record part {
      labels = map (freed node) part.labels;
      branches = sets.retain part.branches (λ branch. not (branch.node.0 == node.0));
      ends = maps.remove part.ends node;
    }

-- a resting label is free from its moment on
abbrev pub woken : ℕ → LabelUse → LabelUse
woken now (uses.Resting until) = if nat_le until now then uses.Free else uses.Resting until
woken now other = other

-- a hold that is due is run
abbrev pub hold_run : ℕ → ℕ → End → End
hold_run life now end = record end { held = end.held || is_hold_due life now end }

abbrev pub holds_run : ℕ → ℕ → FinMap node_cmp End → FinMap node_cmp End
holds_run life now ends = maps.from_entries (map (λ entry. (entry.0, hold_run life now entry.1)) (maps.entries ends))

-- the node after its timers, before its trees settle: first the resting labels, then the holds
abbrev pub timed : Place → ℕ → LabelData → LabelData
timed place now part = record part { labels = map (woken now) part.labels; ends = holds_run place.life now part.ends }

-- ---- steps

-- What makes a label step: a message that is taken, a tree of which the node becomes or stops being a leaf, an end that
-- comes up, a loss that is noticed, the timers, and other next hops towards roots, since costs of links changed.
pub data Call : Type 0 where
  Taken : (from : NodeId) → (message : LabelMessage) → Call
  Want : (fec : Fec) → Call
  Unwant : (fec : Fec) → Call
  Raised : (peer : NodeId) → Call
  Noticed : (peer : NodeId) → Call
  Timers : Call
  Rerouted : Call

-- each element two times in a row
abbrev pub twice : List Fec → List Fec
twice [] = []
twice (fec ∷ more) = fec ∷ fec ∷ twice more

-- an end that comes up: its hold was not run, and its first message has id 1
abbrev pub raised_end : ℕ → End
raised_end now = record { raised = now; held = false; next = 1 }

-- The node after the call's own effect, what answers it, and the trees that settle then, in their order. Where next hops changed,
-- each tree settles twice in a row: first its label is withdrawn from the old next hop, and then one is mapped to the new one.
abbrev pub effect : Place → ℕ → LabelData → Call → Stepped × List Fec
effect place now part (Taken from message) =
    (record { part = taken place now part from message; puts = answers from message }, trees_of message)
effect place now part (Want fec) = (record { part = record part { leaves = sets.insert part.leaves fec }; puts = [] }, fec ∷ [])
effect place now part (Unwant fec) = (record { part = record part { leaves = sets.remove part.leaves fec }; puts = [] }, fec ∷ [])
effect place now part (Raised peer) = (record { part = record part { ends = maps.insert part.ends peer (raised_end now) }; puts = [] }, [])
effect place now part (Noticed peer) = (record { part = without_session part peer; puts = [] }, trees part)
effect place now part Timers = (record { part = timed place now part; puts = [] }, in_order part.waiting)
effect place now part Rerouted = (record { part = part; puts = [] }, twice (trees part))

-- ---- ids of messages (RFC 5036 section 3.5)

-- the id after that of a message: they grow by one, and 1 follows the highest
abbrev pub next_id : ℕ → ℕ
next_id id = if id == 4294967295 then 1 else id + 1

-- the end after one message more
abbrev pub told : End → End
told end = record end { next = next_id end.next }

-- A message with its id.
pub record Numbered : Type 0 where
  pub id : ℕ
  pub put : Put

-- the messages with their ids; one to a neighbour whose end is down goes nowhere
abbrev pub numbered : FinMap node_cmp End → List Put → List Numbered
numbered ends [] = []
numbered ends (put ∷ more) = elim (maps.get ends put.to) [
  | None ↦ numbered ends more
  | Some end ↦ record { id = end.next; put = put } ∷ numbered (maps.insert ends put.to (told end)) more
]

-- the ends after messages
abbrev pub ends_after : FinMap node_cmp End → List Put → FinMap node_cmp End
ends_after ends [] = ends
ends_after ends (put ∷ more) = elim (maps.get ends put.to) [
  | None ↦ ends_after ends more
  | Some end ↦ ends_after (maps.insert ends put.to (told end)) more
]

-- the node with the ids that come next
abbrev pub counted : Stepped → Stepped
counted new = record { part = record new.part { ends = ends_after new.part.ends new.puts }; puts = new.puts }

-- A label step: the call's own effect, and then the trees that it may have changed settle. There is none where they need
-- more labels than are free.
abbrev pub label_step : Place → ℕ → LabelData → Call → Option Stepped
label_step place now part call = let own = effect place now part call in option_map counted (settle_all place own.1 own.0)

-- The messages that a step puts, with their ids. The first are those of the ends after the call's own effect: the ids of an end
-- that comes up begin with 1.
abbrev pub step_puts : Place → ℕ → LabelData → Call → List Put → List Numbered
step_puts place now part call puts = numbered (effect place now part call).0.part.ends puts
