-- Tables in step: what the two ends of a joined session keep of each other, and what is on its way between them.
use Rattle.std.specs.Prelude.{◌≡◌, ℕ, ◌+◌, ◌==◌, ◌&&◌, Bool, true, false, List, [], ◌∷◌, ◌++◌, map, count_by, Option, Some, if◌then◌else◌}
use Rattle.std.specs.FinSet as sets
use Rattle.mv_base.specs.declared.ids.NodeId.{NodeId}
use Rattle.mv_base.specs.framing.Units.{Splits}
use Rattle.mldp.specs.declared.mldp_fec.fec.Fec.{Fec}
use Rattle.mldp.specs.mldp_msgs.Spelling.{SpellsPdu}
use Rattle.mldp.specs.declared.mldp_msgs.message.LabelMessage.{LabelMessage}
use Rattle.mldp.specs.declared.mldp_msgs.message.LabelMessage.TheVariants as messages
use Rattle.bgp_messages.specs.declared.bgp_attributes.key.Key.{Key}
use Rattle.bgp_messages.specs.bgp_update.Spelling.{SpellsMessage}
use Rattle.scenario_defs.specs.declared.event.Kind.{Kind}
use Rattle.scenario_defs.specs.declared.event.Kind.TheVariants as kinds
use Rattle.mv_base.specs.table_defs.Changes.{LeadsTo, applied_all}
use Rattle.mv_base.specs.declared.table_defs.change.Change.{Change}
use Rattle.label_defs.specs.LabelData.{same_fec, use_of}
use Rattle.label_defs.specs.Steps.{branch_to}
use Rattle.label_defs.specs.declared.label_use.LabelUse.{LabelUse}
use Rattle.label_defs.specs.declared.label_use.LabelUse.TheVariants as uses
use Rattle.edge_defs.specs.Edge.{Control}
use Rattle.edge_defs.specs.Held.{held_for}
use Rattle.edge_defs.specs.Keys.{Value}
use Rattle.edge_words.specs.edge_laws.Acts.{message_of}
use Rattle.edge_words.specs.edge_laws.Rule.{taken_values}
use Rattle.network_defs.specs.Counts.{direction}
use Rattle.network_defs.specs.LabelRule.{part_at}
use Rattle.network_defs.specs.Nodes.{place_of}
use Rattle.network_defs.specs.Refusals.{control_of}
use Rattle.network_defs.specs.World.{World}

-- the octets on their way: what the receiver's stream holds back, followed by what is in transit
abbrev pub on_way : World → Kind → NodeId → NodeId → List ℕ
on_way world kind from to = (world.network.stream (direction kind from to)).held ++ world.network.transit (direction kind from to)

abbrev pub control_at : World → NodeId → Control
control_at world n = control_of (world.network.state.node n)

-- ---- routes

-- The octets on their way are whole messages, each of one change. Applied to the table that b took from a, they give the table that a
-- holds for b.
pub record RoutesInStep (world : World) (a b : NodeId) : Type 0 where
  pub changes : List (Change Key Value)
  pub octets : Splits SpellsMessage (on_way world kinds.Bgp a b) (map message_of changes) []
  pub leads : LeadsTo (taken_values (control_at world b) a) changes (held_for (place_of world.network.state a) (control_at world a) b)
  pub reached : applied_all (taken_values (control_at world b) a) changes ≡ held_for (place_of world.network.state a) (control_at world a) b

-- ---- labels

-- whether it is that tree and that label
abbrev pub is_that : Fec → ℕ → Fec → ℕ → Bool
is_that fec label own number = same_fec own fec && (number == label)

-- whether u has a branch of the tree to n under the label
abbrev pub has_branch_to : World → NodeId → NodeId → Fec → ℕ → Bool
has_branch_to world u n fec label = sets.contains (part_at world u).branches (branch_to n fec label)

-- whether there is a branch of the tree under the label after these messages, by whether there was one before
abbrev pub branch_after : Fec → ℕ → Bool → List LabelMessage → Bool
branch_after fec label before [] = before
branch_after fec label before (messages.Mapping own number ∷ more) =
    branch_after fec label (if is_that fec label own number then true else before) more
branch_after fec label before (messages.Withdraw own number ∷ more) =
    branch_after fec label (if is_that fec label own number then false else before) more
branch_after fec label before (other ∷ more) = branch_after fec label before more

-- whether the label is mapped to the tree towards the neighbour
abbrev pub is_mapped_to : Fec → NodeId → Option LabelUse → Bool
is_mapped_to fec u (Some (uses.Mapped own upstream)) = same_fec own fec && (upstream.0 == u.0)
is_mapped_to fec u other = false

abbrev pub is_withdraw : Fec → ℕ → LabelMessage → Bool
is_withdraw fec label (messages.Withdraw own number) = is_that fec label own number
is_withdraw fec label other = false

abbrev pub is_release : Fec → ℕ → LabelMessage → Bool
is_release fec label (messages.Release own number) = is_that fec label own number
is_release fec label other = false

-- The octets on their way, both ways, are whole PDUs. Applied to the branches of u to n, those from n give the labels that n has mapped
-- towards u. For each label that is leaving towards u there is exactly one withdraw on its way, or one release on its way back.
pub record LabelsInStep (world : World) (u n : NodeId) : Type 0 where
  pub to : List LabelMessage
  pub back : List LabelMessage
  pub octets : Splits SpellsPdu (on_way world kinds.Ldp n u) to []
  pub octets_back : Splits SpellsPdu (on_way world kinds.Ldp u n) back []
  pub mapped : (fec : Fec) (label : ℕ)
      → branch_after fec label (has_branch_to world u n fec label) to ≡ is_mapped_to fec u (use_of (part_at world n) label)
  pub leaving : (fec : Fec) (label : ℕ) → use_of (part_at world n) label ≡ Some (uses.Leaving fec u)
      → count_by (is_withdraw fec label) to + count_by (is_release fec label) back ≡ 1
