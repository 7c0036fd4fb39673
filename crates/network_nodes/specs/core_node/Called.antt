-- A core node by its parts, and what a call that they make answers.
use Rattle.std.specs.Prelude.{◌≡◌, ℕ, Option, None, option_map, Result, Ok, Err}
use Rattle.std.specs.FinMap.{FinMap}
use Rattle.mv_base.specs.core_walks.Core.{Core}
use Rattle.mv_base.specs.core_walks.Topology.{Topology}
use Rattle.label_defs.specs.Node.{Spent}
use Rattle.label_defs.specs.Steps.{Call}
use Rattle.network_defs.specs.session_defs.Octets.{Stream}
use Rattle.network_defs.specs.session_defs.PeerSession.{peer_cmp}
use Rattle.mldp_node.specs.NodeData.{cause}
use Rattle.mldp_node.specs.declared.fault.NodeFault.{NodeFault}
use Rattle.wire_laws.specs.CoreNodes.{CoreState}
use Rattle.network_nodes.specs.declared.core_node.fault.CoreFault.{CoreFault}
use Rattle.network_nodes.specs.declared.core_node.parts.Parts.{Parts}
use Rattle.network_nodes.specs.core_node.Answers.{Answers, fault_of, spent_by, step_of}
use Rattle.network_nodes.specs.core_node.View.{CoreView, IsLive}

-- the parts with other streams
abbrev pub with_streams : FinMap peer_cmp Stream → Parts → Parts
with_streams streams parts = record parts { streams = streams }

-- a node of these parts, which is spent for that reason: its label part may not be, where a stream lacked memory
abbrev pub with_spent : Parts → Option Spent → CoreView
with_spent parts spent = record { labels = record parts.node { node = record parts.node.node { spent = spent } }; streams = parts.streams }

-- one that goes on
abbrev pub going : Parts → CoreView
going parts = with_spent parts None

-- one that is spent where it answered such a fault
abbrev pub seen : Parts → Option NodeFault → CoreView
seen parts spent = with_spent parts (option_map cause spent)

-- a node of these parts after an answer
abbrev pub spent_after : Result (Unit {0}) CoreFault → Option Spent
spent_after (Ok done) = None
spent_after (Err fault) = spent_by fault

abbrev pub thereafter : Parts → Result (Unit {0}) CoreFault → CoreView
thereafter parts result = with_spent parts (spent_after result)

-- what a node answers where its label part answers so
abbrev pub told_as : Result (Unit {0}) NodeFault → Result (Unit {0}) CoreFault
told_as (Ok done) = Ok done
told_as (Err fault) = Err (fault_of (cause fault))

-- What is answered and left where the node is to make that step, by the parts after it. A node that is not spent by the answer holds
-- together still.
pub record Settles (core : Topology) (step : Core → CoreState → CoreState) (old : CoreView) (parts : Parts)
    (result : Result (Unit {0}) CoreFault) : Type 0 where
  pub answers : Answers core step old (thereafter parts result) result
  pub live : spent_after result ≡ None → IsLive parts.node parts.streams

-- the same of a call
abbrev pub SettlesCall : Topology → ℕ → Call → CoreView → Parts → Result (Unit {0}) CoreFault → Type 0
SettlesCall core now call old parts result = Settles core (step_of old now call) old parts result
