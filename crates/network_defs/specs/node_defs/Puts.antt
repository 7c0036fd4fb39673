-- What the steps of a node put, in octets (RFC 4271 section 4.3; RFC 5036 section 3.5).
use Rattle.std.specs.Prelude.{ℕ, List, [], ◌∷◌, map}
use Rattle.std.specs.List.{flat_map}
use Rattle.mv_base.specs.declared.addr.Addr.{Addr}
use Rattle.mv_base.specs.declared.ids.NodeId.{NodeId}
use Rattle.mv_base.specs.framing.Units.{Spelled}
use Rattle.label_defs.specs.mldp.mldp_msgs.Spelling as pdus
use Rattle.edge_defs.specs.bgp_messages.declared.bgp_attributes.key.Key.{Key}
use Rattle.edge_defs.specs.bgp_messages.declared.bgp_attributes.update.Message.TheVariants as bgp_messages
use Rattle.edge_defs.specs.bgp_messages.bgp_update.Written.{written, update_of}
use Rattle.mv_base.specs.declared.table_defs.change.Change.{Change}
use Rattle.label_defs.specs.LabelData.{Place}
use Rattle.label_defs.specs.Steps.{Numbered, step_puts}
use Rattle.scenario_defs.specs.declared.event.Kind.TheVariants as kinds
use Rattle.network_defs.specs.session_defs.Message.{SessionMessage, Bgp, Label}
use Rattle.network_defs.specs.session_defs.System.{Put}
use Rattle.edge_defs.specs.Edge.{Control}
use Rattle.edge_defs.specs.Held.{put_to}
use Rattle.edge_defs.specs.Keys.{Value}
use Rattle.edge_defs.specs.Messages.{as_update}
use Rattle.edge_defs.specs.Place.{EdgePlace}
use Rattle.edge_defs.specs.Steps.{LabelStep}
use Rattle.mvpn_model.specs.Sessions.{edges}

-- ---- BGP

-- each change of a table goes in an UPDATE message of its own
abbrev pub update_unit : Change Key Value → Spelled SessionMessage
update_unit change = record {
  messages = Bgp (bgp_messages.Update (update_of (as_update change))) ∷ [];
  octets = written (as_update change);
}

abbrev pub bgp_put : NodeId → NodeId → Change Key Value → Put
bgp_put me peer change = record { over = record { kind = kinds.Bgp; from = me; to = peer }; unit = update_unit change }

-- what a step of an edge puts to its peers, by what it kept before and keeps after it
abbrev pub bgp_puts : EdgePlace → Control → Control → List Put
bgp_puts place old new = flat_map (λ peer. map (bgp_put place.me peer) (put_to place old new peer)) (edges place.scenario)

-- ---- LDP

-- each label message goes in a PDU of its own, with its id
abbrev pub label_put : NodeId → Addr → Numbered → Put
label_put me addr numbered = record {
  over = record { kind = kinds.Ldp; from = me; to = numbered.put.to };
  unit = record { messages = Label numbered.put.message ∷ []; octets = pdus.written addr numbered.id numbered.put.message };
}

-- what a label step of a node puts
abbrev pub label_puts : NodeId → Addr → Place → ℕ → LabelStep → List Put
label_puts me addr place now step = map (label_put me addr) (step_puts place now step.old step.call step.new.puts)
