-- What an edge keeps of its customers and of BGP stays sound: by a call of its own, by a message of a peer that is spelled in octets, and
-- by a label message.
use Rattle.std.proofs.Common.{ℕ, Bool, true, false, List, [], ◌∷◌}
use Rattle.mv_base.specs.Octets.{IsOctets}
use Rattle.mv_base.specs.declared.ids.NodeId.{NodeId}
use Rattle.mldp.specs.declared.mldp_msgs.message.LabelMessage.{LabelMessage}
use Rattle.bgp_messages.specs.declared.bgp_attributes.update.Message.{Message}
use Rattle.bgp_messages.specs.bgp_update.Spelling.{SpellsMessage}
use Rattle.network_defs.specs.edge_defs.Edge.{Control}
use Rattle.network_defs.specs.edge_defs.Place.{EdgePlace}
use Rattle.network_defs.specs.edge_defs.Steps as steps
use Rattle.network_defs.specs.edge_defs.Steps.{with_update, effect, is_vrf_step, refreshed, refreshed_if, control_step}
use Rattle.network_laws.specs.Sound.{SoundScenario, SoundControl}
use Rattle.network_laws.specs.Honest.{IsSoundCall}
use Rattle.network_laws.proofs.ControlFlows.{SoundSources, flows_are_sound}
use Rattle.network_laws.proofs.ControlTaken.{changes_sound}
use Rattle.network_laws.proofs.ControlSteps.{updated_sound, effect_sound}

sources_of : (control : Control) → SoundControl control → SoundSources control
sources_of control h = record { entries = h.entries; notes = h.notes; peers = h.peers }

pub refreshed_sound : (place : EdgePlace) (now : ℕ) (control : Control) → SoundControl control → SoundControl (refreshed place now control)
refreshed_sound place now control h =
    record {
      entries = h.entries;
      notes = h.notes;
      selections = h.selections;
      flows =
          flows_are_sound place now control (sources_of control h);
      peers = h.peers;
    }

-- the flows become those that some interface asks for at the clock, or stay as they were
stepped_sound : (place : EdgePlace) (now : ℕ) (own : Control) (vrf : Bool) → SoundControl own → SoundControl (refreshed_if vrf place now own)
stepped_sound place now own true h = refreshed_sound place now own h
stepped_sound place now own false h = h

-- A call of the node itself, with sound values.
pub control_stays_sound : (place : EdgePlace) (now : ℕ) (old : Control) (call : steps.Call) → SoundScenario place.scenario → SoundControl old
    → IsSoundCall call →
    SoundControl (control_step place now old call)
control_stays_sound place now old call scenario h heard =
    stepped_sound place now (effect place now old call) (is_vrf_step call) (effect_sound place now old call h heard)

-- A message of a peer that is spelled in octets.
pub update_stays_sound : (place : EdgePlace) (now : ℕ) (old : Control) (peer : NodeId) (message : Message) (text : List ℕ)
    → SoundScenario place.scenario → SoundControl old →
    SpellsMessage (message ∷ []) text → IsOctets text → SoundControl (control_step place now old (steps.Update peer message))
update_stays_sound place now old peer message text scenario h spelled fits =
    refreshed_sound place now (with_update now peer message old) (updated_sound now peer message old h (changes_sound message text spelled fits))

-- A label message changes no more than the flows.
pub label_stays_sound : (place : EdgePlace) (now : ℕ) (old : Control) (neighbour : NodeId) (message : LabelMessage) → SoundScenario place.scenario
    → SoundControl old →
    SoundControl (control_step place now old (steps.Label neighbour message))
label_stays_sound place now old neighbour message scenario h = refreshed_sound place now old h
