-- What a call itself changes at an edge stays sound.
use Rattle.std.proofs.Common.{◌≡◌, ℕ, true, false, map, Option, Some, None, refl, sym, ◌∙◌}
use Rattle.std.specs.List.{AllByRecursion, fold, list_any}
use Rattle.std.specs.FinMap as maps
use Rattle.std.specs.FinMap.{FinMap}
use Rattle.std.specs.FinSet as sets
use Rattle.mv_base.specs.declared.ids.NodeId.{NodeId}
use Rattle.bgp_messages.specs.declared.bgp_attributes.update.Message.{Message}
use Rattle.bgp_messages.specs.bgp_update.Table.{changes_of}
use Rattle.scenario_defs.specs.declared.event.Kind.TheVariants as kinds
use Rattle.label_defs.specs.Keys.{node_cmp}
use Rattle.label_defs.proofs.KeyLemmas.{node_cmp_total, node_cmp_exact}
use Rattle.network_defs.specs.edge_defs.Edge.{Note, VrfPattern, note_cmp, pattern_cmp, Selected, Taken, Control}
use Rattle.network_defs.specs.edge_defs.Keys.{key_cmp}
use Rattle.network_defs.specs.edge_defs.Place.{EdgePlace}
use Rattle.network_defs.specs.edge_defs.Steps as steps
use Rattle.network_defs.specs.edge_defs.selective_defs.Selective.{free_number}
use Rattle.network_defs.specs.edge_defs.Steps.{taken_change, with_update, is_used, selection_run, selections_run, route_run, taken_run, peers_run, timed, effect}
use Rattle.network_laws.specs.Sound.{SoundPattern, SoundTaken, SoundControl}
use Rattle.network_laws.specs.Honest.{IsSoundCall}
use Rattle.network_laws.proofs.Lists.{each_map, each_weaker}
use Rattle.network_laws.proofs.Maps.{Each, all_entries, made_meets, put_meets, cut_meets, each_inserted, still}
use Rattle.network_defs.proofs.edge_defs.KeyLemmas.{key_total, key_exact, note_total, note_exact, pattern_total, pattern_exact}
use Rattle.network_laws.proofs.ControlEntries.{SoundAt, applied_sound, kept_sound}
use Rattle.network_laws.proofs.ControlFlows.{SoundPeer, SoundRoute, SoundNote}
use Rattle.network_laws.proofs.ControlTaken.{SoundChange, all_changes_sound}

abbrev EachNote : sets.FinSet note_cmp → Type 0
EachNote notes = (note : Note) → sets.contains notes note ≡ true → SoundNote note

abbrev SoundSelection : VrfPattern → Selected → Type 0
SoundSelection key selected = SoundPattern key.pattern

-- ---- records of which one part changes

with_peers : (old : Control) (peers : FinMap node_cmp Taken) → SoundControl old → Each SoundPeer peers → SoundControl (record old { peers = peers })
with_peers old peers h new = record { entries = h.entries; notes = h.notes; selections = h.selections; flows = h.flows; peers = new }

-- ---- messages of a peer

pub updated_sound : (now : ℕ) (peer : NodeId) (message : Message) (old : Control) → SoundControl old → AllByRecursion SoundChange (changes_of message)
    → SoundControl (with_update now peer message old)
updated_sound now peer message old h new = by_found (maps.get old.peers peer) refl
  where
    by_found : (o : Option Taken) → maps.get old.peers peer ≡ o → SoundControl (elim o [
      | None ↦ old
      | Some taken ↦ record old { peers = maps.insert old.peers peer (fold (taken_change now) taken (changes_of message)) }
    ])
    by_found None e = h
    by_found (Some taken) e =
        let thereafter : Taken = fold (taken_change now) taken (changes_of message) in
        with_peers old (maps.insert old.peers peer thereafter) h
        (put_meets node_cmp_total node_cmp_exact SoundPeer old.peers peer thereafter h.peers
        (all_changes_sound now taken (changes_of message) (h.peers peer taken e) new))

nothing_taken : SoundTaken maps.empty
nothing_taken key route e = let bad : None ≡ Some route = sym (maps.get-empty key_cmp key) ∙ e in absurd cc

-- ---- timers

selections_run_sound : (delay now : ℕ) (old : FinMap pattern_cmp Selected) → Each SoundSelection old
    → Each SoundSelection (selections_run delay now old)
selections_run_sound delay now old h =
    made_meets pattern_total pattern_exact SoundSelection (map (λ entry. (entry.0, selection_run delay now entry.1)) (maps.entries old))
    (each_map (λ entry. SoundSelection entry.0 entry.1) (λ entry. (entry.0, selection_run delay now entry.1)) (maps.entries old)
    (all_entries pattern_total SoundSelection old h))

taken_run_sound : (place : EdgePlace) (now : ℕ) (peer : NodeId × Taken) → SoundTaken peer.1 → SoundTaken (taken_run place now peer).1
taken_run_sound place now peer h =
    made_meets key_total key_exact SoundRoute (map (route_run place now peer.0) (maps.entries peer.1))
    (each_map (λ entry. SoundRoute entry.0 entry.1) (route_run place now peer.0) (maps.entries peer.1)
    (all_entries key_total SoundRoute peer.1 h))

peers_run_sound : (place : EdgePlace) (now : ℕ) (old : FinMap node_cmp Taken) → Each SoundPeer old → Each SoundPeer (peers_run place now old)
peers_run_sound place now old h =
    made_meets node_cmp_total node_cmp_exact SoundPeer (map (taken_run place now) (maps.entries old))
    (each_map (λ peer. SoundPeer peer.0 peer.1) (taken_run place now) (maps.entries old)
    (each_weaker (λ peer. SoundPeer peer.0 peer.1) (λ peer. SoundTaken (taken_run place now peer).1) (taken_run_sound place now) (maps.entries old)
    (all_entries node_cmp_total SoundPeer old h)))

timed_sound : (place : EdgePlace) (now : ℕ) (old : Control) → SoundControl old → SoundControl (timed place now old)
timed_sound place now old h = record {
  entries = kept_sound old.entries now h.entries;
  notes = h.notes;
  selections = selections_run_sound place.scenario.delay now old.selections h.selections;
  flows = h.flows;
  peers = peers_run_sound place now old.peers h.peers;
}

-- ---- calls of customers

entries_sound : (now : ℕ) (old : Control) (call : steps.CustomerCall) → Each SoundAt old.entries → IsSoundCall (steps.Customer call)
    → Each SoundAt (steps.entries_after now old.entries call)
entries_sound now old (steps.Pim iface message) h heard = applied_sound old.entries iface message now h heard
entries_sound now old other h heard = h

-- a note that a call adds is sound
abbrev SoundNoting : steps.Noting → Type 0
SoundNoting (steps.Noted note) = SoundNote note
SoundNoting other = Unit {0}

noting_sound : (call : steps.CustomerCall) → IsSoundCall (steps.Customer call) → SoundNoting (steps.noting call)
noting_sound (steps.Active iface source group) heard = heard
noting_sound other heard = tt

notes_sound : (old : sets.FinSet note_cmp) (by : steps.Noting) → SoundNoting by → EachNote old → EachNote (steps.with_noting old by)
notes_sound old (steps.Noted note) new h = each_inserted note_total note_exact SoundNote old note new h
notes_sound old (steps.Unnoted note) new h = λ q e. h q (still note_total old note q e)
notes_sound old steps.Untouched new h = h

selections_sound : (now : ℕ) (old : Control) (call : steps.CustomerCall) → Each SoundSelection old.selections → IsSoundCall (steps.Customer call)
    → Each SoundSelection (steps.selections_after now old.selections call)
selections_sound now old (steps.Select vrf pattern) h heard =
    put_meets pattern_total pattern_exact SoundSelection old.selections (record { vrf = vrf; pattern = pattern })
    (record {
      number = free_number (λ number. list_any (is_used vrf number) (maps.entries old.selections)) (maps.len old.selections) 1;
      since = now;
      run = false;
    }) h heard
selections_sound now old (steps.Unselect vrf pattern) h heard =
    cut_meets pattern_total pattern_exact SoundSelection old.selections (record { vrf = vrf; pattern = pattern }) h
selections_sound now old other h heard = h

-- ---- calls

-- What a call of the node itself changes is sound.
pub effect_sound : (place : EdgePlace) (now : ℕ) (old : Control) (call : steps.Call) → SoundControl old → IsSoundCall call
    → SoundControl (effect place now old call)
effect_sound place now old (steps.Update peer message) h heard = absurd heard
effect_sound place now old (steps.Label neighbour message) h heard = absurd heard
effect_sound place now old (steps.Customer call) h heard = record {
  entries = entries_sound now old call h.entries heard;
  notes = notes_sound old.notes (steps.noting call) (noting_sound call heard) h.notes;
  selections = selections_sound now old call h.selections heard;
  flows = h.flows;
  peers = h.peers;
}
effect_sound place now old (steps.Raised kinds.Bgp peer) h heard =
    with_peers old (maps.insert old.peers peer maps.empty) h
    (put_meets node_cmp_total node_cmp_exact SoundPeer old.peers peer maps.empty h.peers nothing_taken)
effect_sound place now old (steps.Raised kinds.Ldp peer) h heard = h
effect_sound place now old (steps.Noticed kinds.Bgp peer) h heard =
    with_peers old (maps.remove old.peers peer) h (cut_meets node_cmp_total node_cmp_exact SoundPeer old.peers peer h.peers)
effect_sound place now old (steps.Noticed kinds.Ldp peer) h heard = h
effect_sound place now old steps.Timers h heard = timed_sound place now old h
effect_sound place now old steps.Rerouted h heard = h
