-- What an edge puts over BGP is put well: UPDATE messages, spelled in octets.
use Rattle.std.proofs.Common.{◌≡◌, ◌<◌, Bool, true, false, cond, List, [], length, map, Some, None, sym, ◌∙◌}
use Rattle.std.specs.Prelude.{is_some, is_none, not}
use Rattle.std.specs.Option.{option_eq}
use Rattle.std.specs.List.{AllByRecursion}
use Rattle.std.specs.FinMap as maps
use Rattle.mv_base.specs.declared.ids.NodeId.{NodeId}
use Rattle.bgp_messages.specs.declared.bgp_attributes.key.Key.{Key}
use Rattle.mv_base.specs.table_defs.Changes.{withdrawals, advertisements, lost, news, changes}
use Rattle.mv_base.specs.declared.table_defs.change.Change.{Change}
use Rattle.mv_base.specs.declared.table_defs.change.Change.TheVariants.{Reach, Unreach}
use Rattle.network_defs.specs.session_defs.Message.{IsPut}
use Rattle.network_defs.specs.session_defs.System.{Put}
use Rattle.network_defs.specs.edge_defs.Edge.{Control}
use Rattle.network_defs.specs.edge_defs.Held.{held_for, told, put_to}
use Rattle.network_defs.specs.edge_defs.Keys.{key_cmp, Value, Table, same_value}
use Rattle.network_defs.specs.edge_defs.Place.{EdgePlace}
use Rattle.network_defs.specs.mvpn_model.Sessions.{edges}
use Rattle.network_defs.specs.node_defs.Puts.{bgp_put, bgp_puts}
use Rattle.network_laws.specs.Sound.{SoundScenario, SoundControl}
use Rattle.network_laws.proofs.BgpHeld.{held_fits}
use Rattle.network_defs.proofs.edge_defs.KeyLemmas.{key_total, key_exact}
use Rattle.network_laws.proofs.Lists.{each_append, each_of, each_map, each_flat}
use Rattle.network_laws.proofs.Maps.{all_entries, kept_is}
use Rattle.network_laws.proofs.BgpPlaces.{own_host}
use Rattle.network_laws.proofs.BgpTexts.{IsBgpPut, reach_put, unreach_put}

-- both changes of a key are put
abbrev pub AreBgpPut : Key → Value → Type 0
AreBgpPut key value = IsBgpPut (Reach key value) × IsBgpPut (Unreach key)

-- The advertisement and the withdrawal of what an edge holds for a peer are put.
pub held_is_put : (place : EdgePlace) (control : Control) (peer : NodeId) (key : Key) (value : Value) → SoundScenario place.scenario
    → SoundControl control → place.me.0 < length place.scenario.nodes
    → maps.get (held_for place control peer) key ≡ Some value → AreBgpPut key value
held_is_put place control peer key value scenario_is control_is lt h =
    let fits = held_fits place control scenario_is control_is (own_host place scenario_is lt) peer key value h in
    (reach_put key value fits.0 fits.1, unreach_put key fits.0)

-- ---- tables of which each change is put

abbrev IsTable : Table → Type 0
IsTable table = (key : Key) (value : Value) → maps.get table key ≡ Some value → AreBgpPut key value

empty_table : IsTable maps.empty
empty_table key value h = let none = maps.get-empty {X = Value} key_cmp key in let bad : None ≡ Some value = sym none ∙ h in absurd cc

told_by : (b : Bool) (table : Table) → IsTable table → IsTable (cond b table maps.empty)
told_by true table h = h
told_by false table h = empty_table

told_table : (place : EdgePlace) (control : Control) (peer : NodeId) → SoundScenario place.scenario → SoundControl control
    → place.me.0 < length place.scenario.nodes → IsTable (told place control peer)
told_table place control peer scenario_is control_is lt =
    told_by (is_some (maps.get control.peers peer)) (held_for place control peer)
    (λ key value h. held_is_put place control peer key value scenario_is control_is lt h)

withdrawn_put : (old new : Table) → IsTable old → AllByRecursion IsBgpPut (withdrawals (lost old new))
withdrawn_put old new is =
    each_map IsBgpPut (λ (entry : Key × Value). Unreach entry.0) (maps.entries (lost old new))
    (all_entries key_total (λ (key : Key) (value : Value). IsBgpPut (Unreach key)) (lost old new)
    (λ key value h. (is key value (kept_is key_exact old (λ (own : Key). is_none (maps.get new own)) key value h)).1))

advertised_put : (old new : Table) → IsTable new → AllByRecursion IsBgpPut (advertisements (news same_value old new))
advertised_put old new is =
    each_map IsBgpPut (λ (entry : Key × Value). Reach entry.0 entry.1) (maps.entries (news same_value old new))
    (all_entries key_total (λ (key : Key) (value : Value). IsBgpPut (Reach key value)) (news same_value old new)
    (λ key value h. (is key value (kept_is key_exact new (λ (own : Key). not (option_eq same_value (maps.get old own) (maps.get new own))) key value
    h)).0))

changes_put : (old new : Table) → IsTable old → IsTable new → AllByRecursion IsBgpPut (changes same_value old new)
changes_put old new is thereafter =
    each_append IsBgpPut (withdrawals (lost old new)) (advertisements (news same_value old new)) (withdrawn_put old new is)
    (advertised_put old new thereafter)

-- ---- a step

puts_by : (b : Bool) (all : List (Change Key Value)) → AllByRecursion IsBgpPut all → AllByRecursion IsBgpPut (cond b all [])
puts_by true all h = h
puts_by false all h = tt

put_to_put : (place : EdgePlace) (old new : Control) (peer : NodeId) → SoundScenario place.scenario → SoundControl old → SoundControl new
    → place.me.0 < length place.scenario.nodes → AllByRecursion IsBgpPut (put_to place old new peer)
put_to_put place old new peer scenario_is old_is new_is lt =
    puts_by (is_some (maps.get new.peers peer)) (changes same_value (told place old peer) (told place new peer))
    (changes_put (told place old peer) (told place new peer) (told_table place old peer scenario_is old_is lt)
    (told_table place new peer scenario_is new_is lt))

-- What a step of an edge puts to its peers is put well.
pub bgp_puts_are_put : (place : EdgePlace) (old new : Control) → SoundScenario place.scenario → SoundControl old → SoundControl new
    → place.me.0 < length place.scenario.nodes
    → AllByRecursion (λ (put : Put). IsPut put.over.kind put.unit.messages put.unit.octets) (bgp_puts place old new)
bgp_puts_are_put place old new scenario_is old_is new_is lt =
    let Good : Put → Type 0 = λ (put : Put). IsPut put.over.kind put.unit.messages put.unit.octets in
    let to : NodeId → List Put = λ (peer : NodeId). map (bgp_put place.me peer) (put_to place old new peer) in
    each_flat Good to (edges place.scenario)
    (each_of (λ (peer : NodeId). AllByRecursion Good (to peer))
    (λ peer. each_map Good (bgp_put place.me peer) (put_to place old new peer) (put_to_put place old new peer scenario_is old_is new_is lt))
    (edges place.scenario))
