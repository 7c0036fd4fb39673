-- Octets by direction, as they are kept, and the data that they are.
use Rattle.std.specs.Prelude.{ℕ, Bool, true, false, List, [], map, None, Some, if◌then◌else◌}
use Rattle.std.specs.FinMap as maps
use Rattle.std.specs.FinSet as sets
use Rattle.std.specs.declared.hash.FoldHasher.{FoldHasher}
use Rattle.std.specs.declared.hash.BuildHasherDefault.{BuildHasherDefault}
use Rattle.indexmap.specs.IndexMap.{IndexMap, get}
use Rattle.mv_base.specs.declared.ids.NodeId.{NodeId}
use Rattle.label_defs.specs.Between.{is_either}
use Rattle.scenario_defs.specs.declared.event.Kind.{Kind}
use Rattle.scenario_defs.specs.declared.event.Kind.TheVariants as kinds
use Rattle.network_defs.specs.declared.session_defs.direction.Direction.{Direction}
use Rattle.net_sessions.specs.declared.session_transit.sessions.Key.{Key}
use Rattle.net_sessions.specs.contracts.session_transit.sessions.KeyPartialEq.TheImpl as keys_equal
use Rattle.net_sessions.specs.session_transit.TransitData.{TransitData, total_of}

abbrev pub KeyMap : Type 0
KeyMap = IndexMap Key (List ℕ) (BuildHasherDefault FoldHasher)

-- whether both are one key, as `==` tells it
abbrev pub is_key : Key → Key → Bool
is_key = keys_equal.ghosts.eq

abbrev pub is_ldp : Kind → Bool
is_ldp kinds.Bgp = false
is_ldp kinds.Ldp = true

abbrev pub key_of : Direction → Key
key_of over = record { is_ldp = is_ldp over.kind; from = over.from; to = over.to }

-- whether the key's direction is one of the node
abbrev pub is_key_at : NodeId → Key → Bool
is_key_at node key = is_either node key.from key.to

-- the octets that are kept at the key
abbrev pub kept_at : KeyMap → Key → List ℕ
kept_at kept key = elim (get is_key kept key) [ None ↦ [] | Some octets ↦ octets ]

-- ---- the data

abbrev pub direction_of : Key → Direction
direction_of key = record { kind = if key.is_ldp then kinds.Ldp else kinds.Bgp; from = key.from; to = key.to }

abbrev pub entries_of : List (Key × List ℕ) → List (Direction × List ℕ)
entries_of entries = map (λ e. (direction_of e.0, e.1)) entries

abbrev pub transit_of : KeyMap → TransitData
transit_of kept = record {
  joined = sets.from_list (map (λ e. direction_of e.0) kept.entries);
  octets = maps.from_entries (entries_of kept.entries);
}

-- how many octets are kept
abbrev pub held : KeyMap → ℕ
held kept = total_of (transit_of kept)
