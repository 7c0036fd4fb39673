-- The octets in transit over the sessions of a network, and which of these are joined.
use Rattle.std.specs.Prelude.{◌≡◌, ℕ, ◌&&◌, ◌||◌, not, Bool, false, List, [], ◌∷◌, ◌++◌, length, drop, sum_by, None, Some, refl, if◌then◌else◌}
use Rattle.std.specs.Coded.{Coded, code_by, coded×, coded_list, coded_ℕ}
use Rattle.std.specs.Cmp.Lexicographic.{slice_cmp}
use Rattle.std.specs.FinMap as maps
use Rattle.std.specs.FinMap.{FinMap}
use Rattle.std.specs.FinSet as sets
use Rattle.std.specs.FinSet.{FinSet}
use Rattle.std.specs.Ordering.{nat_cmp}
use Rattle.std.specs.declared.cmp.Ordering.{Ordering}
use Rattle.mv_base.specs.declared.ids.NodeId.{NodeId}
use Rattle.label_defs.specs.Between.{is_between, is_either}
use Rattle.scenario_defs.specs.declared.event.Kind.{Kind}
use Rattle.scenario_defs.specs.Kinds.{same_kind}
use Rattle.network_defs.specs.declared.session_defs.direction.Direction.{Direction}
use Rattle.network_defs.specs.contracts.session_defs.direction.Direction as directions
use Rattle.network_defs.specs.session_defs.Message.{same_direction}
use Rattle.network_defs.specs.session_defs.PeerSession.{kind_number}

-- by protocol, then by the node that sends, then by the node that receives
abbrev pub direction_cmp : Direction → Direction → Ordering
direction_cmp a b = slice_cmp nat_cmp (kind_number a.kind ∷ a.from.0 ∷ a.to.0 ∷ []) (kind_number b.kind ∷ b.from.0 ∷ b.to.0 ∷ [])

-- The directions whose sessions are joined, and the octets in transit.
pub record TransitData : Type 0 where
  pub joined : FinSet direction_cmp
  pub octets : FinMap direction_cmp (List ℕ)

abbrev pub direction : Kind → NodeId → NodeId → Direction
direction kind from to = record { kind = kind; from = from; to = to }

abbrev pub nothing_joined : TransitData
nothing_joined = record { joined = sets.empty; octets = maps.empty }

-- whether the session of the direction is joined
abbrev pub is_joined_at : TransitData → Direction → Bool
is_joined_at transit over = sets.contains transit.joined over

-- the octets in transit over the direction
abbrev pub octets_at : TransitData → Direction → List ℕ
octets_at transit over = elim (maps.get transit.octets over) [ None ↦ [] | Some octets ↦ octets ]

-- how many octets are in transit, of all directions together
abbrev pub total_of : TransitData → ℕ
total_of transit = sum_by (λ entry. length entry.1) (maps.entries transit.octets)

-- whether the direction is one of the session, and whether it is one of the node
abbrev pub is_of_session : Kind → NodeId → NodeId → Direction → Bool
is_of_session kind a b over = same_kind kind over.kind && is_between a b over.from over.to

abbrev pub is_at : NodeId → Direction → Bool
is_at node over = is_either node over.from over.to

-- ---- calls, by what they leave of each direction

-- the sessions of some directions are joined, with nothing in transit there
pub record Joins (hit : Direction → Bool) (old new : TransitData) : Type 0 where
  pub joined : (over : Direction) → is_joined_at new over ≡ (is_joined_at old over || hit over)
  pub octets : (over : Direction) → octets_at new over ≡ (if hit over then [] else octets_at old over)

-- the sessions of some directions are lost, and what was in transit there
pub record Loses (hit : Direction → Bool) (old new : TransitData) : Type 0 where
  pub joined : (over : Direction) → is_joined_at new over ≡ (is_joined_at old over && not (hit over))
  pub octets : (over : Direction) → octets_at new over ≡ (if hit over then [] else octets_at old over)

-- octets are put over a direction, after what is in transit; where its session is not joined, they are lost
pub record Puts (at : Direction) (more : List ℕ) (old new : TransitData) : Type 0 where
  pub joined : (over : Direction) → is_joined_at new over ≡ is_joined_at old over
  pub octets : (over : Direction) → octets_at new over ≡
      (if is_joined_at old over then octets_at old over ++ (if same_direction at over then more else []) else octets_at old over)

-- the first so many octets over a direction are taken; where its session is not joined, there are none
pub record Takes (at : Direction) (count : ℕ) (old new : TransitData) : Type 0 where
  pub joined : (over : Direction) → is_joined_at new over ≡ is_joined_at old over
  pub octets : (over : Direction) → octets_at new over ≡ (if same_direction over at then drop count (octets_at old at) else octets_at old over)
  pub none : is_joined_at old at ≡ false → octets_at old at ≡ []

-- ---- the code, by which one is told from another

abbrev pub transit_code : Coded TransitData
transit_code = code_by (FinSet direction_cmp × FinMap direction_cmp (List ℕ))
    (coded× (sets.code directions.the_row.coded) (maps.code directions.the_row.coded (coded_list coded_ℕ)))
    (λ t. (t.joined, t.octets)) (λ p. record { joined = p.0; octets = p.1 }) (λ _. refl)
