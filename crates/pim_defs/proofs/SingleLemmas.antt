-- A message of one entry is spelled, in the family of its neighbour.
use Rattle.std.proofs.Common.{List, [], arith}
use Rattle.scenario_defs.specs.mv_base.Address.{IsAddr}
use Rattle.scenario_defs.specs.mv_base.declared.addr.Addr.{Addr}
use Rattle.scenario_defs.specs.mv_base.declared.addr.Addr.TheVariants.{V4, V6}
use Rattle.pim_joinprune.specs.Families.{IsOf, family_of}
use Rattle.pim_joinprune.specs.Spelling.{IsMulticast, IsSource, AreSources, IsJoinPrune}
use Rattle.pim_joinprune.specs.declared.source.JpSource.{JpSource}
use Rattle.scenario_defs.specs.Rules as rules
use Rattle.scenario_defs.specs.Rules.{AreOfOneFamily, IsUnicast, NamesFlow, IsEntry, group_of}
use Rattle.scenario_defs.specs.declared.event.JoinEntry.{JoinEntry}
use Rattle.scenario_defs.specs.declared.event.JoinEntry.TheVariants.{Star, Source, Rpt}
use Rattle.pim_defs.specs.Single.{source_of, one_source, message_with, join_of, prune_of}

own : (neighbour : Addr) → IsAddr neighbour → IsOf (family_of neighbour) neighbour
own (V4 octets) h = h
own (V6 octets) h = h

multicast : (neighbour group : Addr) → rules.IsGroup group → AreOfOneFamily neighbour group → IsMulticast (family_of neighbour) group
multicast (V4 a) (V4 b) h same = (h.0, (h.1, h.2))
multicast (V6 a) (V6 b) h same = (h.0, h.1)
multicast (V4 a) (V6 b) h same = absurd same
multicast (V6 a) (V4 b) h same = absurd same

of_flow : (neighbour source group : Addr) → NamesFlow source group → AreOfOneFamily neighbour group → IsOf (family_of neighbour) source
of_flow neighbour source group h same = by neighbour source group h.unicast h.family same
  where
    by : (neighbour source group : Addr) → IsUnicast source → AreOfOneFamily source group → AreOfOneFamily neighbour group →
        IsOf (family_of neighbour) source
    by (V4 a) (V4 b) (V4 c) u f s = u.0
    by (V6 a) (V6 b) (V6 c) u f s = u.0
    by (V4 a) (V6 b) (V4 c) u f s = absurd f
    by (V6 a) (V4 b) (V6 c) u f s = absurd f
    by (V4 a) b (V6 c) u f s = absurd s
    by (V6 a) b (V4 c) u f s = absurd s

group_is : (entry : JoinEntry) → IsEntry entry → rules.IsGroup (group_of entry)
group_is (Star group) h = h
group_is (Source source group) h = h.multicast
group_is (Rpt source group) h = h.multicast

source_is : (neighbour : Addr) (entry : JoinEntry) → IsAddr neighbour → IsEntry entry → AreOfOneFamily neighbour (group_of entry) →
    IsSource (family_of neighbour) (source_of neighbour entry)
source_is neighbour (Star group) n h same = own neighbour n
source_is neighbour (Source source group) n h same = of_flow neighbour source group h same
source_is neighbour (Rpt source group) n h same = of_flow neighbour source group h same

one : (neighbour : Addr) (entry : JoinEntry) → IsAddr neighbour → IsEntry entry → AreOfOneFamily neighbour (group_of entry) →
    AreSources (family_of neighbour) (one_source neighbour entry)
one neighbour entry n h same = (omega arith, (source_is neighbour entry n h same, record {}))

none : (neighbour : Addr) → AreSources (family_of neighbour) []
none neighbour = (omega arith, record {})

with_group : (neighbour group : Addr) (joins prunes : List JpSource) → IsAddr neighbour → IsMulticast (family_of neighbour) group →
    AreSources (family_of neighbour) joins → AreSources (family_of neighbour) prunes → IsJoinPrune (message_with neighbour group joins prunes)
with_group neighbour group joins prunes n g j p = record {
  neighbour = n;
  holdtime = omega arith;
  few = omega arith;
  groups = (record { multicast = g; joins = j; prunes = p }, record {});
}

pub join_spelled : (neighbour : Addr) (entry : JoinEntry) → IsAddr neighbour → IsEntry entry → AreOfOneFamily neighbour (group_of entry) →
    IsJoinPrune (join_of neighbour entry)
join_spelled neighbour entry n h same =
    with_group neighbour (group_of entry) (one_source neighbour entry) [] n
    (multicast neighbour (group_of entry) (group_is entry h) same) (one neighbour entry n h same) (none neighbour)

pub prune_spelled : (neighbour : Addr) (entry : JoinEntry) → IsAddr neighbour → IsEntry entry → AreOfOneFamily neighbour (group_of entry) →
    IsJoinPrune (prune_of neighbour entry)
prune_spelled neighbour entry n h same =
    with_group neighbour (group_of entry) [] (one_source neighbour entry) n
    (multicast neighbour (group_of entry) (group_is entry h) same) (none neighbour) (one neighbour entry n h same)
