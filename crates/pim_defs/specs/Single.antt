-- Messages of one entry, as a customer router sends them (RFC 7761 sections 4.9.5 and 4.11).
use Rattle.std.specs.Prelude.{List, [], ◌∷◌}
use Rattle.scenario_defs.specs.mv_base.declared.addr.Addr.{Addr}
use Rattle.scenario_defs.specs.declared.event.JoinEntry.{JoinEntry}
use Rattle.scenario_defs.specs.declared.event.JoinEntry.TheVariants.{Star, Source, Rpt}
use Rattle.pim_joinprune.specs.declared.source.SourceKind.TheVariants as kinds
use Rattle.pim_joinprune.specs.declared.source.JpSource.{JpSource}
use Rattle.pim_joinprune.specs.declared.message.JoinPrune.{JoinPrune}
use Rattle.scenario_defs.specs.Rules.{group_of}

-- the source that names the entry; for (*,G) it is the RP, which is the neighbour
abbrev pub source_of : Addr → JoinEntry → JpSource
source_of neighbour (Star group) = record { kind = kinds.Star; addr = neighbour }
source_of neighbour (Source source group) = record { kind = kinds.Sg; addr = source }
source_of neighbour (Rpt source group) = record { kind = kinds.Rpt; addr = source }

abbrev pub one_source : Addr → JoinEntry → List JpSource
one_source neighbour entry = source_of neighbour entry ∷ []

-- a message of one group, with the holdtime of 210
abbrev pub message_with : Addr → Addr → List JpSource → List JpSource → JoinPrune
message_with neighbour group joins prunes =
    record { neighbour = neighbour; holdtime = 210; groups = record { group = group; joins = joins; prunes = prunes } ∷ [] }

-- the messages that join and prune the entry
abbrev pub join_of : Addr → JoinEntry → JoinPrune
join_of neighbour entry = message_with neighbour (group_of entry) (one_source neighbour entry) []

abbrev pub prune_of : Addr → JoinEntry → JoinPrune
prune_of neighbour entry = message_with neighbour (group_of entry) [] (one_source neighbour entry)
