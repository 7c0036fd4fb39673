-- What is written is a spelling.
use Rattle.std.proofs.Common.{◌≡◌, ℕ, ◌%◌, ◌^◌, ◌<◌, List, [], ◌∷◌, refl, sym, ◌∙◌, arith}
use Rattle.std.specs.List.{flat_map, AllByRecursion}
use Rattle.std.proofs.lemmas.List.Concat.{flat_map-cons}
use Rattle.mv_base.proofs.Fields.{ok_is}
use Rattle.pim_joinprune.specs.declared.family.Family.{Family}
use Rattle.pim_joinprune.specs.declared.source.SourceKind.{SourceKind}
use Rattle.pim_joinprune.specs.declared.source.SourceKind.TheVariants.{Sg, Star, Rpt}
use Rattle.pim_joinprune.specs.declared.source.JpSource.{JpSource}
use Rattle.pim_joinprune.specs.declared.group.Group.{Group}
use Rattle.pim_joinprune.specs.declared.message.JoinPrune.{JoinPrune}
use Rattle.pim_joinprune.specs.declared.fault.PimFault.{PimFault}
use Rattle.pim_joinprune.specs.Fields.{AreAll}
use Rattle.pim_joinprune.specs.Families.{family_of}
use Rattle.pim_joinprune.specs.Spelling.{IsSource, IsGroup, IsJoinPrune, SpellsSource, SpellsGroup, Spells, low_flags, flags_of, source_text, sources_text, group_text, fields_text, written}
use Rattle.pim_joinprune.proofs.Whole.{message_again}

flags_are : (kind : SourceKind) → (flags_of kind < 2 ^ 8) × (flags_of kind % 4 ≡ low_flags kind)
flags_are Sg = (omega arith, refl)
flags_are Rpt = (omega arith, refl)
flags_are Star = (omega arith, refl)

source_written : (family : Family) (source : JpSource) → IsSource family source → SpellsSource family source (source_text family source)
source_written family source is =
    let f = flags_are source.kind in
    record { flags = flags_of source.kind; octet = f.0; kind = f.1; addr = is; octets = refl }

sources_written : (family : Family) (sources : List JpSource) → AllByRecursion (IsSource family) sources
    → AreAll (SpellsSource family) sources (sources_text family sources)
sources_written family [] h = refl
sources_written family (s ∷ ss) (is, more) = (
  source_text family s,
  sources_text family ss,
  source_written family s is,
  sources_written family ss more,
  flat_map-cons (source_text family) s ss,
)

group_written : (family : Family) (group : Group) → IsGroup family group → SpellsGroup family group (group_text family group)
group_written family group is = record {
  flags = 0;
  octet = omega arith;
  is = is;
  joins = sources_text family group.joins;
  prunes = sources_text family group.prunes;
  joined = sources_written family group.joins is.joins.1;
  pruned = sources_written family group.prunes is.prunes.1;
  octets = refl;
}

abbrev groups_text : Family → List Group → List ℕ
groups_text family groups = flat_map (group_text family) groups

groups_written : (family : Family) (groups : List Group) → AllByRecursion (IsGroup family) groups
    → AreAll (SpellsGroup family) groups (groups_text family groups)
groups_written family [] h = refl
groups_written family (g ∷ gs) (is, more) =
    (group_text family g, groups_text family gs, group_written family g is, groups_written family gs more, flat_map-cons (group_text family) g gs)

-- A value that has a spelling is spelled by what is written.
pub written_spells : (message : JoinPrune) → IsJoinPrune message → Spells message (written message)
written_spells message is = record {
  reserved = 0;
  octet = omega arith;
  fields = fields_text message;
  spelled =
      record {
        is = is;
        reserved = 0;
        octet = omega arith;
        groups = groups_text (family_of message.neighbour) message.groups;
        each =
            groups_written (family_of message.neighbour) message.groups is.groups;
        octets = refl;
      };
  octets = refl;
}

-- A text spells one value.
pub one_value : (v w : JoinPrune) (text : List ℕ) → Spells v text → Spells w text → v ≡ w
one_value v w text a b = ok_is {E = ℕ × PimFault} v w (sym (message_again v text a) ∙ message_again w text b)
