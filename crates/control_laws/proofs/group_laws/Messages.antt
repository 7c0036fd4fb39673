-- What a message joins and what a script names has a group of its source's family.
use Rattle.std.proofs.Common.{◌≡◌, ℕ, true, inl, inr, List, [], ◌∷◌, subst}
use Rattle.std.specs.Prelude.{Ok}
use Rattle.std.specs.List.{list_any, AllByRecursion}
use Rattle.std.proofs.lemmas.Bool.{or_cases}
use Rattle.mv_base.specs.Octets.{IsOctets}
use Rattle.mv_base.specs.declared.addr.Addr.{Addr}
use Rattle.mv_base.specs.declared.addr.Addr.TheVariants.{V4, V6}
use Rattle.pim_joinprune.specs.Families.{family_of, IsOf}
use Rattle.pim_joinprune.specs.Reading.{decoded}
use Rattle.pim_joinprune.specs.Spelling.{IsMulticast, IsSource, IsGroup, IsJoinPrune, Spells}
use Rattle.pim_joinprune.specs.declared.group.Group.{Group}
use Rattle.pim_joinprune.specs.declared.message.JoinPrune.{JoinPrune}
use Rattle.pim_joinprune.specs.declared.source.JpSource.{JpSource}
use Rattle.pim_joinprune.specs.declared.source.SourceKind.{SourceKind}
use Rattle.pim_joinprune.specs.declared.source.SourceKind.TheVariants as kinds
use Rattle.pim_joinprune.proofs.Calls.{is_spelled}
use Rattle.scenario_defs.specs.Rules as rules
use Rattle.scenario_defs.specs.Rules.{AreOfOneFamily, NamesFlow}
use Rattle.scenario_defs.specs.declared.event.JoinEntry.TheVariants.{Source}
use Rattle.pim_defs.specs.Mention.{same_entry, entry_by, entry_of, lists}
use Rattle.pim_defs.proofs.KeyLemmas.{same_entry_equal}
use Rattle.control_laws.specs.group_laws.Groups.{IsFlow, HasGroups}

-- ---- messages

-- a source and a group of the family of one address
in_family : (own source group : Addr) → IsOf (family_of own) source → IsMulticast (family_of own) group → IsFlow source group
in_family (V4 own) (V4 a) (V4 b) s g = g
in_family (V6 own) (V6 a) (V6 b) s g = g
in_family (V4 own) (V4 a) (V6 b) s g = absurd g.0
in_family (V6 own) (V6 a) (V4 b) s g = absurd g.0
in_family (V4 own) (V6 a) group s g = absurd s
in_family (V6 own) (V4 a) group s g = absurd s

-- an (S,G) that an address of a group stands for
entry_flow : (own : Addr) (kind : SourceKind) (group addr from to : Addr) → IsOf (family_of own) addr → IsMulticast (family_of own) group
    → entry_by kind group addr ≡ Source from to → IsFlow from to
entry_flow own kinds.Sg group addr from to s g e =
    let sources : addr ≡ from = cc in
    let groups : group ≡ to = cc in
    subst (λ (x : Addr). IsFlow x to) sources (subst (λ (x : Addr). IsFlow addr x) groups (in_family own addr group s g))
entry_flow own kinds.Star group addr from to s g e = absurd cc
entry_flow own kinds.Rpt group addr from to s g e = absurd cc

listed_flow : (own : Addr) (group : Addr) (sources : List JpSource) (from to : Addr) → IsMulticast (family_of own) group
    → AllByRecursion (IsSource (family_of own)) sources → lists group sources (Source from to) ≡ true → IsFlow from to
listed_flow own group [] from to g all h = absurd cc
listed_flow own group (source ∷ more) from to g all h =
    elim (or_cases (same_entry (entry_of group source) (Source from to)) (lists group more (Source from to)) h) [
      | inl e ↦ entry_flow own source.kind group source.addr from to all.0 g (same_entry_equal (entry_of group source) (Source from to) e)
      | inr e ↦ listed_flow own group more from to g all.1 e
    ]

joined_flow : (own : Addr) (groups : List Group) (from to : Addr) → AllByRecursion (IsGroup (family_of own)) groups
    → list_any (λ group. lists group.group group.joins (Source from to)) groups ≡ true → IsFlow from to
joined_flow own [] from to all h = absurd cc
joined_flow own (group ∷ more) from to all h =
    elim (or_cases (lists group.group group.joins (Source from to)) (list_any (λ other. lists other.group other.joins (Source from to)) more) h) [
      | inl e ↦ (let is = all.0 in listed_flow own group.group group.joins from to is.multicast is.joins.1 e)
      | inr e ↦ joined_flow own more from to all.1 e
    ]

pub has_groups : (message : JoinPrune) → IsJoinPrune message → HasGroups message
has_groups message is source group h = joined_flow message.neighbour message.groups source group is.groups h

pub spelled_has_groups : (octets : List ℕ) (message : JoinPrune) → Spells message octets → HasGroups message
spelled_has_groups octets message s = has_groups message s.spelled.is

pub read_has_groups : (octets : List ℕ) (message : JoinPrune) → IsOctets octets → decoded octets ≡ Ok message → HasGroups message
read_has_groups octets message fits h = spelled_has_groups octets message (is_spelled (Ok message) octets fits h)

-- ---- scripts

named_group : (source group : Addr) → rules.IsGroup group → AreOfOneFamily source group → IsFlow source group
named_group (V4 a) (V4 b) g f = (g.0, (g.1, g.2))
named_group (V6 a) (V6 b) g f = (g.0, g.1)
named_group (V4 a) (V6 b) g f = absurd f
named_group (V6 a) (V4 b) g f = absurd f

pub named_flow : (source group : Addr) → NamesFlow source group → IsFlow source group
named_flow source group named = named_group source group named.multicast named.family
