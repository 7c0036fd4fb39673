-- What becomes of the entries of an interface after a message, by what the message joins and prunes.
use Rattle.std.specs.Prelude.{◌≡◌, ◌==◌, ◌&&◌, Bool, false, List, Option, Some, is_some, if◌then◌else◌}
use Rattle.std.specs.List.{list_any}
use Rattle.std.specs.declared.hash.FoldHasher.{FoldHasher}
use Rattle.std.specs.declared.hash.BuildHasherDefault.{BuildHasherDefault}
use Rattle.indexmap.specs.IndexMap.{IndexMap, get}
use Rattle.scenario_defs.specs.declared.event.JoinEntry.{JoinEntry}
use Rattle.scenario_defs.specs.declared.event.JoinEntry.TheVariants.{Star, Rpt}
use Rattle.scenario_defs.specs.contracts.event.JoinEntryPartialEq.TheImpl as entries_equal
use Rattle.pim_joinprune.specs.declared.message.JoinPrune.{JoinPrune}
use Rattle.scenario_defs.specs.declared.event.IfaceEntry.{IfaceEntry}
use Rattle.scenario_defs.specs.contracts.event.IfaceEntryPartialEq.TheImpl as ifaces_equal
use Rattle.pim_defs.specs.declared.expiry.Expiry.{Expiry}
use Rattle.pim_defs.specs.declared.mention.Mention.{Mention}
use Rattle.scenario_defs.specs.Rules.{group_of}
use Rattle.pim_defs.specs.Mention.{joins, prunes, expiry_after}
use Rattle.pim_state.specs.declared.arrival.Arrival.{Arrival}

-- whether both are one entry, as `==` tells it
abbrev pub is_entry : JoinEntry → JoinEntry → Bool
is_entry = entries_equal.ghosts.eq

-- whether both are one entry of one interface, as `==` tells it
abbrev pub is_at : IfaceEntry → IfaceEntry → Bool
is_at = ifaces_equal.ghosts.eq

-- entries with their expiries, and planned changes
abbrev pub Expiries : Type 0
Expiries = IndexMap IfaceEntry Expiry (BuildHasherDefault FoldHasher)

abbrev pub Planned : Type 0
Planned = IndexMap IfaceEntry (Option Expiry) (BuildHasherDefault FoldHasher)

-- whether the entry is among them
abbrev pub is_among : List JoinEntry → JoinEntry → Bool
is_among list entry = list_any (is_entry entry) list

-- what is said of an entry where these are joined and those are pruned
abbrev pub mention_in : List JoinEntry → List JoinEntry → JoinEntry → Mention
mention_in joined pruned entry =
    record { joined = is_among joined entry; pruned = is_among pruned entry; shared = is_among joined (Star (group_of entry)) }

-- The arrival tells what the message joins and prunes.
pub record Tells (arrival : Arrival) (message : JoinPrune) : Type 0 where
  pub joined : (entry : JoinEntry) → is_among arrival.joins.keys entry ≡ joins message entry
  pub pruned : (entry : JoinEntry) → is_among arrival.prunes.keys entry ≡ prunes message entry
  pub held : arrival.holdtime ≡ message.holdtime

-- the expiry of an entry of the interface after the message, by the one before
abbrev pub then_of : Arrival → JoinEntry → Option Expiry → Option Expiry
then_of arrival entry old = expiry_after entry (mention_in arrival.joins.keys arrival.prunes.keys entry) arrival.clock arrival.holdtime old

-- the expiry that is planned for an entry
abbrev pub planned : Arrival → Expiries → IfaceEntry → Option Expiry
planned arrival entries at = then_of arrival at.entry (get is_at entries at)

-- whether it is an entry of the interface, and among these
abbrev pub is_named : Arrival → List JoinEntry → IfaceEntry → Bool
is_named arrival named at = (at.iface.0 == arrival.iface.0) && is_among named at.entry

-- whether it is a prune (S,G,rpt), and the message joins (*,G)
abbrev pub is_ended : Arrival → JoinEntry → Bool
is_ended arrival (Rpt source group) = is_among arrival.joins.keys (Star group)
is_ended arrival other = false

-- whether the message may end the entry without naming it
abbrev pub may_end : Arrival → IfaceEntry → Bool
may_end arrival at = (at.iface.0 == arrival.iface.0) && is_ended arrival at.entry

-- whether it is such an entry, and is there
abbrev pub ends : Arrival → Expiries → IfaceEntry → Bool
ends arrival entries at = may_end arrival at && is_some (get is_at entries at)

-- whether it is such an entry, and among these
abbrev pub ends_among : Arrival → Expiries → List IfaceEntry → IfaceEntry → Bool
ends_among arrival entries list at = ends arrival entries at && list_any (is_at at) list

-- what the plan says of an entry: where it is touched the expiry then, and else what it said
abbrev pub told_at : Arrival → Expiries → Bool → Option (Option Expiry) → IfaceEntry → Option (Option Expiry)
told_at arrival entries touched old at = if touched then Some (planned arrival entries at) else old
