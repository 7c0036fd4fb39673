-- What a Join/Prune message makes of an entry (RFC 7761 sections 4.5.1 to 4.5.3).
use Rattle.std.specs.Prelude.{ℕ, ◌&&◌, not, Bool, false, List, Option, None, if◌then◌else◌}
use Rattle.std.specs.List.{list_any}
use Rattle.scenario_defs.specs.mv_base.declared.addr.Addr.{Addr}
use Rattle.scenario_defs.specs.mv_base.Address.{same_addr}
use Rattle.scenario_defs.specs.declared.event.JoinEntry.{JoinEntry}
use Rattle.scenario_defs.specs.declared.event.JoinEntry.TheVariants.{Star, Source, Rpt}
use Rattle.scenario_defs.specs.Rules.{group_of}
use Rattle.pim_joinprune.specs.declared.source.SourceKind.{SourceKind}
use Rattle.pim_joinprune.specs.declared.source.SourceKind.TheVariants as kinds
use Rattle.pim_joinprune.specs.declared.source.JpSource.{JpSource}
use Rattle.pim_joinprune.specs.declared.message.JoinPrune.{JoinPrune}
use Rattle.pim_defs.specs.declared.expiry.Expiry.{Expiry}
use Rattle.pim_defs.specs.declared.mention.Mention.{Mention}
use Rattle.pim_defs.specs.Expiry.{extended}

-- whether both are one entry
abbrev pub same_entry : JoinEntry → JoinEntry → Bool
same_entry (Star group) (Star other) = same_addr group other
same_entry (Source source group) (Source other_source other) = same_addr source other_source && same_addr group other
same_entry (Rpt source group) (Rpt other_source other) = same_addr source other_source && same_addr group other
same_entry own other = false

-- the entry of a group that an address of that kind stands for (RFC 7761 section 4.9.1)
abbrev pub entry_by : SourceKind → Addr → Addr → JoinEntry
entry_by kinds.Sg group addr = Source addr group
entry_by kinds.Star group addr = Star group
entry_by kinds.Rpt group addr = Rpt addr group

-- the entry that a source of a group names
abbrev pub entry_of : Addr → JpSource → JoinEntry
entry_of group source = entry_by source.kind group source.addr

-- whether one of the sources of the group is the entry
abbrev pub lists : Addr → List JpSource → JoinEntry → Bool
lists group sources entry = list_any (λ source. same_entry (entry_of group source) entry) sources

-- whether the message joins the entry, and whether it prunes it, anywhere
abbrev pub joins : JoinPrune → JoinEntry → Bool
joins message entry = list_any (λ group. lists group.group group.joins entry) message.groups

abbrev pub prunes : JoinPrune → JoinEntry → Bool
prunes message entry = list_any (λ group. lists group.group group.prunes entry) message.groups

-- what the message says of the entry
abbrev pub mention_of : JoinPrune → JoinEntry → Mention
mention_of message entry =
    record { joined = joins message entry; pruned = prunes message entry; shared = joins message (Star (group_of entry)) }

-- The expiry of an (S,G,rpt) prune after a message. First, Join(*,G) ends the prunes of its group that the message does
-- not repeat; second, Join(S,G,rpt) ends its prune; last, Prune(S,G,rpt) extends it.
abbrev pub rpt_after : Mention → ℕ → ℕ → Option Expiry → Option Expiry
rpt_after mention clock holdtime old =
    let kept = if mention.shared && not mention.pruned then None else old in
    let unjoined = if mention.joined then None else kept in
    if mention.pruned then extended clock holdtime unjoined else unjoined

-- The expiry of a (*,G) or (S,G) join after a message: a join extends it, and then a prune ends it at once.
abbrev pub joined_after : Mention → ℕ → ℕ → Option Expiry → Option Expiry
joined_after mention clock holdtime old =
    if mention.pruned then None else
    if mention.joined then extended clock holdtime old else old

-- The expiry of an entry after a message that says this of it, taken at the clock. Prune(*,G) leaves rpt prunes.
abbrev pub expiry_after : JoinEntry → Mention → ℕ → ℕ → Option Expiry → Option Expiry
expiry_after (Rpt source group) mention clock holdtime old = rpt_after mention clock holdtime old
expiry_after other mention clock holdtime old = joined_after mention clock holdtime old
