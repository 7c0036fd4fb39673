-- Joined state and notes, as they are kept event by event.
use Rattle.std.specs.Prelude.{◌≡◌, ℕ, ◌+◌, ◌<◌, ◌≤◌, ◌==◌, ◌&&◌, max, nat_le, Bool, true}
use Rattle.std.specs.Prelude.{false, List, map, length, replicate, slice_get, slice_set, Option, None, Some, is_some, if◌then◌else◌}
use Rattle.std.specs.List.{list_any}
use Rattle.std.specs.declared.hash.FoldHasher.{FoldHasher}
use Rattle.std.specs.declared.hash.BuildHasherDefault.{BuildHasherDefault}
use Rattle.indexmap.specs.IndexMap.{IndexMap, get}
use Rattle.audit_defs.specs.mv_base.declared.ids.IfaceId.{IfaceId}
use Rattle.audit_defs.specs.mv_base.declared.addr.Addr.{Addr}
use Rattle.audit_defs.specs.scenario_defs.declared.scenario.Scenario.{Scenario}
use Rattle.audit_defs.specs.scenario_defs.declared.event.JoinEntry.{JoinEntry}
use Rattle.audit_defs.specs.scenario_defs.declared.event.JoinEntry.TheVariants as entries
use Rattle.audit_defs.specs.scenario_defs.declared.event.IfaceEntry.{IfaceEntry}
use Rattle.audit_defs.specs.scenario_defs.Vpn.{edge_of}
use Rattle.pim_defs.specs.pim_joinprune.declared.source.JpSource.{JpSource}
use Rattle.pim_defs.specs.pim_joinprune.declared.message.JoinPrune.{JoinPrune}
use Rattle.pim_defs.specs.declared.expiry.Expiry.{Expiry}
use Rattle.pim_defs.specs.Entries.{named_in}
use Rattle.pim_defs.specs.Mention.{entry_of, joins, mention_of, expiry_after}
use Rattle.pim_defs.specs.declared.expiry.Expiry.TheVariants.{Never}
use Rattle.pim_defs.specs.Expiry.{remaining}
use Rattle.audit_defs.specs.scenario_defs.declared.event.Event.{Event}
use Rattle.audit_defs.specs.scenario_defs.declared.event.CustomerEvent.TheVariants as customers
use Rattle.audit_defs.specs.scenario_defs.declared.event.Event.TheVariants as events
use Rattle.audit_defs.specs.mvpn_model.declared.message.Given.{Given}
use Rattle.audit_defs.specs.mvpn_model.Messages.{message_of}
use Rattle.audit_defs.specs.mvpn_model.Past.{Past, standing, is_noted}
use Rattle.pim_state.specs.Plan.{is_at}
use Rattle.audit_events.specs.declared.joined.Held.{Held}
use Rattle.audit_events.specs.declared.joined.Joined.{Joined}

abbrev pub HeldMap : Type 0
HeldMap = IndexMap IfaceEntry Held (BuildHasherDefault FoldHasher)

abbrev pub StampMap : Type 0
StampMap = IndexMap IfaceEntry ℕ (BuildHasherDefault FoldHasher)

-- ---- what is held

-- the expiry that is held, unless it was set before the event of that number
abbrev pub last_in : Option Held → ℕ → Option Expiry
last_in None since = None
last_in (Some held) since = if nat_le since held.set then held.expiry else None

abbrev pub stamp_in : Option ℕ → ℕ
stamp_in None = 0
stamp_in (Some stamp) = stamp

-- the number from which on events count at the interface: that after the last restart of its edge
abbrev pub restarted : Scenario → List ℕ → IfaceId → ℕ
restarted scenario restarts iface = elim (edge_of scenario iface) [ None ↦ 0 | Some edge ↦ stamp_in (slice_get restarts edge.0) ]

-- The number from which on events count for the entry: an (S,G,rpt) prune ends also where (*,G) is joined.
abbrev pub since_entry : Scenario → List ℕ → (IfaceEntry → Option ℕ) → IfaceId → JoinEntry → ℕ
since_entry scenario restarts shared iface (entries.Rpt source group) =
    max (restarted scenario restarts iface) (stamp_in (shared (record { iface = iface; entry = entries.Star group })))
since_entry scenario restarts shared iface other = restarted scenario restarts iface

abbrev pub since_of : Scenario → List ℕ → StampMap → IfaceEntry → ℕ
since_of scenario restarts shared at = since_entry scenario restarts (get is_at shared) at.iface at.entry

-- ---- what a message sets

-- the entries of the interface that sources of a group name
abbrev pub named_of_group : IfaceId → Addr → List JpSource → List IfaceEntry
named_of_group iface group sources = map (λ source. record { iface = iface; entry = entry_of group source }) sources

-- what a message at the clock, in the event of that number, sets for an entry that it names
abbrev pub set_by : JoinPrune → ℕ → ℕ → ℕ → IfaceEntry → Option Held → Held
set_by message clock now since at old = record {
  expiry = expiry_after at.entry (mention_of message at.entry) clock message.holdtime (last_in old since);
  set = now;
}

-- whether the event of that number has set it
abbrev pub is_set_at : ℕ → Option Held → Bool
is_set_at now None = false
is_set_at now (Some held) = held.set == now

-- the same, where the event has not set it yet
abbrev pub set_once : JoinPrune → ℕ → ℕ → ℕ → IfaceEntry → Option Held → Option Held
set_once message clock now since at old = if is_set_at now old then old else Some (set_by message clock now since at old)

-- whether the entry is a join (*,G)
abbrev pub is_star : JoinEntry → Bool
is_star (entries.Star group) = true
is_star other = false

-- whether the message joins the entry, which is a join (*,G)
abbrev pub joins_shared : JoinPrune → IfaceEntry → Bool
joins_shared message at = is_star at.entry && joins message at.entry

-- Events before that number alone have set what is held.
abbrev pub IsFresh : ℕ → HeldMap → Type 0
IsFresh now entries = (at : IfaceEntry) (held : Held) → get is_at entries at ≡ Some held → held.set < now

-- ---- what is kept

-- What is kept after the events so far: the clock, how many events there were, what is held, the joins (*,G), the notes, and the
-- restarts.
pub record Kept : Type 0 where
  pub clock : ℕ
  pub now : ℕ
  pub entry : IfaceEntry → Option Held
  pub shared : IfaceEntry → Option ℕ
  pub note : IfaceEntry → Option Held
  pub restarts : List ℕ

abbrev pub at_iface : IfaceId → JoinEntry → IfaceEntry
at_iface iface entry = record { iface = iface; entry = entry }

-- the expiry of an entry of the interface by what is kept, where it is there
abbrev pub entry_now : Scenario → Kept → IfaceId → JoinEntry → Option Expiry
entry_now scenario kept iface entry =
    last_in (kept.entry (at_iface iface entry)) (since_entry scenario kept.restarts kept.shared iface entry)

-- whether S is noted at the interface as a sender to G by what is kept
abbrev pub note_now : Scenario → Kept → IfaceId → Addr → Addr → Bool
note_now scenario kept iface source group =
    is_some (last_in (kept.note (at_iface iface (entries.Source source group))) (restarted scenario kept.restarts iface))

-- Events before that number alone have set what is kept.
pub record AreEarlier (kept : Kept) : Type 0 where
  pub entry : (at : IfaceEntry) (held : Held) → kept.entry at ≡ Some held → held.set < kept.now
  pub shared : (at : IfaceEntry) (stamp : ℕ) → kept.shared at ≡ Some stamp → stamp < kept.now
  pub note : (at : IfaceEntry) (held : Held) → kept.note at ≡ Some held → held.set < kept.now
  pub restarts : (node : ℕ) (stamp : ℕ) → slice_get kept.restarts node ≡ Some stamp → stamp ≤ kept.now

-- What is kept says of each entry and note what the events so far mean. An entry that has ended may still be held.
pub record Follows (past : Past) (kept : Kept) : Type 0 where
  pub clock : (iface : IfaceId) (entry : JoinEntry) → (standing past iface entry).clock ≡ kept.clock
  pub joined : (iface : IfaceId) (entry : JoinEntry) →
      remaining kept.clock (entry_now past.scenario kept iface entry) ≡ remaining kept.clock (standing past iface entry).expiry
  pub noted : (iface : IfaceId) (source group : Addr) → note_now past.scenario kept iface source group ≡ is_noted past iface source group
  pub earlier : AreEarlier kept
  pub nodes : length kept.restarts ≡ length past.scenario.nodes

-- Nothing is kept yet.
pub record IsEmpty (nodes : ℕ) (kept : Kept) : Type 0 where
  pub clock : kept.clock ≡ 0
  pub now : kept.now ≡ 0
  pub entry : (at : IfaceEntry) → kept.entry at ≡ None
  pub shared : (at : IfaceEntry) → kept.shared at ≡ None
  pub note : (at : IfaceEntry) → kept.note at ≡ None
  pub restarts : kept.restarts ≡ replicate nodes 0

-- ---- what an event changes

-- A message is taken at the interface.
pub record TakesMessage (scenario : Scenario) (iface : IfaceId) (message : JoinPrune) (old new : Kept) : Type 0 where
  pub clock : new.clock ≡ old.clock
  pub now : new.now ≡ old.now + 1
  pub entry : (at : IfaceEntry) → new.entry at ≡
      (if list_any (is_at at) (named_in iface message)
      then Some (set_by message old.clock old.now (since_entry scenario old.restarts old.shared at.iface at.entry) at (old.entry at))
      else old.entry at)
  pub shared : (at : IfaceEntry) → new.shared at ≡
      (if list_any (is_at at) (named_in iface message) && joins_shared message at then Some old.now else old.shared at)
  pub note : (at : IfaceEntry) → new.note at ≡ old.note at
  pub restarts : new.restarts ≡ old.restarts

-- One note is set, or ended.
pub record SetsNote (own : IfaceEntry) (expiry : Option Expiry) (old new : Kept) : Type 0 where
  pub clock : new.clock ≡ old.clock
  pub now : new.now ≡ old.now + 1
  pub entry : (at : IfaceEntry) → new.entry at ≡ old.entry at
  pub shared : (at : IfaceEntry) → new.shared at ≡ old.shared at
  pub note : (at : IfaceEntry) → new.note at ≡ (if is_at at own then Some (record { expiry = expiry; set = old.now }) else old.note at)
  pub restarts : new.restarts ≡ old.restarts

-- The clock goes on, and a node may restart.
pub record GoesOn (ticks : ℕ) (stamps : List ℕ) (old new : Kept) : Type 0 where
  pub clock : new.clock ≡ old.clock + ticks
  pub now : new.now ≡ old.now + 1
  pub entry : (at : IfaceEntry) → new.entry at ≡ old.entry at
  pub shared : (at : IfaceEntry) → new.shared at ≡ old.shared at
  pub note : (at : IfaceEntry) → new.note at ≡ old.note at
  pub restarts : new.restarts ≡ stamps

abbrev pub TakesGiven : Scenario → Option Given → Kept → Kept → Type 0
TakesGiven scenario None old new = GoesOn 0 old.restarts old new
TakesGiven scenario (Some given) old new = TakesMessage scenario given.iface given.message old new

-- What an accepted event makes of what is kept. Timers change nothing: what has ended is told by the clock.
abbrev pub Steps : Scenario → Event → Kept → Kept → Type 0
Steps scenario (events.Tick count) old new = GoesOn count old.restarts old new
Steps scenario (events.Restart node) old new = GoesOn 0 (slice_set old.restarts node.0 (old.now + 1)) old new
Steps scenario (events.Customer (customers.Active iface source group)) old new = SetsNote (at_iface iface (entries.Source source group)) (Some Never) old new
Steps scenario (events.Customer (customers.Idle iface source group)) old new = SetsNote (at_iface iface (entries.Source source group)) None old new
Steps scenario other old new = TakesGiven scenario (message_of scenario other) old new

-- what is kept in joined state
abbrev pub kept_of : Joined → Kept
kept_of joined = record {
  clock = joined.clock;
  now = joined.count;
  entry = get is_at joined.entries;
  shared = get is_at joined.shared;
  note = get is_at joined.notes;
  restarts = joined.restarts.items;
}
