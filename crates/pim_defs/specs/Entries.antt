-- The entries of an edge, each with its expiry, and what messages and timers make of them.
use Rattle.std.specs.Prelude.{ℕ, ◌==◌, nat_lt, not, Bool, List, [], ◌∷◌, ◌++◌, map, Option, None, Some, if◌then◌else◌}
use Rattle.std.specs.List.{flat_map, count_by}
use Rattle.std.specs.Ordering.{nat_cmp}
use Rattle.std.specs.declared.cmp.Ordering.{Ordering}
use Rattle.std.specs.Cmp.Lexicographic.{slice_cmp}
use Rattle.std.specs.FinMap.{FinMap, get, keys, values, len, from_entries, retain_keys}
use Rattle.scenario_defs.specs.mv_base.declared.ids.IfaceId.{IfaceId}
use Rattle.scenario_defs.specs.mv_base.declared.addr.Addr.{Addr}
use Rattle.scenario_defs.specs.mv_base.Address.{addr_front}
use Rattle.scenario_defs.specs.declared.event.JoinEntry.{JoinEntry}
use Rattle.scenario_defs.specs.declared.event.JoinEntry.TheVariants.{Star, Source, Rpt}
use Rattle.pim_joinprune.specs.declared.message.JoinPrune.{JoinPrune}
use Rattle.scenario_defs.specs.declared.event.IfaceEntry.{IfaceEntry}
use Rattle.pim_defs.specs.declared.expiry.Expiry.{Expiry}
use Rattle.pim_defs.specs.Expiry.{is_after, counts}
use Rattle.pim_defs.specs.Mention.{entry_of, mention_of, expiry_after}
use Rattle.pim_defs.specs.Asking.{asks_by}

-- ---- a finite map from entries to expiries

-- the numbers by which entries are told apart, and ordered
abbrev pub entry_key : JoinEntry → List ℕ
entry_key (Star group) = 0 ∷ addr_front group
entry_key (Source source group) = 1 ∷ addr_front source ++ addr_front group
entry_key (Rpt source group) = 2 ∷ addr_front source ++ addr_front group

abbrev pub iface_entry_key : IfaceEntry → List ℕ
iface_entry_key at = at.iface.0 ∷ entry_key at.entry

abbrev pub entry_cmp : IfaceEntry → IfaceEntry → Ordering
entry_cmp a b = slice_cmp nat_cmp (iface_entry_key a) (iface_entry_key b)

abbrev pub Entries : Type 0
Entries = FinMap entry_cmp Expiry

-- the expiry of an entry of the interface, where it is there
abbrev pub expiry_at : Entries → IfaceId → JoinEntry → Option Expiry
expiry_at entries iface entry = get entries (record { iface = iface; entry = entry })

-- ---- what a message makes of them

-- the expiry of an entry after a message at the interface that is taken at the clock
abbrev pub expiry_then : Entries → IfaceId → JoinPrune → ℕ → IfaceEntry → Option Expiry
expiry_then entries iface message clock at =
    if at.iface.0 == iface.0 then expiry_after at.entry (mention_of message at.entry) clock message.holdtime (get entries at) else
    get entries at

-- the entries of the interface that the message names
abbrev pub named_in : IfaceId → JoinPrune → List IfaceEntry
named_in iface message =
    flat_map (λ group. map (λ source. record { iface = iface; entry = entry_of group.group source }) (group.joins ++ group.prunes))
    message.groups

-- of these entries each that has an expiry, with it
abbrev pub with_expiries : (IfaceEntry → Option Expiry) → List IfaceEntry → List (IfaceEntry × Expiry)
with_expiries expiry [] = []
with_expiries expiry (at ∷ more) =
    elim (expiry at) [ None ↦ with_expiries expiry more | Some found ↦ (at, found) ∷ with_expiries expiry more ]

-- The entries after a message at the interface: of those that were there and those that it names, each that has an expiry
-- then.
abbrev pub applied : Entries → IfaceId → JoinPrune → ℕ → Entries
applied entries iface message clock =
    from_entries (with_expiries (expiry_then entries iface message clock) (keys entries ++ named_in iface message))

-- the most entries of an edge
abbrev pub entry_limit : ℕ
entry_limit = 1024

-- whether these are more than an edge holds
abbrev pub are_too_many : Entries → Bool
are_too_many entries = nat_lt entry_limit (len entries)

-- ---- timers

-- the entries after a run of the timers at the clock: those that end after it
abbrev pub kept_at : Entries → ℕ → Entries
kept_at entries clock = retain_keys entries (λ at. counts clock (get entries at))

-- how many entries end at or before the clock
abbrev pub due : Entries → ℕ → ℕ
due entries clock = count_by (λ expiry. not (is_after expiry clock)) (values entries)

-- ---- what an interface asks for

-- whether the interface asks for (S,G) at the clock, where S is known to send to G or not
abbrev pub asks : Entries → IfaceId → Addr → Addr → Bool → ℕ → Bool
asks entries iface source group active clock =
    asks_by clock active (expiry_at entries iface (Source source group))
    (expiry_at entries iface (Star group)) (expiry_at entries iface (Rpt source group))
