-- The entries of an edge stay sound.
use Rattle.std.proofs.Common.{◌≡◌, ℕ, Bool, true, false, cond, List, [], ◌∷◌, ◌++◌, map, Option, Some, None, sym, ◌∙◌}
use Rattle.std.specs.List.{AllByRecursion}
use Rattle.std.specs.FinMap as maps
use Rattle.mv_base.specs.declared.ids.IfaceId.{IfaceId}
use Rattle.pim_joinprune.specs.declared.group.Group.{Group}
use Rattle.pim_joinprune.specs.declared.message.JoinPrune.{JoinPrune}
use Rattle.pim_joinprune.specs.declared.source.JpSource.{JpSource}
use Rattle.scenario_defs.specs.declared.event.IfaceEntry.{IfaceEntry}
use Rattle.network_defs.specs.edge_defs.pim_defs.declared.expiry.Expiry.{Expiry}
use Rattle.network_defs.specs.edge_defs.pim_defs.Expiry.{counts}
use Rattle.network_defs.specs.edge_defs.pim_defs.Mention.{entry_of}
use Rattle.network_defs.specs.edge_defs.pim_defs.Entries.{Entries, expiry_then, named_in, with_expiries, applied, kept_at}
use Rattle.network_defs.proofs.edge_defs.pim_defs.EntriesLemmas.{get-kept}
use Rattle.network_defs.proofs.edge_defs.pim_defs.KeyLemmas.{entry_cmp_total, entry_cmp_exact}
use Rattle.network_laws.specs.Sound.{SoundEntry}
use Rattle.network_laws.specs.Honest.{SoundGroup, SoundMessage}
use Rattle.network_laws.proofs.Lists.{each_append, each_map, each_flat, each_weaker}
use Rattle.network_laws.proofs.Maps.{Each, all_entries, made_meets}

abbrev pub SoundAt : IfaceEntry → Expiry → Type 0
SoundAt at expiry = SoundEntry at.entry

-- ---- messages

named_by_group : (iface : IfaceId) (group : Group) → SoundGroup group →
    AllByRecursion (λ (at : IfaceEntry). SoundEntry at.entry)
    (map (λ source. record { iface = iface; entry = entry_of group.group source }) (group.joins ++ group.prunes))
named_by_group iface group sound =
    each_map (λ (at : IfaceEntry). SoundEntry at.entry) (λ (source : JpSource). record { iface = iface; entry = entry_of group.group source })
    (group.joins ++ group.prunes)
    (each_append (λ (source : JpSource). SoundEntry (entry_of group.group source)) group.joins group.prunes sound.joins sound.prunes)

named_sound : (iface : IfaceId) (message : JoinPrune) → SoundMessage message
    → AllByRecursion (λ (at : IfaceEntry). SoundEntry at.entry) (named_in iface message)
named_sound iface message sound =
    each_flat (λ (at : IfaceEntry). SoundEntry at.entry)
    (λ group. map (λ source. record { iface = iface; entry = entry_of group.group source }) (group.joins ++ group.prunes)) message.groups
    (each_weaker SoundGroup (λ group. AllByRecursion (λ (at : IfaceEntry). SoundEntry at.entry)
    (map (λ source. record { iface = iface; entry = entry_of group.group source }) (group.joins ++ group.prunes)))
    (named_by_group iface) message.groups sound)

with_expiries_sound : (expiry : IfaceEntry → Option Expiry) (list : List IfaceEntry) → AllByRecursion (λ at. SoundEntry at.entry) list →
    AllByRecursion (λ e. SoundAt e.0 e.1) (with_expiries expiry list)
with_expiries_sound expiry [] h = tt
with_expiries_sound expiry (at ∷ more) h =
    let rest = with_expiries_sound expiry more h.1 in
    elim (expiry at) as (λ (o : Option Expiry). AllByRecursion (λ e. SoundAt e.0 e.1)
    (elim o [ None ↦ with_expiries expiry more | Some found ↦ (at, found) ∷ with_expiries expiry more ])) [
      | None ↦ rest
      | Some found ↦ (h.0, rest)
    ]

pub applied_sound : (old : Entries) (iface : IfaceId) (message : JoinPrune) (now : ℕ) → Each SoundAt old → SoundMessage message
    → Each SoundAt (applied old iface message now)
applied_sound old iface message now sound heard =
    made_meets entry_cmp_total entry_cmp_exact SoundAt (with_expiries (expiry_then old iface message now) (maps.keys old ++ named_in iface message))
    (with_expiries_sound (expiry_then old iface message now) (maps.keys old ++ named_in iface message)
    (each_append (λ (at : IfaceEntry). SoundEntry at.entry) (maps.keys old) (named_in iface message)
    (each_map (λ (at : IfaceEntry). SoundEntry at.entry) (λ e. e.0) (maps.entries old) (all_entries entry_cmp_total SoundAt old sound))
    (named_sound iface message heard)))

-- ---- timers

passed : (b : Bool) (o : Option Expiry) (expiry : Expiry) → cond b o None ≡ Some expiry → o ≡ Some expiry
passed true o expiry e = e
passed false o expiry e = absurd cc

pub kept_sound : (old : Entries) (now : ℕ) → Each SoundAt old → Each SoundAt (kept_at old now)
kept_sound old now sound at expiry e =
    sound at expiry (passed (counts now (maps.get old at)) (maps.get old at) expiry (sym (get-kept old now at) ∙ e))
