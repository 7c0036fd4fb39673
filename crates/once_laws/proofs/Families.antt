-- Entries that count are of one family: an edge keeps no others, and those that count are told by the events.
use Rattle.std.proofs.Common.{◌≡◌, ℕ, true, List, Option, Some, None, refl, sym, ◌∙◌}
use Rattle.std.specs.FinMap as maps
use Rattle.std.proofs.lemmas.Bool.{true≢false}
use Rattle.std.proofs.lemmas.Option.{none-some}
use Rattle.mv_base.specs.declared.addr.Addr.{Addr}
use Rattle.mv_base.specs.declared.addr.Addr.TheVariants.{V4, V6}
use Rattle.mv_base.specs.declared.ids.IfaceId.{IfaceId}
use Rattle.scenario_defs.specs.Rules.{Rises, AreOfOneFamily}
use Rattle.scenario_defs.specs.declared.event.IfaceEntry.{IfaceEntry}
use Rattle.scenario_defs.specs.declared.event.JoinEntry.{JoinEntry}
use Rattle.scenario_defs.specs.declared.event.JoinEntry.TheVariants as entries
use Rattle.scenario_defs.specs.declared.event.Script.{Script}
use Rattle.scenario_defs.specs.declared.event.Timed.{Timed}
use Rattle.pim_defs.specs.Entries.{entry_cmp, expiry_at}
use Rattle.pim_defs.specs.Expiry.{counts}
use Rattle.pim_defs.specs.declared.expiry.Expiry.{Expiry}
use Rattle.bgp_messages.specs.bgp_update.Written.{afi_of}
use Rattle.delivery_laws.specs.Once.{past_of}
use Rattle.network_defs.specs.Costs.{Cores}
use Rattle.network_defs.specs.Nodes.{NodeState, Edge, CoreNode}
use Rattle.network_defs.specs.Refusals.{control_of}
use Rattle.network_defs.specs.Run.{Traced}
use Rattle.network_defs.specs.World.{World, clock_of}
use Rattle.network_laws.specs.Sound.{SoundEntry, SoundNode}
use Rattle.network_laws.specs.SoundRun.{SoundRun}
use Rattle.network_laws.proofs.RunEvents.{run_stays}
use Rattle.once_laws.specs.Families.{IsOfOneFamily, EntriesAreOfOneFamily}
use Rattle.once_laws.proofs.StandRuns.{entries_told}

one_afi : (source group : Addr) → afi_of source ≡ afi_of group → AreOfOneFamily source group
one_afi (V4 s) (V4 g) e = tt
one_afi (V6 s) (V6 g) e = tt
one_afi (V4 s) (V6 g) e = absurd cc
one_afi (V6 s) (V4 g) e = absurd cc

sound_family : (entry : JoinEntry) → SoundEntry entry → IsOfOneFamily entry
sound_family (entries.Star group) sound = tt
sound_family (entries.Source source group) sound = one_afi source group sound.2
sound_family (entries.Rpt source group) sound = one_afi source group sound.2

counted_there : (clock : ℕ) (found : Option Expiry) → counts clock found ≡ true → (expiry : Expiry) × (found ≡ Some expiry)
counted_there clock None c = absurd (true≢false (sym c))
counted_there clock (Some expiry) c = (expiry, refl)

-- an entry that a node keeps is sound
kept_sound : (node : NodeState) (iface : IfaceId) (entry : JoinEntry) (expiry : Expiry) → SoundNode node
    → expiry_at (control_of node).entries iface entry ≡ Some expiry → SoundEntry entry
kept_sound (Edge edge) iface entry expiry sound e = sound.0.entries (record { iface = iface; entry = entry }) expiry e
kept_sound (CoreNode part) iface entry expiry sound e =
    let at : IfaceEntry = record { iface = iface; entry = entry } in
    absurd (none-some expiry (sym (maps.get-empty entry_cmp at) ∙ e))

pub one_family_kept : (cores : Cores) (script : Script) (events : List Timed) (trace : List Traced) (world : World)
    → SoundRun cores script events trace world → Rises 0 events → EntriesAreOfOneFamily (past_of script.scenario events trace) world
one_family_kept cores script events trace world sound rises iface n entry at counted =
    let told = entries_told cores script.scenario events trace world sound.scenario.rules rises sound.run in
    let stays = run_stays script.scenario cores events trace world sound.scenario sound.sound_events sound.run in
    let there =
    counted_there (clock_of world) (expiry_at (control_of (world.network.state.node n)).entries iface entry)
    (sym (told.counted iface n entry at) ∙ counted) in
    sound_family entry (kept_sound (world.network.state.node n) iface entry there.0 (stays.0.node n) there.1)
