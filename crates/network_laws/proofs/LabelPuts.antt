-- What the label steps of a node put is spelled, and its label part stays sound.
use Rattle.std.proofs.Common.{◌≡◌, ℕ, zero, suc, ◌<◌, ◌≤◌, None, replicate, List, [], ◌∷◌, map, length, Option, Some, None, refl, sym, ap, subst}
use Rattle.std.specs.List.{AllByRecursion, flat_map}
use Rattle.std.specs.FinMap as maps
use Rattle.std.specs.FinSet as sets
use Rattle.std.specs.FinMap.{FinMap}
use Rattle.std.proofs.lemmas.Option.{same_Some}
use Rattle.mv_base.specs.Address.{addr_octets}
use Rattle.mv_base.specs.Octets.{IsOctets}
use Rattle.mv_base.specs.Number.{◌>>?◌}
use Rattle.mv_base.specs.declared.addr.Addr.{Addr}
use Rattle.scenario_defs.specs.declared.scenario.Scenario.{Scenario}
use Rattle.mv_base.specs.declared.ids.NodeId.{NodeId}
use Rattle.mldp.proofs.mldp_msgs.Writings.{pdu_spelled}
use Rattle.label_defs.specs.declared.label_use.LabelUse.TheVariants as uses
use Rattle.label_defs.specs.Keys.{fec_cmp, branch_cmp, node_cmp}
use Rattle.label_defs.specs.LabelData.{Place, LabelData, fresh}
use Rattle.label_defs.specs.Settling.{Stepped}
use Rattle.label_defs.specs.Steps.{Call, effect, told, numbered, label_step}
use Rattle.label_defs.specs.declared.end.End.{End}
use Rattle.label_defs.specs.declared.put.Put as labels
use Rattle.label_defs.proofs.SettleLemmas.{bind_some}
use Rattle.network_defs.specs.session_defs.Message.{IsPut}
use Rattle.network_defs.specs.session_defs.System.{Put}
use Rattle.network_defs.specs.edge_defs.Place.{EdgePlace, addr_of, label_place}
use Rattle.network_defs.specs.edge_defs.Steps.{LabelStep, label_row, part_after}
use Rattle.network_defs.specs.node_defs.Puts.{label_put, label_puts}
use Rattle.network_laws.specs.Sound.{SoundScenario, SoundUse, SoundPart}
use Rattle.network_laws.proofs.BgpOctets.{host_length, host_octets}
use Rattle.network_laws.proofs.BgpPlaces.{addr_host}
use Rattle.network_laws.proofs.Lists.{each_flat, each_weaker}
use Rattle.network_laws.proofs.LabelSound.{IsSoundLabelCall, IsSoundPut, pdu_octets}
use Rattle.network_laws.proofs.LabelEffects.{step_sound}

-- ---- a node in which nothing has happened

all_free : (count : ℕ) → (length (replicate count uses.Free) ≡ count) × AllByRecursion SoundUse (replicate count uses.Free)
all_free zero = (refl, tt)
all_free (suc count) = (let rest = all_free count in (ap suc rest.0, (tt, rest.1)))

pub fresh_part_is_sound : (count : ℕ) → count ≤ 65536 → SoundPart (fresh count)
fresh_part_is_sound count few =
    let all = all_free count in
    record {
      few = subst (λ n. n ≤ 65536) (sym all.0) few;
      uses = all.1;
      branches = λ branch e. (let none = sets.contains-empty branch_cmp branch in absurd cc);
      leaves = λ fec e. (let none = sets.contains-empty fec_cmp fec in absurd cc);
      waiting = λ fec e. (let none = sets.contains-empty fec_cmp fec in absurd cc);
    }

-- ---- one step

pub part_stays_sound : (place : Place) (now : ℕ) (part : LabelData) (call : Call) (new : Stepped) → SoundPart part → IsSoundLabelCall call
    → label_step place now part call ≡ Some new → SoundPart new.part
part_stays_sound place now part call new s c e = (step_sound place now part call new s c e).0

pub puts_are_sound : (place : Place) (now : ℕ) (part : LabelData) (call : Call) (new : Stepped) → SoundPart part → IsSoundLabelCall call
    → label_step place now part call ≡ Some new → AllByRecursion IsSoundPut new.puts
puts_are_sound place now part call new s c e = (step_sound place now part call new s c e).1

-- ---- octets

-- the address of a router, in octets
abbrev pub IsRouterAddr : Addr → Type 0
IsRouterAddr addr = (length (addr_octets addr) ≡ 4) × IsOctets (addr_octets addr)

-- that of a node of the scenario
pub node_addr_is_router : (scenario : Scenario) (n : NodeId) → SoundScenario scenario → n.0 < length scenario.nodes
    → IsRouterAddr (addr_of scenario n)
node_addr_is_router scenario n s within =
    (let host = addr_host scenario s n within in (host_length (addr_of scenario n) host, host_octets (addr_of scenario n) host))

-- what is put is spelled
abbrev pub IsSpelledPut : Put → Type 0
IsSpelledPut put = IsPut put.over.kind put.unit.messages put.unit.octets

put_spelled : (n : NodeId) (addr : Addr) (id : ℕ) (put : labels.Put) → IsRouterAddr addr → IsSoundPut put
    → IsSpelledPut (label_put n addr (record { id = id; put = put }))
put_spelled n addr id put router sound =
    ((put.message ∷ [], refl, pdu_spelled addr id put.message sound.0 router.0), pdu_octets addr id put.message router.1 sound.1)

numbered_spelled : (n : NodeId) (addr : Addr) (ends : FinMap node_cmp End) (puts : List labels.Put) → IsRouterAddr addr
    → AllByRecursion IsSoundPut puts → AllByRecursion IsSpelledPut (map (label_put n addr) (numbered ends puts))
numbered_spelled n addr ends [] router sound = tt
numbered_spelled n addr ends (put ∷ more) router sound =
    elim (maps.get ends put.to) as (λ (o : Option End). AllByRecursion IsSpelledPut
    (map (label_put n addr) (elim o [
      | None ↦ numbered ends more
      | Some end ↦
          record { id = end.next; put = put } ∷ numbered (maps.insert ends put.to (told end)) more
    ]))) [
      | None ↦ numbered_spelled n addr ends more router sound.1
      | Some end ↦ (put_spelled n addr end.next put router sound.0, numbered_spelled n addr (maps.insert ends put.to (told end)) more router sound.1)
    ]

pub label_puts_are_put : (n : NodeId) (addr : Addr) (place : Place) (now : ℕ) (step : LabelStep) → IsRouterAddr addr
    → AllByRecursion IsSoundPut step.new.puts → AllByRecursion (λ (put : Put). IsPut put.over.kind put.unit.messages put.unit.octets)
    (label_puts n addr place now step)
label_puts_are_put n addr place now step router sound =
    numbered_spelled n addr (effect place now step.old step.call).0.part.ends step.new.puts router sound

-- ---- a row of steps

-- what a step of a row put is sound
abbrev pub PutsSound : LabelStep → Type 0
PutsSound step = AllByRecursion IsSoundPut step.new.puts

pub row_stays_sound : (place : EdgePlace) (now : ℕ) (part : LabelData) (calls : List Call) (row : List LabelStep) → SoundPart part
    → AllByRecursion IsSoundLabelCall calls → label_row place now part calls ≡ Some row
    → SoundPart (part_after part row) × AllByRecursion PutsSound row
row_stays_sound place now part [] row s c e =
    subst (λ (steps : List LabelStep). SoundPart (part_after part steps) × AllByRecursion PutsSound steps) (same_Some [] row e) (s, tt)
row_stays_sound place now part (call ∷ more) row s c e =
    let own = label_place place.scenario place.core place.me in
    let first =
    bind_some (label_step own now part call) (λ new. label_row place now new.part more >>? λ thereafter. Some
    (record { old = part; call = call; new = new } ∷ thereafter)) row e in
    let rest =
    bind_some (label_row place now first.0.part more) (λ thereafter. Some (record { old = part; call = call; new = first.0 } ∷ thereafter)) row first.2 in
    let now_sound = step_sound own now part call first.0 s c.0 first.1 in
    let then_sound = row_stays_sound place now first.0.part more rest.0 now_sound.0 c.1 rest.1 in
    subst (λ (steps : List LabelStep). SoundPart (part_after part steps) × AllByRecursion PutsSound steps)
    (same_Some (record { old = part; call = call; new = first.0 } ∷ rest.0) row rest.2) (then_sound.0, (now_sound.1, then_sound.1))

-- what a row of such steps puts is spelled
pub row_puts_are_put : (n : NodeId) (addr : Addr) (place : Place) (now : ℕ) (row : List LabelStep) → IsRouterAddr addr → AllByRecursion PutsSound row
    → AllByRecursion IsSpelledPut (flat_map (label_puts n addr place now) row)
row_puts_are_put n addr place now row router sound =
    each_flat IsSpelledPut (label_puts n addr place now) row
    (each_weaker PutsSound (λ step. AllByRecursion IsSpelledPut (label_puts n addr place now step))
    (λ step own. label_puts_are_put n addr place now step router own) row sound)
