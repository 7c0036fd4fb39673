-- The Join/Prune messages that events hand to an edge are sound.
use Rattle.std.proofs.Common.{◌≡◌, ℕ, List, [], ◌∷◌, ◌++◌, length, Option, Some, None, refl, subst}
use Rattle.std.specs.Prelude.{Result, Ok, Err}
use Rattle.std.specs.Int.{w16, to_be_bytes}
use Rattle.std.specs.List.{AllByRecursion}
use Rattle.mv_base.proofs.framing.Cuts.{IsOctets-before, IsOctets-after}
use Rattle.mv_base.specs.Address.{addr_octets, IsAddr}
use Rattle.mv_base.specs.Octets.{IsOctets}
use Rattle.mv_base.specs.declared.addr.Addr.{Addr}
use Rattle.mv_base.specs.declared.addr.Addr.TheVariants.{V4, V6}
use Rattle.mv_base.specs.declared.ids.IfaceId.{IfaceId}
use Rattle.bgp_values.specs.mvpn_nlri.Spelling.{IsMulticast}
use Rattle.pim_joinprune.specs.Fields.{AreAll}
use Rattle.pim_joinprune.specs.Families.{family_octet, mask_len, family_of, IsOf}
use Rattle.pim_joinprune.specs.Reading.{decoded}
use Rattle.pim_joinprune.specs.Spelling as pim
use Rattle.pim_joinprune.specs.Spelling.{masked, unicast, SpellsSource, SpellsGroup, SpellsFields, Spells}
use Rattle.pim_joinprune.specs.declared.fault.PimFault.{PimFault}
use Rattle.pim_joinprune.specs.declared.group.Group.{Group}
use Rattle.pim_joinprune.specs.declared.message.JoinPrune.{JoinPrune}
use Rattle.pim_joinprune.specs.declared.source.JpSource.{JpSource}
use Rattle.pim_joinprune.specs.declared.source.SourceKind.{SourceKind}
use Rattle.pim_joinprune.specs.declared.source.SourceKind.TheVariants as kinds
use Rattle.pim_joinprune.proofs.Calls.{is_spelled}
use Rattle.scenario_defs.specs.Rules.{group_of}
use Rattle.network_defs.specs.edge_defs.pim_defs.Mention.{entry_by, entry_of}
use Rattle.network_defs.specs.edge_defs.pim_defs.Single.{source_of, join_of, prune_of}
use Rattle.network_defs.specs.mvpn_model.Messages.{own_addr, read_at}
use Rattle.network_defs.specs.mvpn_model.declared.message.Given.{Given}
use Rattle.scenario_defs.specs.declared.event.JoinEntry.{JoinEntry}
use Rattle.scenario_defs.specs.declared.event.JoinEntry.TheVariants as entries
use Rattle.scenario_defs.specs.declared.scenario.Scenario.{Scenario}
use Rattle.bgp_messages.specs.bgp_update.Written.{afi_of}
use Rattle.network_laws.specs.Honest.{SoundGroup, SoundMessage}
use Rattle.network_laws.specs.Sound.{IsGroupAddr, SoundEntry}

-- a message that is handed, if one is
abbrev pub IsSoundGiven : Option Given → Type 0
IsSoundGiven None = Unit {0}
IsSoundGiven (Some given) = SoundMessage given.message

-- ---- messages of one entry

-- The source that names an entry names it again.
named_again : (own : Addr) (entry : JoinEntry) → SoundEntry entry → SoundEntry (entry_of (group_of entry) (source_of own entry))
named_again own (entries.Star group) sound = sound
named_again own (entries.Source source group) sound = sound
named_again own (entries.Rpt source group) sound = sound

pub join_is_sound : (scenario : Scenario) (iface : IfaceId) (entry : JoinEntry) → SoundEntry entry
    → SoundMessage (join_of (own_addr scenario iface) entry)
join_is_sound scenario iface entry sound = (record { joins = (named_again (own_addr scenario iface) entry sound, tt); prunes = tt }, tt)

pub prune_is_sound : (scenario : Scenario) (iface : IfaceId) (entry : JoinEntry) → SoundEntry entry
    → SoundMessage (prune_of (own_addr scenario iface) entry)
prune_is_sound scenario iface entry sound = (record { joins = tt; prunes = (named_again (own_addr scenario iface) entry sound, tt) }, tt)

-- ---- messages that octets spell

spelled_addr : (own addr : Addr) → IsOf (family_of own) addr → IsAddr addr
spelled_addr (V4 own) (V4 octets) is = is
spelled_addr (V6 own) (V6 octets) is = is
spelled_addr (V4 own) (V6 octets) is = absurd is
spelled_addr (V6 own) (V4 octets) is = absurd is

spelled_multicast : (addr : Addr) → pim.BeginsMulticast addr → IsMulticast addr
spelled_multicast (V4 octets) is = is
spelled_multicast (V6 octets) is = is

-- Addresses of one message are of one family.
one_family : (own a b : Addr) → IsOf (family_of own) a → IsOf (family_of own) b → afi_of a ≡ afi_of b
one_family (V4 own) (V4 a) (V4 b) p q = refl
one_family (V4 own) (V4 a) (V6 b) p q = absurd q
one_family (V4 own) (V6 a) b p q = absurd p
one_family (V6 own) (V6 a) (V6 b) p q = refl
one_family (V6 own) (V6 a) (V4 b) p q = absurd q
one_family (V6 own) (V4 a) b p q = absurd p

-- the address after its family, encoding, flags and mask length
masked_octets : (own : Addr) (flags : ℕ) (addr : Addr) (rest : List ℕ) → IsOctets (masked (family_of own) flags addr ++ rest)
    → IsOctets (addr_octets addr)
masked_octets own flags addr rest fits =
    IsOctets-after (family_octet (family_of own) ∷ 0 ∷ flags ∷ mask_len (family_of own) ∷ []) (addr_octets addr)
    (IsOctets-before (masked (family_of own) flags addr) rest fits)

-- What octets that spell elements end to end make of each.
all_spelled : {A : Type 0} (S : A → List ℕ → Type 0) (P : A → Type 0) → ((x : A) (text : List ℕ) → S x text → IsOctets text → P x)
    → (all : List A) (text : List ℕ) → AreAll S all text → IsOctets text → AllByRecursion P all
all_spelled S P meets [] text are fits = tt
all_spelled S P meets (x ∷ more) text (first, others, spells, rest, parts) fits =
    let both : IsOctets (first ++ others) = subst IsOctets parts fits in
    (meets x first spells (IsOctets-before first others both), all_spelled S P meets more others rest (IsOctets-after first others both))

-- a source of the family of that address
abbrev IsSpelled : Addr → JpSource → Type 0
IsSpelled own source = IsOf (family_of own) source.addr × IsOctets (addr_octets source.addr)

source_spelled : (own : Addr) (source : JpSource) (text : List ℕ) → SpellsSource (family_of own) source text → IsOctets text → IsSpelled own source
source_spelled own source text s fits = (
  s.addr,
  IsOctets-after (family_octet (family_of own) ∷ 0 ∷ s.flags ∷ mask_len (family_of own) ∷ []) (addr_octets source.addr)
      (subst IsOctets s.octets fits),
)

-- the entry that a source and a group of that family name
named_entry : (own : Addr) (kind : SourceKind) (addr group : Addr) → IsOf (family_of own) addr → IsOctets (addr_octets addr)
    → IsOf (family_of own) group → IsGroupAddr group → SoundEntry (entry_by kind group addr)
named_entry own kinds.Star addr group is fits of_group sound = sound
named_entry own kinds.Sg addr group is fits of_group sound = ((spelled_addr own addr is, fits), sound, one_family own addr group is of_group)
named_entry own kinds.Rpt addr group is fits of_group sound = ((spelled_addr own addr is, fits), sound, one_family own addr group is of_group)

group_spelled : (own : Addr) (group : Group) (text : List ℕ) → SpellsGroup (family_of own) group text → IsOctets text → SoundGroup group
group_spelled own group text s fits =
    let joined = to_be_bytes w16 (length group.joins) in
    let pruned = to_be_bytes w16 (length group.prunes) in
    let whole : IsOctets (masked (family_of own) s.flags group.group ++ (joined ++ (pruned ++ (s.joins ++ s.prunes)))) =
    subst IsOctets s.octets fits in
    let thereafter : IsOctets (joined ++ (pruned ++ (s.joins ++ s.prunes))) =
    IsOctets-after (masked (family_of own) s.flags group.group) (joined ++ (pruned ++ (s.joins ++ s.prunes))) whole in
    let both : IsOctets (s.joins ++ s.prunes) =
    IsOctets-after pruned (s.joins ++ s.prunes) (IsOctets-after joined (pruned ++ (s.joins ++ s.prunes)) thereafter) in
    let is = s.is.multicast in
    let octets = masked_octets own s.flags group.group (joined ++ (pruned ++ (s.joins ++ s.prunes))) whole in
    let sound : IsGroupAddr group.group = ((spelled_addr own group.group is.0, octets), spelled_multicast group.group is.1) in
    let named : (source : JpSource) → IsSpelled own source → SoundEntry (entry_of group.group source) =
    λ source spelled. named_entry own source.kind source.addr group.group spelled.0 spelled.1 is.0 sound in
    let meets : (source : JpSource) (front : List ℕ) → SpellsSource (family_of own) source front → IsOctets front
    → SoundEntry (entry_of group.group source) = λ source front spells octets. named source (source_spelled own source front spells octets) in
    record {
      joins = all_spelled (SpellsSource (family_of own)) (λ source. SoundEntry (entry_of group.group source)) meets group.joins s.joins s.joined
          (IsOctets-before s.joins s.prunes both);
      prunes = all_spelled (SpellsSource (family_of own)) (λ source. SoundEntry (entry_of group.group source)) meets group.prunes s.prunes s.pruned
          (IsOctets-after s.joins s.prunes both);
    }

fields_spelled : (message : JoinPrune) (text : List ℕ) → SpellsFields message text → IsOctets text → SoundMessage message
fields_spelled message text s fits =
    let held = to_be_bytes w16 message.holdtime in
    let whole : IsOctets (unicast message.neighbour ++ (s.reserved ∷ length message.groups ∷ (held ++ s.groups))) = subst IsOctets s.octets fits in
    let thereafter : IsOctets (held ++ s.groups) =
    IsOctets-after (s.reserved ∷ length message.groups ∷ []) (held ++ s.groups)
    (IsOctets-after (unicast message.neighbour) (s.reserved ∷ length message.groups ∷ (held ++ s.groups)) whole) in
    all_spelled (SpellsGroup (family_of message.neighbour)) SoundGroup (group_spelled message.neighbour) message.groups s.groups s.each
    (IsOctets-after held s.groups thereafter)

message_spelled : (message : JoinPrune) (text : List ℕ) → Spells message text → IsOctets text → SoundMessage message
message_spelled message text s fits =
    fields_spelled message s.fields s.spelled (IsOctets-after (0x23 ∷ s.reserved ∷ to_be_bytes w16 _) s.fields (subst IsOctets s.octets fits))

pub read_is_sound : (iface : IfaceId) (octets : List ℕ) → IsOctets octets → IsSoundGiven (read_at iface octets)
read_is_sound iface octets fits = by (decoded octets) refl
  where
    by : (read : Result JoinPrune (ℕ × PimFault)) → decoded octets ≡ read
        → IsSoundGiven (elim read [ Ok message ↦ Some (record { iface = iface; message = message }) | Err fault ↦ None ])
    by (Ok message) e = message_spelled message octets (is_spelled (Ok message) octets fits e) fits
    by (Err fault) e = tt
