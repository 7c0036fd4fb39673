-- The routes that a peer's spelled UPDATE leaves are sound.
use Rattle.std.proofs.Common.{◌≡◌, ◌+◌, ℕ, Bool, true, false, cond, List, [], ◌∷◌, ◌++◌, Option, Some, None, refl, sym, subst}
use Rattle.std.specs.List.{AllByRecursion, fold}
use Rattle.std.specs.Int.{w16, to_be_bytes}
use Rattle.std.specs.Prelude.{length}
use Rattle.std.specs.FinMap as maps
use Rattle.mv_base.specs.Octets.{IsOctets}
use Rattle.mv_base.proofs.framing.Cuts.{IsOctets-before, IsOctets-after}
use Rattle.bgp_values.specs.declared.pmsi_attr.pmsi.Pmsi.{Pmsi}
use Rattle.mv_base.specs.declared.route_targets.communities.ExtComm.{ExtComm}
use Rattle.bgp_messages.specs.bgp_attributes.Spelling as attributes
use Rattle.bgp_messages.specs.declared.bgp_attributes.attribute.Attribute.{Attribute}
use Rattle.bgp_messages.specs.declared.bgp_attributes.attribute.Attribute.TheVariants.{Reach, Unreach, Communities, Tunnel, Passed}
use Rattle.bgp_messages.specs.declared.bgp_attributes.key.Key.{Key}
use Rattle.bgp_messages.specs.declared.bgp_attributes.update.Advert.{Advert}
use Rattle.bgp_messages.specs.declared.bgp_attributes.update.Change.{Change}
use Rattle.bgp_messages.specs.declared.bgp_attributes.update.Change.TheVariants as changes
use Rattle.bgp_messages.specs.declared.bgp_attributes.update.Message.{Message}
use Rattle.bgp_messages.specs.declared.bgp_attributes.update.Message.TheVariants as messages
use Rattle.bgp_messages.specs.declared.bgp_attributes.update.Update.{Update}
use Rattle.bgp_messages.specs.bgp_update.Spelling.{header, SpellsBody, SpellsMessage, Means}
use Rattle.bgp_messages.specs.bgp_update.Table.{announced, unannounced, changes_of}
use Rattle.network_defs.specs.edge_defs.Edge.{TakenRoute, Taken}
use Rattle.network_defs.specs.edge_defs.Keys.{Value, same_value}
use Rattle.network_defs.specs.edge_defs.Steps.{learned, taken_change}
use Rattle.network_laws.specs.Sound.{AreEight, SoundKey, SoundValue, SoundTaken}
use Rattle.network_laws.proofs.Lists.{each_append, each_of, each_map, each_flat, each_weaker}
use Rattle.network_laws.proofs.Maps.{put_meets, cut_meets}
use Rattle.network_defs.proofs.edge_defs.KeyLemmas.{key_total, key_exact}
use Rattle.network_laws.proofs.ControlFlows.{SoundRoute}
use Rattle.network_laws.proofs.ControlSpelled.{SoundTunnel, SoundAttribute, attributes_sound, comms_of_sound, pmsi_of_sound}

-- ---- changes

abbrev SoundAdvert : Advert → Type 0
SoundAdvert advert = SoundKey advert.key × SoundValue (record { next_hop = advert.next_hop; comms = advert.comms; pmsi = advert.pmsi })

abbrev pub SoundChange : Change → Type 0
SoundChange (changes.Reach advert) = SoundAdvert advert
SoundChange (changes.Unreach key) = Unit {0}

adverts_sound : (comms : List ExtComm) (pmsi : Option Pmsi) (attribute : Attribute) → AllByRecursion (λ comm. AreEight comm.0) comms
    → SoundTunnel pmsi → SoundAttribute attribute →
    AllByRecursion SoundAdvert (attributes.adverts_in comms pmsi attribute)
adverts_sound comms pmsi (Reach (Some reachable)) eight tunnel h =
    each_map SoundAdvert (λ key. record { key = key; next_hop = reachable.next_hop; comms = comms; pmsi = pmsi }) reachable.keys
    (each_weaker SoundKey (λ key. SoundAdvert (record { key = key; next_hop = reachable.next_hop; comms = comms; pmsi = pmsi }))
    (λ key k. (k, record { comms = eight; tunnel = tunnel })) reachable.keys h)
adverts_sound comms pmsi (Reach None) eight tunnel h = tt
adverts_sound comms pmsi (Unreach keys) eight tunnel h = tt
adverts_sound comms pmsi (Communities other) eight tunnel h = tt
adverts_sound comms pmsi (Tunnel other) eight tunnel h = tt
adverts_sound comms pmsi (Passed kind) eight tunnel h = tt

reach_sound : (list : List Attribute) → AllByRecursion SoundAttribute list → AllByRecursion SoundAdvert (attributes.update_of list).reach
reach_sound list h =
    each_flat SoundAdvert (attributes.adverts_in (attributes.comms_of list) (attributes.pmsi_of list)) list
    (each_weaker SoundAttribute (λ attribute. AllByRecursion SoundAdvert
    (attributes.adverts_in (attributes.comms_of list) (attributes.pmsi_of list) attribute))
    (λ attribute. adverts_sound (attributes.comms_of list) (attributes.pmsi_of list) attribute (comms_of_sound list h) (pmsi_of_sound list h)) list h)

update_sound : (update : Update) → AllByRecursion SoundAdvert update.reach → AllByRecursion SoundChange (changes_of (messages.Update update))
update_sound update h =
    each_append SoundChange (unannounced update.unreach) (announced update.reach)
    (each_map SoundChange (λ (key : Key). changes.Unreach key) update.unreach (each_of (λ (key : Key). Unit {0}) (λ key. tt) update.unreach))
    (each_map SoundChange (λ (advert : Advert). changes.Reach advert) update.reach h)

body_sound : (update : Update) (body : List ℕ) → SpellsBody update body → IsOctets body
    → AllByRecursion SoundChange (changes_of (messages.Update update))
body_sound update body s fits =
    let whole = subst IsOctets s.parts fits in
    let lens =
    IsOctets-after (to_be_bytes w16 (length s.withdrawn)) (s.withdrawn ++ (to_be_bytes w16 (length s.list) ++ (s.list ++ s.rest))) whole in
    let len = IsOctets-after s.withdrawn (to_be_bytes w16 (length s.list) ++ (s.list ++ s.rest)) lens in
    let list = IsOctets-before s.list s.rest (IsOctets-after (to_be_bytes w16 (length s.list)) (s.list ++ s.rest) len) in
    let sound = attributes_sound [] s.list s.spelled.0 [] s.spelled.1 list in
    update_sound update (subst (λ (own : Update). AllByRecursion SoundAdvert own.reach) (sym s.spelled.2) (reach_sound s.spelled.0 sound))

means_sound : (message : Message) (kind : ℕ) (body : List ℕ) → Means message kind body → IsOctets body
    → AllByRecursion SoundChange (changes_of message)
means_sound (messages.Update update) kind body means fits = body_sound update body means.1 fits
means_sound (messages.Other number) kind body means fits = tt

-- The changes of a message that is spelled in octets are sound.
pub changes_sound : (message : Message) (text : List ℕ) → SpellsMessage (message ∷ []) text → IsOctets text
    → AllByRecursion SoundChange (changes_of message)
changes_sound message text s fits =
    let same : message ≡ s.message = first message s.message s.one in
    subst (λ (own : Message). AllByRecursion SoundChange (changes_of own)) (sym same)
    (means_sound s.message s.kind s.body s.means (IsOctets-after (header (19 + length s.body) s.kind) s.body (subst IsOctets s.parts fits)))
  where
    first : (a b : Message) → a ∷ [] ≡ b ∷ [] → a ≡ b
    first a b e = cc

-- ---- tables

learned_sound : (now : ℕ) (value : Value) (o : Option TakenRoute) → SoundValue value
    → ((route : TakenRoute) → o ≡ Some route → SoundValue route.value) → SoundValue (learned now value o).value
learned_sound now value None new old = new
learned_sound now value (Some route) new old = either (same_value route.value value)
  where
    either : (b : Bool) → SoundValue (cond b route (record { value = value; since = now; run = false })).value
    either true = old route refl
    either false = new

taken_change_sound : (now : ℕ) (taken : Taken) (change : Change) → SoundTaken taken → SoundChange change → SoundTaken (taken_change now taken change)
taken_change_sound now taken (changes.Reach advert) old new =
    let value : Value = record { next_hop = advert.next_hop; comms = advert.comms; pmsi = advert.pmsi } in
    put_meets key_total key_exact SoundRoute taken advert.key (learned now value (maps.get taken advert.key)) old
    (new.0, learned_sound now value (maps.get taken advert.key) new.1 (λ route e. (old advert.key route e).1))
taken_change_sound now taken (changes.Unreach key) old new = cut_meets key_total key_exact SoundRoute taken key old

pub all_changes_sound : (now : ℕ) (taken : Taken) (list : List Change) → SoundTaken taken → AllByRecursion SoundChange list
    → SoundTaken (fold (taken_change now) taken list)
all_changes_sound now taken [] old new = old
all_changes_sound now taken (change ∷ list) old new =
    all_changes_sound now (taken_change now taken change) list (taken_change_sound now taken change old new.0) new.1
