-- The messages of BGP and LDP that are spelled can be told.
use Rattle.std.proofs.Common.{ℕ, List, [], ◌∷◌, ◌++◌, Option, Some, None, sym, subst}
use Rattle.std.specs.List.{flat_map, AllByRecursion}
use Rattle.mv_base.specs.framing.Parts.{ArePartsAfter}
use Rattle.mv_base.specs.declared.route_targets.communities.ExtComm.{ExtComm}
use Rattle.bgp_values.specs.declared.pmsi_attr.pmsi.Pmsi.{Pmsi}
use Rattle.bgp_values.proofs.pmsi_attr.PmsiLemmas.{written_spells}
use Rattle.bgp_messages.specs.declared.bgp_attributes.key.Key.{Key}
use Rattle.bgp_messages.specs.declared.bgp_attributes.update.Advert.{Advert}
use Rattle.bgp_messages.specs.declared.bgp_attributes.update.Update.{Update}
use Rattle.bgp_messages.specs.declared.bgp_attributes.update.Message.{Message}
use Rattle.bgp_messages.specs.declared.bgp_attributes.update.Message.TheVariants as messages
use Rattle.bgp_messages.specs.declared.bgp_attributes.attribute.Attribute.{Attribute}
use Rattle.bgp_messages.specs.declared.bgp_attributes.attribute.Attribute.TheVariants.{Reach, Unreach, Communities, Tunnel, Passed}
use Rattle.bgp_messages.specs.bgp_attributes.Spelling.{SpellsAttribute, IsNew, Spells, pmsi_of, comms_of, adverts_in}
use Rattle.bgp_messages.specs.declared.bgp_attributes.fault.StreamFault.{StreamFault}
use Rattle.bgp_messages.specs.bgp_update.FirstFault.{UnitFault}
use Rattle.bgp_messages.specs.bgp_update.Spelling.{SpellsMessage, Means}
use Rattle.mldp.specs.declared.mldp_msgs.message.LabelMessage.{LabelMessage}
use Rattle.value_text.specs.MessageText.{HasOctets, IsTellable}
use Rattle.bgp_messages.specs.bgp_update.Reading.{message_front}
use Rattle.bgp_messages.proofs.bgp_update.Messages.{message_format}
use Rattle.mldp.specs.mldp_msgs.FirstFault.{PduFault}
use Rattle.mldp.specs.mldp_msgs.Reading.{pdu_front}
use Rattle.mldp.specs.mldp_msgs.Spelling.{SpellsPdu}
use Rattle.mldp.proofs.mldp_msgs.Pdus.{pdu_format}
use Rattle.decode_text.specs.Sessions.{IsSession}
use Rattle.decode_text.proofs.SessionLemmas.{is_session}
use Rattle.decode_text.proofs.TellLemmas.{all_append}

-- the tunnel among attributes that are spelled has octets
tunnel_has : (before : List Attribute) (octets : List ℕ) (attributes : List Attribute) (rest : List ℕ)
    → ArePartsAfter SpellsAttribute IsNew before octets attributes rest → HasOctets (pmsi_of attributes)
tunnel_has before octets [] rest h = tt
tunnel_has before octets (Tunnel pmsi ∷ attributes) rest (text, after, spells, is, parts, more) = written_spells pmsi spells.value spells.means
tunnel_has before octets (Reach r ∷ attributes) rest (text, after, spells, is, parts, more) =
    tunnel_has (before ++ Reach r ∷ []) after attributes rest more
tunnel_has before octets (Unreach ks ∷ attributes) rest (text, after, spells, is, parts, more) =
    tunnel_has (before ++ Unreach ks ∷ []) after attributes rest more
tunnel_has before octets (Communities comms ∷ attributes) rest (text, after, spells, is, parts, more) =
    tunnel_has (before ++ Communities comms ∷ []) after attributes rest more
tunnel_has before octets (Passed kind ∷ attributes) rest (text, after, spells, is, parts, more) =
    tunnel_has (before ++ Passed kind ∷ []) after attributes rest more

keys_have : (next_hop : _) (comms : List ExtComm) (pmsi : Option Pmsi) (ks : List Key) → HasOctets pmsi
    → AllByRecursion (λ (a : Advert). HasOctets a.pmsi) (adverts_in comms pmsi (Reach (Some (record { next_hop = next_hop; keys = ks }))))
keys_have next_hop comms pmsi [] h = tt
keys_have next_hop comms pmsi (k ∷ ks) h = (h, keys_have next_hop comms pmsi ks h)

adverts_have : (comms : List ExtComm) (pmsi : Option Pmsi) (a : Attribute) → HasOctets pmsi
    → AllByRecursion (λ (a : Advert). HasOctets a.pmsi) (adverts_in comms pmsi a)
adverts_have comms pmsi (Reach (Some r)) h = keys_have r.next_hop comms pmsi r.keys h
adverts_have comms pmsi (Reach None) h = tt
adverts_have comms pmsi (Unreach ks) h = tt
adverts_have comms pmsi (Communities cs) h = tt
adverts_have comms pmsi (Tunnel p) h = tt
adverts_have comms pmsi (Passed kind) h = tt

all_have : (comms : List ExtComm) (pmsi : Option Pmsi) (attributes : List Attribute) → HasOctets pmsi
    → AllByRecursion (λ (a : Advert). HasOctets a.pmsi) (flat_map (adverts_in comms pmsi) attributes)
all_have comms pmsi [] h = tt
all_have comms pmsi (a ∷ attributes) h =
    all_append (λ (a : Advert). HasOctets a.pmsi) (adverts_in comms pmsi a) (flat_map (adverts_in comms pmsi) attributes)
    (adverts_have comms pmsi a h) (all_have comms pmsi attributes h)

update_tellable : (u : Update) (octets : List ℕ) → Spells u octets → AllByRecursion (λ (a : Advert). HasOctets a.pmsi) u.reach
update_tellable u octets (attributes, are, is) =
    subst (λ (v : Update). AllByRecursion (λ (a : Advert). HasOctets a.pmsi) v.reach) (sym is)
    (all_have (comms_of attributes) (pmsi_of attributes) attributes (tunnel_has [] octets attributes [] are))

message_tellable : (m : Message) (kind : ℕ) (body : List ℕ) → Means m kind body → IsTellable m
message_tellable (messages.Update u) kind body h = update_tellable u h.1.list h.1.spelled
message_tellable (messages.Other k) kind body h = subst (λ (n : ℕ). IsTellable (messages.Other n)) h.0 h.1

-- Messages of BGP that are spelled can be told.
pub bgp_tellable : (ms : List Message) (text : List ℕ) → SpellsMessage ms text → AllByRecursion IsTellable ms
bgp_tellable ms text s = subst (AllByRecursion IsTellable) (sym s.one) (message_tellable s.message s.kind s.body s.means, tt)

-- No message of BGP stands before the fault of another.
pub none_before : (octets : List ℕ) (ms : List Message) (offset : ℕ) (e : StreamFault) → UnitFault octets ms offset e → AllByRecursion IsTellable ms
none_before octets ms offset e h = subst (AllByRecursion IsTellable) (sym h.0) tt

-- Label messages can be told.
pub ldp_tellable : (ms : List LabelMessage) → AllByRecursion (λ (m : LabelMessage). Unit {0}) ms
ldp_tellable [] = tt
ldp_tellable (m ∷ ms) = (tt, ldp_tellable ms)

-- What the words of a session of BGP meet.
pub bgp_session : IsSession SpellsMessage UnitFault IsTellable
bgp_session = is_session message_front SpellsMessage UnitFault 4096 message_format IsTellable bgp_tellable none_before

-- What the words of a session of LDP meet.
pub ldp_session : IsSession SpellsPdu PduFault (λ (m : LabelMessage). Unit {0})
ldp_session =
    is_session pdu_front SpellsPdu PduFault 4100 pdu_format (λ (m : LabelMessage). Unit {0}) (λ ms text s. ldp_tellable ms)
    (λ octets ms offset e f. ldp_tellable ms)
