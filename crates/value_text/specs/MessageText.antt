-- The text of messages of sessions: the lines of each message, and the words of faults.
use Rattle.std.specs.Prelude.{◌≡◌, ◌⊎◌, ℕ, List, [], ◌∷◌, ◌++◌, codes, Option, None, Some, ◌==◌, if◌then◌else◌, ⊤}
use Rattle.std.specs.List.{flat_map, AllByRecursion}
use Rattle.std.specs.Fmt.{decimal}
use Rattle.hex.specs.Hex.{encode_lower}
use Rattle.mv_base.specs.declared.prefix.Prefix.{Prefix}
use Rattle.mv_base.specs.declared.rd.Rd.{Rd}
use Rattle.bgp_values.specs.declared.mvpn_nlri.route.Afi.{Afi}
use Rattle.bgp_values.specs.declared.mvpn_nlri.route.Afi.TheVariants.{Ipv4, Ipv6}
use Rattle.mv_base.specs.declared.route_targets.communities.ExtComm.{ExtComm}
use Rattle.bgp_values.specs.declared.pmsi_attr.pmsi.Pmsi.{Pmsi}
use Rattle.bgp_values.specs.pmsi_attr.Spelling as pmsis
use Rattle.bgp_messages.specs.declared.bgp_attributes.fault.StreamFault.{StreamFault}
use Rattle.bgp_messages.specs.declared.bgp_attributes.fault.StreamFault.TheVariants as bgp_reasons
use Rattle.bgp_messages.specs.declared.bgp_attributes.key.Key.{Key}
use Rattle.bgp_messages.specs.declared.bgp_attributes.key.Key.TheVariants as keys
use Rattle.bgp_messages.specs.declared.bgp_attributes.update.Advert.{Advert}
use Rattle.bgp_messages.specs.declared.bgp_attributes.update.Message.{Message}
use Rattle.bgp_messages.specs.declared.bgp_attributes.update.Message.TheVariants as messages
use Rattle.mldp.specs.declared.mldp_fec.fec.Fec.{Fec}
use Rattle.mldp.specs.declared.mldp_msgs.fault.LdpFault.{LdpFault}
use Rattle.mldp.specs.declared.mldp_msgs.fault.LdpFault.TheVariants as ldp_reasons
use Rattle.mldp.specs.declared.mldp_msgs.message.LabelMessage.{LabelMessage}
use Rattle.mldp.specs.declared.mldp_msgs.message.LabelMessage.TheVariants.{Mapping, Withdraw, Release, Ignored}
use Rattle.value_text.specs.ValueText.{addr_text, fec_text, fec_word, pmsi_word, route_text, route_word}

-- ---- BGP

-- an address, and a number of bits after `/`
abbrev pub prefix_text : Prefix → List ℕ
prefix_text prefix = addr_text prefix.addr ++ codes "/" ++ decimal prefix.bits

-- the word of the family of MCAST-VPN routes
abbrev pub family_text : Afi → List ℕ
family_text Ipv4 = codes "ipv4 "
family_text Ipv6 = codes "ipv6 "

-- a unicast route
abbrev pub unicast_text : Rd → Prefix → List ℕ
unicast_text rd prefix = codes "unicast " ++ encode_lower rd.0 ++ codes " " ++ prefix_text prefix

-- what a route is announced and withdrawn by
abbrev pub nlri_text : Key → List ℕ
nlri_text (keys.Mcast afi route) = family_text afi ++ route_text route
nlri_text (keys.Unicast rd prefix) = unicast_text rd prefix

-- communities after the first one
abbrev pub more_text : List ExtComm → List ℕ
more_text comms = flat_map (λ c. codes "," ++ encode_lower c.0) comms

-- communities with commas between them, or `-` for none
abbrev pub comms_text : List ExtComm → List ℕ
comms_text [] = codes "-"
comms_text (c ∷ comms) = encode_lower c.0 ++ more_text comms

-- the octets of a tunnel attribute's value, or `-` for none
abbrev pub attribute_text : Option Pmsi → List ℕ
attribute_text None = codes "-"
attribute_text (Some pmsi) = encode_lower (pmsis.written pmsi)

-- the line of an announced route: next hop, communities, tunnel, and what it is announced by
abbrev pub reach_line : Advert → List ℕ
reach_line a =
    codes "reach " ++ addr_text a.next_hop ++ codes " " ++ comms_text a.comms ++ codes " " ++
    attribute_text a.pmsi ++ codes " " ++ nlri_text a.key ++ codes "\n"

-- the line of a withdrawn route
abbrev pub unreach_line : Key → List ℕ
unreach_line key = codes "unreach " ++ nlri_text key ++ codes "\n"

-- the line of a message that is passed over, by its type
abbrev pub other_line : ℕ → List ℕ
other_line kind =
    if kind == 1 then codes "open\n" else
    if kind == 3 then codes "notification\n" else
    if kind == 4 then codes "keepalive\n" else codes "refresh\n"

-- the lines of a message: of an UPDATE its announced routes, and then its withdrawn ones
abbrev pub message_lines : Message → List ℕ
message_lines (messages.Update u) = codes "update\n" ++ flat_map reach_line u.reach ++ flat_map unreach_line u.unreach
message_lines (messages.Other kind) = other_line kind

-- the tunnel has octets
abbrev pub HasOctets : Option Pmsi → Type 0
HasOctets None = ⊤
HasOctets (Some pmsi) = pmsis.Spells pmsi (pmsis.written pmsi)

-- the tunnels of an UPDATE have octets, and any other message is of a type that has a line
abbrev pub IsTellable : Message → Type 0
IsTellable (messages.Update u) = AllByRecursion (λ a. HasOctets a.pmsi) u.reach
IsTellable (messages.Other kind) = (kind ≡ 1) ⊎ ((kind ≡ 3) ⊎ ((kind ≡ 4) ⊎ (kind ≡ 5)))

-- the word of a fault
abbrev pub bgp_word : StreamFault → List ℕ
bgp_word bgp_reasons.Marker = codes "marker"
bgp_word bgp_reasons.MessageLength = codes "message-length"
bgp_word bgp_reasons.MessageType = codes "message-type"
bgp_word bgp_reasons.AttributeList = codes "attribute-list"
bgp_word bgp_reasons.AttributeLength = codes "attribute-length"
bgp_word bgp_reasons.NextHop = codes "next-hop"
bgp_word (bgp_reasons.Route reason) = codes "route." ++ route_word reason
bgp_word (bgp_reasons.Pmsi reason) = codes "pmsi." ++ pmsi_word reason
bgp_word bgp_reasons.Prefix = codes "prefix"

-- ---- LDP

-- a label and a FEC element after the word of the message
abbrev pub label_line : List ℕ → ℕ → Fec → List ℕ
label_line word label fec = word ++ decimal label ++ codes " " ++ fec_text fec ++ codes "\n"

-- the line of a label message
abbrev pub label_message_line : LabelMessage → List ℕ
label_message_line (Mapping fec label) = label_line (codes "mapping ") label fec
label_message_line (Withdraw fec label) = label_line (codes "withdraw ") label fec
label_message_line (Release fec label) = label_line (codes "release ") label fec
label_message_line (Ignored kind) = codes "ignored " ++ decimal kind ++ codes "\n"

-- the word of a fault
abbrev pub ldp_word : LdpFault → List ℕ
ldp_word ldp_reasons.Version = codes "version"
ldp_word ldp_reasons.PduLength = codes "pdu-length"
ldp_word ldp_reasons.MessageLength = codes "message-length"
ldp_word ldp_reasons.TlvLength = codes "tlv-length"
ldp_word ldp_reasons.UnknownTlv = codes "unknown-tlv"
ldp_word ldp_reasons.MissingTlv = codes "missing-tlv"
ldp_word ldp_reasons.Label = codes "label"
ldp_word (ldp_reasons.Fec reason) = codes "fec." ++ fec_word reason
