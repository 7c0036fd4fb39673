-- The lines that end in octets: what each says, or its first fault.
use Rattle.std.specs.Prelude.{List, [], ◌∷◌, Result, Ok}
use Rattle.mv_base.specs.declared.addr.Addr.{Addr}
use Rattle.mv_base.specs.declared.ids.SiteId.{SiteId}
use Rattle.scenario_defs.specs.declared.event.CustomerEvent.TheVariants as customers
use Rattle.scenario_defs.specs.declared.event.Event.TheVariants as events
use Rattle.line_words.specs.declared.fault.Reason.TheVariants as reasons
use Rattle.line_words.specs.declared.fault.TextFault.{TextFault}
use Rattle.line_words.specs.declared.words.Row.{Row}
use Rattle.line_words.specs.Words.{Placed}
use Rattle.line_words.specs.Forms.{fault, ◌>>=◌, source_at, group_at, payload_at, same_family}
use Rattle.scenario_lines.specs.declared.scenario_draft.line.Line.{Line}
use Rattle.scenario_lines.specs.declared.scenario_draft.line.Line.TheVariants as says
use Rattle.scenario_lines.specs.scenario_draft.Drafted.{Drafted}
use Rattle.scenario_lines.specs.scenario_draft.Naming.{iface_at, site_at}
use Rattle.scenario_text.specs.event_lines.Rules.{unless_broken, family_fault}

-- `pim IFACE HEX`
unfoldable pub pim_words : Drafted → Row → Placed → Placed → Result Line TextFault
pim_words draft row a b = iface_at draft row a >>= λ iface. payload_at row b >>= λ bytes. Ok (says.Event (events.Customer (customers.Pim iface bytes)))

-- the words after `pim`
unfoldable pub pim_line : Drafted → Row → List Placed → Result Line TextFault
pim_line draft row [] = fault row.number row.after reasons.Count
pim_line draft row (a ∷ []) = fault row.number row.after reasons.Count
pim_line draft row (a ∷ b ∷ []) = pim_words draft row a b
pim_line draft row (a ∷ b ∷ c ∷ more) = fault row.number c.column reasons.Count

-- `packet SITE HEX`
unfoldable pub packet_words : Drafted → Row → Placed → Placed → Result Line TextFault
packet_words draft row a b = site_at draft row a >>= λ site. payload_at row b >>= λ bytes. Ok (says.Event (events.Packet site bytes))

-- the words after `packet`
unfoldable pub packet_line : Drafted → Row → List Placed → Result Line TextFault
packet_line draft row [] = fault row.number row.after reasons.Count
packet_line draft row (a ∷ []) = fault row.number row.after reasons.Count
packet_line draft row (a ∷ b ∷ []) = packet_words draft row a b
packet_line draft row (a ∷ b ∷ c ∷ more) = fault row.number c.column reasons.Count

-- The first words of a send.
pub record SendHead : Type 0 where
  pub site : SiteId
  pub source : Addr
  pub group : Addr

-- `SITE S G` of a send
unfoldable pub send_head : Drafted → Row → Placed → Placed → Placed → Result SendHead TextFault
send_head draft row a b c =
    site_at draft row a >>= λ site. source_at row b >>= λ source. group_at row c >>= λ group.
    Ok (record { site = site; source = source; group = group })

-- `send SITE S G HEX`
abbrev pub send_words : Drafted → Row → Placed → Placed → Placed → Placed → Result Line TextFault
send_words draft row a b c d =
    send_head draft row a b c >>= λ head. payload_at row d >>= λ payload.
    unless_broken (family_fault (same_family head.source head.group)) row c
    (says.Event (events.Send head.site head.source head.group payload))

-- the words after `send`
unfoldable pub send_line : Drafted → Row → List Placed → Result Line TextFault
send_line draft row [] = fault row.number row.after reasons.Count
send_line draft row (a ∷ []) = fault row.number row.after reasons.Count
send_line draft row (a ∷ b ∷ []) = fault row.number row.after reasons.Count
send_line draft row (a ∷ b ∷ c ∷ []) = fault row.number row.after reasons.Count
send_line draft row (a ∷ b ∷ c ∷ d ∷ []) = send_words draft row a b c d
send_line draft row (a ∷ b ∷ c ∷ d ∷ e ∷ more) = fault row.number e.column reasons.Count
