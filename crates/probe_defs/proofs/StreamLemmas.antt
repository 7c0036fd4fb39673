-- The stream of a session whose messages are taken as they come.
use Rattle.std.proofs.Common.{◌≡◌, ℕ, List, [], ◌++◌, length, Option, Some, None, refl, ap, subst}
use Rattle.mv_base.specs.Octets.{IsOctets}
use Rattle.mv_base.specs.framing.Cut.{Cut, cut}
use Rattle.mv_base.specs.framing.Feed.{Fed, fed, fed_unless, moved}
use Rattle.mv_base.specs.framing.Units.{octets_of}
use Rattle.mv_base.proofs.framing.Cuts.{IsOctets-after, cut_fails, cut_splits}
use Rattle.mv_base.proofs.framing.Feeds.{at_once, fed_is}
use Rattle.mv_base.proofs.framing.Feedings.{no_fault}
use Rattle.bgp_messages.proofs.bgp_update.Messages.{message_format}
use Rattle.bgp_messages.specs.declared.bgp_attributes.fault.StreamFault.{StreamFault}
use Rattle.bgp_messages.specs.declared.bgp_attributes.update.Message.{Message}
use Rattle.bgp_messages.specs.bgp_update.FirstFault.{UnitFault}
use Rattle.bgp_messages.specs.bgp_update.Reading.{message_front}
use Rattle.bgp_messages.specs.bgp_update.Spelling.{SpellsMessage}
use Rattle.probe_defs.specs.Probed.{Yield}

abbrev pub BgpStream : Type 0
BgpStream = Fed Message StreamFault

-- what is cut of octets
abbrev pub cut_of : List ℕ → Cut Message StreamFault
cut_of octets = cut message_front octets

-- the stream that has had these octets
abbrev pub stream_with : List ℕ → BgpStream
stream_with octets = at_once (length octets) (cut_of octets)

-- all its messages are taken
abbrev pub drained : BgpStream → BgpStream
drained d = record d { waiting = [] }

-- What a drained stream hands out is what comes after the messages before.
pub record Adds (d : BgpStream) (piece : List ℕ) : Type 0 where
  pub added : List Message
  pub fed_is : fed message_front (drained d) piece ≡ record (fed message_front d piece) { waiting = added }
  pub all : (fed message_front d piece).waiting ≡ d.waiting ++ added

adds_by : (stop : Option (ℕ × StreamFault)) (d : BgpStream) (piece : List ℕ) → stop ≡ None → (added : List Message)
    × (fed_unless message_front stop (drained d) piece ≡ record (fed_unless message_front stop d piece) { waiting = added })
    × ((fed_unless message_front stop d piece).waiting ≡ d.waiting ++ added)
adds_by None d piece e = ((cut message_front (d.held ++ piece)).messages, refl, refl)
adds_by (Some f) d piece e = absurd cc

pub adds : (d : BgpStream) (piece : List ℕ) → d.fault ≡ None → Adds d piece
adds d piece none = let is = adds_by d.fault d piece none in record { added = is.0; fed_is = is.1; all = is.2 }

-- one that has failed takes no more
pub stays : (d : BgpStream) (piece : List ℕ) (f : ℕ × StreamFault) → d.fault ≡ Some f → fed message_front d piece ≡ d
stays d piece f e = ap (λ (stop : Option (ℕ × StreamFault)). fed_unless message_front stop d piece) e

-- a piece more, all at once
pub with_piece : (octets piece : List ℕ) → IsOctets (octets ++ piece) → fed message_front (stream_with octets) piece ≡ stream_with (octets ++ piece)
with_piece octets piece fits = fed_is message_front SpellsMessage message_format.stream octets piece fits

-- ---- what the octets yield

yields_by : (octets : List ℕ) → IsOctets octets → (stop : Option (ℕ × StreamFault)) → (cut_of octets).fault ≡ stop
    → Yield octets (cut_of octets).messages (moved 0 stop)
yields_by octets fits None e =
    let is = cut_splits message_front SpellsMessage message_format.stream.framing octets fits e in
    let rest : List ℕ = (cut_of octets).rest in
    let rest_fits : IsOctets rest = IsOctets-after (octets_of is.0.begins.units) rest (subst IsOctets is.0.begins.parts fits) in
    (rest, is.0, no_fault message_front SpellsMessage UnitFault 4096 message_format rest rest_fits is.1)
yields_by octets fits (Some f) e =
    let is = cut_fails message_front SpellsMessage message_format.stream.framing octets f fits e in
    let rest_fits : IsOctets is.rest = IsOctets-after (octets_of is.begins.units) is.rest (subst IsOctets is.begins.parts fits) in (
      f.0,
      record {
        first = is.first;
        last = is.last;
        rest = is.rest;
        offset = is.offset;
        begins = is.begins;
        faulty = message_format.fails is.rest is.last is.offset f.1 rest_fits is.faulty;
        messages = is.messages;
        at = is.at;
      },
      refl,
    )

pub yields : (octets : List ℕ) → IsOctets octets → Yield octets (cut_of octets).messages (stream_with octets).fault
yields octets fits = yields_by octets fits (cut_of octets).fault refl
