-- What the events show of the datagrams, beside the `out` lines: which of them are of a window, which exits were asked for,
-- and which datagram is missing.
use Rattle.std.specs.Prelude.{◌≡◌, ℕ, zero, suc, ◌==◌, Bool, false, List, map, length, slice_get, Option, None, Some, is_some, if◌then◌else◌}
use Rattle.std.specs.List.{list_any}
use Rattle.indexmap.specs.IndexMap.{get, IsUnique}
use Rattle.audit_events.specs.mv_base.declared.ids.IfaceId.{IfaceId}
use Rattle.audit_events.specs.audit_defs.declared.verdict.Numbered.{Numbered}
use Rattle.audit_events.specs.declared.sents.Sent.{Sent}
use Rattle.mvpn_audit.specs.declared.exits.Exit.{Exit}
use Rattle.mvpn_audit.specs.declared.findings.Findings.{Findings}
use Rattle.mvpn_audit.specs.declared.findings.Noted.{Noted}
use Rattle.mvpn_audit.specs.Exits.{ExitMap, is_exit, has_out, asks, lacks_in, AreRepeats}
use Rattle.mvpn_audit.specs.Missing.{IsMissed}

-- what is noted of a datagram
abbrev pub noted_of : Sent → Noted
noted_of sent = record { event = sent.event; site = sent.site; windowed = is_some sent.asked }

-- whether the interface is one of these
abbrev pub is_asked : List IfaceId → IfaceId → Bool
is_asked asked iface = list_any (λ receiver. receiver.0 == iface.0) asked

-- whether the datagram is of a window, and the interface is one of its receivers
abbrev pub is_asked_by : Sent → IfaceId → Bool
is_asked_by sent iface = elim sent.asked [ None ↦ false | Some asked ↦ is_asked asked iface ]

-- the same of the datagram of that number, counted from 1
abbrev pub was_asked : List Sent → ℕ → IfaceId → Bool
was_asked sents zero iface = false
was_asked sents (suc place) iface = elim (slice_get sents place) [ None ↦ false | Some sent ↦ is_asked_by sent iface ]

-- What is found of datagrams, beside the lines of a report, is what they say.
pub record AreFound (all : List Numbered) (sents : List Sent) (findings : Findings) : Type 0 where
  pub noted : findings.noted ≡ map noted_of sents
  pub unique : IsUnique is_exit findings.outs.exits
  pub asked : (own : Exit) → get is_exit findings.outs.exits own ≡ (if has_out all own then Some (was_asked sents own.number own.iface) else None)
  pub repeats : AreRepeats all (length all) findings.outs.repeats
  pub missing : IsMissed all sents findings.missing

-- ---- one datagram more

-- whether it is an exit of the datagram of that number at one of its receivers, where it is of a window
abbrev pub asks_of : ℕ → Option (List IfaceId) → Exit → Bool
asks_of number None own = false
asks_of number (Some asked) own = asks number asked own

-- whether the datagram of that number is of a window, and has no exit at one of its receivers
abbrev pub lacks_of : ExitMap → ℕ → Option (List IfaceId) → Bool
lacks_of exits number None = false
lacks_of exits number (Some asked) = lacks_in exits number asked

-- the event of the first datagram that is missing, by the one before
abbrev pub first_of : Option ℕ → Bool → ℕ → Option ℕ
first_of None lacks event = if lacks then Some event else None
first_of (Some first) lacks event = Some first
