-- Datagrams that did not leave where they were asked for.
use Rattle.std.specs.Prelude.{◌≡◌, ℕ, ◌+◌, ◌<◌, Bool, true, false, not, List, slice_get, Option, None, Some}
use Rattle.std.specs.List.{list_any}
use Rattle.audit_events.specs.mv_base.declared.ids.IfaceId.{IfaceId}
use Rattle.audit_events.specs.scenario_defs.declared.event.Timed.{Timed}
use Rattle.audit_events.specs.audit_defs.declared.verdict.Numbered.{Numbered}
use Rattle.audit_events.specs.declared.sents.Sent.{Sent}
use Rattle.mvpn_audit.specs.Exits.{exit, has_out}

-- whether no line says that the datagram of that number left at the interface
abbrev pub has_not_left : List Numbered → ℕ → IfaceId → Bool
has_not_left all number iface = not (has_out all (exit number iface))

-- whether it did not leave at one of the interfaces
abbrev pub lacks : List Numbered → ℕ → List IfaceId → Bool
lacks all number asked = list_any (has_not_left all number) asked

-- whether the datagram of that number is of a window, and did not leave at one of its receivers
abbrev pub is_missing : List Numbered → ℕ → Sent → Bool
is_missing all number sent = elim sent.asked [ None ↦ false | Some asked ↦ lacks all number asked ]

-- None of the first datagrams is missing.
abbrev pub NoneMissing : List Numbered → List Sent → ℕ → Type 0
NoneMissing all sents count =
    (place : ℕ) (sent : Sent) → place < count → slice_get sents place ≡ Some sent → is_missing all (place + 1) sent ≡ false

-- the first datagram that is missing, of that event
pub record FirstMissing (all : List Numbered) (sents : List Sent) (event : ℕ) : Type 0 where
  pub place : ℕ
  pub sent : Sent
  pub at : slice_get sents place ≡ Some sent
  pub of_event : sent.event ≡ event
  pub is : is_missing all (place + 1) sent ≡ true
  pub before : NoneMissing all sents place

abbrev pub IsMissed : List Numbered → List Sent → Option ℕ → Type 0
IsMissed all sents None = (place : ℕ) (sent : Sent) → slice_get sents place ≡ Some sent → is_missing all (place + 1) sent ≡ false
IsMissed all sents (Some event) = FirstMissing all sents event

-- the line of the event of that number
abbrev pub line_in : List Timed → ℕ → ℕ
line_in all event = elim (slice_get all event) [ None ↦ 0 | Some timed ↦ timed.line ]
