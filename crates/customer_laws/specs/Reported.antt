-- A datagram that lies in a calm window of a report, and the same datagram in another report.
use Rattle.std.specs.Prelude.{◌≡◌, ℕ, ◌≤◌, List, slice_get, Some}
use Rattle.mv_base.specs.declared.ids.VrfId.{VrfId}
use Rattle.scenario_defs.specs.declared.event.Timed.{Timed}
use Rattle.scenario_defs.specs.declared.scenario.Scenario.{Scenario}
use Rattle.mvpn_model.specs.Once.{IsWindow, past_at}
use Rattle.mvpn_model.specs.Past.{Past}
use Rattle.mvpn_model.specs.Report.{Entry, Datagram, datagrams}
use Rattle.customer_laws.specs.Concerns.{AreAlike}

-- events of a script, the lines of those that were refused, and what was reported of them
pub record Reported : Type 0 where
  pub events : List Timed
  pub refused : List ℕ
  pub report : List Entry

-- all that happened
abbrev pub history : Scenario → Reported → Past
history scenario told = record { scenario = scenario; events = told.events; refused = told.refused }

-- the datagram stands at that place of those that were accepted, and its event lies in a window of the report
pub record LiesInWindow (told : Reported) (place : ℕ) (datagram : Datagram) : Type 0 where
  pub accepted : slice_get (datagrams told.refused 0 told.events) place ≡ Some datagram
  pub first : ℕ
  pub last : ℕ
  pub window : IsWindow told.events told.refused told.report first last
  pub thereafter : first ≤ datagram.event
  pub upto : datagram.event ≤ last

-- Two datagrams of two reports of one scenario are the same for the VRF's VPN: their sites and flows are the same, and what
-- happened before them is alike for the VPN.
pub record AreCounterparts (scenario : Scenario) (vrf : VrfId) (one other : Reported) (datagram counterpart : Datagram) : Type 0 where
  pub site : datagram.site ≡ counterpart.site
  pub source : datagram.source ≡ counterpart.source
  pub group : datagram.group ≡ counterpart.group
  pub before : AreAlike vrf (past_at scenario one.events one.refused datagram.event) (past_at scenario other.events other.refused counterpart.event)

-- The other report has a datagram with the same octets that is the same one for the VRF's VPN.
pub record HasCounterpart (scenario : Scenario) (vrf : VrfId) (one other : Reported) (datagram : Datagram) : Type 0 where
  pub place : ℕ
  pub counterpart : Datagram
  pub accepted : slice_get (datagrams other.refused 0 other.events) place ≡ Some counterpart
  pub octets : datagram.octets ≡ counterpart.octets
  pub same : AreCounterparts scenario vrf one other datagram counterpart
