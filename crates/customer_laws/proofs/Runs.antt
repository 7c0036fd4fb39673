-- Two runs in which a VPN asks for the same, and there is room for it, deliver its datagrams alike.
use Rattle.std.proofs.Common.{◌≡◌, ℕ, true, slice_get, Some, sym, ap, subst, refl, ◌∙◌}
use Rattle.mv_base.specs.declared.ids.VrfId.{VrfId}
use Rattle.scenario_defs.specs.Vpn.{is_attached}
use Rattle.scenario_defs.specs.declared.scenario.Scenario.{Scenario}
use Rattle.mvpn_model.specs.Once.{Once}
use Rattle.mvpn_model.specs.Report.{Datagram, datagrams}
use Rattle.once_laws.proofs.Once.{deliver_once}
use Rattle.customer_laws.specs.Concerns.{AreAlike, own_events}
use Rattle.customer_laws.specs.Reported.{history, HasCounterpart}
use Rattle.customer_laws.specs.Room.{OneRun, past_in, asked_in, HasRoom, reported_in, LeavesAlike}
use Rattle.customer_laws.proofs.Counterparts.{has_counterpart}
use Rattle.customer_laws.proofs.Receivers.{same_interfaces}
use Rattle.customer_laws.proofs.Room.{runs_are_alike}

-- a run delivers once
run_once : (run : OneRun) → Once run.script.scenario run.events (reported_in run).refused (reported_in run).report
run_once run = deliver_once run.cores run.script run.events run.trace run.world run.sound run.rises

pub runs_deliver_alike : (vrf : VrfId) (one other : OneRun) → one.script.scenario ≡ other.script.scenario → asked_in vrf one ≡ asked_in vrf other
    → HasRoom vrf one → HasRoom vrf other →
    (place : ℕ) (datagram : Datagram) → slice_get (datagrams (reported_in one).refused 0 one.events) place ≡ Some datagram
    → is_attached other.script.scenario vrf datagram.site ≡ true →
    LeavesAlike vrf one other place datagram
runs_deliver_alike vrf one other same asked room other_room place datagram accepted attached =
    let scenario : Scenario = other.script.scenario in
    let alike : AreAlike vrf (past_in one) (past_in other) = runs_are_alike vrf one other same asked room other_room in
    let whole : AreAlike vrf (history scenario (reported_in one)) (history scenario (reported_in other)) = record {
      scenario = refl;
      events = ap (λ (s : Scenario). own_events vrf (history s (reported_in one))) (sym same) ∙ alike.events;
    } in
    let once : Once scenario one.events (reported_in one).refused (reported_in one).report =
    subst (λ (s : Scenario). Once s one.events (reported_in one).refused (reported_in one).report) same (run_once one) in
    let found : HasCounterpart scenario vrf (reported_in one) (reported_in other) datagram =
    has_counterpart scenario vrf (reported_in one) (reported_in other) whole place datagram accepted attached in
    record {
      found = found;
      leaves = λ lies other_lies iface.
          same_interfaces scenario (reported_in one) (reported_in other) other.sound.scenario.rules once (run_once other) vrf place found.place
          datagram found.counterpart
          lies other_lies (sym (ap (is_attached scenario vrf) found.same.site) ∙ attached) found.same iface;
    }
